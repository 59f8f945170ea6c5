-- The lines of a replay: its events, which begin pays for each end, and whether all are paid.
use Rattle.std.specs.Prelude.{ℕ, suc, Bool, true, false, if◌then◌else◌, List, [], ◌∷◌, ◌++◌, Option, Some, None, codes}
use Rattle.std.specs.Fmt.{decimal}
use Rattle.spi_run.specs.Reduction.{Event, begun, ended, ended_many}
use Rattle.spi_show.specs.Report.{message_text}

-- what stands behind an end: the begin that pays for it, by its number, counted from 1
abbrev pub from_text : Option ℕ → List ℕ
from_text None = codes " unpaid"
from_text (Some i) = codes " from " ++ decimal (suc i)

abbrev pub event_text : List (List ℕ) → Event → Option ℕ → List ℕ
event_text names (begun m) i = codes " begin " ++ message_text names m
event_text names (ended m) i = codes " end " ++ (message_text names m ++ from_text i)
event_text names (ended_many m) i = codes " endmany " ++ (message_text names m ++ from_text i)

-- the line of event number k, counted from 0
abbrev pub event_line : List (List ℕ) → ℕ → Event → Option ℕ → List ℕ
event_line names k e i = decimal (suc k) ++ (event_text names e i ++ codes "\n")

-- a line for each event, from number k on
abbrev pub event_lines : List (List ℕ) → ℕ → List Event → List (Option ℕ) → List ℕ
event_lines names k (e ∷ es) (i ∷ is) = event_line names k e i ++ event_lines names (suc k) es is
event_lines names k es is = []

-- an end or endmany without a begin
abbrev pub is_unpaid : Event → Option ℕ → Bool
is_unpaid (begun m) i = false
is_unpaid (ended m) None = true
is_unpaid (ended m) (Some i) = false
is_unpaid (ended_many m) None = true
is_unpaid (ended_many m) (Some i) = false

-- the first of them, from number k on
abbrev pub first_unpaid : ℕ → List Event → List (Option ℕ) → Option ℕ
first_unpaid k (e ∷ es) (i ∷ is) = if is_unpaid e i then Some k else first_unpaid (suc k) es is
first_unpaid k es is = None

abbrev pub last_text : Option ℕ → List ℕ
last_text None = codes "paid\n"
last_text (Some k) = codes "unpaid at " ++ (decimal (suc k) ++ codes "\n")

abbrev pub events_text : List (List ℕ) → List Event → List (Option ℕ) → List ℕ
events_text names es is = event_lines names 0 es is ++ last_text (first_unpaid 0 es is)
