-- The begins of one label, in order, of which ends have taken the first ones.
use Rattle.std.specs.Prelude.{◌≡◌, ℕ, ◌+◌, List, [], ◌∷◌, ◌++◌, Option, Some, None, slice_get, slice_set}
use Rattle.spi_run.specs.Reduction.{Event, begun, ended, ended_many}
use Rattle.spi_trace.specs.declared.queue.Begins.{Begins}

pub record Queue : Type 0 where
  pub places : List ℕ
  pub taken : ℕ

abbrev pub queue : Begins → Queue
queue b = record { places = b.places.items; taken = b.taken }

abbrev pub no_begins : Queue
no_begins = record { places = []; taken = 0 }

abbrev pub with_begin : Queue → ℕ → Queue
with_begin q i = record q { places = q.places ++ i ∷ [] }

abbrev pub next : Queue → Option ℕ
next q = slice_get q.places q.taken

abbrev pub one_taken : Option ℕ → Queue → Queue
one_taken None q = q
one_taken (Some i) q = record q { taken = q.taken + 1 }

-- what pays for an event of the label, and the begins after the event, which has this place
abbrev pub payer_in : Event → Queue → Option ℕ
payer_in (begun m) q = None
payer_in (ended m) q = next q
payer_in (ended_many m) q = slice_get q.places 0

abbrev pub queue_after : Event → ℕ → Queue → Queue
queue_after (begun m) i q = with_begin q i
queue_after (ended m) i q = one_taken (next q) q
queue_after (ended_many m) i q = q

-- the event with this place is paid by the begins of its label, which have this number
pub record IsPaidFrom (e : Event) (i : ℕ) (number : ℕ) (old new : List Queue) (begin : Option ℕ) : Type 0
  where
    pub by : (q : Queue) → slice_get old number ≡ Some q → begin ≡ payer_in e q
    pub left : (q : Queue) → slice_get old number ≡ Some q → new ≡ slice_set old number (queue_after e i q)
