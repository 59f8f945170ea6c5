-- What forms wait for, by the numbers of messages.
use Rattle.std.specs.Prelude.{ℕ, ◌<◌, max, Bool, false, true, ◌==◌, if◌then◌else◌, List, Option, Some, None, ⊤}
use Rattle.spi_term.specs.Term.{Message, message_size}
use Rattle.spi_term.specs.Spelling.{stopped}
use Rattle.spi_intern.specs.Messages.{message_at}
use Rattle.spi_replay.specs.declared.waits.Meeting.{Meeting}
use Rattle.spi_intern.specs.declared.messages.MsgId.{MsgId}
use Rattle.spi_intern.specs.declared.messages.MsgPart.{MsgPart}
use Rattle.spi_intern.specs.declared.messages.MsgPart.TheVariants.{Pair, Inl, Inr, Enc}
use Rattle.spi_replay.specs.declared.waits.Wait.{Wait}
use Rattle.spi_replay.specs.declared.waits.Wait.TheVariants.{Stays, Puts, Takes, TakesAgain, BindsOne, BindsTwo, GoesOn, Shows, Freshes, Forks}

abbrev pub split_wait : MsgPart → ℕ → Wait
split_wait (Pair a b) i = BindsTwo a b i
split_wait p i = Stays

abbrev pub select_wait : MsgPart → MsgId → ℕ → Wait
select_wait (Pair a b) n i = if a.place == n.place then BindsOne b i else Stays
select_wait p n i = Stays

abbrev pub decrypt_wait : MsgPart → MsgId → ℕ → Wait
decrypt_wait (Enc a k) n i = if k.place == n.place then BindsOne a i else Stays
decrypt_wait p n i = Stays

abbrev pub branch_wait : MsgPart → ℕ → ℕ → Wait
branch_wait (Inl a) i j = BindsOne a i
branch_wait (Inr a) i j = BindsOne a j
branch_wait p i j = Stays

abbrev pub check_wait : MsgId → MsgId → ℕ → Wait
check_wait m n i = if m.place == n.place then GoesOn i else Stays

-- it acts alone, and how many places that appends
abbrev pub wait_acts : Wait → Bool
wait_acts Stays = false
wait_acts (Puts i j) = false
wait_acts (Takes i b) = false
wait_acts (TakesAgain i b) = false
wait_acts w = true

abbrev pub wait_appends : Wait → ℕ
wait_appends (Forks a b) = 1
wait_appends w = 0

-- the messages that are bound or shown have numbers below n
abbrev pub wait_within : ℕ → Wait → Type 0
wait_within n (BindsOne i b) = i.place < n
wait_within n (BindsTwo i j b) = (i.place < n) × (j.place < n)
wait_within n (Shows k i b) = i.place < n
wait_within n w = ⊤

-- the nodes of the largest of them, or of a new name
abbrev pub wait_largest : List Message → Wait → ℕ
wait_largest ms (BindsOne i b) = stopped (message_size (message_at ms i))
wait_largest ms (BindsTwo i j b) =
    max (stopped (message_size (message_at ms i))) (stopped (message_size (message_at ms j)))
wait_largest ms (Shows k i b) = stopped (message_size (message_at ms i))
wait_largest ms (Freshes b) = 1
wait_largest ms w = 0

-- an output and an input on one channel
abbrev pub met_if : MsgId → MsgId → Meeting → Option Meeting
met_if i j m = if i.place == j.place then Some m else None

abbrev pub met_with : MsgId → MsgId → Wait → Option Meeting
met_with i d (Takes j b) = met_if i j (record { datum = d; body = b; again = false })
met_with i d (TakesAgain j b) = met_if i j (record { datum = d; body = b; again = true })
met_with i d w = None

abbrev pub met_by : Wait → Wait → Option Meeting
met_by (Puts i d) w = met_with i d w
met_by v w = None
