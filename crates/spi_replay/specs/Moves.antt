-- What a node waits for, with messages for the names in scope, and what follows.
use Rattle.std.specs.Prelude.{◌≡◌, ℕ, Bool, true, false, if◌then◌else◌, List, [], ◌∷◌, Some, slice_get}
use Rattle.spi_term.specs.Term.{Message, name, pair, in_left, in_right, enc, same_message, Sends, Stops, Recvs, Serves, Splits, Selects, Decrypts, Checks, Begins, Ends, EndManys, Casts, Freshes, Branches, Pars}
use Rattle.spi_term.specs.Substitution.{replace}
use Rattle.spi_term.specs.Spelling.{Shape, leaf_at, prefix_at, fork_at}
use Rattle.spi_run.specs.Reduction.{Event, begun, ended, ended_many}
use Rattle.spi_replay.specs.declared.waits.Kind.{Kind}
use Rattle.spi_replay.specs.declared.waits.Kind.TheVariants.{Begin, End, EndMany}
use Rattle.spi_replay.specs.declared.waits.Wait.{Wait}
use Rattle.spi_replay.specs.declared.waits.Wait.TheVariants as W
use Rattle.spi_intern.specs.declared.messages.MsgId.{MsgId}

abbrev pub event_of : Kind → Message → Event
event_of Begin m = begun m
event_of End m = ended m
event_of EndMany m = ended_many m

-- a form by what it waits for, with the nodes that follow
pub data Move : Type 0 where
  stays : Move
  puts : (channel datum : Message) → Move
  takes : (channel : Message) (body : ℕ) → Move
  takes_again : (channel : Message) (body : ℕ) → Move
  binds_one : (value : Message) (body : ℕ) → Move
  binds_two : (first second : Message) (body : ℕ) → Move
  goes_on : (body : ℕ) → Move
  shows : (kind : Kind) (label : Message) (body : ℕ) → Move
  makes : (body : ℕ) → Move
  forks : (first rest : ℕ) → Move

abbrev pub split_move : Message → ℕ → Move
split_move (pair a b) i = binds_two a b i
split_move m i = stays

abbrev pub select_move : Message → Message → ℕ → Move
select_move (pair a b) n i = if same_message a n then binds_one b i else stays
select_move m n i = stays

abbrev pub decrypt_move : Message → Message → ℕ → Move
decrypt_move (enc a k) n i = if same_message k n then binds_one a i else stays
decrypt_move m n i = stays

abbrev pub branch_move : Message → ℕ → ℕ → Move
branch_move (in_left a) i j = binds_one a i
branch_move (in_right a) i j = binds_one a j
branch_move m i j = stays

abbrev pub check_move : Message → Message → ℕ → Move
check_move m n i = if same_message m n then goes_on i else stays

abbrev pub move_of : (ℕ → Message) → Shape → Move
move_of f (leaf_at s (Sends m n)) = puts (replace f m) (replace f n)
move_of f (leaf_at s Stops) = stays
move_of f (prefix_at s (Recvs m t) i) = takes (replace f m) i
move_of f (prefix_at s (Serves m t) i) = takes_again (replace f m) i
move_of f (prefix_at s (Splits m t u) i) = split_move (replace f m) i
move_of f (prefix_at s (Selects m t n u) i) = select_move (replace f m) (replace f n) i
move_of f (prefix_at s (Decrypts m t n) i) = decrypt_move (replace f m) (replace f n) i
move_of f (prefix_at s (Checks m n) i) = check_move (replace f m) (replace f n) i
move_of f (prefix_at s (Begins m) i) = shows Begin (replace f m) i
move_of f (prefix_at s (Ends m) i) = shows End (replace f m) i
move_of f (prefix_at s (EndManys m) i) = shows EndMany (replace f m) i
move_of f (prefix_at s (Casts m t) i) = binds_one (replace f m) i
move_of f (prefix_at s (Freshes t) i) = makes i
move_of f (fork_at s (Branches m t u) i j) = branch_move (replace f m) i j
move_of f (fork_at s Pars i j) = forks i j

-- the number is that of the message
abbrev pub Numbers : List Message → MsgId → Message → Type 0
Numbers ms i m = slice_get ms i.place ≡ Some m

-- what a place waits for, by the numbers of a store
pub data Waits (ms : List Message) : Wait → Move → Type 0 where
  w_stays : Waits ms W.Stays stays
  w_puts : {i j : MsgId} {m n : Message} → Numbers ms i m → Numbers ms j n → Waits ms (W.Puts i j) (puts m n)
  w_takes : {i : MsgId} {m : Message} {b : ℕ} → Numbers ms i m → Waits ms (W.Takes i b) (takes m b)
  w_takes_again : {i : MsgId} {m : Message} {b : ℕ} → Numbers ms i m
      → Waits ms (W.TakesAgain i b) (takes_again m b)
  w_binds_one : {i : MsgId} {m : Message} {b : ℕ} → Numbers ms i m → Waits ms (W.BindsOne i b) (binds_one m b)
  w_binds_two : {i j : MsgId} {m n : Message} {b : ℕ} → Numbers ms i m → Numbers ms j n
      → Waits ms (W.BindsTwo i j b) (binds_two m n b)
  w_goes_on : {b : ℕ} → Waits ms (W.GoesOn b) (goes_on b)
  w_shows : {k : Kind} {i : MsgId} {m : Message} {b : ℕ} → Numbers ms i m
      → Waits ms (W.Shows k i b) (shows k m b)
  w_makes : {b : ℕ} → Waits ms (W.Freshes b) (makes b)
  w_forks : {a b : ℕ} → Waits ms (W.Forks a b) (forks a b)

-- what is bound to a name or shown, where n names are used
abbrev pub bound_in : ℕ → Move → List Message
bound_in n (binds_one m i) = m ∷ []
bound_in n (binds_two m d i) = m ∷ d ∷ []
bound_in n (shows k m i) = m ∷ []
bound_in n (makes i) = name n ∷ []
bound_in n m = []

-- how many places it appends
abbrev pub appended : Move → ℕ
appended (forks i j) = 1
appended m = 0

-- it acts alone
abbrev pub acts_alone : Move → Bool
acts_alone stays = false
acts_alone (puts m d) = false
acts_alone (takes m i) = false
acts_alone (takes_again m i) = false
acts_alone m = true
