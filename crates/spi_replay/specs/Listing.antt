-- The ready steps of a configuration, computed in their order.
use Rattle.std.specs.Prelude.{ℕ, suc, Bool, true, false, if◌then◌else◌, List, [], ◌∷◌, ◌++◌, take, Option, Some, None, slice_get}
use Rattle.spi_term.specs.Term.{Message, pair, in_left, in_right, enc, same_message, Process, send, recv, serve, split, select, branch, decrypt, check, begin, end, end_many, cast, fresh, par}
use Rattle.spi_run.specs.Reduction.{Configuration, Step, act, talk}
use Rattle.spi_replay.specs.declared.listing.Side.{Side}
use Rattle.spi_replay.specs.declared.listing.Side.TheVariants.{Out, In}
use Rattle.spi_replay.specs.Ready.{PutsOut, TakesIn}

-- the process acts alone
abbrev pub acts_now : Process → Bool
acts_now (split (pair a b) t u p) = true
acts_now (select (pair a b) t c u p) = same_message a c
acts_now (branch (in_left a) t p u q) = true
acts_now (branch (in_right a) t p u q) = true
acts_now (decrypt (enc a k) t j p) = same_message k j
acts_now (check a b p) = same_message a b
acts_now (begin a p) = true
acts_now (end a p) = true
acts_now (end_many a p) = true
acts_now (cast a t p) = true
acts_now (fresh t p) = true
acts_now (par p q) = true
acts_now p = false

-- the channel that it puts out on, and the one that it takes in on
abbrev pub puts_on : Process → Option Message
puts_on (send a b) = Some a
puts_on p = None

abbrev pub takes_on : Process → Option Message
takes_on (recv c t p) = Some c
takes_on (serve c t p) = Some c
takes_on p = None

abbrev pub is_channel : Message → Option Message → Bool
is_channel c None = false
is_channel c (Some d) = same_message c d

-- the meetings of the output at place i with the inputs among these processes, which stand from place j on
abbrev pub talks_to : Message → ℕ → ℕ → List Process → List Step
talks_to c i j [] = []
talks_to c i j (q ∷ qs) =
    if is_channel c (takes_on q) then talk i j ∷ talks_to c i (suc j) qs else talks_to c i (suc j) qs

abbrev pub talks_of : List Process → ℕ → Option Message → List Step
talks_of all i None = []
talks_of all i (Some c) = talks_to c i 0 all

-- the ready steps that begin at a place
abbrev pub steps_at : List Process → ℕ → Process → List Step
steps_at all i p = if acts_now p then act i ∷ [] else talks_of all i (puts_on p)

abbrev pub steps_from : List Process → ℕ → List Process → List Step
steps_from all i [] = []
steps_from all i (p ∷ ps) = steps_at all i p ++ steps_from all (suc i) ps

abbrev pub ready_steps : Configuration → List Step
ready_steps c = steps_from c.places 0 c.places

-- the ready steps that begin at the place with a number, and those that begin at the places before it
abbrev pub steps_by : List Process → ℕ → Option Process → List Step
steps_by all i None = []
steps_by all i (Some p) = steps_at all i p

unfoldable pub steps_begun : Configuration → ℕ → List Step
steps_begun c i = steps_by c.places i (slice_get c.places i)

unfoldable pub steps_before : Configuration → ℕ → List Step
steps_before c i = steps_from c.places 0 (take i c.places)

-- the process waits on the channel on one side
abbrev pub WaitsOn : Side → Message → Process → Type 0
WaitsOn Out = PutsOut
WaitsOn In = TakesIn
