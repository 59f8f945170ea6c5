-- What a replay sends.
use Rattle.std.specs.Prelude.{ℕ, zero, suc, ◌≤◌, List, [], ◌∷◌, ◌++◌, slice_get}
use Rattle.spi_term.specs.Lists.{In}
use Rattle.spi_term.specs.Names.{ProcessOver}
use Rattle.spi_term.specs.Term.{Message, name, Process}
use Rattle.spi_run.specs.Opponent.{IsOpponent}
use Rattle.spi_run.specs.Reduction.{Configuration, Step, act, talk, Event, Runs, runs_none, runs_silent, runs_event}
use Rattle.spi_run.specs.Safety.{beside}
use Rattle.spi_run.specs.Knowledge.{datum, keys_in, Knows}

-- the names below n, from the first on
abbrev pub names_up : ℕ → List Message
names_up zero = []
names_up (suc n) = names_up n ++ name n ∷ []

-- the datum of a talk, and those of a run in order
abbrev pub handed : Configuration → Step → List Message
handed c (act i) = []
handed c (talk i j) = datum (slice_get c.places i)

abbrev pub handed_in : {c d : Configuration} {ss : List Step} {es : List Event} → Runs c ss es d
    → List Message
handed_in runs_none = []
handed_in (runs_silent {c} {s = s} t r) = handed c s ++ handed_in r
handed_in (runs_event {c} {s = s} t r) = handed c s ++ handed_in r

-- the names at the start in order, and then the datum of each talk in order
abbrev pub sent_in : {c d : Configuration} {ss : List Step} {es : List Event} → ℕ → Runs c ss es d
    → List Message
sent_in n r = names_up n ++ handed_in r

-- beside every opponent, along every run, no name made at a Key type is known from what was sent
abbrev pub KeysStayUnknown : ℕ → Process → Type 0
KeysStayUnknown k p = (o : Process) (n : ℕ) (steps : List Step) (events : List Event) (c : Configuration)
    → IsOpponent o → k ≤ n → ProcessOver n p → ProcessOver n o → (r : Runs (beside n p o) steps events c)
    → (x : ℕ) → In x (keys_in r) → Knows (sent_in n r) (name x) → ⊥
