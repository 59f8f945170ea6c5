-- What `knows` answers and promises.
use Rattle.std.specs.Prelude.{◌≡◌, ◌≢◌, ◌↔◌, ◌⊎◌, ℕ, ◌<◌, ◌≤◌, List, ◌++◌, None}
use Rattle.std.specs.declared.option.Option.{Option}
use Rattle.std.specs.Fmt.{decimal}
use Rattle.std.specs.Io.KnownBytes.{Appends}
use Rattle.spi_term.specs.Term.{Message, name}
use Rattle.spi_term.specs.Lists.{In}
use Rattle.spi_run.specs.Reduction.{Event, Runs}
use Rattle.spi_run.specs.Safety.{beside}
use Rattle.spi_run.specs.Knowledge.{Knows, keys_in}
use Rattle.spi_know.specs.Numbered.{nodes_in}
use Rattle.spi_know.specs.Sent.{names_up}
use Rattle.spi_know.specs.Cert.{Certifies}
use Rattle.spi_know.specs.declared.cert.CertLine.{CertLine}
use Rattle.spi_scope.specs.StandsFor.{Meant}
use Rattle.spi_commands.specs.declared.status.Status.{Status}
use Rattle.spi_commands.specs.declared.status.Status.TheVariants.{Yes, No, Refused}
use Rattle.spi_commands.specs.Spelled.{SpellsFile, SpellsDerivable, SpellsNone}
use Rattle.spi_commands.specs.Answers.{Answers, never}
use Rattle.spi_commands.specs.Refusals.{layered, IsLineOf}
use Rattle.spi_commands.specs.Replays.{RunsThrough, SpellsUnplayed, RefusesReplay, talks_most}
use Rattle.spi_commands.specs.Certificate.{known_text, unknown_text}

-- what was sent in a replay of a file: its free names in order, and then the datum of each talk in order
abbrev pub sent_through : (file : Meant) {events : List Event} → RunsThrough file events → List Message
sent_through file run = names_up file.process.names ++ run.talks

-- ---- refusals

-- the data of the talks have too many nodes
pub data IsTooMuchSent (count : ℕ) : ℕ → Option ℕ → List ℕ → Type 0 where
  too_much_sent : talks_most < count → IsTooMuchSent count 110 None (decimal count)

abbrev pub HasMuchSent : List ℕ → ℕ → Option ℕ → List ℕ → Type 0
HasMuchSent bytes number offset shown =
    (file : Meant) × (events : List Event) × (run : RunsThrough file events) × SpellsFile bytes file
    × IsTooMuchSent (nodes_in run.talks) number offset shown

-- the name isn't used at the end
pub data IsNoName (i names : ℕ) : ℕ → Option ℕ → List ℕ → Type 0 where
  no_name : names ≤ i → IsNoName i names 111 None (decimal i)

abbrev pub LacksName : ℕ → List ℕ → ℕ → Option ℕ → List ℕ → Type 0
LacksName i bytes number offset shown =
    (file : Meant) × (events : List Event) × (run : RunsThrough file events) × SpellsFile bytes file
    × (nodes_in run.talks ≤ talks_most) × IsNoName i run.last.configuration.names number offset shown

abbrev pub RefusesKnows : ℕ → List ℕ → ℕ → Option ℕ → List ℕ → Type 0
RefusesKnows i bytes = layered (RefusesReplay bytes) (layered (HasMuchSent bytes) (LacksName i bytes))

-- ---- answers

-- the bytes spell a file whose schedule runs through, with few nodes in the data of its talks, and uses the name
pub record IsKnowsAsked (i : ℕ) (bytes : List ℕ) (file : Meant) (events : List Event)
    (run : RunsThrough file events) : Type 0 where
  pub spells : SpellsFile bytes file
  pub few : nodes_in run.talks ≤ talks_most
  pub used : i < run.last.configuration.names

-- and the name is known from what was sent, or isn't
abbrev pub SpellsKnown : ℕ → List ℕ → Type 0
SpellsKnown i bytes =
    (file : Meant) × (events : List Event) × (run : RunsThrough file events)
    × IsKnowsAsked i bytes file events run
    × Knows (sent_through file run) (name i)

abbrev pub SpellsUnknown : ℕ → List ℕ → Type 0
SpellsUnknown i bytes =
    (file : Meant) × (events : List Event) × (run : RunsThrough file events)
    × IsKnowsAsked i bytes file events run
    × (¬ Knows (sent_through file run) (name i))

-- the text is that of a certificate of the name
abbrev pub IsKnown : ℕ → List ℕ → List ℕ → Type 0
IsKnown i bytes output =
    (file : Meant) × (events : List Event) × (run : RunsThrough file events) × (lines : List CertLine)
    × IsKnowsAsked i bytes file events run
    × Knows (sent_through file run) (name i) × Certifies (sent_through file run) lines (name i)
    × (output ≡ known_text file.names i lines)

-- yes, no, or a refusal
abbrev pub KnowsTo : ℕ → List ℕ → Status → List ℕ → Type 0
KnowsTo i bytes =
    Answers (IsKnown i bytes) (λ output. SpellsUnknown i bytes × (output ≡ unknown_text i))
    (IsLineOf bytes (RefusesKnows i bytes))

-- what is decided of a name, where these are the data of the talks
abbrev pub IsDecided : Meant → List Message → ℕ → Status → List ℕ → Type 0
IsDecided file talks i =
    Answers
    (λ output. (lines : List CertLine) × Knows (names_up file.process.names ++ talks) (name i)
    × Certifies (names_up file.process.names ++ talks) lines (name i)
    × (output ≡ known_text file.names i lines))
    (λ output. (¬ Knows (names_up file.process.names ++ talks) (name i)) × (output ≡ unknown_text i)) never

-- ---- the promise

-- the bytes spell a file whose schedule runs through, and the data of its talks have too many nodes, or it doesn't use the name
abbrev pub SpellsMuchSent : List ℕ → Type 0
SpellsMuchSent bytes =
    (file : Meant) × (events : List Event) × (run : RunsThrough file events) × SpellsFile bytes file
    × (talks_most < nodes_in run.talks)

abbrev pub SpellsNameless : ℕ → List ℕ → Type 0
SpellsNameless i bytes =
    (file : Meant) × (events : List Event) × (run : RunsThrough file events) × SpellsFile bytes file
    × (run.last.configuration.names ≤ i)

-- the name is made at a Key type in the replay
abbrev pub MakesKey : ℕ → (file : Meant) {events : List Event} → RunsThrough file events → Type 0
MakesKey i file {events} run =
    (r : Runs (beside file.process.names file.process.process run.opponent.process) run.steps events
    run.last.configuration) × In i (keys_in r)

-- `knows` answers yes exactly where the file's schedule runs through, the data of its talks have few nodes, and the name
-- is used at the end and known from what was sent; no exactly where it isn't known; and refused where the file is none, is
-- refused by a replay, has too much sent, or lacks the name. After a yes what was appended has a certificate of the name.
-- And where the file's process is derivable with the empty effect, there is no yes for a key that the replay makes.
pub record IsKnownOn (i : ℕ) (bytes : List ℕ) (old new : Option (List ℕ)) (status : Status) : Type 0 where
  pub yes : (status ≡ Yes) ↔ SpellsKnown i bytes
  pub no : (status ≡ No) ↔ SpellsUnknown i bytes
  pub refused : (status ≡ Refused)
      ↔ ((SpellsNone bytes ⊎ SpellsUnplayed bytes) ⊎ (SpellsMuchSent bytes ⊎ SpellsNameless i bytes))
  pub certified : status ≡ Yes → (file : Meant) (events : List Event) → SpellsFile bytes file
      → (run : RunsThrough file events)
      → (lines : List CertLine) × Certifies (sent_through file run) lines (name i)
      × Appends old new (known_text file.names i lines)
  pub secret : SpellsDerivable bytes → (file : Meant) (events : List Event) → SpellsFile bytes file
      → (run : RunsThrough file events)
      → MakesKey i file run → status ≢ Yes
