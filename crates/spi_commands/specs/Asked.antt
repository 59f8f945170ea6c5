-- The command that words ask for.
use Rattle.std.specs.Prelude.{ℕ, ◌+◌, ◌<◌, ◌≤◌, nat_lt, List, [], ◌∷◌, ◌++◌, codes, Bool, true, false, if◌then◌else◌, ◌&&◌, Some, None, take, drop, ⊤}
use Rattle.std.specs.Option.{ForSome}
use Rattle.std.specs.Str.{bytes_eq}
use Rattle.std.specs.declared.option.Option.{Option}
use Rattle.spi_commands.specs.declared.asked.Command.{Command}
use Rattle.spi_commands.specs.declared.asked.Command.TheVariants.{Check, Derive, Verify, Replay, Play, Print, Load, Upgrade, Narrate, Knows, Bench}
use Rattle.spi_commands.specs.Number.{number_below}

-- ---- the tables

-- the commands of one word
abbrev pub word_table : List (List ℕ × Command)
word_table =
    (codes "check", Check) ∷ (codes "derive", Derive) ∷ (codes "verify", Verify) ∷ (codes "replay", Replay)
    ∷ (codes "print", Print) ∷ (codes "upgrade", Upgrade) ∷ (codes "narrate", Narrate)
    ∷ (codes "bench", Bench) ∷ []

-- the commands of a word and a number behind it, from the least to the most
pub record NumberedCommands : Type 0 where
  pub least : ℕ
  pub most : ℕ
  pub command : ℕ → Command

abbrev pub number_table : List (List ℕ × NumberedCommands)
number_table =
    (codes "load", record { least = 1; most = 500; command = Load })
    ∷ (codes "knows", record { least = 0; most = 999999999; command = Knows }) ∷ []

-- what a table has for a word
module _ {X : Type 0} where
  abbrev pub row_of : List ℕ → List (List ℕ × X) → Option X
  row_of word [] = None
  row_of word (row ∷ rows) = if bytes_eq row.0 word then Some row.1 else row_of word rows

-- ---- a number behind the word

abbrev pub at_least : NumberedCommands → Option ℕ → Option Command
at_least form None = None
at_least form (Some n) = if nat_lt n form.least then None else Some (form.command n)

abbrev pub with_numbers : Option NumberedCommands → List (List ℕ) → Option Command
with_numbers (Some form) (n ∷ []) = at_least form (number_below (form.most + 1) n)
with_numbers form words = None

-- ---- `play`

-- an option with its value in one word is taken apart at its `=`
abbrev pub apart : List ℕ → List (List ℕ)
apart word =
    (if bytes_eq (take 8 word) (codes "--steps=") then codes "--steps" ∷ drop 8 word ∷ [] else
    (if bytes_eq (take 9 word) (codes "--player=") then codes "--player" ∷ drop 9 word ∷ [] else
    word ∷ []))

abbrev pub pieces : List (List ℕ) → List (List ℕ)
pieces [] = []
pieces (word ∷ words) = apart word ++ pieces words

-- a play of so many steps at most, where all players are asked, or one
abbrev pub play_all : Option ℕ → Option Command
play_all None = None
play_all (Some steps) = Some (Play steps None)

abbrev pub play_one : Option ℕ → Option ℕ → Option Command
play_one None player = None
play_one (Some steps) None = None
play_one (Some steps) (Some player) = Some (Play steps (Some player))

-- the options of `play`: `--steps N` with N from 0 to 1,000, and where it is there `--player I` with the place of a player
abbrev pub with_options : List (List ℕ) → ℕ → Option Command
with_options (a ∷ n ∷ []) players =
    if bytes_eq a (codes "--steps") then play_all (number_below 1001 n) else None
with_options (a ∷ n ∷ b ∷ m ∷ []) players =
    (if bytes_eq a (codes "--steps") && bytes_eq b (codes "--player") then play_one (number_below 1001 n)
    (number_below players m) else
    (if bytes_eq a (codes "--player") && bytes_eq b (codes "--steps") then play_one (number_below 1001 m)
    (number_below players n) else
    None))
with_options words players = None

-- ---- all words

-- the command that the words spell, where there are so many players
abbrev pub asked : List (List ℕ) → ℕ → Option Command
asked [] players = None
asked (word ∷ []) players = row_of word word_table
asked (word ∷ other ∷ more) players =
    (if bytes_eq word (codes "play") then with_options (pieces (other ∷ more)) players else
    with_numbers (row_of word number_table) (other ∷ more))

-- it asks the players
abbrev pub is_play : Option Command → Bool
is_play (Some (Play most only)) = true
is_play command = false

-- it has an input
abbrev pub reads_input : Option Command → Bool
reads_input None = false
reads_input (Some (Load sessions)) = false
reads_input command = true

-- what is known of a command's numbers, where there are so many players
abbrev pub AreNumbersKnown : ℕ → Command → Type 0
AreNumbersKnown players (Play most only) = (most ≤ 1000) × ForSome only (λ place. place < players)
AreNumbersKnown players (Load sessions) = (1 ≤ sessions) × (sessions ≤ 500)
AreNumbersKnown players command = ⊤
