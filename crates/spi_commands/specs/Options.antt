-- The command line's forms, as clap reads them, and the command that is read from what clap found. No public clause
-- names them.
use Rattle.std.specs.Prelude.{ℕ, ◌+◌, List, map, codes, Bool, true, false, if◌then◌else◌, Option, Some, None}
use Rattle.std.specs.List.{fold, list_any}
use Rattle.std.specs.Str.{bytes_eq}
use Rattle.std.specs.Borrow.{Bor}
use Rattle.clap.specs.Words.{App, Row, Rule, Text, first_of, new_app, new_rule, with_rule, with_subcommand}
use Rattle.clap.specs.declared.builder.ArgAction.TheVariants.{Set}
use Rattle.spi_commands.specs.declared.asked.Command.{Command}
use Rattle.spi_commands.specs.declared.asked.Command.TheVariants.{Load, Knows}
use Rattle.spi_commands.specs.declared.words.Numbered.{Numbered as Given}
use Rattle.spi_commands.specs.Number.{number_below}
use Rattle.spi_commands.specs.Asked.{NumberedCommands, at_least, number_table, play_all, play_one, row_of, word_table}

-- ---- what the code's tables mean

-- the command with another number
abbrev pub numbered_command : Command → ℕ → Command
numbered_command (Load k) n = Load n
numbered_command (Knows k) n = Knows n
numbered_command command n = command

abbrev pub numbers_given : Given → NumberedCommands
numbers_given form = record { least = form.least; most = form.most; command = numbered_command form.command }

abbrev pub word_rows : List (Bor Text × Command) → List (Text × Command)
word_rows = map (λ row. (row.0.now, row.1))

abbrev pub number_rows : List (Bor Text × Given) → List (Text × NumberedCommands)
number_rows = map (λ row. (row.0.now, numbers_given row.1))

-- ---- the forms

-- `--NAME VALUE`
abbrev pub named_rule : Text → Bool → Rule
named_rule name required = record (new_rule name) { long = Some name; action = Some Set; required = required }

abbrev pub play : App
play = with_rule (with_rule (new_app (codes "play")) (named_rule (codes "steps") true))
    (named_rule (codes "player") false)

-- a number that stands alone
abbrev pub counted_rule : Rule
counted_rule = record (new_rule (codes "count")) { action = Some Set; required = true }

-- the program: nothing stands before its words, it has no help, and it wants a command
abbrev pub bare : App
bare = record (new_app (codes "cryptyc")) {
  top = record ((new_app (codes "cryptyc")).top) {
    no_binary_name = true;
    disable_help_flag = true;
    disable_help_subcommand = true;
    subcommand_required = true;
  };
}

-- with one more command of one word, or of a word and a number
abbrev pub with_word : App → Text → App
with_word a name = with_subcommand a (new_app name).top

abbrev pub with_counted : App → Text → App
with_counted a name = with_subcommand a (with_rule (new_app name) counted_rule).top

abbrev pub with_command : Bool → App → Text → App
with_command counted a name = if counted then with_counted a name else with_word a name

-- the words of a table
module _ {X : Type 0} where
  abbrev pub words_of : List (Text × X) → List Text
  words_of = map (λ row. row.0)

  abbrev pub row_words : List (Bor Text × X) → List Text
  row_words = map (λ row. row.0.now)

-- with all its commands
abbrev pub whole_app : App
whole_app = fold with_counted (with_subcommand (fold with_word bare (words_of word_table)) play.top)
    (words_of number_table)

-- one of the words is `--`
abbrev pub has_dashes : List Text → Bool
has_dashes = list_any (λ word. bytes_eq word (codes "--"))

-- ---- what is read

-- a play with these values of its options
abbrev pub with_values : Option Text → Option Text → ℕ → Option Command
with_values None player players = None
with_values (Some n) None players = play_all (number_below 1001 n)
with_values (Some n) (Some m) players = play_one (number_below 1001 n) (number_below players m)

abbrev pub with_count : NumberedCommands → Option Text → Option Command
with_count form None = None
with_count form (Some n) = at_least form (number_below (form.most + 1) n)

abbrev pub word_or_number : Option Command → Option NumberedCommands → List Row → Option Command
word_or_number word (Some form) rows = with_count form (first_of (codes "count") rows)
word_or_number word None rows = word

abbrev pub found_command : Text → List Row → ℕ → Option Command
found_command name rows players =
    (if bytes_eq name (codes "play") then with_values (first_of (codes "steps") rows)
    (first_of (codes "player") rows) players else
    word_or_number (row_of name word_table) (row_of name number_table) rows)

-- the command that is read from the subcommand that clap found, with its rows
abbrev pub read : Option (Text × List Row) → ℕ → Option Command
read None players = None
read (Some p) players = found_command p.0 p.1 players
