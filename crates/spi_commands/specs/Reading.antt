-- What reading an input gives.
use Rattle.std.specs.Prelude.{◌≡◌, ℕ, ◌≤◌, List, length, Ok, Some, IfSome, IsSome, ⊤}
use Rattle.std.specs.declared.option.Option.{Option}
use Rattle.spi_lex.specs.Lexing.{Lexes, kinds_of}
use Rattle.spi_lex.specs.Writing.{AreKinds, AreSpans, spans_of}
use Rattle.spi_lex.specs.declared.token.Token.{Token}
use Rattle.spi_tree.specs.Trees as t
use Rattle.spi_report.specs.Names.{name_of}
use Rattle.spi_scope.specs.declared.file.File.{File}
use Rattle.spi_scope.specs.Files.{meant, marked, marks_of}
use Rattle.spi_scope.specs.StandsFor.{StandsFor}
use Rattle.spi_commands.specs.declared.reading.Unread.{Unread}
use Rattle.spi_commands.specs.declared.reading.Unread.TheVariants.{Refused, NoMemory}
use Rattle.spi_commands.specs.declared.text.Text.{Text}
use Rattle.spi_commands.specs.declared.text.Text.TheVariants.{Bytes, Refused as RefusedText}
use Rattle.spi_commands.specs.Spelled.{limit, IsTreeOf}
use Rattle.spi_commands.specs.Refusals.{Refuses, IsUnlexed, IsLineOf, IsCause}

-- the bytes spell the file, and it tells where the nodes of its tree stand and which names are in scope there
abbrev pub IsRead : List ℕ → File → Type 0
IsRead bytes f = (tree : t.File) × IsTreeOf bytes tree × StandsFor tree (meant f) × (marked f ≡ marks_of tree)

-- the refusal has one of these causes
abbrev pub IsUnreadBy : (ℕ → Option ℕ → List ℕ → Type 0) → Unread → Type 0
IsUnreadBy causes (Refused r) = causes r.number r.offset r.shown.items
IsUnreadBy causes NoMemory = ⊤

-- it is one of these bytes
abbrev pub IsUnread : List ℕ → Unread → Type 0
IsUnread bytes = IsUnreadBy (Refuses bytes)

-- the refusal has this number, stands there, and shows this
abbrev pub TellsRefusal : ℕ → ℕ → List ℕ → Unread → Type 0
TellsRefusal number offset shown (Refused r) = (r.number ≡ number) × (r.offset ≡ Some offset)
    × (r.shown.items ≡ shown)
TellsRefusal number offset shown NoMemory = ⊤

-- the one cause that the refusal has
abbrev pub IsCauseOf : Unread → ℕ → Option ℕ → List ℕ → Type 0
IsCauseOf (Refused r) number offset shown = IsCause r.number r.offset r.shown.items number offset shown
IsCauseOf NoMemory number offset shown = ⊥

-- the number has a name, and the place is in the bytes
abbrev pub StandsNamed : List ℕ → ℕ → Option ℕ → List ℕ → Type 0
StandsNamed bytes number offset shown = IsSome (name_of number) × IfSome offset (λ at. at ≤ length bytes)

-- the tokens are those of the bytes, and these are few
abbrev pub HasTokens : List ℕ → List Token → Type 0
HasTokens bytes tokens =
    (length bytes ≤ limit) × Lexes bytes (Ok tokens) × AreKinds (kinds_of tokens)
    × AreSpans 0 (spans_of tokens) (length bytes)

-- a text has no more bytes than an input may have, unless it is the line of a refusal
abbrev pub IsText : Text → Type 0
IsText (Bytes bytes) = length bytes.items ≤ limit
IsText (RefusedText line) = ⊤

-- the text is the one of these bytes
abbrev pub GivesText : List ℕ → Text → Type 0
GivesText bytes (Bytes taken) = bytes ≡ taken.items
GivesText bytes (RefusedText line) = IsLineOf bytes (IsUnlexed bytes) line.items
