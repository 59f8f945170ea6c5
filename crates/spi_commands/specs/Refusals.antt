-- What bytes are refused for, by layers. A layer says which causes it has: the number of each, the offset at which it
-- stands, and what it shows. A cause of a layer presupposes that the layers before it have none.
use Rattle.std.specs.Prelude.{◌≡◌, ◌⊎◌, ℕ, ◌+◌, ◌<◌, ◌≤◌, List, [], length, drop, Ok, Err, Some, None}
use Rattle.std.specs.Fmt.{decimal}
use Rattle.std.specs.declared.option.Option.{Option}
use Rattle.spi_lex.specs.declared.token.Token.{Token}
use Rattle.spi_lex.specs.declared.fault.LexFault.TheVariants.{NotUtf8, BadChar, BadNumber, NameTooLong}
use Rattle.spi_lex.specs.Lexing.{Lexes, kinds_of}
use Rattle.spi_tree.specs.Trees.{File}
use Rattle.spi_tree.specs.Pieces.{Piece}
use Rattle.spi_parse.specs.Formed.{IsFile, whole_file}
pub use Rattle.spi_parse.specs.Bytes.{start_of_fault}
use Rattle.spi_parse.specs.Exact.{IsSyntaxAt, IsDeepAt}
use Rattle.spi_scope.specs.declared.fault.ScopeFault.{ScopeFault}
use Rattle.spi_scope.specs.declared.fault.ScopeFault.TheVariants.{UnknownName, UnknownType, NameTwice, TypeTwice, MessageTooLarge, TypeTooLarge, FileTooLarge, ScheduleTooLong, NoMemory as OutOfMemory}
use Rattle.spi_scope.specs.First.{HasFirst}
use Rattle.spi_scope.specs.FaultPlaces.{span_from}
pub use Rattle.spi_scope.specs.Standing.{scope_number}
use Rattle.spi_report.specs.declared.refusal.Refusal.{Refusal}
use Rattle.spi_report.specs.Refused.{refused_text}
use Rattle.spi_spell.specs.Joined.{joined_texts}
use Rattle.spi_commands.specs.declared.answer.Answer.{Answer}
use Rattle.spi_commands.specs.declared.status.Status.{Status}
use Rattle.spi_commands.specs.declared.status.Status.TheVariants.{Refused}
use Rattle.spi_commands.specs.Answers.{Answers, never}
use Rattle.spi_commands.specs.Spelled.{limit, IsTreeOf}

-- the causes of a layer, and behind them those of further layers
abbrev pub layered : (ℕ → Option ℕ → List ℕ → Type 0) → (ℕ → Option ℕ → List ℕ → Type 0) → ℕ → Option ℕ
    → List ℕ → Type 0
layered first later number offset shown = first number offset shown ⊎ later number offset shown

-- the text is the line of one of these causes
abbrev pub IsLineOf : List ℕ → (ℕ → Option ℕ → List ℕ → Type 0) → List ℕ → Type 0
IsLineOf bytes causes output = (r : Refusal) × causes r.number r.offset r.shown.items
    × (output ≡ refused_text bytes r)

-- the answer refuses the bytes for one of these causes
abbrev pub IsRefusedFor : List ℕ → (ℕ → Option ℕ → List ℕ → Type 0) → Answer → Type 0
IsRefusedFor bytes causes answer = (answer.status ≡ Refused) × IsLineOf bytes causes answer.output.items

-- the one cause that has this number, stands there and shows this
abbrev pub IsCause : ℕ → Option ℕ → List ℕ → ℕ → Option ℕ → List ℕ → Type 0
IsCause number offset shown n o s = (n ≡ number) × (o ≡ offset) × (s ≡ shown)

-- ---- text

-- the bytes are too many, or have no tokens
pub data IsUnlexed (bytes : List ℕ) : ℕ → Option ℕ → List ℕ → Type 0 where
  too_long : limit < length bytes → IsUnlexed bytes 2 None (decimal (limit + 1))
  not_utf8 : {at : ℕ} → length bytes ≤ limit → Lexes bytes (Err (NotUtf8 at))
      → IsUnlexed bytes 10 (Some at) []
  bad_char : {at : ℕ} → length bytes ≤ limit → Lexes bytes (Err (BadChar at))
      → IsUnlexed bytes 11 (Some at) []
  bad_number : {at : ℕ} → length bytes ≤ limit → Lexes bytes (Err (BadNumber at))
      → IsUnlexed bytes 12 (Some at) []
  name_too_long : {at : ℕ} → length bytes ≤ limit → Lexes bytes (Err (NameTooLong at))
      → IsUnlexed bytes 13 (Some at) []

-- ---- syntax

-- the tokens are those of no formed text of this kind, whose texts have these pieces
pub data IsUnparsed {X : Type 0} (pieces : X → List Piece) (IsFormed : X → Type 0) (bytes : List ℕ) : ℕ
    → Option ℕ → List ℕ → Type 0 where
  syntax : {tokens : List Token} {i : ℕ} → length bytes ≤ limit → Lexes bytes (Ok tokens)
      → IsSyntaxAt pieces IsFormed (kinds_of tokens) i
      → IsUnparsed pieces IsFormed bytes 20 (Some (start_of_fault bytes (drop i tokens))) []
  too_deep : {tokens : List Token} {i : ℕ} → length bytes ≤ limit → Lexes bytes (Ok tokens)
      → IsDeepAt pieces IsFormed (kinds_of tokens) i
      → IsUnparsed pieces IsFormed bytes 21 (Some (start_of_fault bytes (drop i tokens))) []

-- ---- scopes

-- what a fault of scopes shows
abbrev pub scope_shown : ScopeFault → List ℕ
scope_shown (UnknownName s w) = w
scope_shown (UnknownType s w) = w
scope_shown (NameTwice s w) = w
scope_shown (TypeTwice s w) = w
scope_shown (MessageTooLarge s n) = decimal n
scope_shown (TypeTooLarge s n) = decimal n
scope_shown (FileTooLarge s n) = decimal n
scope_shown (ScheduleTooLong s n) = decimal n
scope_shown OutOfMemory = []

-- the tree stands for no file
pub data IsUnscopedAt (tree : File) : ℕ → Option ℕ → List ℕ → Type 0 where
  out_of_scope : {fault : ScopeFault} → HasFirst tree fault
      → IsUnscopedAt tree (scope_number fault) (Some (span_from fault)) (scope_shown fault)

-- ---- files

-- the tree that the bytes spell stands for none
abbrev pub HasUnscoped : List ℕ → ℕ → Option ℕ → List ℕ → Type 0
HasUnscoped bytes number offset shown = (tree : File) × IsTreeOf bytes tree
    × IsUnscopedAt tree number offset shown

-- the bytes spell no file
abbrev pub Refuses : List ℕ → ℕ → Option ℕ → List ℕ → Type 0
Refuses bytes = layered (IsUnlexed bytes) (layered (IsUnparsed whole_file IsFile bytes) (HasUnscoped bytes))

-- the text is the line of that
abbrev pub IsRefusal : List ℕ → List ℕ → Type 0
IsRefusal bytes = IsLineOf bytes (Refuses bytes)

-- ---- parts, and texts that are made

-- a file lacks this part
pub data IsMissing (part : List ℕ) : ℕ → Option ℕ → List ℕ → Type 0 where
  missing : IsMissing part 38 None part

-- a text would have so many bytes, which are more than a file may have
pub data IsTooMuch (count : ℕ) : ℕ → Option ℕ → List ℕ → Type 0 where
  too_much : limit < count → IsTooMuch count 80 None (decimal count)

-- the text, or the line of its refusal where it is too long to stand behind these bytes
abbrev pub FitsBehind : List ℕ → List ℕ → Status → List ℕ → Type 0
FitsBehind bytes text =
    Answers (λ output. (output ≡ text) × (length (joined_texts bytes output) ≤ limit)) never
    (IsLineOf bytes (IsTooMuch (length (joined_texts bytes text))))
