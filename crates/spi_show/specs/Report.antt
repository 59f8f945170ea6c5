-- The report form of messages and atoms: the texts in which answers show them.
use Rattle.std.specs.Prelude.{ℕ, List, [], ◌++◌, Option, Some, None, codes, slice_get}
use Rattle.std.specs.Fmt.{decimal}
use Rattle.spi_term.specs.Term.{Message, bound, name, unit, pair, in_left, in_right, enc, hash, Atom, ends, checks, many}

-- a name by its spelling, and where none is given by `#` and its number
abbrev pub reported_name : Option (List ℕ) → ℕ → List ℕ
reported_name (Some spelling) x = spelling
reported_name None x = codes "#" ++ decimal x

-- A message, where the given names are spelled so. A pair in a pair keeps its own parentheses. The place of a binder,
-- which stands in types alone, has no text.
abbrev pub message_text : List (List ℕ) → Message → List ℕ
message_text names (bound i) = []
message_text names (name x) = reported_name (slice_get names x) x
message_text names unit = codes "()"
message_text names (pair m n) =
    codes "(" ++ message_text names m ++ codes ", " ++ message_text names n ++ codes ")"
message_text names (in_left m) = codes "inl " ++ message_text names m
message_text names (in_right m) = codes "inr " ++ message_text names m
message_text names (enc m n) = codes "{" ++ message_text names m ++ codes "}" ++ message_text names n
message_text names (hash m) = codes "hash(" ++ message_text names m ++ codes ")"

abbrev pub reported_atom : List (List ℕ) → Atom → List ℕ
reported_atom names (ends m) = codes "end " ++ message_text names m
reported_atom names (checks m) = codes "check " ++ message_text names m
reported_atom names (many m) = codes "many " ++ message_text names m
