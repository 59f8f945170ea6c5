-- The names and the type abbreviations in scope.
use Rattle.std.specs.Prelude.{ℕ, List, [], ◌∷◌, length, Option, Some, None, if◌then◌else◌}
use Rattle.std.specs.Str.{bytes_eq}
use Rattle.spi_term.specs.Term.{Ty}

-- the bytes of a spelling
abbrev pub Word : Type 0
Word = List ℕ

-- the names in scope by their spellings, the innermost first
abbrev pub Names : Type 0
Names = List Word

-- the innermost name that is spelled so. A name's number is how many names were in scope where it was bound
abbrev pub number_of : Names → Word → Option ℕ
number_of [] w = None
number_of (x ∷ xs) w = if bytes_eq x w then Some (length xs) else number_of xs w

-- a type abbreviation, and the type that it stands for
pub record Abbreviation : Type 0 where
  pub word : Word
  pub stands_for : Ty

abbrev pub Abbreviations : Type 0
Abbreviations = List Abbreviation

abbrev pub type_of : Abbreviations → Word → Option Ty
type_of [] w = None
type_of (t ∷ ts) w = if bytes_eq w t.word then Some t.stands_for else type_of ts w

-- the names in scope outside the innermost one
abbrev pub outer_names : Names → Names
outer_names [] = []
outer_names (x ∷ xs) = xs
