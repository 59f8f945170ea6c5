-- The types that abbreviations stand for are over so many names, and have no loose index.
use Rattle.std.specs.Prelude.{ℕ, [], ◌∷◌, ⊤}
use Rattle.spi_term.specs.Names.{TyOver}
use Rattle.spi_scope.specs.Scope.{Abbreviations}

abbrev pub AreAbbreviationsOver : ℕ → Abbreviations → Type 0
AreAbbreviationsOver n [] = ⊤
AreAbbreviationsOver n (u ∷ ts) = TyOver n u.stands_for × AreAbbreviationsOver n ts
