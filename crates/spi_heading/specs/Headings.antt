-- What a narration or a bench begins with, without where it lies in memory.
use Rattle.std.specs.Prelude.{ℕ, List, [], ◌∷◌}
use Rattle.spi_text.specs.declared.lines.Span.{Span}
use Rattle.spi_tree.specs.declared.tree.SWord.{SWord}
use Rattle.spi_tree.specs.Trees as t

-- a name with its type that all parts share
pub record Shared : Type 0 where
  pub span : Span
  pub name : SWord
  pub ty : t.Ty

-- a name with its type
pub record Named : Type 0 where
  pub name : SWord
  pub ty : t.Ty

-- the names in scope behind shared names, each of which hides an earlier one of its spelling
abbrev pub with_shared : List (List ℕ) → List Shared → List (List ℕ)
with_shared xs [] = xs
with_shared xs (s ∷ ss) = with_shared (s.name.word ∷ xs) ss
