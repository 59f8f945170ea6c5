-- A bench without where it lies in memory.
use Rattle.std.specs.Prelude.{ℕ, List}
use Rattle.spi_text.specs.declared.lines.Span.{Span}
use Rattle.spi_tree.specs.declared.tree.SWord.{SWord}
use Rattle.spi_tree.specs.Trees as t
use Rattle.spi_heading.specs.Headings.{Shared}

-- a part is put under a name, or the part of that name is dropped
pub data Edit : Type 0 where
  puts : Span → SWord → t.Proc → Edit
  drops : Span → SWord → Edit

pub record Bench : Type 0 where
  pub span : Span
  pub version : ℕ
  pub decls : List t.Declared
  pub shared : List Shared
  pub edits : List Edit
