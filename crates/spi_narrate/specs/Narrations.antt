-- Narrations without where they lie in memory: a constructor for each alternative of the grammar, with its parts in their
-- order.
use Rattle.std.specs.Prelude.{ℕ, List}
use Rattle.spi_text.specs.declared.lines.Span.{Span}
use Rattle.spi_tree.specs.declared.tree.SWord.{SWord}
use Rattle.spi_tree.specs.Trees.{Msg, Ty, Declared}
use Rattle.spi_heading.specs.Headings.{Shared}

-- what a role does by itself
pub data Prefix : Type 0 where
  split : Span → Msg → SWord → Ty → SWord → Ty → Prefix
  match : Span → Msg → SWord → Ty → Msg → SWord → Ty → Prefix
  decrypt : Span → Msg → SWord → Ty → Msg → Prefix
  check : Span → Msg → Msg → Prefix
  begin : Span → Msg → Prefix
  end : Span → Msg → Prefix
  end_many : Span → Msg → Prefix
  cast : Span → Msg → SWord → Ty → Prefix
  new : Span → SWord → Ty → Prefix

-- a role by itself, or a message from a sender to a receiver on a channel: the sender, the receiver, the channel, the
-- message and the name that the receiver gives it
pub data Line : Type 0 where
  local : Span → SWord → Prefix → Line
  pass : Span → SWord → SWord → SWord → Msg → SWord → Line

pub record Narration : Type 0 where
  pub span : Span
  pub version : ℕ
  pub decls : List Declared
  pub shared : List Shared
  pub roles : List SWord
  pub lines : List Line
