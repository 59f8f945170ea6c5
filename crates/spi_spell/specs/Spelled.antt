-- The file that bytes spell.
use Rattle.std.specs.Prelude.{ℕ, ◌≤◌, List, [], length, Ok}
use Rattle.spi_lex.specs.declared.token.Token.{Token}
use Rattle.spi_lex.specs.Lexing.{Lexes}
use Rattle.spi_tree.specs.Trees.{File}
use Rattle.spi_parse.specs.Formed.{IsFile, whole_file}
use Rattle.spi_parse.specs.Exact.{Spells}
use Rattle.spi_scope.specs.StandsFor.{Meant, StandsFor}

-- the greatest length of a file
abbrev pub limit : ℕ
limit = 16777216

-- The bytes are those of a formed tree: its tokens, each node and word with its place, and no node above a nesting limit.
pub record IsTreeOf (bytes : List ℕ) (tree : File) : Type 0 where
  pub within : length bytes ≤ limit
  pub tokens : List Token
  pub lexed : Lexes bytes (Ok tokens)
  pub formed : IsFile tree
  pub spelled : Spells [] 0 (whole_file tree) tokens

-- the bytes spell the file that their tree stands for
abbrev pub SpellsFile : List ℕ → Meant → Type 0
SpellsFile bytes file = (tree : File) × IsTreeOf bytes tree × StandsFor tree file
