-- The narrations that are told.
use Rattle.std.specs.Prelude.{◌≡◌, ◌≢◌, ◌≤◌, ℕ, List, [], ◌∷◌, length, Some, ⊤}
use Rattle.spi_tree.specs.declared.tree.SWord.{SWord}
use Rattle.spi_term.specs.Lists.{In}
use Rattle.spi_narrate.specs.Narrations as n
use Rattle.spi_scope.specs.Scope.{Word, Names, number_of}
use Rattle.spi_scope.specs.StandsFor.{Meant, StandsFor}
use Rattle.spi_weave.specs.Woven.{woven}
use Rattle.spi_honest.specs.Narrated.{free_of}

-- no word is that of two roles
abbrev pub AreRolesDistinct : List SWord → Type 0
AreRolesDistinct [] = ⊤
AreRolesDistinct (r ∷ rs) = ((q : SWord) → In q rs → r.word ≢ q.word) × AreRolesDistinct rs

-- a role, by its word
pub record IsRole (roles : List SWord) (w : Word) : Type 0 where
  pub role : SWord
  pub is : In role roles
  pub word : role.word ≡ w

-- the roles of each line are declared
abbrev pub HasRoles : List SWord → n.Line → Type 0
HasRoles roles (n.local s r f) = IsRole roles r.word
HasRoles roles (n.pass s from to c m x) = IsRole roles from.word × IsRole roles to.word

abbrev pub HaveRoles : List SWord → List n.Line → Type 0
HaveRoles roles [] = ⊤
HaveRoles roles (l ∷ ls) = HasRoles roles l × HaveRoles roles ls

-- no role is unknown, none is declared twice, and the limits of narrations are kept
pub record IsTellable (x : n.Narration) : Type 0 where
  pub known : HaveRoles x.roles x.lines
  pub distinct : AreRolesDistinct x.roles
  pub shared : length x.shared ≤ 16
  pub roles : length x.roles ≤ 8
  pub lines : length x.lines ≤ 200

-- each word after `on` is a free name
abbrev pub HasChannel : Names → n.Line → Type 0
HasChannel free (n.local s r f) = ⊤
HasChannel free (n.pass s from to c m x) = (i : ℕ) × (number_of free c.word ≡ Some i)

abbrev pub HaveChannels : Names → List n.Line → Type 0
HaveChannels free [] = ⊤
HaveChannels free (l ∷ ls) = HasChannel free l × HaveChannels free ls

abbrev pub NamesChannels : n.Narration → Type 0
NamesChannels x = HaveChannels (free_of x) x.lines

-- the file is the one that the narration's woven tree stands for
abbrev pub WeavesTo : n.Narration → Meant → Type 0
WeavesTo x file = StandsFor (woven x) file
