-- What the table of names keeps: at each spelling the number of the innermost name, if any, and with each name in scope
-- the slot of its spelling, the number that it hides and the chain of spellings from it on.
use Rattle.std.specs.Prelude.{◌≡◌, ℕ, ◌^◌, ◌<◌, List, [], ◌∷◌, ◌++◌, length, map, reverse, Some, ⊤, slice_get, Option}
use Rattle.std.specs.Str.{bytes_eq}
use Rattle.std.specs.Coded.{Coded, coded_ℕ, coded_list, coded×, code_by}
use Rattle.std.specs.Option.{option_flatten}
use Rattle.indexmap.specs.IndexMap.{IndexMap, get, keys}
use Rattle.spi_scope.specs.Scope.{Word, Names, number_of}
use Rattle.spi_scope.specs.declared.names.Held.{Held}

-- the names in scope, the innermost first, and those that were in scope at each node so far
pub record Naming : Type 0 where
  pub names : Names
  pub noted : List Names

abbrev pub coded_names : Coded Names
coded_names = coded_list (coded_list coded_ℕ)

abbrev pub coded_naming : Coded Naming
coded_naming =
    code_by (Names × List Names) (coded× coded_names (coded_list coded_names)) (λ s. (s.names, s.noted))
    (λ p. record { names = p.0; noted = p.1 }) (λ _. Rattle.std.specs.Prelude.refl)

-- other names in scope
abbrev pub with_names : Naming → Names → Naming
with_names s xs = record s { names = xs }

-- one more node
abbrev pub noting : Naming → Naming
noting s = record s { noted = s.noted ++ s.names ∷ [] }

-- the spellings, the innermost first
abbrev pub spellings : List Held → Names
spellings es = map (λ e. e.word.now) es

-- each name hides the number that its spelling had outside it
abbrev pub Hide : List Held → Type 0
Hide [] = ⊤
Hide (e ∷ es) = (e.before ≡ number_of (spellings es) e.word.now) × Hide es

-- the spellings in the table, each in its slot
abbrev pub slots : {V S : Type 0} → IndexMap Word V S → Names
slots m = keys m

-- each name has the slot of its spelling
abbrev pub HaveSlots : Names → List Held → Type 0
HaveSlots ws [] = ⊤
HaveSlots ws (e ∷ es) = (slice_get ws e.slot ≡ Some e.word.now) × HaveSlots ws es

pub record KeepsTable {S : Type 0} (m : IndexMap Word (Option ℕ) S) (es : List Held) : Type 0 where
  pub finds : (w : Word) → option_flatten (get bytes_eq m w) ≡ number_of (spellings (reverse es)) w
  pub hide : Hide (reverse es)
  pub have_slots : HaveSlots (slots m) (reverse es)
  pub few : length es < 2 ^ 32

-- each name begins the chain of its spelling and those outside it
abbrev pub Begin : List Names → List Held → Type 0
Begin cs [] = slice_get cs 0 ≡ Some []
Begin cs (e ∷ es) = (slice_get cs e.chain ≡ Some (spellings (e ∷ es))) × Begin cs es

-- the number of the chain of all names
abbrev pub top : List Held → ℕ
top [] = 0
top (e ∷ es) = e.chain

-- one more name was put at the end
pub record IsPushed (old new : List Held) (w : Word) (chain : ℕ) : Type 0 where
  pub held : Held
  pub word : held.word.now ≡ w
  pub its_chain : held.chain ≡ chain
  pub is : new ≡ old ++ held ∷ []

-- the last name was taken away
pub record IsPopped (old new : List Held) : Type 0 where
  pub held : Held
  pub is : old ≡ new ++ held ∷ []
