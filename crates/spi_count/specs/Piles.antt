-- Atoms that wait to be counted, and what counts with such atoms say of an effect.
use Rattle.std.specs.Prelude.{◌≡◌, ℕ, ◌<◌, Bool, true, false, eqb, if◌then◌else◌, List, [], ◌∷◌}
use Rattle.spi_term.specs.Term.{Message, Atom, Effect}
use Rattle.spi_term.specs.Lists.{In}
use Rattle.spi_term.specs.Counts.{count}
use Rattle.spi_count.specs.Counts.{count_of}
use Rattle.spi_count.specs.Sums.{name_bound, key_of, kind_of_atom, part, both_counts}
use Rattle.spi_count.specs.declared.sum.AtomKind.{AtomKind}
use Rattle.spi_count.specs.declared.sum.AtomKind.TheVariants.{End, Check, Many}
use Rattle.spi_count.specs.declared.pile.Late.{Late}
use Rattle.spi_count.specs.declared.pile.Pile.{Pile}
use Rattle.spi_intern.specs.Parts.{message_of}

abbrev pub is_kind : AtomKind → AtomKind → Bool
is_kind End End = true
is_kind End Check = false
is_kind End Many = false
is_kind Check End = false
is_kind Check Check = true
is_kind Check Many = false
is_kind Many End = false
is_kind Many Check = false
is_kind Many Many = true

-- how often an atom of that kind with that key stands at a key
abbrev pub once : AtomKind → ℕ → AtomKind → ℕ → ℕ
once kind key l q = if is_kind l kind then (if eqb key q then 1 else 0) else 0

-- how often an atom that waits stands at a key
abbrev pub waits_once : AtomKind → Late → ℕ → ℕ
waits_once kind w q = if is_kind kind w.kind then (if eqb w.key q then w.count else 0) else 0

-- how often all that wait stand there
abbrev pub waits : AtomKind → List Late → ℕ → ℕ
waits kind [] q = 0
waits kind (w ∷ ws) q = both_counts kind (waits_once kind w q) (waits kind ws q)

-- how often the atoms of a kind stand there in all
abbrev pub piled : AtomKind → Pile → ℕ → ℕ
piled kind p q = both_counts kind (count_of (part kind p.sum) q) (waits kind p.late.items q)

-- The counts and the atoms that wait are those of an effect, where At i m says that m has the number i.
pub record StandsForPile (At : ℕ → Message → Type 0) (p : Pile) (es : Effect) : Type 0 where
  pub counted : (a : Atom) (i : ℕ) → At i (message_of a)
      → piled (kind_of_atom a) p (key_of (name_bound (message_of a)) i) ≡ count a es
  pub known : (a : Atom) → In a es → (i : ℕ) × At i (message_of a)
  pub kept : (kind : AtomKind) (k : ℕ) → 0 < piled kind p k
      → (i : ℕ) × (m : Message) × At i m × (k ≡ key_of (name_bound m) i)
