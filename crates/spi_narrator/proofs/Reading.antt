-- The canonical text of a told narration is read as its file.
use Rattle.std.proofs.Common.{◌≡◌, ℕ, suc, ◌+◌, ◌*◌, ◌<◌, ◌≤◌, ◌^◌, Bool, true, false, List, [], ◌∷◌, ◌++◌, length, map, Option, refl, sym, ap, subst, arith}
use Rattle.std.specs.Prelude.{if◌then◌else◌}
use Rattle.std.specs.Str.{bytes_eq}
use Rattle.std.specs.List.{AllByRecursion}
use Rattle.spi_lex.specs.Writing.{AreKinds}
use Rattle.spi_tree.specs.declared.tree.SWord.{SWord}
use Rattle.spi_tree.specs.Pieces.{kinds_in}
use Rattle.spi_parse.specs.Exact.{IsWithin}
use Rattle.spi_run.specs.Reduction.{Step}
use Rattle.spi_run.specs.View.{step}
use Rattle.spi_scope.specs.Scope.{Word}
use Rattle.spi_scope.specs.StandsFor.{Meant}
use Rattle.spi_show.specs.Files.{IsCanonicalText}
use Rattle.spi_spell.specs.Spelled.{limit, SpellsFile}
use Rattle.spi_spell.specs.Joined.{with_schedule, HasLowPlaces}
use Rattle.spi_spell.proofs.Printable.{IsPrintable}
use Rattle.spi_spell.proofs.Standing.{printable}
use Rattle.spi_spell.proofs.Versioned.{tree_fit}
use Rattle.spi_spell.proofs.Canonical.{printed_reads_back}
use Rattle.spi_heading.specs.Headings.{Shared}
use Rattle.spi_narrate.specs.Narrations as n
use Rattle.spi_narrate.specs.Grammar.{IsNarration, whole_narration}
use Rattle.spi_weave.specs.Woven.{woven}
use Rattle.spi_weave.proofs.Formed.{woven_formed}
use Rattle.spi_honest.specs.Roles.{IsTellable}
use Rattle.spi_honest.specs.Schedule.{moved, line_steps, shared_steps, role_steps, places_from, places_of, others, honest_steps}
use Rattle.spi_narrator.specs.Answers.{IsTold}

-- ---- the steps are few, and their places are low

-- each place that a role has is below this
abbrev ArePlacesBelow : ℕ → (Word → ℕ) → Type 0
ArePlacesBelow b place = (w : Word) → place w < b

below_moved : (b : ℕ) (r : Word) (i : ℕ) (place : Word → ℕ) → i < b → ArePlacesBelow b place → ArePlacesBelow b (moved r i place)
below_moved b r i place u h w = chosen (bytes_eq r w)
  where
    chosen : (c : Bool) → (if c then i else place w) < b
    chosen true = u
    chosen false = h w

low_lines : (place : Word → ℕ) (k : ℕ) (ls : List n.Line) (b : ℕ) → b < 4294967296 → ArePlacesBelow b place → k + length ls < b → AllByRecursion HasLowPlaces (line_steps place k ls)
low_lines place k [] b u h v = tt
low_lines place k (n.local s r f ∷ ls) b u h v = (low (place r.word) (h r.word), low_lines place k ls b u h (omega (arith, v)))
  where
    low : (i : ℕ) → i < b → i < 2 ^ 32
    low i l = omega (arith, u, l)
low_lines place k (n.pass s from to c m x ∷ ls) b u h v =
    let moves = below_moved b from.word k place (omega (arith, v)) h in (
      low (place from.word) (h from.word),
      (
        (low (place from.word) (h from.word), low (moved from.word k place to.word) (moves to.word)),
        low_lines (moved from.word k place) (suc k) ls b u moves (omega (arith, v)),
      ),
    )
  where
    low : (i : ℕ) → i < b → i < 2 ^ 32
    low i l = omega (arith, u, l)

few_lines : (place : Word → ℕ) (k : ℕ) (ls : List n.Line) → length (line_steps place k ls) ≤ 2 * length ls
few_lines place k [] = omega arith
few_lines place k (n.local s r f ∷ ls) = let h = few_lines place k ls in omega (arith, h)
few_lines place k (n.pass s from to c m x ∷ ls) = let h = few_lines (moved from.word k place) (suc k) ls in omega (arith, h)

low_shared : (xs : List Shared) → AllByRecursion HasLowPlaces (shared_steps xs)
low_shared [] = tt
low_shared (x ∷ xs) = (omega arith, low_shared xs)

few_shared : (xs : List Shared) → length (shared_steps xs) ≡ length xs
few_shared [] = refl
few_shared (x ∷ xs) = ap suc (few_shared xs)

low_roles : (i k : ℕ) (rs : List SWord) → i < 1000 → k + length rs < 1000 → AllByRecursion HasLowPlaces (role_steps i k rs)
low_roles i k [] u v = tt
low_roles i k (r ∷ rs) u v = (omega (arith, u), low_roles k (suc k) rs (omega (arith, v)) (omega (arith, v)))

few_roles : (i k : ℕ) (rs : List SWord) → length (role_steps i k rs) ≡ length rs
few_roles i k [] = refl
few_roles i k (r ∷ rs) = ap suc (few_roles k (suc k) rs)

chosen_below : (c : Bool) (i j b : ℕ) → i < b → j < b → (if c then i else j) < b
chosen_below true i j b u v = u
chosen_below false i j b u v = v

below_from : (k : ℕ) (rs : List SWord) (b : ℕ) → k + length rs < b → ArePlacesBelow b (places_from k rs)
below_from k [] b u w = omega (arith, u)
below_from k (r ∷ rs) b u w = chosen_below (bytes_eq r.word w) k (places_from (suc k) rs w) b (omega (arith, u)) (below_from (suc k) rs b (omega (arith, u)) w)

below_of : (rs : List SWord) (b : ℕ) → 2 + length rs < b → ArePlacesBelow b (places_of rs)
below_of [] b u w = omega (arith, u)
below_of (r ∷ rs) b u w = chosen (bytes_eq r.word w)
  where
    chosen : (c : Bool) → (if c then 0 else places_from 2 rs w) < b
    chosen true = omega (arith, u)
    chosen false = below_from 2 rs b (omega (arith, u)) w

fewer_others : (rs : List SWord) → length (others rs) ≤ length rs
fewer_others [] = omega arith
fewer_others (r ∷ rs) = omega arith

all_both : (xs ys : List Step) → AllByRecursion HasLowPlaces xs → AllByRecursion HasLowPlaces ys → AllByRecursion HasLowPlaces (xs ++ ys)
all_both [] ys h g = g
all_both (x ∷ xs) ys h g = (h.0, all_both xs ys h.1 g)

length_both : (xs ys : List Step) → length (xs ++ ys) ≡ length xs + length ys
length_both [] ys = omega arith
length_both (x ∷ xs) ys = let h = length_both xs ys in omega (arith, h)

low_steps : (x : n.Narration) → IsTellable x → AllByRecursion HasLowPlaces (honest_steps x)
low_steps x is =
    let o = fewer_others x.roles in
    let r = is.roles in
    let l = is.lines in
    all_both (shared_steps x.shared ++ role_steps 0 2 (others x.roles)) (line_steps (places_of x.roles) (2 + length (others x.roles)) x.lines)
    (all_both (shared_steps x.shared) (role_steps 0 2 (others x.roles)) (low_shared x.shared) (low_roles 0 2 (others x.roles) (omega arith) (omega (arith, o, r))))
    (low_lines (places_of x.roles) (2 + length (others x.roles)) x.lines 1000 (omega arith) (below_of x.roles 1000 (omega (arith, r))) (omega (arith, o, r, l)))

few_steps : (x : n.Narration) → IsTellable x → length (honest_steps x) ≤ 10000
few_steps x is =
    let o = fewer_others x.roles in
    let r = is.roles in
    let l = is.lines in
    let s = is.shared in
    let a = length_both (shared_steps x.shared ++ role_steps 0 2 (others x.roles)) (line_steps (places_of x.roles) (2 + length (others x.roles)) x.lines) in
    let b = length_both (shared_steps x.shared) (role_steps 0 2 (others x.roles)) in
    let c = few_shared x.shared in
    let d = few_roles 0 2 (others x.roles) in
    let e = few_lines (places_of x.roles) (2 + length (others x.roles)) x.lines in
    omega (arith, o, r, l, s, a, b, c, d, e)

-- ---- the file with them can be printed

scheduled : (f : Meant) (steps : List Step) (d : Option Rattle.spi_tree.specs.Trees.Deriv) → IsPrintable f d → length steps ≤ 10000 → AllByRecursion HasLowPlaces steps → IsPrintable (with_schedule f steps) d
scheduled f steps d is few low = record {
  version = is.version;
  words = is.words;
  distinct = is.distinct;
  process = is.process;
  opponent = is.opponent;
  few = is.few;
  schedule = (few, low);
  derivation = is.derivation;
}

abbrev pub NarrationReadsBack : Type 0
NarrationReadsBack = (x : n.Narration) (told : Meant) (text : List ℕ) → IsNarration x → IsWithin (whole_narration x) → AreKinds (kinds_in (whole_narration x)) → IsTellable x → IsTold x told → IsCanonicalText told text → length text ≤ limit → SpellsFile text told

pub reads_back : NarrationReadsBack
reads_back x told text formed within are tellable is canonical short =
    let wove = woven_formed x formed within are tellable.shared tellable.roles tellable.lines in
    let file = printable (woven x) is.file wove.0 wove.1 (tree_fit (woven x) wove.2) is.stands in
    let order = is.is.order in
    let few = subst (λ (ss : List Step). length ss ≤ 10000) (sym order) (few_steps x tellable) in
    let low = subst (AllByRecursion HasLowPlaces) (sym order) (low_steps x tellable) in
    printed_reads_back told (woven x).derivation text
    (subst (λ (f : Meant). IsPrintable f (woven x).derivation) (sym is.same) (scheduled is.file (map step is.honest.steps.items) (woven x).derivation file few low))
    canonical short
