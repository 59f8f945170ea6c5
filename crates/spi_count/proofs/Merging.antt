-- Counts that are gone over in the order of their keys, and what is left of them.
use Rattle.std.proofs.Common.{◌≡◌, ◌≢◌, refl, sym, ap, ◌∙◌, subst, ℕ, ◌+◌, ◌<◌, ⊎_elim, ◌⊎◌, inl, inr, List, [], ◌∷◌, Some, arith, true, false, eq-eqb, Less, Equal, Greater}
use Rattle.std.proofs.lemmas.Bool.{cases_eq, cases_order, ne_eqb}
use Rattle.std.proofs.lemmas.Cmp.{nat_cmp_total}
use Rattle.std.proofs.lemmas.Map.{lookup-none}
use Rattle.std.proofs.lemmas.Map.Entries.{none_below_head, lookup_head, lookup_tail}
use Rattle.std.proofs.lemmas.List.Elements.{recursion_from_All}
use Rattle.std.specs.Prelude.{eqb, if◌then◌else◌, unwrap_or}
use Rattle.std.specs.List.{All, AllByRecursion}
use Rattle.std.specs.List.Sorted.{IsStrictlySortedBy}
use Rattle.std.specs.Map.{lookup, keys_of}
use Rattle.std.specs.Cmp.{nat_cmp_is}
use Rattle.std.specs.Ordering.{nat_cmp, is_eq}
use Rattle.std.specs.BTreeMap.{BTreeMap, get, is_at, IsOrdered}
use Rattle.spi_count.specs.Counts.{ArePositive, count_of, IsNothing}

-- how high a key is counted in entries
abbrev pub left_at : List (ℕ × ℕ) → ℕ → ℕ
left_at es q = unwrap_or (lookup (is_at (nat_cmp q)) es) 0

-- the entries that are left, and what the counts so far and they sum up to
pub record Left (es : List (ℕ × ℕ)) (so_far whole : ℕ → ℕ) : Type 0 where
  pub positive : AllByRecursion (λ e. 0 < e.1) es
  pub ordered : IsStrictlySortedBy nat_cmp (keys_of es)
  pub sums : (q : ℕ) → so_far q + left_at es q ≡ whole q

pub starts : (m other : BTreeMap ℕ ℕ) (es : List (ℕ × ℕ)) → es ≡ other.entries → ArePositive other → IsOrdered nat_cmp other
    → All (λ e. get nat_cmp other e.0 ≡ Some e.1) other.entries
    → Left es (count_of m) (λ q. count_of m q + count_of other q)
starts m other es e p o f =
    subst (λ es. Left es (count_of m) (λ q. count_of m q + count_of other q)) (sym e)
    record { positive = recursion_from_All (λ e. 0 < e.1) other.entries (λ k d h. p _ _ (f k d h)); ordered = o; sums = λ q. refl }

-- the test of a key passes that key alone
is_here : (q k : ℕ) → q ≡ k → is_at (nat_cmp q) k ≡ true
is_here q k e = ap is_eq (sym (nat_cmp_is q k Equal e))

is_apart : (q k : ℕ) → q ≢ k → is_at (nat_cmp q) k ≡ false
is_apart q k ne = go (cases_order q k)
  where
    go : (q ≡ k) ⊎ ((q < k) ⊎ (k < q)) → is_at (nat_cmp q) k ≡ false
    go (inl e) = absurd (ne e)
    go (inr (inl l)) = ap is_eq (sym (nat_cmp_is q k Less l))
    go (inr (inr l)) = ap is_eq (sym (nat_cmp_is q k Greater l))

-- where no key is counted, there are no entries
pub no_entries : (m : BTreeMap ℕ ℕ) → ArePositive m → IsNothing m → m.entries ≡ []
no_entries m p n = go m.entries refl
  where
    go : (es : List (ℕ × ℕ)) → m.entries ≡ es → es ≡ []
    go [] e = refl
    go ((k, by) ∷ es) e =
        let at : get nat_cmp m k ≡ Some by = ap (lookup (is_at (nat_cmp k))) e ∙ lookup_head (is_at (nat_cmp k)) (k, by) es (is_here k k refl) in
        let z : by ≡ 0 = sym (ap (λ r. unwrap_or r 0) at) ∙ n k in
        let l = p k by at in
        absurd (omega (arith, l, z))

-- the first key stands nowhere else
none_later : (k by : ℕ) (es : List (ℕ × ℕ)) → IsStrictlySortedBy nat_cmp (keys_of ((k, by) ∷ es)) → left_at es k ≡ 0
unfolding IsStrictlySortedBy
none_later k by [] o = refl
none_later k by (e ∷ es) o = ap (λ r. unwrap_or r 0) (lookup-none (is_at (nat_cmp k)) (e ∷ es) (none_below_head nat_cmp_total k e es o.1 o.0.0))

-- what is left at a key, with the first entry and without it
pub left_first : (k by : ℕ) (es : List (ℕ × ℕ)) → IsStrictlySortedBy nat_cmp (keys_of ((k, by) ∷ es)) → (q : ℕ)
    → ((q ≡ k) × (left_at ((k, by) ∷ es) q ≡ by) × (left_at es q ≡ 0)) ⊎ ((q ≢ k) × (left_at ((k, by) ∷ es) q ≡ left_at es q))
left_first k by es o q = ⊎_elim (λ e. inl (e, first e, later e)) (λ d. inr (d, ap (λ r. unwrap_or r 0) (lookup_tail (is_at (nat_cmp q)) (k, by) es (is_apart q k d)))) (cases_eq q k)
  where
    first : q ≡ k → left_at ((k, by) ∷ es) q ≡ by
    first e = ap (λ r. unwrap_or r 0) (lookup_head (is_at (nat_cmp q)) (k, by) es (is_here q k e))

    later : q ≡ k → left_at es q ≡ 0
    later e = ap (left_at es) e ∙ none_later k by es o

-- the first entry's count goes over
pub goes : (k by : ℕ) (es : List (ℕ × ℕ)) (so_far new whole : ℕ → ℕ) → Left ((k, by) ∷ es) so_far whole
    → ((q : ℕ) → new q ≡ (if eqb k q then so_far k + by else so_far q)) → Left es new whole
unfolding IsStrictlySortedBy
goes k by es so_far new whole h s = record { positive = h.positive.1; ordered = h.ordered.1; sums = λ q. at q (cases_eq q k) }
  where
    at : (q : ℕ) → (q ≡ k) ⊎ (q ≢ k) → new q + left_at es q ≡ whole q
    at q (inl e) =
        let n = s k ∙ ap (λ t. if t then so_far k + by else so_far k) (eq-eqb k k refl) in
        let z = none_later k by es h.ordered in
        let w = h.sums k in
        let l = ap (λ r. unwrap_or r 0) (lookup_head (is_at (nat_cmp k)) (k, by) es (is_here k k refl)) in
        ap (λ q. new q + left_at es q) e ∙ (let g : new k + left_at es k ≡ whole k = omega (arith, n, z, w, l) in g) ∙ ap whole (sym e)
    at q (inr d) =
        let n = s q ∙ ap (λ t. if t then so_far k + by else so_far q) (ne_eqb k q (λ e. d (sym e))) in
        let w = h.sums q in
        let l = ap (λ r. unwrap_or r 0) (lookup_tail (is_at (nat_cmp q)) (k, by) es (is_apart q k d)) in
        omega (arith, n, w, l)
