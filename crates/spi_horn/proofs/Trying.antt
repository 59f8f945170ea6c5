-- Rules that are tried.
use Rattle.std.proofs.Common.{◌≡◌, refl, sym, ap, subst, ◌∙◌, ℕ, zero, suc, ◌+◌, ◌<◌, ◌≤◌, ◌⊎◌, inl, inr, ⊎_elim, List, [], Option, Some, slice_get, length, arith}
use Rattle.std.proofs.lemmas.Option.{slice_get_within}
use Rattle.spi_horn.specs.declared.rules.Rule.{Rule}
use Rattle.spi_horn.specs.declared.rules.Reached.{Reached}
use Rattle.spi_horn.specs.declared.rules.Why.{Why}
use Rattle.spi_horn.specs.declared.rules.Why.TheVariants.{Start, ByRule}
use Rattle.spi_horn.specs.Leading.{IsPlacedAt, HasSomePlace, StandsBefore, IsReason, IsOrder, Derived, derived_start, derived_rule, IsLeastModel}
use Rattle.spi_horn.specs.Finding.{Tries, IsLeftFrom, IsLookedThrough, KeepsPlaces}
use Rattle.spi_horn.proofs.Placing.{good_add, added_stands, added_keeps}

pub same_or_less : (i s : ℕ) → i ≤ s → (i ≡ s) ⊎ (i < s)
same_or_less zero zero le = inl refl
same_or_less zero (suc s) le = inr (omega arith)
same_or_less (suc i) zero le = absurd (omega arith)
same_or_less (suc i) (suc s) le = ⊎_elim (λ e. inl (ap suc e)) (λ lt. inr (omega arith)) (same_or_less i s (omega arith))

-- what is left from i on, where the one at i is k
left_more : (ks : List ℕ) (i j k : ℕ) → slice_get ks i ≡ Some k → IsLeftFrom ks i j → (j ≡ k) ⊎ IsLeftFrom ks (i + 1) j
left_more ks i j k e (s, le, f) = ⊎_elim
    (λ (q : i ≡ s). let g : Some j ≡ Some k = sym f ∙ (ap (slice_get ks) (sym q) ∙ e) in let h : j ≡ k = cc in inl h)
    (λ (q : i < s). inr (s, omega (arith, q), f))
    (same_or_less i s le)

-- other rules are left, where each that isn't any more has given what it gives
good_left : (rules : List Rule) (start : List ℕ) (order : List Reached) (places : List (Option ℕ)) (c : ℕ) (left left' : List ℕ) (i i' : ℕ) → ((j : ℕ) (r : Rule) → slice_get rules j ≡ Some r → HasSomePlace places r.first → HasSomePlace places r.second → IsLeftFrom left i j → HasSomePlace places r.gives ⊎ IsLeftFrom left' i' j) → IsLookedThrough rules start order places c left i → IsLookedThrough rules start order places c left' i'
good_left rules start order places c left left' i i' f g = record {
  ordered = g.ordered;
  count = g.count;
  ahead = g.ahead;
  done = λ j r s t a x y. ⊎_elim (λ z. inl z)
      (λ z. ⊎_elim (λ u. inr (inl u))
      (λ u. ⊎_elim (λ v. inr (inr (inl v)))
      (λ v. ⊎_elim (λ w. inl w) (λ w. inr (inr (inr w))) (f j r a (s, x) (t, y) v)) u) z)
      (g.done j r s t a x y);
}

-- the rule at i is passed over, where it asks for nothing more
good_skip : (rules : List Rule) (start : List ℕ) (order : List Reached) (places : List (Option ℕ)) (c : ℕ) (left : List ℕ) (i k : ℕ) (q : Rule) → slice_get left i ≡ Some k → slice_get rules k ≡ Some q → (HasSomePlace places q.first → HasSomePlace places q.second → HasSomePlace places q.gives) → IsLookedThrough rules start order places c left i → IsLookedThrough rules start order places c left (i + 1)
good_skip rules start order places c left i k q e f h g = good_left rules start order places c left left i (i + 1)
    (λ j r a x y v. ⊎_elim
    (λ same. let w : Some r ≡ Some q = sym a ∙ (ap (slice_get rules) same ∙ f) in
    let eq : q ≡ r = cc in
    let P : Rule → Type 0 = λ p. HasSomePlace places p.first → HasSomePlace places p.second → HasSomePlace places p.gives in
    inl (subst P eq h x y))
    (λ w. inr w)
    (left_more left i j k e v)) g

before_all : {rules : List Rule} {start : List ℕ} {order : List Reached} {places : List (Option ℕ)} (n : ℕ) → IsOrder rules start order places → HasSomePlace places n → StandsBefore places (length order) n
before_all {order = order} n o (t, e) = let (x, f, g) = o.placed n t e in (t, slice_get_within order t x f, e)

pub good_try : (rules : List Rule) (start : List ℕ) (order order' : List Reached) (places places' : List (Option ℕ)) (c : ℕ) (left : List ℕ) (i k : ℕ) (q : Rule) → slice_get left i ≡ Some k → slice_get rules k ≡ Some q → Tries q k order places order' places' → IsLookedThrough rules start order places c left i → IsLookedThrough rules start order' places' c left (i + 1)
good_try rules start order order' places places' c left i k q e f t g =
    let P : List Reached → Type 0 = λ x. IsLookedThrough rules start x places' c left (i + 1) in
    let Q : List (Option ℕ) → Type 0 = λ x. IsLookedThrough rules start order x c left (i + 1) in
    ⊎_elim
    (λ (h, a, b). subst P (sym a) (subst Q (sym b) (good_skip rules start order places c left i k q e f (λ x y. absurd (h x y)) g)))
    (λ (a, b, s). good_skip rules start order' places' c left i k q e f (λ x y. added_stands order order' places places' q.gives (ByRule k) s)
    (good_add rules start order order' places places' c left i q.gives (ByRule k) (q, f, refl, before_all q.first g.ordered a, before_all q.second g.ordered b) s g))
    t

pub tried_keeps : (order order' : List Reached) (places places' : List (Option ℕ)) (q : Rule) (k : ℕ) → Tries q k order places order' places' → KeepsPlaces places places'
tried_keeps order order' places places' q k t =
    let P : List (Option ℕ) → Type 0 = λ x. KeepsPlaces places x in
    ⊎_elim (λ (h, a, b). subst P (sym b) (refl, λ n s m. m)) (λ (a, b, s). added_keeps order order' places places' q.gives (ByRule k) s) t

-- nothing is left of a list behind its end
pub good_end : (rules : List Rule) (start : List ℕ) (order : List Reached) (places : List (Option ℕ)) (c : ℕ) (left : List ℕ) (i : ℕ) → length left ≤ i → IsLookedThrough rules start order places c left i → IsLookedThrough rules start order places c [] 0
good_end rules start order places c left i le g = good_left rules start order places c left [] i 0
    (λ j r a x y (v, w, h). let lt = slice_get_within left v j h in absurd (omega (arith, le, lt, w))) g

-- a number of the order has a list, where there is one for each place
pub has_list : {A : Type 0} (rules : List Rule) (start : List ℕ) (order : List Reached) (places before : List (Option ℕ)) (lists : List A) (c : ℕ) (x : Reached) → IsOrder rules start order places → KeepsPlaces before places → length lists ≡ length before → slice_get order c ≡ Some x → x.number < length lists
has_list rules start order places before lists c x o keeps same e =
    let within = slice_get_within places x.number (Some c) (o.stands c x e) in
    let k = keeps.0 in
    omega (arith, within, k, same)

-- the number at the cursor is looked at, and the rules that wait for it are left
pub good_next : (rules : List Rule) (start : List ℕ) (order : List Reached) (places : List (Option ℕ)) (c : ℕ) (ks : List ℕ) (x : Reached) → slice_get order c ≡ Some x → ((k : ℕ) (r : Rule) → slice_get rules k ≡ Some r → (r.first ≡ x.number) ⊎ (r.second ≡ x.number) → (j : ℕ) × (slice_get ks j ≡ Some k)) → IsLookedThrough rules start order places c [] 0 → IsLookedThrough rules start order places (c + 1) ks 0
good_next rules start order places c ks x e f g =
    let lt = slice_get_within order c x e in
    let same : (n s : ℕ) → IsPlacedAt places n s → c ≡ s → n ≡ x.number = λ n s h q.
    let (y, i, p) = g.ordered.placed n s h in
    let a : Some y ≡ Some x = sym i ∙ (ap (slice_get order) (sym q) ∙ e) in
    let b : y ≡ x = cc in
    sym p ∙ ap (λ z. z.number) b in
    record {
      ordered = g.ordered;
      count = g.count;
      ahead = omega (arith, lt);
      done = λ k r s t a h i. ⊎_elim (λ z. inl z)
          (λ z. ⊎_elim
          (λ u. ⊎_elim
          (λ q. let (j, p) = f k r a (inl (same r.first s h q)) in inr (inr (inr (j, omega arith, p))))
          (λ q. inr (inl (omega (arith, q))))
          (same_or_less c s u))
          (λ u. ⊎_elim
          (λ v. ⊎_elim
          (λ q. let (j, p) = f k r a (inr (same r.second t i q)) in inr (inr (inr (j, omega arith, p))))
          (λ q. inr (inr (inl (omega (arith, q)))))
          (same_or_less c t v))
          (λ (v, w, p). let p' : slice_get [] v ≡ Some k = p in cc) u) z)
          (g.done k r s t a h i);
    }

derived_by : (rules : List Rule) (start : List ℕ) (places : List (Option ℕ)) (t n : ℕ) (why : Why) → ((m s : ℕ) → s < t → IsPlacedAt places m s → Derived rules start m) → IsReason rules start places t n why → Derived rules start n
derived_by rules start places t n (Start j) f e = derived_start j e
derived_by rules start places t n (ByRule k) f (r, e, g, (s, p, i), (u, q, h)) = subst (λ m. Derived rules start m) g (derived_rule k r e (f r.first s p i) (f r.second u q h))

-- what has a place is derived, since reasons look back
derived_below : (rules : List Rule) (start : List ℕ) (order : List Reached) (places : List (Option ℕ)) → IsOrder rules start order places → (b n t : ℕ) → t < b → IsPlacedAt places n t → Derived rules start n
derived_below rules start order places o zero n t lt e = absurd (omega (arith, lt))
derived_below rules start order places o (suc b) n t lt e =
    let (x, f, g) = o.placed n t e in
    subst (λ m. Derived rules start m) g (derived_by rules start places t x.number x.why
    (λ m s less h. derived_below rules start order places o b m s (omega (arith, lt, less)) h) (o.reasons t x f))

-- at the end the order has exactly what the rules lead to
pub least : (rules : List Rule) (start : List ℕ) (order : List Reached) (places : List (Option ℕ)) → ((j n : ℕ) → slice_get start j ≡ Some n → HasSomePlace places n) → IsLookedThrough rules start order places (length order) [] 0 → IsLeastModel rules start places
least rules start order places f g =
    let below : (n t : ℕ) → IsPlacedAt places n t → t < length order = λ n t h. let (x, e, i) = g.ordered.placed n t h in slice_get_within order t x e in
    record {
      started = f;
      closed = λ k r e (s, a) (t, b). ⊎_elim (λ z. z)
          (λ z. ⊎_elim (λ u. let lt = below r.first s a in absurd (omega (arith, lt, u)))
          (λ u. ⊎_elim (λ v. let lt = below r.second t b in absurd (omega (arith, lt, v)))
          (λ (v, w, p). let q : slice_get [] v ≡ Some k = p in cc) u) z)
          (g.done k r s t e a b);
      derived = λ n (t, e). derived_below rules start order places g.ordered (suc t) n t (omega arith) e;
    }
