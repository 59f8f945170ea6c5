-- Marks that go to premises.
use Rattle.std.proofs.Common.{◌≡◌, refl, sym, ap, subst, ◌∙◌, ℕ, zero, suc, ◌+◌, ◌<◌, ◌≤◌, ◌-◌, Bool, true, false, ◌⊎◌, inl, inr, ⊎_elim, List, [], ◌∷◌, Option, Some, slice_get, get_or, set, length, replicate, arith}
use Rattle.std.proofs.lemmas.List.{length-set, length-replicate}
use Rattle.std.proofs.lemmas.Option.{slice_get_within, get_or_from_slice_get}
use Rattle.spi_horn.specs.declared.rules.Rule.{Rule}
use Rattle.spi_horn.specs.declared.rules.Reached.{Reached}
use Rattle.spi_horn.specs.declared.rules.Why.{Why}
use Rattle.spi_horn.specs.declared.rules.Why.TheVariants.{Start, ByRule}
use Rattle.spi_horn.specs.Leading.{IsPlacedAt, StandsBefore, IsReason, IsOrder}
use Rattle.spi_horn.specs.Needs.{IsMarked, MarksPlace, IsPremiseUse, SpreadsMarks, IsSpread}
use Rattle.spi_horn.proofs.Lookups.{get_set_same, set_cases}
use Rattle.spi_horn.proofs.Trying.{same_or_less}

pub one_place : (places : List (Option ℕ)) (n s t : ℕ) → IsPlacedAt places n s → IsPlacedAt places n t → s ≡ t
one_place places n s t e f = let w : Some (Some s) ≡ Some (Some t) = sym e ∙ f in cc

kept_mark : (marks : List Bool) (n i : ℕ) → IsMarked marks i → IsMarked (set marks n true) i
kept_mark [] n i m = cc
kept_mark (b ∷ bs) zero zero m = refl
kept_mark (b ∷ bs) zero (suc i) m = m
kept_mark (b ∷ bs) (suc n) zero m = m
kept_mark (b ∷ bs) (suc n) (suc i) m = kept_mark bs n i m

-- a premise has an earlier place
place_before : (rules : List Rule) (start : List ℕ) (places : List (Option ℕ)) (u n k : ℕ) (w : Why) (r : Rule) (s : ℕ) → w ≡ ByRule k → IsReason rules start places u n w → slice_get rules k ≡ Some r → IsPlacedAt places r.first s ⊎ IsPlacedAt places r.second s → s < u
place_before rules start places u n k (Start j) r s e i f g = cc
place_before rules start places u n k (ByRule k') r s e (r', e', h, (a, la, sa), (b, lb, sb)) f g =
    let q : k' ≡ k = cc in
    let p : Some r' ≡ Some r = sym e' ∙ (ap (slice_get rules) q ∙ f) in
    let same : r ≡ r' = cc in
    ⊎_elim
    (λ x. let y : IsPlacedAt places r'.first s = ap (λ z. slice_get places z.first) (sym same) ∙ x in let z = one_place places r'.first s a y sa in omega (arith, z, la))
    (λ x. let y : IsPlacedAt places r'.second s = ap (λ z. slice_get places z.second) (sym same) ∙ x in let z = one_place places r'.second s b y sb in omega (arith, z, lb))
    g

pub use_before : (rules : List Rule) (start : List ℕ) (order : List Reached) (places : List (Option ℕ)) (s u : ℕ) → IsOrder rules start order places → IsPremiseUse rules order places s u → s < u
use_before rules start order places s u o (x, k, r, e, w, f, g) = place_before rules start places u x.number k x.why r s w (o.reasons u x e) f g

-- the rule of a reason, as it is read
rule_of : (rules : List Rule) (start : List ℕ) (places : List (Option ℕ)) (t n k : ℕ) (w : Why) → w ≡ ByRule k → IsReason rules start places t n w → (r : Rule) × (slice_get rules k ≡ Some r) × StandsBefore places t r.first × StandsBefore places t r.second
rule_of rules start places t n k (Start j) e i = cc
rule_of rules start places t n k (ByRule k') e (r, f, g, a, b) = let q : k' ≡ k = cc in (r, ap (slice_get rules) (sym q) ∙ f, a, b)

pub rule_read : (rules : List Rule) (start : List ℕ) (places : List (Option ℕ)) (t n k : ℕ) (w : Why) (d : Rule) → w ≡ ByRule k → IsReason rules start places t n w → (slice_get rules k ≡ Some (get_or rules k d)) × StandsBefore places t (get_or rules k d).first × StandsBefore places t (get_or rules k d).second
rule_read rules start places t n k w d e i =
    let (r, f, a, b) = rule_of rules start places t n k w e i in
    let q : r ≡ get_or rules k d = sym (get_or_from_slice_get rules k r d f) in
    let P : Rule → Type 0 = λ x. (slice_get rules k ≡ Some x) × StandsBefore places t x.first × StandsBefore places t x.second in
    subst P q (f, a, b)

-- the rule that gives the number at a place of an order
pub rule_at : (rules : List Rule) (start : List ℕ) (order : List Reached) (places : List (Option ℕ)) (t k : ℕ) (x : Reached) (d : Rule) → IsOrder rules start order places → slice_get order t ≡ Some x → x.why ≡ ByRule k → (slice_get rules k ≡ Some (get_or rules k d)) × StandsBefore places t (get_or rules k d).first × StandsBefore places t (get_or rules k d).second
rule_at rules start order places t k x d o e w = rule_read rules start places t x.number k x.why d w (o.reasons t x e)

pub before_within : (places : List (Option ℕ)) (t m n : ℕ) → t ≤ m → StandsBefore places t n → StandsBefore places m n
before_within places t m n le (s, lt, e) = (s, omega (arith, lt, le), e)

pub marks_length : (places : List (Option ℕ)) (n : ℕ) (marks marks' : List Bool) → MarksPlace places n marks marks' → length marks' ≡ length marks
marks_length places n marks marks' (s, st, e) = ap length e ∙ length-set marks s true

pub spread_not : (rules : List Rule) (order : List Reached) (places : List (Option ℕ)) (t : ℕ) (marks : List Bool) → (IsMarked marks t → ⊥) → SpreadsMarks rules order places t marks marks
spread_not rules order places t marks f = record {
  count = refl;
  kept = λ s m. m;
  premises = λ s m u. absurd (f m);
  only = λ s m. inl m;
}

pub spread_start : (rules : List Rule) (order : List Reached) (places : List (Option ℕ)) (t j : ℕ) (x : Reached) (marks : List Bool) → slice_get order t ≡ Some x → x.why ≡ Start j → SpreadsMarks rules order places t marks marks
spread_start rules order places t j x marks e w = record {
  count = refl;
  kept = λ s m. m;
  premises = λ s m (y, k, r, f, v, g, h). let p : Some x ≡ Some y = sym e ∙ f in let q : x ≡ y = cc in
      let i : Start j ≡ ByRule k = sym w ∙ (ap (λ z. z.why) q ∙ v) in cc;
  only = λ s m. inl m;
}

pub spread_rule : (rules : List Rule) (order : List Reached) (places : List (Option ℕ)) (t k : ℕ) (x : Reached) (r : Rule) (marks mid marks' : List Bool) → slice_get order t ≡ Some x → x.why ≡ ByRule k → slice_get rules k ≡ Some r → IsMarked marks t → MarksPlace places r.first marks mid → MarksPlace places r.second mid marks' → (StandsBefore places (length marks) r.first × StandsBefore places (length marks) r.second) → SpreadsMarks rules order places t marks marks'
spread_rule rules order places t k x r marks mid marks' e w f m (a, sa, ea) (b, sb, eb) ((a', la, sa'), (b', lb, sb')) =
    let sa_same = one_place places r.first a a' sa sa' in
    let sb_same = one_place places r.second b b' sb sb' in
    let first_kept : (s : ℕ) → IsMarked marks s → IsMarked mid s = λ s h. subst (λ l. IsMarked l s) (sym ea) (kept_mark marks a s h) in
    let second_kept : (s : ℕ) → IsMarked mid s → IsMarked marks' s = λ s h. subst (λ l. IsMarked l s) (sym eb) (kept_mark mid b s h) in
    let len_mid : length mid ≡ length marks = ap length ea ∙ length-set marks a true in
    let at_a : IsMarked mid a = subst (λ l. IsMarked l a) (sym ea) (get_set_same marks a true (omega (arith, sa_same, la))) in
    let at_b : IsMarked marks' b = subst (λ l. IsMarked l b) (sym eb) (get_set_same mid b true (omega (arith, sb_same, lb, len_mid))) in
    record {
      count = ap length eb ∙ (length-set mid b true ∙ len_mid);
      kept = λ s h. second_kept s (first_kept s h);
      premises = λ s h (y, k', r', f', w', g', i).
          let p : Some x ≡ Some y = sym e ∙ f' in let q : x ≡ y = cc in
          let v : ByRule k ≡ ByRule k' = sym w ∙ (ap (λ z. z.why) q ∙ w') in
          let kk : k ≡ k' = cc in
          let rr : Some r' ≡ Some r = sym g' ∙ (ap (slice_get rules) (sym kk) ∙ f) in
          let same : r' ≡ r = cc in
          ⊎_elim
          (λ z. let at : IsPlacedAt places r.first s = ap (λ z'. slice_get places z'.first) (sym same) ∙ z in
          second_kept s (subst (λ n. IsMarked mid n) (one_place places r.first a s sa at) at_a))
          (λ z. let at : IsPlacedAt places r.second s = ap (λ z'. slice_get places z'.second) (sym same) ∙ z in
          subst (λ n. IsMarked marks' n) (one_place places r.second b s sb at) at_b)
          i;
      only = λ s h. ⊎_elim
          (λ (p, q). inr (m, (x, k, r, e, w, f, inr (subst (λ n. IsPlacedAt places r.second n) (sym p) sb))))
          (λ i. ⊎_elim
          (λ (p, q). inr (m, (x, k, r, e, w, f, inl (subst (λ n. IsPlacedAt places r.first n) (sym p) sa))))
          (λ j. inl j)
          (set_cases marks a true s true (subst (λ l. IsMarked l s) ea i)))
          (set_cases mid b true s true (subst (λ l. IsMarked l s) eb h));
    }

-- one place more
pub spread_step : (rules : List Rule) (start : List ℕ) (order : List Reached) (places : List (Option ℕ)) (goal t : ℕ) (marks marks' : List Bool) → IsOrder rules start order places → SpreadsMarks rules order places t marks marks' → IsSpread rules order places goal (t + 1) marks → IsSpread rules order places goal t marks'
spread_step rules start order places goal t marks marks' o p i = record {
  target = p.kept goal i.target;
  closed = λ s u le m us. ⊎_elim
      (λ (q : t ≡ u).
      let us' : IsPremiseUse rules order places s t = subst (λ v. IsPremiseUse rules order places s v) (sym q) us in
      ⊎_elim (λ a. p.premises s (subst (λ v. IsMarked marks v) (sym q) a) us') (λ (a, b). p.premises s a us') (p.only u m))
      (λ (q : t < u). ⊎_elim
      (λ a. p.kept s (i.closed s u (omega (arith, q)) a us))
      (λ (a, b). let lt = use_before rules start order places u t o b in absurd (omega (arith, q, lt)))
      (p.only u m))
      (same_or_less t u le);
  used = λ s m. ⊎_elim
      (λ a. ⊎_elim (λ e. inl e) (λ (u, b, us). inr (u, p.kept u b, us)) (i.used s a))
      (λ (a, us). inr (t, p.kept t a, us))
      (p.only s m);
}

pub spread_back : (rules : List Rule) (start : List ℕ) (order : List Reached) (places : List (Option ℕ)) (goal t : ℕ) (marks marks' : List Bool) → 0 < t → IsOrder rules start order places → SpreadsMarks rules order places (t - 1) marks marks' → IsSpread rules order places goal t marks → IsSpread rules order places goal (t - 1) marks'
spread_back rules start order places goal t marks marks' lt o p i =
    let e : t - 1 + 1 ≡ t = omega (arith, lt) in
    spread_step rules start order places goal (t - 1) marks marks' o p (subst (λ n. IsSpread rules order places goal n marks) (sym e) i)

none_marked : (n i : ℕ) → IsMarked (replicate n false) i → ⊥
none_marked zero i e = cc
none_marked (suc n) zero e = cc
none_marked (suc n) (suc i) e = none_marked n i e

-- at the beginning the goal alone is marked
pub spread_first : (rules : List Rule) (order : List Reached) (places : List (Option ℕ)) (goal n : ℕ) (marks : List Bool) → goal < n → marks ≡ set (replicate n false) goal true → IsSpread rules order places goal (length marks) marks
spread_first rules order places goal n marks lt e =
    let all : length (replicate n false) ≡ n = length-replicate n false in
    record {
      target = subst (λ b. IsMarked b goal) (sym e) (get_set_same (replicate n false) goal true (omega (arith, lt, all)));
      closed = λ s u le m us. let w = slice_get_within marks u true m in absurd (omega (arith, w, le));
      used = λ s m. ⊎_elim (λ (a, b). inl a) (λ a. absurd (none_marked n s a)) (set_cases (replicate n false) goal true s true (subst (λ b. IsMarked b s) e m));
    }
