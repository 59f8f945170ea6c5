-- The numbers of names, sorted and swept.
use Rattle.std.proofs.Common.{◌≡◌, ℕ, zero, suc, ◌+◌, ◌^◌, ◌<◌, ◌≤◌, List, [], ◌∷◌, ◌++◌, length, take, get_or, Option, Some, None, Result, Ok, Err, refl, sym, ap, ◌∙◌, subst, arith, ⊎_elim, ◌⊎◌, inl, inr}
use Rattle.std.specs.Prelude.{codes, slice_get, IfOk, MatchOption}
use Rattle.std.specs.Fmt.{decimal}
use Rattle.std.specs.Str.Parse.{ParsesUnsigned, digits_value}
use Rattle.std.specs.List.{Contains}
use Rattle.std.specs.List.Sorted.{IsNonDecreasing, IsPermutation}
use Rattle.std.proofs.lemmas.Fmt.{decimal_is_IsNumeral_wide, parse-decimal_wide}
use Rattle.std.proofs.lemmas.Bool.{cases_lt}
use Rattle.std.proofs.Math.Seq.{take-length}
use Rattle.std.proofs.lemmas.List.{append_cancel_left, take_more, length-take-le, get_or-take, length-append}
use Rattle.std.proofs.lemmas.List.Elements.{Contains-append_left, Contains-push, Contains-push_cases}
use Rattle.std.proofs.lemmas.List.Sorted.{Contains-permutation, IsPermutation-sym, length_permutation}
use Rattle.spi_show.specs.Spelled.{IsApart, IsShift, IsNumbered, IsLeastBehind}
use Rattle.spi_show.specs.Shifts.{IsDecimal, IsNumber, with_least, IsNumberTaken, AreWordNumbers, IsSwept, IsLeastBeside}

-- a number by its digits
pub no_digits : {E : Type 0} (ds : List ℕ) (e : E) (r : Result ℕ E) → r ≡ Err e → ParsesUnsigned 128 10 ds r → IsDecimal ds None
no_digits ds e r f p n l = (λ q. absurd (cc q), λ q. let g = parse-decimal_wide 128 n ds r l (omega arith) q p in absurd (failed n e r g f))
  where
    failed : {E : Type 0} (n : ℕ) (e : E) (r : Result ℕ E) → r ≡ Ok n → r ≡ Err e → ⊥
    failed n e r p q = absurd (cc)

pub own_digits : (ds : List ℕ) (m : ℕ) → m < 2 ^ 128 → decimal m ≡ ds → IsDecimal ds (Some m)
own_digits ds m h f n l = (
  λ q. let e : m ≡ n = cc in sym f ∙ ap decimal e,
  λ q. let e : m ≡ n = sym (decimal_is_IsNumeral_wide m (omega arith)).1 ∙ ap (digits_value 10) (f ∙ q) ∙ (decimal_is_IsNumeral_wide n (omega arith)).1 in ap Some e,
)

un_ok : {E : Type 0} (m n : ℕ) (r : Result ℕ E) → r ≡ Ok m → r ≡ Ok n → m ≡ n
un_ok m n r p q = cc

pub other_digits : {E : Type 0} (ds : List ℕ) (m : ℕ) (r : Result ℕ E) → r ≡ Ok m → ParsesUnsigned 128 10 ds r → (decimal m ≡ ds → ⊥) → IsDecimal ds None
other_digits ds m r f p w n l = (
  λ q. absurd (cc q),
  λ q. absurd (w (ap decimal (un_ok m n r f (parse-decimal_wide 128 n ds r l (omega arith) q p)) ∙ sym q)),
)

ok_digits : {E : Type 0} (ds : List ℕ) (m : ℕ) (r : Result ℕ E) → r ≡ Ok m → ParsesUnsigned 128 10 ds r → m < 2 ^ 128
ok_digits ds m (Ok x) f p = let e : x ≡ m = cc in omega (arith, e, p.1, p.0.1)
ok_digits ds m (Err e) f p = absurd (cc f)

-- the number that was read, if it is written so
pub written_digits : {E F : Type 0} (ds : List ℕ) (m : ℕ) (r : Result ℕ E) (q : Result (Option ℕ) F) → r ≡ Ok m → ParsesUnsigned 128 10 ds r → IfOk q (λ o. MatchOption o (decimal m ≡ ds → ⊥) (λ n. (n ≡ m) × (decimal m ≡ ds))) → IfOk q (λ o. IsDecimal ds o)
written_digits ds m r (Ok None) f p w = other_digits ds m r f p w
written_digits ds m r (Ok (Some n)) f p w = subst (λ n. IsDecimal ds (Some n)) (sym w.0) (own_digits ds m (ok_digits ds m r f p) w.1)
written_digits ds m r (Err e) f p w = tt

-- behind a prefix
number_behind : (prefix word ds : List ℕ) (o : Option ℕ) → word ≡ prefix ++ ds → IsDecimal ds o → IsNumber prefix word o
number_behind prefix word ds o f d n l = (
  λ q. f ∙ ap (λ l. prefix ++ l) ((d n l).0 q),
  λ q. (d n l).1 (append_cancel_left prefix ds (decimal n) (sym f ∙ q)),
)

pub number_if : {E : Type 0} (prefix word ds : List ℕ) (r : Result (Option ℕ) E) → word ≡ prefix ++ ds → IfOk r (λ o. IsDecimal ds o) → IfOk r (λ o. IsNumber prefix word o)
number_if prefix word ds (Ok o) f d = number_behind prefix word ds o f d
number_if prefix word ds (Err e) f d = d

-- one word more
get_at : {A : Type 0} (xs : List A) (i : ℕ) (x : A) → x ≡ get_or xs i x → i < length xs → slice_get xs i ≡ Some x
get_at [] i x e l = absurd (omega arith)
get_at (y ∷ xs) zero x e l = ap Some (sym e)
get_at (y ∷ xs) (suc i) x e l = get_at xs i x e (omega arith)

pub numbers_next : (prefix : List ℕ) (words : List (List ℕ)) (i : ℕ) (old new : List ℕ) (w : List ℕ) (o : Option ℕ) → AreWordNumbers prefix words i old → w ≡ get_or words i w → i < length words → IsNumber prefix w o → new ≡ with_least old o → AreWordNumbers prefix words (i + 1) new
numbers_next prefix words i old new w o a e l d f = subst (AreWordNumbers prefix words (i + 1)) (sym f) (by o d)
  where
    at : slice_get words i ≡ Some w
    at = get_at words i w e l

    more : (n : ℕ) → IsNumberTaken prefix words i n → IsNumberTaken prefix words (i + 1) n
    more n t = (t.0, omega (arith, t.1), t.2)

    -- the word at i, or one before it
    last : (n : ℕ) → IsNumberTaken prefix words (i + 1) n → (IsNumberTaken prefix words i n) ⊎ (w ≡ prefix ++ decimal n)
    last n t = ⊎_elim (λ (h : t.0 < i). inl (t.0, h, t.2)) (λ (h : i ≤ t.0). let z : t.0 ≡ i = omega (arith, t.1) in let q : Some w ≡ Some (prefix ++ decimal n) = sym at ∙ ap (slice_get words) (sym z) ∙ t.2 in inr (unsome q)) (cases_lt t.0 i)
      where
        unsome : {x y : List ℕ} → Some x ≡ Some y → x ≡ y
        unsome q = cc

    by : (o : Option ℕ) → IsNumber prefix w o → AreWordNumbers prefix words (i + 1) (with_least old o)
    by None d = record {
      told = λ n l. (λ c. more n ((a.told n l).0 c), λ t. ⊎_elim (λ s. (a.told n l).1 s) (λ q. absurd (cc ((d n l).1 q))) (last n t));
      few = omega (arith, a.few);
    }
    by (Some m) d = record {
      told = λ n l. (
        λ c. ⊎_elim (λ s. more n ((a.told n l).0 s)) (λ (q : m ≡ n). let g : IsNumberTaken prefix words (i + 1) n = (i, omega arith, at ∙ ap Some ((d n l).0 (ap Some q))) in g) (Contains-push_cases old m n c),
        λ t. ⊎_elim (λ s. Contains-append_left old (m ∷ []) n ((a.told n l).1 s)) (λ q. let g : m ≡ n = cc ((d n l).1 q) in subst (λ y. Contains (old ++ y ∷ []) n) (sym g) (Contains-push old n)) (last n t),
      );
      few = omega (arith, a.few, length-append old (m ∷ []));
    }

-- what is read within a list doesn't depend on what is read past it
get_any : (xs : List ℕ) (i : ℕ) (d e : ℕ) → i < length xs → get_or xs i d ≡ get_or xs i e
get_any [] i d e l = absurd (omega arith)
get_any (x ∷ xs) zero d e l = refl
get_any (x ∷ xs) (suc i) d e l = get_any xs i d e (omega arith)

-- one number more
module _ (ns : List ℕ) (i m : ℕ) (up : IsNonDecreasing ns) (e : m ≡ get_or ns i m) (l : i < length ns) where
  -- the first i numbers, and this one
  taken : take (i + 1) ns ≡ take i ns ++ m ∷ []
  taken = take_more ns i m l ∙ ap (λ y. take i ns ++ y ∷ []) (sym e)

  before : (n : ℕ) → Contains (take (i + 1) ns) n → Contains (take i ns) n ⊎ (m ≡ n)
  before n c = Contains-push_cases (take i ns) m n (subst (λ l. Contains l n) taken c)

  later : (n : ℕ) → Contains (take i ns) n → Contains (take (i + 1) ns) n
  later n c = subst (λ l. Contains l n) (sym taken) (Contains-append_left (take i ns) (m ∷ []) n c)

  own : Contains (take (i + 1) ns) m
  own = subst (λ l. Contains l m) (sym taken) (Contains-push (take i ns) m)

  low : (n : ℕ) → Contains (take i ns) n → n ≤ m
  low n c =
      let k : c.0 < i = omega (arith, c.1, length-take-le i ns (omega arith)) in
      let g : get_or ns c.0 n ≡ n = sym (get_or-take i ns c.0 n k) ∙ c.2 in
      omega (arith, up c.0 i n (omega arith) l, g, e, get_any ns i n m l)

  -- the sweep
  pub swept_raised : (s : ℕ) → IsSwept ns i s → m < s + 100000 → IsSwept ns (i + 1) (m + 1)
  swept_raised s w h = record {
    small = omega (arith, w.small);
    apart = λ n c g k. ⊎_elim (λ (b : Contains (take i ns) n). let z : ⊥ = omega (arith, low n b) in z) (λ (q : m ≡ n). let z : ⊥ = omega arith in z) (before n c);
    least = λ r k. ⊎_elim (λ (a : r < s). let d = w.least r a in (d.0, later d.0 d.1, d.2, d.3)) (λ (a : s ≤ r). (m, own, omega arith, omega arith)) (cases_lt r s);
  }

  pub swept_kept : (s : ℕ) → IsSwept ns i s → s + 100000 ≤ m → IsSwept ns (i + 1) s
  swept_kept s w h = record {
    small = omega (arith, w.small);
    apart = λ n c g k. ⊎_elim (λ b. w.apart n b g k) (λ (q : m ≡ n). let z : ⊥ = omega arith in z) (before n c);
    least = λ r k. let d = w.least r k in (d.0, later d.0 d.1, d.2, d.3);
  }

  -- the least number beside
  pub beside_raised : (s : ℕ) → IsLeastBeside ns i s → m ≡ s → IsLeastBeside ns (i + 1) (m + 1)
  beside_raised s w h = record {
    small = omega (arith, w.small);
    apart = λ c. ⊎_elim (λ (b : Contains (take i ns) (m + 1)). let z : ⊥ = omega (arith, low (m + 1) b) in z) (λ (q : m ≡ m + 1). let z : ⊥ = omega arith in z) (before (m + 1) c);
    least = λ r k. ⊎_elim (λ (a : r < s). later r (w.least r a)) (λ (a : s ≤ r). let z : m ≡ r = omega arith in subst (Contains (take (i + 1) ns)) z own) (cases_lt r s);
  }

  pub beside_kept : (s : ℕ) → IsLeastBeside ns i s → (m ≡ s → ⊥) → IsLeastBeside ns (i + 1) s
  beside_kept s w h = record {
    small = omega (arith, w.small);
    apart = λ c. ⊎_elim w.apart h (before s c);
    least = λ r k. later r (w.least r k);
  }

-- as the loops read the number
pub swept_then : (ns : List ℕ) (i s t : ℕ) → IsNonDecreasing ns → IsSwept ns i s → i < length ns → get_or ns i 0 < s + 100000 → t ≡ get_or ns i 0 + 1 → IsSwept ns (i + 1) t
swept_then ns i s t up w l h e =
    let m = get_or ns i 0 in
    subst (IsSwept ns (i + 1)) (sym e) (swept_raised ns i m up (get_any ns i 0 m l) l s w h)

pub swept_else : (ns : List ℕ) (i s t : ℕ) → IsNonDecreasing ns → IsSwept ns i s → i < length ns → s + 100000 ≤ get_or ns i 0 → t ≡ s → IsSwept ns (i + 1) t
swept_else ns i s t up w l h e =
    let m = get_or ns i 0 in
    subst (IsSwept ns (i + 1)) (sym e) (swept_kept ns i m up (get_any ns i 0 m l) l s w h)

pub beside_then : (ns : List ℕ) (i s t : ℕ) → IsNonDecreasing ns → IsLeastBeside ns i s → i < length ns → get_or ns i 0 ≡ s → t ≡ s + 1 → IsLeastBeside ns (i + 1) t
beside_then ns i s t up w l h e =
    let m = get_or ns i 0 in
    let f : m + 1 ≡ t = omega (arith, h, e) in
    subst (IsLeastBeside ns (i + 1)) f (beside_raised ns i m up (get_any ns i 0 m l) l s w h)

pub beside_else : (ns : List ℕ) (i s t : ℕ) → IsNonDecreasing ns → IsLeastBeside ns i s → i < length ns → (get_or ns i 0 ≡ s → ⊥) → t ≡ s → IsLeastBeside ns (i + 1) t
beside_else ns i s t up w l h e =
    let m = get_or ns i 0 in
    subst (IsLeastBeside ns (i + 1)) (sym e) (beside_kept ns i m up (get_any ns i 0 m l) l s w h)

-- the numbers of all words, sorted
module _ (prefix : List ℕ) (words : List (List ℕ)) (ns sorted : List ℕ) (few : length ns < 2 ^ 64) (a : AreWordNumbers prefix words (length words) ns) (p : IsPermutation ns sorted) where
  all : (n : ℕ) → Contains (take (length sorted) sorted) n → Contains ns n
  all n c = Contains-permutation sorted ns n (IsPermutation-sym ns sorted p) (subst (λ l. Contains l n) (take-length sorted) c)

  back : (n : ℕ) → Contains ns n → Contains (take (length sorted) sorted) n
  back n c = subst (λ l. Contains l n) (sym (take-length sorted)) (Contains-permutation ns sorted n p c)

  in_list : (x : ℕ) (v : List ℕ) → slice_get words x ≡ Some v → x < length words
  in_list x v h = got words x v h
    where
      got : (xs : List (List ℕ)) (x : ℕ) (v : List ℕ) → slice_get xs x ≡ Some v → x < length xs
      got [] x v h = absurd (cc h)
      got (y ∷ xs) zero v h = omega arith
      got (y ∷ xs) (suc x) v h = omega (arith, got xs x v h)

  -- the numbers among the sorted ones are those of the words
  has : (n : ℕ) → n < 2 ^ 128 → Contains (take (length sorted) sorted) n → IsNumbered words prefix n
  has n l c = let t = (a.told n l).0 (all n c) in (t.0, t.2)

  had : (n : ℕ) → n < 2 ^ 128 → IsNumbered words prefix n → Contains (take (length sorted) sorted) n
  had n l t = back n ((a.told n l).1 (t.0, in_list t.0 (prefix ++ decimal n) t.1, t.1))

  pub leasted : (s : ℕ) → IsLeastBeside sorted (length sorted) s → IsLeastBehind words prefix s
  leasted s w = record {
    free = λ t. w.apart (had s (omega (arith, w.small, length_permutation ns sorted p, few)) t);
    least = λ n l. has n (omega (arith, w.small, length_permutation ns sorted p, few)) (w.least n l);
  }

pub shifted : (free : List (List ℕ)) (ns sorted : List ℕ) (s : ℕ) → length ns < 2 ^ 64 → AreWordNumbers (codes "v") free (length free) ns → IsPermutation ns sorted → IsSwept sorted (length sorted) s → IsShift free s
shifted free ns sorted s few a p w = record { apart = apart; least = least }
  where
    small : s < 2 ^ 100
    small = omega (arith, w.small, length_permutation ns sorted p, few)

    apart : IsApart free s
    apart n x g l h = w.apart n (had (codes "v") free ns sorted few a p n (omega (arith, small)) (x, h)) g l

    least : (r : ℕ) → r < s → IsApart free r → ⊥
    least r l f =
        let d = w.least r l in
        let t = has (codes "v") free ns sorted few a p d.0 (omega (arith, small, d.3)) d.1 in
        f d.0 t.0 d.2 d.3 t.1
