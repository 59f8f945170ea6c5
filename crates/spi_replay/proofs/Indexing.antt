-- The places of a channel, as places change.
use Rattle.std.proofs.Common.{◌≡◌, ℕ, zero, suc, ◌+◌, ◌<◌, ◌≤◌, Bool, true, false, cond, List, [], ◌∷◌, ◌++◌, length, take, drop, get_or, Option, Some, None, slice_get, slice_set, refl, sym, ap, ◌∙◌, subst, arith, add-one, drop-cons, ◌⊎◌, inl, inr}
use Rattle.std.specs.Prelude.{◌==◌, ◌&&◌, if◌then◌else◌, filter, nat_lt, insert, remove, Result, Ok, Err}
use Rattle.std.specs.Global.{Vec}
use Rattle.std.specs.Ordering.{nat_cmp}
use Rattle.std.specs.List.Sorted.{IsBinarySearchResult}
use Rattle.std.proofs.lemmas.List.Sorted.{searched}
use Rattle.std.proofs.Math.Bool.{and-false}
use Rattle.std.proofs.lemmas.Bool.{cases_order, eqb-true}
use Rattle.std.proofs.lemmas.Bool.Decides.{nat_tests}
use Rattle.std.proofs.lemmas.List.{map-append, map-set, length-map, take-append-drop}
use Rattle.std.proofs.lemmas.Option.{slice_get_within}
use Rattle.spi_term.proofs.Lists.{some_is}
use Rattle.spi_replay.specs.declared.places.Place.{Place}
use Rattle.spi_replay.specs.declared.waits.Wait.{Wait}
use Rattle.spi_replay.specs.declared.waits.Wait.TheVariants.{Puts, Takes, TakesAgain}
use Rattle.spi_replay.specs.Indexed.{out_channel, in_channel, is_on, places_on, waits_of, or_none, HasPlaces}
use Rattle.spi_replay.specs.Tables.{Rises, AllRise, with_place, SetsPlace, AreAlike, wait_alike}

-- another place of a list than the one that is set
pub get_other : {A : Type 0} (xs : List A) (i j : ℕ) (x : A) → (i ≡ j → ⊥) → slice_get (slice_set xs i x) j ≡ slice_get xs j
get_other [] i j x h = refl
get_other (y ∷ xs) zero zero x h = absurd (h refl)
get_other (y ∷ xs) zero (suc j) x h = refl
get_other (y ∷ xs) (suc i) zero x h = refl
get_other (y ∷ xs) (suc i) (suc j) x h = get_other xs i j x (λ e. h (ap suc e))

lt_yes : (i n : ℕ) → i < n → nat_lt i n ≡ true
lt_yes i n h = grind (arith, nat_tests)

lt_no : (i n : ℕ) → n ≤ i → nat_lt i n ≡ false
lt_no i n h = grind (arith, nat_tests)

filter_yes : (p : ℕ → Bool) (x : ℕ) (xs : List ℕ) → p x ≡ true → filter p (x ∷ xs) ≡ x ∷ filter p xs
filter_yes p x xs e = ap (λ b. cond b (x ∷ filter p xs) (filter p xs)) e

filter_no : (p : ℕ → Bool) (x : ℕ) (xs : List ℕ) → p x ≡ false → filter p (x ∷ xs) ≡ filter p xs
filter_no p x xs e = ap (λ b. cond b (x ∷ filter p xs) (filter p xs)) e

-- ascending lists
rises_from : (i j : ℕ) (is : List ℕ) → j ≤ i → Rises i is → Rises j is
rises_from i j [] h r = r
rises_from i j (x ∷ xs) h r = let k : i ≤ x = r.0 in (omega arith, r.1)

pub rises_get : (i j : ℕ) (is : List ℕ) → Rises i is → j < length is → i ≤ get_or is j 0
rises_get i j [] r h = absurd (omega arith)
rises_get i zero (x ∷ xs) r h = r.0
rises_get i (suc j) (x ∷ xs) r h =
    let k : i ≤ x = r.0 in
    let l = rises_get (suc x) j xs r.1 (omega arith) in
    omega arith

pub rises_less : (i j k : ℕ) (is : List ℕ) → Rises i is → j < k → k < length is → get_or is j 0 < get_or is k 0
rises_less i j k [] r h l = absurd (omega arith)
rises_less i j zero (x ∷ xs) r h l = absurd (omega arith)
rises_less i zero (suc k) (x ∷ xs) r h l =
    let m = rises_get (suc x) k xs r.1 (omega arith) in
    omega arith
rises_less i (suc j) (suc k) (x ∷ xs) r h l = rises_less (suc x) j k xs r.1 (omega arith) (omega arith)

-- none of an ascending list is below its first number, and all are above what is less
none_below : (i n : ℕ) (is : List ℕ) → Rises i is → n ≤ i → filter (λ j. nat_lt j n) is ≡ []
none_below i n [] r h = refl
none_below i n (x ∷ xs) r h =
    let k : i ≤ x = r.0 in
    filter_no (λ j. nat_lt j n) x xs (lt_no x n (omega arith)) ∙ none_below (suc x) n xs r.1 (omega arith)

all_above : (i n : ℕ) (is : List ℕ) → Rises i is → n < i → filter (λ j. nat_lt n j) is ≡ is
all_above i n [] r h = refl
all_above i n (x ∷ xs) r h =
    let k : i ≤ x = r.0 in
    filter_yes (λ j. nat_lt n j) x xs (lt_yes n x (omega arith)) ∙ ap (λ (ys : List ℕ). x ∷ ys) (all_above (suc x) n xs r.1 (omega arith))

-- the places of a channel ascend
pub places_rise : (f : Wait → Option ℕ) (c i : ℕ) (ws : List Wait) → Rises i (places_on f c i ws)
places_rise f c i [] = tt
places_rise f c i (w ∷ ws) = by (is_on c (f w)) (places_rise f c (suc i) ws)
  where
    by : (b : Bool) → Rises (suc i) (places_on f c (suc i) ws) → Rises i (if b then i ∷ places_on f c (suc i) ws else places_on f c (suc i) ws)
    by true r = (omega arith, r)
    by false r = rises_from (suc i) i (places_on f c (suc i) ws) (omega arith) r

-- the first place of a list enters or leaves
first_set : (n i : ℕ) (b d : Bool) (is : List ℕ) → n ≡ i → filter (λ j. nat_lt j n) is ≡ [] → filter (λ j. nat_lt n j) is ≡ is → (if b then i ∷ is else is) ≡ with_place n b (if d then i ∷ is else is)
first_set n i b d is e l g = by b d
  where
    low : filter (λ j. nat_lt j n) (i ∷ is) ≡ []
    low = filter_no (λ j. nat_lt j n) i is (lt_no i n (omega arith)) ∙ l

    high : filter (λ j. nat_lt n j) (i ∷ is) ≡ is
    high = filter_no (λ j. nat_lt n j) i is (lt_no n i (omega arith)) ∙ g

    join : (x y : List ℕ) (h : Bool) → x ≡ [] → y ≡ is → x ++ ((if h then n ∷ [] else []) ++ y) ≡ (if h then i ∷ is else is)
    join x y true p q = ap (λ (z : List ℕ). z ++ (n ∷ y)) p ∙ ap (λ (z : List ℕ). n ∷ z) q ∙ ap (λ m. m ∷ is) e
    join x y false p q = ap (λ (z : List ℕ). z ++ y) p ∙ q

    by : (b d : Bool) → (if b then i ∷ is else is) ≡ with_place n b (if d then i ∷ is else is)
    by b true = sym (join (filter (λ j. nat_lt j n) (i ∷ is)) (filter (λ j. nat_lt n j) (i ∷ is)) b low high)
    by b false = sym (join (filter (λ j. nat_lt j n) is) (filter (λ j. nat_lt n j) is) b l g)

-- a place after the first enters or leaves
later_set : (n i : ℕ) (b d : Bool) (is js : List ℕ) → i < n → js ≡ with_place n b is → (if d then i ∷ js else js) ≡ with_place n b (if d then i ∷ is else is)
later_set n i b true is js h e =
    let low : filter (λ j. nat_lt j n) (i ∷ is) ≡ i ∷ filter (λ j. nat_lt j n) is = filter_yes (λ j. nat_lt j n) i is (lt_yes i n h) in
    let high : filter (λ j. nat_lt n j) (i ∷ is) ≡ filter (λ j. nat_lt n j) is = filter_no (λ j. nat_lt n j) i is (lt_no n i (omega arith)) in
    ap (λ (z : List ℕ). i ∷ z) e ∙ sym (ap (λ (z : List ℕ). z ++ ((if b then n ∷ [] else []) ++ filter (λ j. nat_lt n j) (i ∷ is))) low ∙ ap (λ (z : List ℕ). (i ∷ filter (λ j. nat_lt j n) is) ++ ((if b then n ∷ [] else []) ++ z)) high)
later_set n i b false is js h e = e

-- an ascending list still ascends with a place or without it
pub rises_with : (i n : ℕ) (b : Bool) (is : List ℕ) → i ≤ n → Rises i is → Rises i (with_place n b is)
rises_with i n true [] h r = (h, tt)
rises_with i n false [] h r = tt
rises_with i n b (x ∷ xs) h r = by (cases_order x n) (λ l. rises_with (suc x) n b xs l r.1)
  where
    from_here : (b : Bool) → x ≡ n → Rises i (if b then x ∷ xs else xs)
    from_here true e = r
    from_here false e = let k : i ≤ x = r.0 in rises_from (suc x) i xs (omega arith) r.1

    from_before : (b : Bool) → n < x → Rises i (if b then n ∷ (x ∷ xs) else x ∷ xs)
    from_before true l = (h, (omega arith, r.1))
    from_before false l = r

    by : (x ≡ n) ⊎ ((x < n) ⊎ (n < x)) → (suc x ≤ n → Rises (suc x) (with_place n b xs)) → Rises i (with_place n b (x ∷ xs))
    by (inl e) go = subst (Rises i) (first_set n x b true xs (sym e) (none_below (suc x) n xs r.1 (omega arith)) (all_above (suc x) n xs r.1 (omega arith))) (from_here b e)
    by (inr (inl l)) go = subst (Rises i) (later_set n x b true xs (with_place n b xs) l refl) (r.0, go (omega arith))
    by (inr (inr l)) go = let s : Rises x (x ∷ xs) = (omega arith, r.1) in subst (Rises i) (first_set n n b false (x ∷ xs) refl (none_below x n (x ∷ xs) s (omega arith)) (all_above x n (x ∷ xs) s l)) (from_before b l)

-- where an ascending list is cut
pub filter_take : (n i : ℕ) (is : List ℕ) → ((j : ℕ) → j < i → j < length is → get_or is j 0 < n) → ((j : ℕ) → i ≤ j → j < length is → n ≤ get_or is j 0) → take i is ≡ filter (λ j. nat_lt j n) is
filter_take n zero [] g h = refl
filter_take n (suc i) [] g h = refl
filter_take n zero (x ∷ xs) g h =
    let k : n ≤ x = h 0 (omega arith) (omega arith) in
    filter_take n zero xs (λ j l m. absurd (omega arith)) (λ j l m. h (suc j) (omega arith) (omega arith)) ∙ sym (filter_no (λ j. nat_lt j n) x xs (lt_no x n k))
filter_take n (suc i) (x ∷ xs) g h =
    let k : x < n = g 0 (omega arith) (omega arith) in
    ap (λ (ys : List ℕ). x ∷ ys) (filter_take n i xs (λ j l m. g (suc j) (omega arith) (omega arith)) (λ j l m. h (suc j) (omega arith) (omega arith))) ∙ sym (filter_yes (λ j. nat_lt j n) x xs (lt_yes x n k))

pub filter_drop : (n i : ℕ) (is : List ℕ) → ((j : ℕ) → j < i → j < length is → get_or is j 0 ≤ n) → ((j : ℕ) → i ≤ j → j < length is → n < get_or is j 0) → drop i is ≡ filter (λ j. nat_lt n j) is
filter_drop n zero [] g h = refl
filter_drop n (suc i) [] g h = refl
filter_drop n zero (x ∷ xs) g h =
    let k : n < x = h 0 (omega arith) (omega arith) in
    ap (λ (ys : List ℕ). x ∷ ys) (filter_drop n zero xs (λ j l m. absurd (omega arith)) (λ j l m. h (suc j) (omega arith) (omega arith))) ∙ sym (filter_yes (λ j. nat_lt n j) x xs (lt_yes n x k))
filter_drop n (suc i) (x ∷ xs) g h =
    let k : x ≤ n = g 0 (omega arith) (omega arith) in
    filter_drop n i xs (λ j l m. g (suc j) (omega arith) (omega arith)) (λ j l m. h (suc j) (omega arith) (omega arith)) ∙ sym (filter_no (λ j. nat_lt n j) x xs (lt_no n x k))

-- the numbers of an ascending list do not fall
pub rises_along : (is : List ℕ) → Rises 0 is → (i j : ℕ) → i ≤ j → j < length is → get_or is i 0 ≤ get_or is j 0
rises_along is r i j h l = by (cases_order i j)
  where
    by : (i ≡ j) ⊎ ((i < j) ⊎ (j < i)) → get_or is i 0 ≤ get_or is j 0
    by (inl e) = let t : get_or is i 0 ≡ get_or is j 0 = ap (λ x. get_or is x 0) e in omega arith
    by (inr (inl s)) = let t = rises_less 0 i j is r s l in omega arith
    by (inr (inr s)) = absurd (omega arith)

-- what a search finds, and what it says where it finds nothing
pub record IsCutAt (n a b : ℕ) (is : List ℕ) : Type 0 where
  pub before : a ≤ length is
  pub after : b ≤ length is
  pub below : take a is ≡ filter (λ j. nat_lt j n) is
  pub above : drop b is ≡ filter (λ j. nat_lt n j) is

pub cut_found : (n i : ℕ) (is : List ℕ) → Rises 0 is → i < length is → get_or is i 0 ≡ n → IsCutAt n i (i + 1) is
cut_found n i is r l e = record {
  before = omega arith;
  after = omega arith;
  below = filter_take n i is (λ j k m. let s = rises_less 0 j i is r k l in omega arith) (λ j k m. not_less j k m (cases_order i j));
  above = filter_drop n (i + 1) is (λ j k m. not_more j m k (cases_order i j)) (λ j k m. let s = rises_less 0 i j is r (omega arith) m in omega arith);
}
  where
    not_less : (j : ℕ) → i ≤ j → j < length is → (i ≡ j) ⊎ ((i < j) ⊎ (j < i)) → n ≤ get_or is j 0
    not_less j k m (inl s) = let t : get_or is i 0 ≡ get_or is j 0 = ap (λ x. get_or is x 0) s in omega arith
    not_less j k m (inr (inl s)) = let t = rises_less 0 i j is r s m in omega arith
    not_less j k m (inr (inr s)) = absurd (omega arith)

    not_more : (j : ℕ) → j < length is → j < i + 1 → (i ≡ j) ⊎ ((i < j) ⊎ (j < i)) → get_or is j 0 ≤ n
    not_more j m k (inl s) = let t : get_or is i 0 ≡ get_or is j 0 = ap (λ x. get_or is x 0) s in omega arith
    not_more j m k (inr (inl s)) = absurd (omega arith)
    not_more j m k (inr (inr s)) = let t = rises_less 0 j i is r s l in omega arith

pub cut_missing : (n i : ℕ) (is : List ℕ) → i ≤ length is → ((j : ℕ) → j < i → get_or is j 0 < n) → ((j : ℕ) → i ≤ j → j < length is → n < get_or is j 0) → IsCutAt n i i is
cut_missing n i is l g h = record {
  before = l;
  after = l;
  below = filter_take n i is (λ j k m. g j k) (λ j k m. let s = h j k m in omega arith);
  above = filter_drop n i is (λ j k m. let s = g j k in omega arith) h;
}

pub cut_ok : (n i : ℕ) (is : List ℕ) (r : Result ℕ ℕ) → r ≡ Ok i → Rises 0 is → IsBinarySearchResult (λ y. nat_cmp y n) is r → IsCutAt n i (i + 1) is
cut_ok n i is r e h p =
    let m = searched is n (Ok i) (subst (λ (x : Result ℕ ℕ). IsBinarySearchResult (λ y. nat_cmp y n) is x) e p) (rises_along is h) in
    cut_found n i is h m.0 m.1

pub cut_err : (n i : ℕ) (is : List ℕ) (r : Result ℕ ℕ) → r ≡ Err i → Rises 0 is → IsBinarySearchResult (λ y. nat_cmp y n) is r → IsCutAt n i i is
cut_err n i is r e h p =
    let m = searched is n (Err i) (subst (λ (x : Result ℕ ℕ). IsBinarySearchResult (λ y. nat_cmp y n) is x) e p) (rises_along is h) in
    cut_missing n i is m.0 m.1 m.2

-- one place changes
pub set_on : (f : Wait → Option ℕ) (c n i k : ℕ) (ws : List Wait) (w : Wait) → n ≡ i + k → k < length ws → places_on f c i (slice_set ws k w) ≡ with_place n (is_on c (f w)) (places_on f c i ws)
set_on f c n i k [] w e h = absurd (omega arith)
set_on f c n i zero (v ∷ ws) w e h = first_set n i (is_on c (f w)) (is_on c (f v)) (places_on f c (suc i) ws) (omega arith) (none_below (suc i) n (places_on f c (suc i) ws) (places_rise f c (suc i) ws) (omega arith)) (all_above (suc i) n (places_on f c (suc i) ws) (places_rise f c (suc i) ws) (omega arith))
set_on f c n i (suc k) (v ∷ ws) w e h = later_set n i (is_on c (f w)) (is_on c (f v)) (places_on f c (suc i) ws) (places_on f c (suc i) (slice_set ws k w)) (omega arith) (set_on f c n (suc i) k ws w (omega arith) (omega arith))

pub set_same : (f : Wait → Option ℕ) (c i k : ℕ) (ws : List Wait) (w : Wait) → ((v : Wait) → slice_get ws k ≡ Some v → is_on c (f v) ≡ is_on c (f w)) → places_on f c i (slice_set ws k w) ≡ places_on f c i ws
set_same f c i k [] w o = refl
set_same f c i zero (v ∷ ws) w o = ap (λ b. if b then i ∷ places_on f c (suc i) ws else places_on f c (suc i) ws) (sym (o v refl))
set_same f c i (suc k) (v ∷ ws) w o = ap (λ (is : List ℕ). if is_on c (f v) then i ∷ is else is) (set_same f c (suc i) k ws w o)

-- a place comes last
alone : (n i : ℕ) (b : Bool) → n ≡ i → (if b then i ∷ [] else []) ≡ with_place n b []
alone n i true e = ap (λ m. m ∷ []) (sym e)
alone n i false e = refl

pub push_on : (f : Wait → Option ℕ) (c n i : ℕ) (ws : List Wait) (w : Wait) → n ≡ i + length ws → places_on f c i (ws ++ w ∷ []) ≡ with_place n (is_on c (f w)) (places_on f c i ws)
push_on f c n i [] w e = alone n i (is_on c (f w)) (omega arith)
push_on f c n i (v ∷ ws) w e = later_set n i (is_on c (f w)) (is_on c (f v)) (places_on f c (suc i) ws) (places_on f c (suc i) (ws ++ w ∷ [])) (omega arith) (push_on f c n (suc i) ws w (omega arith))

pub push_off : (f : Wait → Option ℕ) (c i : ℕ) (ws : List Wait) (w : Wait) → is_on c (f w) ≡ false → places_on f c i (ws ++ w ∷ []) ≡ places_on f c i ws
push_off f c i [] w e = ap (λ b. if b then i ∷ [] else []) e
push_off f c i (v ∷ ws) w e = ap (λ (is : List ℕ). if is_on c (f v) then i ∷ is else is) (push_off f c (suc i) ws w e)

-- a place of an ascending list is searched for, and comes or goes
module _ (n i : ℕ) (is : List ℕ) (r : Result ℕ ℕ) (h : Rises 0 is) (p : IsBinarySearchResult (λ y. nat_cmp y n) is r) where
  pub found_there : r ≡ Ok i → is ≡ with_place n true is
  found_there e =
      let m = searched is n (Ok i) (subst (λ (x : Result ℕ ℕ). IsBinarySearchResult (λ y. nat_cmp y n) is x) e p) (rises_along is h) in
      let k = cut_found n i is h m.0 m.1 in
      let d : drop i is ≡ n ∷ drop (suc i) is = drop-cons is i 0 m.0 ∙ ap (λ x. x ∷ drop (suc i) is) m.1 in
      sym (take-append-drop i is) ∙ ap (λ ys. take i is ++ ys) d ∙ ap (λ ys. ys ++ n ∷ drop (suc i) is) k.below ∙ ap (λ ys. filter (λ j. nat_lt j n) is ++ n ∷ ys) (above_next k.above)
    where
      above_next : drop (i + 1) is ≡ filter (λ j. nat_lt n j) is → drop (suc i) is ≡ filter (λ j. nat_lt n j) is
      above_next e = ap (λ j. drop j is) (sym (add-one i)) ∙ e

  pub removed_there : r ≡ Ok i → remove is i ≡ with_place n false is
  removed_there e =
      let k = cut_ok n i is r e h p in
      ap (λ ys. ys ++ drop (suc i) is) k.below ∙ ap (λ ys. filter (λ j. nat_lt j n) is ++ ys) (ap (λ j. drop j is) (sym (add-one i)) ∙ k.above)

  pub inserted_there : r ≡ Err i → insert is i n ≡ with_place n true is
  inserted_there e =
      let k = cut_err n i is r e h p in
      ap (λ ys. ys ++ n ∷ drop i is) k.below ∙ ap (λ ys. filter (λ j. nat_lt j n) is ++ n ∷ ys) k.above

  pub missing_there : r ≡ Err i → is ≡ with_place n false is
  missing_there e =
      let k = cut_err n i is r e h p in
      sym (take-append-drop i is) ∙ ap (λ ys. ys ++ drop i is) k.below ∙ ap (λ ys. filter (λ j. nat_lt j n) is ++ ys) k.above

-- a table after one place comes or goes
pub set_rises : (k : ℕ) (on : Bool) (o : Option ℕ) (t u : ℕ → Option (Vec ℕ)) → AllRise t → SetsPlace k on o t u → AllRise u
set_rises k on o t u r e = λ c. subst (Rises 0) (sym (e c)) (by c (is_on c o))
  where
    by : (c : ℕ) (b : Bool) → Rises 0 (if b then with_place k on (or_none (t c)) else or_none (t c))
    by c true = rises_with 0 k on (or_none (t c)) (omega arith) (r c)
    by c false = r c

-- two that wait alike are on the same channel, and two that don't are on no channel both
same_on : (c d : ℕ) (o : Option ℕ) → is_on d o ≡ true → (c == d) ≡ is_on c o
same_on c d None e = absurd cc
same_on c d (Some b) e = ap (λ n. c == n) (eqb-true d b e)

not_both : (c d : ℕ) (o : Option ℕ) → is_on d o ≡ false → (c == d) && is_on c o ≡ false
not_both c d None e = and-false (c == d)
not_both c d (Some b) e = grind (arith, nat_tests)

pub alike_out : (v w : Wait) → wait_alike v w ≡ true → (c : ℕ) → is_on c (out_channel v) ≡ is_on c (out_channel w)
alike_out (Puts a x) w e c = same_on c a.place (out_channel w) e
alike_out v (Puts b y) e c = absurd cc
alike_out v w e c = refl

pub alike_in : (v w : Wait) → wait_alike v w ≡ true → (c : ℕ) → is_on c (in_channel v) ≡ is_on c (in_channel w)
alike_in (Takes a x) w e c = same_on c a.place (in_channel w) e
alike_in (TakesAgain a x) w e c = same_on c a.place (in_channel w) e
alike_in v (Takes b y) e c = absurd cc
alike_in v (TakesAgain b y) e c = absurd cc
alike_in v w e c = refl

pub apart_out : (v w : Wait) → wait_alike v w ≡ false → (c : ℕ) → is_on c (out_channel v) && is_on c (out_channel w) ≡ false
apart_out (Puts a x) w e c = not_both c a.place (out_channel w) e
apart_out v w e c = refl

pub apart_in : (v w : Wait) → wait_alike v w ≡ false → (c : ℕ) → is_on c (in_channel v) && is_on c (in_channel w) ≡ false
apart_in (Takes a x) w e c = not_both c a.place (in_channel w) e
apart_in (TakesAgain a x) w e c = not_both c a.place (in_channel w) e
apart_in v w e c = refl

-- the list of a channel after a place has come and one has gone
come_gone : (b d : Bool) (k : ℕ) (t u x p s : List ℕ) → b && d ≡ false → t ≡ p → u ≡ (if d then with_place k true t else t) → x ≡ (if b then with_place k false u else u) → s ≡ with_place k d p → (b ≡ d → s ≡ p) → x ≡ s
come_gone true true k t u x p s z a e g l h = absurd cc
come_gone true false k t u x p s z a e g l h = g ∙ ap (with_place k false) (e ∙ a) ∙ sym l
come_gone false true k t u x p s z a e g l h = g ∙ e ∙ ap (with_place k true) a ∙ sym l
come_gone false false k t u x p s z a e g l h = g ∙ e ∙ a ∙ sym (h refl)

-- a place is replaced
get_wait : (xs : List Place) (i : ℕ) (x : Place) → slice_get xs i ≡ Some x → slice_get (waits_of xs) i ≡ Some x.wait
get_wait [] i x e = absurd cc
get_wait (y ∷ xs) zero x e = ap (λ (z : Place). Some z.wait) (some_is e)
get_wait (y ∷ xs) (suc i) x e = get_wait xs i x e

module _ (f : Wait → Option ℕ) (t : ℕ → Option (Vec ℕ)) (ps : List Place) (h : HasPlaces f t ps) where
  module _ (k : ℕ) (p q : Place) (at : slice_get ps k ≡ Some q) where
    set_alike : (c : ℕ) → is_on c (f q.wait) ≡ is_on c (f p.wait) → places_on f c 0 (waits_of (slice_set ps k p)) ≡ places_on f c 0 (waits_of ps)
    set_alike c e = ap (places_on f c 0) (map-set (λ (x : Place). x.wait) ps k p) ∙ set_same f c 0 k (waits_of ps) p.wait (λ v g. ap (λ (w : Wait). is_on c (f w)) (some_is (sym g ∙ get_wait ps k q at)) ∙ e)

    set_with : (c : ℕ) → places_on f c 0 (waits_of (slice_set ps k p)) ≡ with_place k (is_on c (f p.wait)) (places_on f c 0 (waits_of ps))
    set_with c = ap (places_on f c 0) (map-set (λ (x : Place). x.wait) ps k p) ∙ set_on f c k 0 k (waits_of ps) p.wait (omega arith) (omega (arith, slice_get_within ps k q at, length-map ps (λ (x : Place). x.wait)))

    pub set_has : (u x : ℕ → Option (Vec ℕ)) → ((c : ℕ) → is_on c (f q.wait) && is_on c (f p.wait) ≡ false) → SetsPlace k true (f p.wait) t u → SetsPlace k false (f q.wait) u x → HasPlaces f x (slice_set ps k p)
    set_has u x z e g = λ c. come_gone (is_on c (f q.wait)) (is_on c (f p.wait)) k (or_none (t c)) (or_none (u c)) (or_none (x c)) (places_on f c 0 (waits_of ps)) (places_on f c 0 (waits_of (slice_set ps k p))) (z c) (h c) (e c) (g c) (set_with c) (set_alike c)

    pub alike_has : ((c : ℕ) → is_on c (f q.wait) ≡ is_on c (f p.wait)) → HasPlaces f t (slice_set ps k p)
    alike_has e = λ c. h c ∙ sym (set_alike c (e c))

    pub done_has : (x : ℕ → Option (Vec ℕ)) → f p.wait ≡ None → SetsPlace k false (f q.wait) t x → HasPlaces f x (slice_set ps k p)
    done_has x n g = set_has t x (λ c. ap (λ o. is_on c (f q.wait) && is_on c o) n ∙ and-false (is_on c (f q.wait))) (λ c. sym (ap (λ o. if is_on c o then with_place k true (or_none (t c)) else or_none (t c)) n)) g

  -- a place comes last, and goes again
  pub pushed_has : (u : ℕ → Option (Vec ℕ)) (n : ℕ) (p : Place) → n ≡ length ps → SetsPlace n true (f p.wait) t u → HasPlaces f u (ps ++ p ∷ [])
  pushed_has u n p e g = λ c.
      let m = ap (places_on f c 0) (map-append (λ (x : Place). x.wait) ps (p ∷ [])) in
      come_gone false (is_on c (f p.wait)) n (or_none (t c)) (or_none (u c)) (or_none (u c)) (places_on f c 0 (waits_of ps)) (places_on f c 0 (waits_of (ps ++ p ∷ []))) refl (h c) (g c) refl (m ∙ push_on f c n 0 (waits_of ps) p.wait (omega (arith, length-map ps (λ (x : Place). x.wait)))) (λ b. m ∙ push_off f c 0 (waits_of ps) p.wait (sym b))

  pub popped_has : (qs : List Place) (p : Place) → f p.wait ≡ None → ps ≡ qs ++ p ∷ [] → HasPlaces f t qs
  popped_has qs p n e = λ c.
      h c ∙ ap (λ (xs : List Place). places_on f c 0 (waits_of xs)) e ∙ ap (places_on f c 0) (map-append (λ (x : Place). x.wait) qs (p ∷ [])) ∙ push_off f c 0 (waits_of qs) p.wait (ap (is_on c) n)

  -- the lists are as they were
  pub same_has : (u : ℕ → Option (Vec ℕ)) → AreAlike t u → HasPlaces f u ps
  same_has u e = λ c. e c ∙ h c

  -- each list ascends
  pub has_rise : AllRise t
  has_rise = λ c. subst (Rises 0) (sym (h c)) (places_rise f c 0 (waits_of ps))
