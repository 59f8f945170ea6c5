-- The marks of the lists that are gathered.
use Rattle.std.proofs.Common.{◌≡◌, refl, sym, ap, ◌∙◌, subst, ℕ, zero, suc, ◌-◌, Bool, false, List, [], ◌∷◌, ◌++◌, length, reverse, take, drop, Some, None, arith, append_assoc, length-append}
use Rattle.std.proofs.lemmas.List.{reverse-append, reverse-reverse, length-reverse}
use Rattle.std.specs.Prelude.{slice_get}
use Rattle.spi_origin.specs.Gathering.{with_node, at_top, two_as_one, AreMarked, marked_none, marked_next, MarkedStacks}

snoc : (xs ys : List ℕ) (x : ℕ) → ys ≡ xs ++ x ∷ [] → reverse ys ≡ x ∷ reverse xs
snoc xs ys x e = ap reverse e ∙ reverse-append xs (x ∷ [])

-- one list more
pub marked_empty : (marks new found : List ℕ) (ls : List (List ℕ)) (end : ℕ) → new ≡ marks ++ end ∷ [] → length found ≡ end → MarkedStacks marks found ls → MarkedStacks new found ([] ∷ ls)
marked_empty marks new found ls end e l h =
    subst (λ ms. AreMarked ms (reverse found) ([] ∷ ls)) (sym (snoc marks new end e)) (marked_next {l = []} (length-reverse found ∙ l) h)

-- two lists become one
two_joined : {ms fs : List ℕ} {ls : List (List ℕ)} (os : List ℕ) → AreMarked ms fs ls → drop 1 ms ≡ os → AreMarked os fs (two_as_one ls)
two_joined {fs = fs} os marked_none e = subst (λ os. AreMarked os fs []) e marked_none
two_joined {fs = gs} os (marked_next h marked_none) e = subst (λ os. AreMarked os gs []) e marked_none
two_joined os (marked_next {l = l} h (marked_next {m = m} {l = l'} {fs = fs} {ms = ms} {ls = ls} g t)) e =
    subst (λ os. AreMarked os (l ++ (l' ++ fs)) ((l ++ l') ∷ ls)) e (subst (λ fs. AreMarked (m ∷ ms) fs ((l ++ l') ∷ ls)) (append_assoc l l' fs) (marked_next {l = l ++ l'} g t))

-- lists from their ends
turned : (P : List ℕ → Type 0) → P [] → ((xs : List ℕ) (x : ℕ) → P (xs ++ x ∷ [])) → (r : List ℕ) → P (reverse r)
turned P n f [] = n
turned P n f (x ∷ r) = subst P (sym (reverse-append (x ∷ []) r)) (f (reverse r) x)

by_end : (P : List ℕ → Type 0) (xs : List ℕ) → P [] → ((xs : List ℕ) (x : ℕ) → P (xs ++ x ∷ [])) → P xs
by_end P xs n f = subst P (reverse-reverse xs) (turned P n f (reverse xs))

take_front : (xs ys : List ℕ) (n : ℕ) → n ≡ length xs → take n (xs ++ ys) ≡ xs
take_front [] ys n e = let z : n ≡ 0 = e in ap (λ n. take n ys) z
take_front (x ∷ xs) ys zero e = absurd (omega (arith, e))
take_front (x ∷ xs) ys (suc n) e = ap (λ l. x ∷ l) (take_front xs ys n (omega (arith, e)))

last_at : (xs : List ℕ) (x i : ℕ) → i ≡ length xs → slice_get (xs ++ x ∷ []) i ≡ Some x
last_at [] x i e = let z : i ≡ 0 = e in ap (slice_get (x ∷ [])) z
last_at (y ∷ xs) x zero e = absurd (omega (arith, e))
last_at (y ∷ xs) x (suc i) e = last_at xs x i (omega (arith, e))

last_place : (xs : List ℕ) (x : ℕ) → length (xs ++ x ∷ []) - 1 ≡ length xs
last_place xs x = omega (arith, length-append xs (x ∷ []))

last_got : (xs : List ℕ) (x : ℕ) → slice_get (xs ++ x ∷ []) (length (xs ++ x ∷ []) - 1) ≡ Some x
last_got xs x = last_at xs x (length (xs ++ x ∷ []) - 1) (last_place xs x)

pub popped : (old new : List ℕ) (n : ℕ) → n ≡ length old → new ≡ take (n - 1) old → drop 1 (reverse old) ≡ reverse new
popped old new n = by_end (λ old. n ≡ length old → new ≡ take (n - 1) old → drop 1 (reverse old) ≡ reverse new) old none more
  where
    none : n ≡ 0 → new ≡ take (n - 1) [] → drop 1 (reverse {A = ℕ} []) ≡ reverse new
    none l e = let z : n - 1 ≡ 0 = omega (arith, l) in sym (ap reverse (e ∙ ap (λ n. take n []) z))

    more : (xs : List ℕ) (x : ℕ) → n ≡ length (xs ++ x ∷ []) → new ≡ take (n - 1) (xs ++ x ∷ []) → drop 1 (reverse (xs ++ x ∷ [])) ≡ reverse new
    more xs x l e =
        let k : n - 1 ≡ length xs = omega (arith, l, length-append xs (x ∷ [])) in
        let f : new ≡ xs = e ∙ take_front xs (x ∷ []) (n - 1) k in
        ap (drop 1) (reverse-append xs (x ∷ [])) ∙ sym (ap reverse f)

pub last_first : (xs : List ℕ) (x : ℕ) → slice_get xs (length xs - 1) ≡ Some x → reverse xs ≡ x ∷ drop 1 (reverse xs)
last_first xs x = by_end (λ xs. slice_get xs (length xs - 1) ≡ Some x → reverse xs ≡ x ∷ drop 1 (reverse xs)) xs (λ e. absurd (cc e)) more
  where
    more : (xs : List ℕ) (y : ℕ) → slice_get (xs ++ y ∷ []) (length (xs ++ y ∷ []) - 1) ≡ Some x → reverse (xs ++ y ∷ []) ≡ x ∷ drop 1 (reverse (xs ++ y ∷ []))
    more xs y e =
        let f : Some y ≡ Some x = sym (last_got xs y) ∙ e in
        let g : y ≡ x = cc f in
        let z : reverse (xs ++ y ∷ []) ≡ y ∷ reverse xs = reverse-append xs (y ∷ []) in
        z ∙ ap (λ y. y ∷ reverse xs) g ∙ ap (λ l. x ∷ l) (sym (ap (drop 1) z))

pub last_none : (xs : List ℕ) → slice_get xs (length xs - 1) ≡ None → reverse xs ≡ []
last_none xs = by_end (λ xs. slice_get xs (length xs - 1) ≡ None → reverse xs ≡ []) xs (λ e. refl) more
  where
    more : (xs : List ℕ) (y : ℕ) → slice_get (xs ++ y ∷ []) (length (xs ++ y ∷ []) - 1) ≡ None → reverse (xs ++ y ∷ []) ≡ []
    more xs y e = let f : Some y ≡ None = sym (last_got xs y) ∙ e in absurd (cc f)

-- what goes in and out of the first list
cut_top : {M F : List ℕ} {ls : List (List ℕ)} → AreMarked M F ls → (m : ℕ) (ms G : List ℕ) → M ≡ m ∷ ms → ((l fs : List ℕ) → F ≡ l ++ fs → length fs ≡ m → G ≡ fs) → AreMarked M G (at_top (λ l. []) ls)
cut_top marked_none m ms G e f = absurd (cc e)
cut_top (marked_next {m = n} {l = l} {fs = fs} {ms = ns} {ls = ls} h t) m ms G e f =
    let k : n ≡ m = cc e in
    subst (λ G. AreMarked (n ∷ ns) G ([] ∷ ls)) (sym (f l fs refl (h ∙ k))) (marked_next {l = []} h t)

pub marked_cut : (marks found cut : List ℕ) (ls : List (List ℕ)) (m : ℕ) → slice_get marks (length marks - 1) ≡ Some m → cut ≡ take m found → MarkedStacks marks found ls → MarkedStacks marks cut (at_top (λ l. []) ls)
marked_cut marks found cut ls m e f h = cut_top h m (drop 1 (reverse marks)) (reverse cut) (last_first marks m e) same
  where
    same : (l fs : List ℕ) → reverse found ≡ l ++ fs → length fs ≡ m → reverse cut ≡ fs
    same l fs g n =
        let z : found ≡ reverse fs ++ reverse l = sym (reverse-reverse found) ∙ ap reverse g ∙ reverse-append l fs in
        let c : cut ≡ reverse fs = f ∙ ap (take m) z ∙ take_front (reverse fs) (reverse l) m (sym n ∙ sym (length-reverse fs)) in
        ap reverse c ∙ reverse-reverse fs

none_top : {M F : List ℕ} {ls : List (List ℕ)} (f : List ℕ → List ℕ) → AreMarked M F ls → M ≡ [] → AreMarked M F (at_top f ls)
none_top f marked_none e = marked_none
none_top f (marked_next h t) e = absurd (cc e)

pub marked_none_cut : (marks found : List ℕ) (ls : List (List ℕ)) → slice_get marks (length marks - 1) ≡ None → MarkedStacks marks found ls → MarkedStacks marks found (at_top (λ l. []) ls)
marked_none_cut marks found ls e h = none_top (λ l. []) h (last_none marks e)

push_top : {M F : List ℕ} {ls : List (List ℕ)} (i : ℕ) → AreMarked M F ls → AreMarked M (i ∷ F) (at_top (λ l. i ∷ l) ls)
push_top i marked_none = marked_none
push_top i (marked_next {l = l} h t) = marked_next {l = i ∷ l} h t

pub marked_push : (marks found new : List ℕ) (ls : List (List ℕ)) (i : ℕ) → new ≡ found ++ i ∷ [] → MarkedStacks marks found ls → MarkedStacks marks new (at_top (λ l. i ∷ l) ls)
marked_push marks found new ls i e h =
    subst (λ fs. AreMarked (reverse marks) fs (at_top (λ l. i ∷ l) ls)) (sym (snoc found new i e)) (push_top i h)

pub marked_same : (marks found : List ℕ) (ls : List (List ℕ)) → MarkedStacks marks found ls → MarkedStacks marks found (at_top (λ l. l) ls)
marked_same marks found [] h = h
marked_same marks found (l ∷ ls) h = h

-- by whether it is kept, and whether the node is one
pub marked_as : (marks found : List ℕ) (ls : List (List ℕ)) (kept picked a b : Bool) (i : ℕ) → kept ≡ a → picked ≡ b → MarkedStacks marks found (at_top (with_node a b i) ls) → MarkedStacks marks found (at_top (with_node kept picked i) ls)
marked_as marks found ls kept picked a b i e f h =
    subst (λ p. MarkedStacks marks found (at_top (with_node kept p i) ls)) (sym f) (subst (λ k. MarkedStacks marks found (at_top (with_node k b i) ls)) (sym e) h)

pub marked_not : (marks found : List ℕ) (ls : List (List ℕ)) (kept picked : Bool) (i : ℕ) → kept ≡ false → MarkedStacks marks found (at_top (λ l. []) ls) → MarkedStacks marks found (at_top (with_node kept picked i) ls)
marked_not marks found ls kept picked i e h = subst (λ k. MarkedStacks marks found (at_top (with_node k picked i) ls)) (sym e) h

-- the first list
pub marked_fork : (old new found : List ℕ) (ls : List (List ℕ)) (n : ℕ) → n ≡ length old → new ≡ take (n - 1) old → MarkedStacks old found ls → MarkedStacks new found (two_as_one ls)
marked_fork old new found ls n l e h = two_joined (reverse new) h (popped old new n l e)

head_list : {M F : List ℕ} {ls : List (List ℕ)} → AreMarked M F ls → (l : List ℕ) (rest : List (List ℕ)) (m : ℕ) (ms : List ℕ) → ls ≡ l ∷ rest → M ≡ m ∷ ms → take (length F - m) F ≡ l
head_list marked_none l rest m ms e f = absurd (cc e)
head_list (marked_next {m = n} {l = k} {fs = fs} h t) l rest m ms e f =
    let z : n ≡ m = cc f in
    let y : k ≡ l = cc e in
    take_front k fs (length (k ++ fs) - m) (omega (arith, length-append k fs, h, z)) ∙ y

none_listed : {M F : List ℕ} {ls : List (List ℕ)} → AreMarked M F ls → (l : List ℕ) (rest : List (List ℕ)) → ls ≡ l ∷ rest → M ≡ [] → ⊥
none_listed marked_none l rest e f = cc e
none_listed (marked_next h t) l rest e f = cc f

pub first_listed : (marks found back out l : List ℕ) (ls : List (List ℕ)) (m n : ℕ) → slice_get marks (length marks - 1) ≡ Some m → back ≡ reverse found → n ≡ length found - m → out ≡ take n back → MarkedStacks marks found (l ∷ ls) → out ≡ l
first_listed marks found back out l ls m n e b k t h =
    t ∙ ap (take n) b ∙ ap (λ n. take n (reverse found)) (k ∙ ap (λ k. k - m) (sym (length-reverse found))) ∙ head_list h l ls m (drop 1 (reverse marks)) refl (last_first marks m e)

pub none_first : (marks found l : List ℕ) (ls : List (List ℕ)) → slice_get marks (length marks - 1) ≡ None → MarkedStacks marks found (l ∷ ls) → ⊥
none_first marks found l ls e h = none_listed h l ls refl (last_none marks e)
