-- Chains of spellings as links are put behind others.
use Rattle.std.proofs.Common.{◌≡◌, ℕ, zero, suc, ◌+◌, ◌<◌, ◌≤◌, List, [], ◌∷◌, ◌++◌, length, map, take, get_or, refl, sym, ap, ◌∙◌, subst, arith}
use Rattle.std.specs.Prelude.{Some, slice_get}
use Rattle.std.proofs.lemmas.List.{length-append, length-map, map_push}
use Rattle.spi_scope.specs.Scope.{Names}
use Rattle.spi_scope.specs.declared.trail.Link.{Link}
use Rattle.spi_scope.specs.Chains.{Pair, link, chain_at, longer, chains, LeadBack, all_at, AreNumbersBelow, found_names}

longer_push : (cs : List Names) (ls : List Pair) (l : Pair) → longer cs (ls ++ l ∷ []) ≡ longer cs ls ++ (l.word ∷ chain_at (longer cs ls) l.outer) ∷ []
longer_push cs [] l = refl
longer_push cs (k ∷ ls) l = longer_push (cs ++ (k.word ∷ chain_at cs k.outer) ∷ []) ls l

length_longer : (cs : List Names) (ls : List Pair) → length (longer cs ls) ≡ length cs + length ls
length_longer cs [] = omega arith
length_longer cs (l ∷ ls) =
    let x = (l.word ∷ chain_at cs l.outer) ∷ [] in
    omega (arith, length_longer (cs ++ x) ls, length-append cs x)

pub length_chains : (ls : List Link) → length (chains (map link ls)) ≡ length ls + 1
length_chains ls = omega (arith, length_longer ([] ∷ []) (map link ls), length-map ls link)

pub chains_push : (ls new : List Link) (l : Link) → new ≡ ls ++ l ∷ [] → chains (map link new) ≡ chains (map link ls) ++ (l.word ∷ chain_at (chains (map link ls)) l.outer) ∷ []
chains_push ls new l e = ap (λ x. chains (map link x)) e ∙ ap chains (map_push link ls l) ∙ longer_push ([] ∷ []) (map link ls) (link l)

lead_more : (n : ℕ) (ls : List Pair) (l : Pair) → LeadBack n ls → l.outer < n + length ls → LeadBack n (ls ++ l ∷ [])
lead_more n [] l h k = (omega arith, tt)
lead_more n (m ∷ ls) l h k = (h.0, lead_more (n + 1) ls l h.1 (omega arith))

pub lead_push : (ls new : List Link) (l : Link) → new ≡ ls ++ l ∷ [] → LeadBack 1 (map link ls) → l.outer < length (chains (map link ls)) → LeadBack 1 (map link new)
lead_push ls new l e h k =
    subst (λ x. LeadBack 1 (map link x)) (sym e)
    (subst (LeadBack 1) (sym (map_push link ls l)) (lead_more 1 (map link ls) (link l) h (omega (arith, length_chains ls, length-map ls link))))

pub below_more : (n m : ℕ) (is : List ℕ) → n ≤ m → AreNumbersBelow n is → AreNumbersBelow m is
below_more n m [] h b = tt
below_more n m (i ∷ is) h b = (omega arith, below_more n m is h b.1)

pub below_push : (n : ℕ) (is : List ℕ) (i : ℕ) → AreNumbersBelow n is → i < n → AreNumbersBelow n (is ++ i ∷ [])
below_push n [] i b h = (h, tt)
below_push n (j ∷ is) i b h = (b.0, below_push n is i b.1 h)

get_before : (cs ds : List Names) (i : ℕ) → i < length cs → slice_get (cs ++ ds) i ≡ slice_get cs i
get_before [] ds i h = absurd (omega arith)
get_before (c ∷ cs) ds zero h = refl
get_before (c ∷ cs) ds (suc i) h = get_before cs ds i (omega arith)

pub all_before : (cs ds : List Names) (is : List ℕ) → AreNumbersBelow (length cs) is → all_at (cs ++ ds) is ≡ all_at cs is
all_before cs ds [] b = refl
all_before cs ds (i ∷ is) b = ap (λ x. found_names x ∷ all_at (cs ++ ds) is) (get_before cs ds i b.0) ∙ ap (λ l. chain_at cs i ∷ l) (all_before cs ds is b.1)

longer_keeps : (cs : List Names) (ls : List Pair) (i : ℕ) → i < length cs → slice_get (longer cs ls) i ≡ slice_get cs i
longer_keeps cs [] i h = refl
longer_keeps cs (l ∷ ls) i h =
    let x = (l.word ∷ chain_at cs l.outer) ∷ [] in
    longer_keeps (cs ++ x) ls i (omega (arith, h, length-append cs x)) ∙ get_before cs x i h

get_end : (cs : List Names) (c : Names) → slice_get (cs ++ c ∷ []) (length cs) ≡ Some c
get_end [] c = refl
get_end (x ∷ cs) c = get_end cs c

-- link i begins the chain behind those that were there and the links before it
longer_at : (cs : List Names) (ls : List Pair) (i j : ℕ) (l : Pair) → j ≡ length cs + i → slice_get ls i ≡ Some l → LeadBack (length cs) ls → slice_get (longer cs ls) j ≡ Some (l.word ∷ chain_at (longer cs ls) l.outer)
longer_at cs [] i j l e g h = absurd (cc)
longer_at cs (k ∷ ls) zero j l e g h =
    let x = k.word ∷ chain_at cs k.outer in
    let same : k ≡ l = cc in
    let n : j ≡ length cs = omega arith in
    let within : length cs < length (cs ++ x ∷ []) = omega (arith, length-append cs (x ∷ [])) in
    let earlier : k.outer < length (cs ++ x ∷ []) = omega (arith, h.0, length-append cs (x ∷ [])) in
    ap (slice_get (longer (cs ++ x ∷ []) ls)) n ∙ longer_keeps (cs ++ x ∷ []) ls (length cs) within ∙ get_end cs x
    ∙ ap (λ o. Some (k.word ∷ found_names o)) (sym (longer_keeps (cs ++ x ∷ []) ls k.outer earlier ∙ get_before cs (x ∷ []) k.outer h.0))
    ∙ ap (λ (m : Pair). Some (m.word ∷ chain_at (longer (cs ++ x ∷ []) ls) m.outer)) same
longer_at cs (k ∷ ls) (suc i) j l e g h =
    let x = k.word ∷ chain_at cs k.outer in
    let n : length cs + 1 ≡ length (cs ++ x ∷ []) = omega (arith, length-append cs (x ∷ [])) in
    longer_at (cs ++ x ∷ []) ls i j l (omega (arith, e, n)) g (subst (λ (m : ℕ). LeadBack m ls) n h.1)

lead_at : (n : ℕ) (ls : List Pair) (i : ℕ) (l : Pair) → slice_get ls i ≡ Some l → LeadBack n ls → l.outer < n + i
lead_at n [] i l g h = absurd (cc)
lead_at n (k ∷ ls) zero l g h = let same : k ≡ l = cc in let e = ap (λ (m : Pair). m.outer) same in omega (arith, h.0, e)
lead_at n (k ∷ ls) (suc i) l g h = omega (arith, lead_at (n + 1) ls i l g h.1)

get_map : (xs : List Link) (i : ℕ) (x : Link) → i < length xs → x ≡ get_or xs i x → slice_get (map link xs) i ≡ Some (link x)
get_map [] i x h e = absurd (omega arith)
get_map (y ∷ xs) zero x h e = ap (λ z. Some (link z)) (sym e)
get_map (y ∷ xs) (suc i) x h e = get_map xs i x (omega arith) e

-- a chain by its first link
pub chain_step : (xs : List Link) (at i : ℕ) (x : Link) → at ≡ i + 1 → i < length xs → x ≡ get_or xs i x → LeadBack 1 (map link xs)
    → (chain_at (chains (map link xs)) at ≡ x.word ∷ chain_at (chains (map link xs)) x.outer) × (x.outer < at)
chain_step xs at i x e h q b =
    let g = get_map xs i x h q in
    (ap found_names (longer_at ([] ∷ []) (map link xs) i at (link x) (omega (arith, e)) g b), omega (arith, lead_at 1 (map link xs) i (link x) g b, e))

pub chain_none : (xs : List Link) → chain_at (chains (map link xs)) 0 ≡ []
chain_none xs = ap found_names (longer_keeps ([] ∷ []) (map link xs) 0 (omega arith))

pub below_or : (n : ℕ) (is : List ℕ) (j d : ℕ) → AreNumbersBelow n is → j < length is → get_or is j d < n
below_or n [] j d b h = absurd (omega arith)
below_or n (k ∷ is) zero d b h = b.0
below_or n (k ∷ is) (suc j) d b h = below_or n is j d b.1 (omega arith)

pub all_or : (cs : List Names) (is : List ℕ) (j d : ℕ) → j < length is → chain_at (all_at cs is) j ≡ chain_at cs (get_or is j d)
all_or cs [] j d h = absurd (omega arith)
all_or cs (k ∷ is) zero d h = refl
all_or cs (k ∷ is) (suc j) d h = all_or cs is j d (omega arith)

pub below_take : (n : ℕ) (is : List ℕ) (k : ℕ) → AreNumbersBelow n is → AreNumbersBelow n (take k is)
below_take n is zero b = tt
below_take n [] (suc k) b = tt
below_take n (i ∷ is) (suc k) b = (b.0, below_take n is k b.1)

pub all_take : (cs : List Names) (is : List ℕ) (k : ℕ) → all_at cs (take k is) ≡ take k (all_at cs is)
all_take cs is zero = refl
all_take cs [] (suc k) = refl
all_take cs (i ∷ is) (suc k) = ap (λ l. chain_at cs i ∷ l) (all_take cs is k)
