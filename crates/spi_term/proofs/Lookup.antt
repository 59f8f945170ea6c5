-- Sorted atoms: what a sort leaves, what a binary search finds, and counts at places.
use Rattle.std.proofs.Common.{◌≡◌, refl, sym, ◌∙◌, ap, subst, ℕ, zero, suc, ◌+◌, ◌<◌, ◌≤◌, Bool, true, false, true≢false, List, [], ◌∷◌, ◌++◌, Some, None, Option, length, map, take, get_or, set, if◌then◌else◌, ◌⊎◌, inl, inr, ⊎_elim, arith, Bor, ◌≢◌, add-zero, add-one}
use Rattle.std.specs.Prelude.{slice_get, slice_index}
use Rattle.std.specs.Cmp.{IsStrictWeakOrder}
use Rattle.std.specs.Fn.{Called, ComparesAs, ComputesKey}
use Rattle.std.specs.List.Sorted.{IsSortedBy, IsPartitionedBy, IsPartitionPoint}
use Rattle.std.specs.Ordering.{is_lt, ordering_reverse}
use Rattle.std.specs.declared.cmp.Ordering.{Ordering}
use Rattle.std.specs.declared.cmp.Ordering.TheVariants.{Less, Equal, Greater}
use denote.Param.Members.{Mut}
use Rattle.std.proofs.lemmas.Bool.{cases_eq}
use Rattle.std.proofs.lemmas.List.{get_or-set_same, get_or-set_other}
use Rattle.std.proofs.lemmas.Fn.{always_returns_same}
use Rattle.std.proofs.lemmas.List.Sorted.{ranks_by, sorted_far, IsPartitionPoint-from_clause}
use Rattle.std.proofs.lemmas.Option.{slice_get_within, get_or_from_slice_get}
use Rattle.spi_term.specs.Term.{same_atom, Effect}
use Rattle.spi_term.specs.Term as Term
use Rattle.spi_term.specs.Counts.{tally}
use Rattle.spi_term.specs.Order.{atom_cmp}
use Rattle.spi_term.specs.Looking.{IsInOrder, IsCut, IsFirstPlace, IsTally, raised, IsRaised}
use Rattle.spi_term.specs.View.{atom, pointed}
use Rattle.spi_term.specs.declared.term.Atom.{Atom}
use Rattle.spi_term.proofs.Counting.{same_atom_refl, same_other, tally_append}
use Rattle.spi_term.proofs.Ranks.{atom_total, atom_tied, atom_ties}

abbrev pub seen : Bor Atom → Term.Atom
seen r = atom r.now

-- what a reference of a list points to
unpointed : (rs : List (Bor Atom)) (i : ℕ) (a : Term.Atom) → slice_get (pointed rs) i ≡ Some a → (r : Bor Atom) × (slice_get rs i ≡ Some r) × (seen r ≡ a)
unpointed [] i a e = cc
unpointed (r ∷ rs) zero a e = (r, refl, cc)
unpointed (r ∷ rs) (suc i) a e = unpointed rs i a e

pub pointed_at : (rs : List (Bor Atom)) (i : ℕ) (r : Bor Atom) → i < length rs → r ≡ get_or rs i r → slice_get (pointed rs) i ≡ Some (seen r)
pointed_at [] i r h e = absurd (omega arith)
pointed_at (s ∷ rs) zero r h e = ap (λ z. Some (seen z)) (sym e)
pointed_at (s ∷ rs) (suc i) r h e = pointed_at rs i r (omega arith) e

-- a sort by the order
in_order : (rs : List (Bor Atom)) → IsSortedBy (λ x y. is_lt (atom_cmp (seen x) (seen y))) rs → IsInOrder (pointed rs)
in_order rs up = record {
  at = λ i j a b le p q.
      let (x, f, s) = unpointed rs i a p in
      let (y, g, t) = unpointed rs j b q in
      let far = sorted_far (λ x y. is_lt (atom_cmp (seen x) (seen y))) (ranks_by atom_total seen) rs up i j x le (slice_get_within rs j y g) in
      let ex : get_or rs i x ≡ x = get_or_from_slice_get rs i x x f in
      let ey : get_or rs j x ≡ y = get_or_from_slice_get rs j y x g in
      rw (← t, ← s) (rw (ex, ey) at far);
}

pub sort_order : {F : Type 0} {g : Mut F (Bor (Bor Atom) × (Bor (Bor Atom) × Unit {0})) Ordering} {f : F} (rs : List (Bor Atom)) → ((lt : Bor Atom → Bor Atom → Bool) → IsStrictWeakOrder lt → ComparesAs g lt f → IsSortedBy lt rs) → ((a : Bor (Bor Atom) × (Bor (Bor Atom) × Unit {0})) (r : Ordering) (f' : F) → Called g f a r f' → (r ≡ atom_cmp (seen a.0.now) (seen a.1.0.now)) × (f' ≡ f)) → IsInOrder (pointed rs)
sort_order {g = g} {f = f} rs up h =
    in_order rs (up (λ x y. is_lt (atom_cmp (seen x) (seen y))) (ranks_by atom_total seen) (always_returns_same g (λ a r. is_lt r ≡ is_lt (atom_cmp (seen a.0.now) (seen a.1.0.now))) f (λ a r f' k. (ap is_lt (h a r f' k).0, (h a r f' k).1))))

-- an atom that isn't after another, which is before a third, is before the third
not_after : (o p q : Ordering) → is_lt (ordering_reverse o) ≡ false → is_lt q ≡ true → (o ≡ Less → q ≡ Less → p ≡ Less) → (o ≡ Equal → p ≡ q) → is_lt p ≡ true
not_after Less p Less n h f g = ap is_lt (f refl refl)
not_after Less p Equal n h f g = cc
not_after Less p Greater n h f g = cc
not_after Equal p q n h f g = ap is_lt (g refl) ∙ h
not_after Greater p q n h f g = cc

earlier : (a b c : Term.Atom) → is_lt (atom_cmp b a) ≡ false → is_lt (atom_cmp b c) ≡ true → is_lt (atom_cmp a c) ≡ true
earlier a b c n h =
    not_after (atom_cmp a b) (atom_cmp a c) (atom_cmp b c) (ap is_lt (sym (atom_total.antisymm b a)) ∙ n) h (atom_total.trans a b c) (atom_total.congr a b c)

never_before : (a : Term.Atom) → is_lt (atom_cmp a a) ≡ false
never_before a = ap is_lt (atom_ties a a refl)

tied_both : (o : Ordering) → is_lt o ≡ false → is_lt (ordering_reverse o) ≡ false → o ≡ Equal
tied_both Less h k = cc
tied_both Equal h k = refl
tied_both Greater h k = cc

neither : (a b : Term.Atom) → is_lt (atom_cmp a b) ≡ false → is_lt (atom_cmp b a) ≡ false → a ≡ b
neither a b h k = atom_tied a b (tied_both (atom_cmp a b) h (ap is_lt (sym (atom_total.antisymm b a)) ∙ k))

pointed_at_any : (rs : List (Bor Atom)) (i : ℕ) (d : Bor Atom) → i < length rs → slice_get (pointed rs) i ≡ Some (seen (get_or rs i d))
pointed_at_any [] i d h = absurd (omega arith)
pointed_at_any (s ∷ rs) zero d h = refl
pointed_at_any (s ∷ rs) (suc i) d h = pointed_at_any rs i d (omega arith)

-- a binary search by the order
partitioned : (a : Term.Atom) (rs : List (Bor Atom)) → IsInOrder (pointed rs) → IsPartitionedBy (λ y. is_lt (atom_cmp (seen y) a)) rs
partitioned a rs o = λ i j d le h t.
    let x = get_or rs i d in let y = get_or rs j d in
    let gx : slice_get (pointed rs) i ≡ Some (seen x) = pointed_at_any rs i d (omega arith) in
    let gy : slice_get (pointed rs) j ≡ Some (seen y) = pointed_at_any rs j d h in
    earlier (seen x) (seen y) a (o.at i j (seen x) (seen y) le gx gy) t

cut_from : (a : Term.Atom) (rs : List (Bor Atom)) (i : ℕ) → IsPartitionPoint (λ y. is_lt (atom_cmp (seen y) a) ≡ true) (λ y. is_lt (atom_cmp (seen y) a) ≡ false) rs i → IsCut a (pointed rs) i
cut_from a rs i p = record {
  before = λ k b h e.
      let (x, f, s) = unpointed rs k b e in
      let t = p.0 k x (omega arith) h in
      rw (← s) (rw (get_or_from_slice_get rs k x x f) at t);
  after = λ k b h e.
      let (x, f, s) = unpointed rs k b e in
      let t = p.1 k x h (slice_get_within rs k x f) in
      rw (← s) (rw (get_or_from_slice_get rs k x x f) at t);
}

pub search_cut : {F : Type 0} {g : Mut F (Bor (Bor Atom) × Unit {0}) Bool} {f : F} (a : Term.Atom) (rs : List (Bor Atom)) (i : ℕ) → IsInOrder (pointed rs) → ((q : Bor Atom → Bool) → ComputesKey g q f → IsPartitionedBy q rs → IsPartitionPoint (λ y. q y ≡ true) (λ y. q y ≡ false) rs i) → ((x : Bor (Bor Atom) × Unit {0}) (r : Bool) (f' : F) → Called g f x r f' → (r ≡ is_lt (atom_cmp (seen x.0.now) a)) × (f' ≡ f)) → IsCut a (pointed rs) i
search_cut a rs i o clause h = cut_from a rs i (IsPartitionPoint-from_clause (λ y. is_lt (atom_cmp (seen y) a)) rs i clause (partitioned a rs o) h)

-- what stands at the cut is the atom, or the atom doesn't stand in the list
pub place_here : (a : Term.Atom) (es : Effect) (i : ℕ) → IsCut a es i → slice_get es i ≡ Some a → IsFirstPlace a es (Some i)
place_here a es i c e = (e, λ k h f. absurd (true≢false (sym (c.before k a h f) ∙ never_before a)))

pub place_past : (a : Term.Atom) (es : Effect) (i : ℕ) → IsCut a es i → length es ≤ i → IsFirstPlace a es None
place_past a es i c h = λ k e. let w : k < length es = slice_get_within es k a e in absurd (true≢false (sym (c.before k a (omega arith) e) ∙ never_before a))

pub place_other : (a b : Term.Atom) (es : Effect) (i : ℕ) → IsInOrder es → IsCut a es i → slice_get es i ≡ Some b → same_atom b a ≡ false → IsFirstPlace a es None
place_other a b es i o c e d = λ k f. ⊎_elim
    (λ (h : k < i). true≢false (sym (c.before k a h f) ∙ never_before a))
    (λ (h : i ≤ k). true≢false (sym (same_atom_refl b) ∙ ap (same_atom b) (neither b a (c.after i b (omega arith) e) (o.at i k b a h e f)) ∙ d))
    (sides k i)
  where
    sides : (k i : ℕ) → (k < i) ⊎ (i ≤ k)
    sides k zero = inr (omega arith)
    sides zero (suc i) = inl (omega arith)
    sides (suc k) (suc i) = ⊎_elim (λ h. inl (omega arith)) (λ h. inr (omega arith)) (sides k i)

-- an atom has one place
pub place_unique : (a : Term.Atom) (es : Effect) (i j : ℕ) → IsFirstPlace a es (Some i) → IsFirstPlace a es (Some j) → i ≡ j
place_unique a es i j p q =
    let f : i < j → ⊥ = λ h. q.1 i h p.0 in
    let g : j < i → ⊥ = λ h. p.1 j h q.0 in
    omega arith

tally_push : (a y : Term.Atom) (fs : Effect) → tally a (fs ++ y ∷ []) ≡ tally a fs + (if same_atom a y then 1 else 0)
tally_push a y fs = tally_append a fs (y ∷ []) ∙ ap (λ n. tally a fs + n) (add-zero (if same_atom a y then 1 else 0))

pub tally_push_other : (a y : Term.Atom) (fs : Effect) → a ≢ y → tally a (fs ++ y ∷ []) ≡ tally a fs
tally_push_other a y fs d = tally_push a y fs ∙ rw (same_other a y d) (omega arith)

pub tally_push_same : (a y : Term.Atom) (fs : Effect) → a ≡ y → tally a (fs ++ y ∷ []) ≡ suc (tally a fs)
tally_push_same a y fs e = tally_push a y fs ∙ rw (subst (λ z. same_atom a z ≡ true) e (same_atom_refl a)) (omega arith)

pub one_element : {a b : Term.Atom} → Some a ≡ Some b → a ≡ b
one_element e = cc

-- one more atom is counted at its place
pub tally_raised : (es fs : Effect) (y : Term.Atom) (before after : List ℕ) → length before ≡ length es → IsTally es fs before → IsRaised es y before after → IsTally es (fs ++ y ∷ []) after
tally_raised es fs y before after n t r = record { at = λ a i p. go r.place r.is_place r.is a i p }
  where
    go : (o : Option ℕ) → IsFirstPlace y es o → after ≡ raised o before → (a : Term.Atom) (i : ℕ) → IsFirstPlace a es (Some i) → slice_index after i ≡ tally a (fs ++ y ∷ [])
    go None q e a i p =
        let d : a ≢ y = λ s. q i (p.0 ∙ ap Some s) in
        ap (λ c. slice_index c i) e ∙ t.at a i p ∙ sym (tally_push_other a y fs d)
    go (Some j) q e a i p = ⊎_elim here there (cases_eq i j)
      where
        w : i < length before
        w = subst (λ k. i < k) (sym n) (slice_get_within es i a p.0)

        here : i ≡ j → slice_index after i ≡ tally a (fs ++ y ∷ [])
        here s =
            let same : a ≡ y = one_element (sym p.0 ∙ ap (slice_get es) s ∙ q.0) in
            ap (λ c. slice_index c i) e ∙ subst (λ k. get_or (set before k (suc (get_or before k 0))) i 0 ≡ suc (get_or before i 0)) s (get_or-set_same before i (suc (get_or before i 0)) 0 w) ∙ ap suc (t.at a i p) ∙ sym (tally_push_same a y fs same)

        there : i ≢ j → slice_index after i ≡ tally a (fs ++ y ∷ [])
        there d =
            let other : a ≢ y = λ s. d (place_unique a es i j p (subst (λ z. IsFirstPlace z es (Some j)) (sym s) q)) in
            ap (λ c. slice_index c i) e ∙ get_or-set_other before j i (suc (get_or before j 0)) 0 d ∙ t.at a i p ∙ sym (tally_push_other a y fs other)

-- counts that are all 0, before the first atom
pub tally_none : (es : Effect) (counts : List ℕ) → ((k : ℕ) → slice_index counts k ≡ 0) → IsTally es [] counts
tally_none es counts h = record { at = λ a i p. h i }

pub few_raised : (o : Option ℕ) (before after : List ℕ) (n : ℕ) → after ≡ raised o before → ((k : ℕ) → slice_index before k ≤ n) → (k : ℕ) → slice_index after k ≤ n + 1
few_raised None before after n e h k = let f = h k in rw e (omega arith)
few_raised (Some j) before after n e h k = rw e (⊎_elim here there (cases_eq k j))
  where
    set_past : (l : List ℕ) (i v : ℕ) → length l ≤ i → set l i v ≡ l
    set_past [] i v q = refl
    set_past (x ∷ l) zero v q = absurd (omega arith)
    set_past (x ∷ l) (suc i) v q = ap (λ m. x ∷ m) (set_past l i v (omega arith))

    sides : (k i : ℕ) → (k < i) ⊎ (i ≤ k)
    sides k zero = inr (omega arith)
    sides zero (suc i) = inl (omega arith)
    sides (suc k) (suc i) = ⊎_elim (λ h. inl (omega arith)) (λ h. inr (omega arith)) (sides k i)

    here : k ≡ j → get_or (set before j (suc (get_or before j 0))) k 0 ≤ n + 1
    here s = ⊎_elim
        (λ (w : j < length before). let f = h j in let g = get_or-set_same before j (suc (get_or before j 0)) 0 w in rw (s, g) (omega arith))
        (λ (w : length before ≤ j). let f = h k in rw (set_past before j (suc (get_or before j 0)) w) (omega arith))
        (sides j (length before))

    there : k ≢ j → get_or (set before j (suc (get_or before j 0))) k 0 ≤ n + 1
    there d = let f = h k in let g = get_or-set_other before j k (suc (get_or before j 0)) 0 d in rw g (omega arith)

-- one more element at the end of a front that is mapped
map_take_suc : {A B : Type 0} (f : A → B) (es : List A) (i : ℕ) (x : A) → i < length es → x ≡ get_or es i x → map f (take (suc i) es) ≡ map f (take i es) ++ f x ∷ []
map_take_suc f [] i x h e = absurd (omega arith)
map_take_suc f (y ∷ es) zero x h e = ap (λ z. f z ∷ []) (sym e)
map_take_suc f (y ∷ es) (suc i) x h e = ap (λ l. f y ∷ l) (map_take_suc f es i x (omega arith) e)

pub map_take_more : {A B : Type 0} (f : A → B) (es : List A) (i : ℕ) (x : A) → i < length es → x ≡ get_or es i x → map f (take (i + 1) es) ≡ map f (take i es) ++ f x ∷ []
map_take_more f es i x h e = rw add-one (map_take_suc f es i x h e)
