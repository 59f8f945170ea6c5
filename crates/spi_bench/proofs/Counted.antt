-- How often atoms are counted at a place.
use Rattle.std.proofs.Common.{◌≡◌, refl, sym, ap, ◌∙◌, subst, ℕ, ◌+◌, ◌-◌, ◌<◌, ◌≤◌, Bool, true, false, nat_lt, if◌then◌else◌, List, [], ◌∷◌, ◌++◌, length, map, take, drop, Option, Some, None, arith, eq-eqb, ltb-true, ltb-false}
use Rattle.std.proofs.lemmas.List.{length-map, length-take, map-append, take-append-drop}
use Rattle.spi_term.specs.declared.term.Effect as D
use Rattle.spi_term.specs.View.{effect}
use Rattle.spi_term.specs.Term.{process_size}
use Rattle.spi_term.specs.Term.{Message, bound, name, unit, pair, in_left, in_right, enc, hash, Atom, ends, checks, many, Effect}
use Rattle.spi_bench.specs.Sums.{shared_name, place_of_atom, same_place, atom_times, at_place, IsSharedPlace, shared_in, AddsAtoms}
use Rattle.spi_bench.specs.Sums.{nodes, blocked, atoms, placed, of_least, if_none, of_slot}
use Rattle.spi_bench.specs.declared.slot.Slot.{Slot}
use Rattle.spi_bench.specs.declared.sums.Sums.{Sums}

-- the atom that is counted at a shared name
at_is : (k n x i : ℕ) (a b : Bool) → nat_lt x k ≡ a → nat_lt (x - k) n ≡ b → (if a then None else (if b then Some (x - k) else None)) ≡ Some i → (x ≡ k + i) × (i < n)
at_is k n x i true b e f h = absurd (cc)
at_is k n x i false true e f h =
    let g : x - k ≡ i = cc in
    let l : x - k < n = ltb-true (x - k) n f in
    let m : k ≤ x = ltb-false x k e in
    ((omega arith), subst (λ j. j < n) g l)
at_is k n x i false false e f h = absurd (cc)

name_is : (k n : ℕ) (m : Message) (i : ℕ) → shared_name k n m ≡ Some i → (m ≡ name (k + i)) × (i < n)
name_is k n (bound j) i h = absurd (cc)
name_is k n (name x) i h = let a = at_is k n x i (nat_lt x k) (nat_lt (x - k) n) refl refl h in (ap (λ (y : ℕ). name y) a.0, a.1)
name_is k n unit i h = absurd (cc)
name_is k n (pair a b) i h = absurd (cc)
name_is k n (in_left a) i h = absurd (cc)
name_is k n (in_right a) i h = absurd (cc)
name_is k n (enc a b) i h = absurd (cc)
name_is k n (hash a) i h = absurd (cc)

pub place_is : (k n : ℕ) (a : Atom) (i : ℕ) → place_of_atom k n a ≡ Some i → (a ≡ checks (name (k + i))) × (i < n)
place_is k n (ends m) i h = absurd (cc)
place_is k n (checks m) i h = let a = name_is k n m i h in (ap (λ (y : Message). checks y) a.0, a.1)
place_is k n (many m) i h = absurd (cc)

pub place_small : (k n : ℕ) (a : Atom) (i : ℕ) → place_of_atom k n a ≡ Some i → i < n
place_small k n a i h = (place_is k n a i h).1

pub same_refl : (w : Option ℕ) → same_place w w ≡ true
same_refl None = refl
same_refl (Some i) = eq-eqb i i refl

pub times_here : (k n : ℕ) (a : Atom) (w : Option ℕ) → w ≡ place_of_atom k n a → atom_times k n w (a ∷ []) ≡ 1
times_here k n a w e = subst (λ v. atom_times k n v (a ∷ []) ≡ 1) (sym e) (rw (same_refl (place_of_atom k n a)) refl)

-- sums and bounds
pub times_append : (k n : ℕ) (w : Option ℕ) (es fs : Effect) → atom_times k n w (es ++ fs) ≡ atom_times k n w es + atom_times k n w fs
times_append k n w [] fs = omega arith
times_append k n w (a ∷ es) fs = let h = times_append k n w es fs in omega arith

bit_le : (b : Bool) → (if b then 1 else 0) ≤ 1
bit_le true = omega arith
bit_le false = omega arith

pub times_le : (k n : ℕ) (w : Option ℕ) (es : Effect) → atom_times k n w es ≤ length es
times_le k n w [] = omega arith
times_le k n w (a ∷ es) = let h = times_le k n w es in let g = bit_le (same_place (place_of_atom k n a) w) in omega arith

-- atoms that are counted one after another
pub adds_none : (s : Sums) → AddsAtoms s s []
adds_none s = record { free = refl; shared = refl; nodes = refl; blocked = refl; atoms = refl; at = λ w p. omega arith }

pub adds_more : (a b c : Sums) (es fs : Effect) → AddsAtoms a b es → AddsAtoms b c fs → AddsAtoms a c (es ++ fs)
adds_more a b c es fs h g = record {
  free = g.free ∙ h.free;
  shared = g.shared ∙ h.shared;
  nodes = g.nodes ∙ h.nodes;
  blocked = g.blocked ∙ h.blocked;
  atoms = g.atoms ∙ h.atoms;
  at = λ w p.
      let x = h.at w p in
      let q = subst (λ n. IsSharedPlace n w) (sym h.shared) p in
      let y = subst (λ n. at_place c w ≡ at_place b w + atom_times b.free n w fs) h.shared (g.at w q) in
      let z = subst (λ k. at_place c w ≡ at_place b w + atom_times k (shared_in a) w fs) h.free y in
      let s = times_append a.free (shared_in a) w es fs in omega arith;
}

-- and in the other order
adds_swapped : (a b : Sums) (es fs : Effect) → AddsAtoms a b (es ++ fs) → AddsAtoms a b (fs ++ es)
adds_swapped a b es fs h = record {
  free = h.free;
  shared = h.shared;
  nodes = h.nodes;
  blocked = h.blocked;
  atoms = h.atoms;
  at = λ w p.
      let x = h.at w p in
      let s = times_append a.free (shared_in a) w es fs in
      let t = times_append a.free (shared_in a) w fs es in omega arith;
}

pub takes_more : (a b c : Sums) (es fs : Effect) → AddsAtoms b a es → AddsAtoms c b fs → AddsAtoms c a (es ++ fs)
takes_more a b c es fs h g = adds_swapped c a fs es (adds_more c b a fs es g h)

-- room for one atom more of the effect, and one atom fewer
pub prefix_short : {A B : Type 0} (f : A → B) (xs : List A) (n : ℕ) → n < length xs → length (map f (take n xs)) + 1 ≤ length (map f xs)
prefix_short f xs n l =
    let a = length-map (take n xs) f in let b = length-map xs f in let c = length-take n xs in omega arith

pub add_room : (a b : Sums) (es fs : Effect) → AddsAtoms a b es → length es + 1 ≤ length fs → ((w : Option ℕ) → IsSharedPlace (shared_in a) w → at_place a w + length fs < 18446744073709551616) → (w : Option ℕ) → IsSharedPlace (shared_in b) w → at_place b w + 1 < 18446744073709551616
add_room a b es fs h l r w p =
    let q = subst (λ n. IsSharedPlace n w) h.shared p in
    let x = h.at w q in let y = r w q in let z = times_le a.free (shared_in a) w es in omega arith

pub take_room : (a b : Sums) (es gs fs : Effect) (x : Atom) → (es ++ x ∷ []) ++ gs ≡ fs → AddsAtoms b a es → ((w : Option ℕ) → IsSharedPlace (shared_in a) w → atom_times a.free (shared_in a) w fs ≤ at_place a w) → (w : Option ℕ) → IsSharedPlace (shared_in b) w → atom_times b.free (shared_in b) w (x ∷ []) ≤ at_place b w
take_room a b es gs fs x e h r w p =
    let q = subst (λ n. IsSharedPlace n w) (sym h.shared) p in
    let y = subst (λ ys. atom_times a.free (shared_in a) w ys ≤ at_place a w) (sym e) (r w q) in
    let z = subst (λ n. atom_times a.free n w ((es ++ x ∷ []) ++ gs) ≤ at_place a w) h.shared y in
    let v = subst (λ k. atom_times k (shared_in b) w ((es ++ x ∷ []) ++ gs) ≤ at_place a w) h.free z in
    let s = times_append b.free (shared_in b) w (es ++ x ∷ []) gs in
    let t = times_append b.free (shared_in b) w es (x ∷ []) in
    let u = h.at w p in omega arith

pub prefix_rest : {A B : Type 0} (f : A → B) (xs : List A) (n : ℕ) → map f (take n xs) ++ map f (drop n xs) ≡ map f xs
prefix_rest f xs n = sym (map-append f (take n xs) (drop n xs)) ∙ ap (map f) (take-append-drop n xs)

-- what is counted of a slot
pub slot_nodes : (k n : ℕ) {s : Option Slot} {t : Slot} → s ≡ Some t → of_slot k n nodes s ≡ process_size t.part.process
slot_nodes k n e = ap (of_slot k n nodes) e

pub slot_blocked : (k n : ℕ) {s : Option Slot} {t : Slot} → s ≡ Some t → t.least ≡ None → of_slot k n blocked s ≡ 1
slot_blocked k n e f = ap (of_slot k n blocked) e ∙ ap if_none f

pub slot_atoms : (k n : ℕ) {s : Option Slot} {t : Slot} (e : D.Effect) → s ≡ Some t → t.least ≡ Some e → of_slot k n atoms s ≡ length (effect e)
slot_atoms k n e q f = ap (of_slot k n atoms) q ∙ ap (of_least length) f

pub slot_placed : (k n : ℕ) {s : Option Slot} {t : Slot} (e : D.Effect) (w : Option ℕ) → s ≡ Some t → t.least ≡ Some e → of_slot k n (placed w) s ≡ atom_times k n w (effect e)
slot_placed k n e w q f = ap (of_slot k n (placed w)) q ∙ ap (of_least (atom_times k n w)) f

-- the nodes alone change no other count
pub at_with : (s : Sums) (m : ℕ) (w : Option ℕ) → at_place (record s { nodes = m }) w ≡ at_place s w
at_with s m None = refl
at_with s m (Some i) = refl
