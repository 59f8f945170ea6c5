-- What is counted over slots, as they change.
use Rattle.std.proofs.Common.{◌≡◌, refl, sym, ap, ◌∙◌, subst, ℕ, ◌+◌, ◌<◌, ◌≤◌, List, [], ◌∷◌, ◌++◌, length, Option, Some, None, arith, le_refl}
use Rattle.std.specs.Prelude.{slice_set, slice_index_or}
use Rattle.std.proofs.lemmas.List.Sums.{sum_by-set, sum_by_push, sum_by-le-sum_by, get_or-le-sum_by, sum_by-cons}
use Rattle.spi_term.specs.View.{effect}
use Rattle.spi_term.specs.declared.term.Effect as D
use Rattle.spi_term.proofs.Sizes.{some_process}
use Rattle.spi_bench.specs.Sums.{Measure, nodes, blocked, atoms, placed, atom_times, of_least, if_none, of_slot, total, counted, IsMeasure, shared_in, AddsSlot, AreSums}
use Rattle.spi_bench.specs.Parts.{nodes_in_parts}
use Rattle.spi_bench.specs.Slots.{slot_parts}
use Rattle.spi_bench.specs.declared.slot.Slot.{Slot}
use Rattle.spi_bench.specs.declared.sums.Sums.{Sums}
use Rattle.spi_bench.proofs.Counted.{times_le}

-- no more parts are blocked than there are nodes, and no more atoms stand at a place than in all
if_none_le : (o : Option D.Effect) → if_none o ≤ 1
if_none_le None = le_refl 1
if_none_le (Some e) = omega arith

blocked_le : (k n : ℕ) (s : Option Slot) → of_slot k n blocked s ≤ of_slot k n nodes s
blocked_le k n None = le_refl 0
blocked_le k n (Some s) = let a = if_none_le s.least in let b = some_process s.part.process in omega arith

of_least_le : (k n : ℕ) (w : Option ℕ) (o : Option D.Effect) → of_least (atom_times k n w) o ≤ of_least length o
of_least_le k n w None = le_refl 0
of_least_le k n w (Some e) = times_le k n w (effect e)

placed_le : (k n : ℕ) (w : Option ℕ) (s : Option Slot) → of_slot k n (placed w) s ≤ of_slot k n atoms s
placed_le k n w None = le_refl 0
placed_le k n w (Some s) = of_least_le k n w s.least

-- room for each count
pub all_fit : (k n : ℕ) (ss : List (Option Slot)) (s : Option Slot) → total k n nodes ss + of_slot k n nodes s < 18446744073709551616 → total k n atoms ss + of_slot k n atoms s < 18446744073709551616 → (m : Measure) → total k n m ss + of_slot k n m s < 18446744073709551616
all_fit k n ss s a b nodes = a
all_fit k n ss s a b blocked =
    let x = sum_by-le-sum_by (of_slot k n blocked) (of_slot k n nodes) ss (blocked_le k n) in
    let y = blocked_le k n s in omega arith
all_fit k n ss s a b atoms = b
all_fit k n ss s a b (placed w) =
    let x = sum_by-le-sum_by (of_slot k n (placed w)) (of_slot k n atoms) ss (placed_le k n w) in
    let y = placed_le k n w s in omega arith

pub placed_within : (k n : ℕ) (w : Option ℕ) (ss : List (Option Slot)) → total k n (placed w) ss ≤ total k n atoms ss
placed_within k n w ss = sum_by-le-sum_by (of_slot k n (placed w)) (of_slot k n atoms) ss (placed_le k n w)

-- one slot is at most all
pub slot_within : (s : Sums) (ss : List (Option Slot)) (i : ℕ) (d before : Option Slot) → AreSums s ss → i < length ss → before ≡ slice_index_or ss i d → (m : Measure) → IsMeasure (shared_in s) m → of_slot s.free (shared_in s) m before ≤ counted s m
slot_within s ss i d before h l e m p =
    let f = of_slot s.free (shared_in s) m in
    let x = get_or-le-sum_by f ss i d l in
    let y = h.each m p in
    let z = ap f e in omega arith

-- a slot is emptied, and filled
pub sums_taken : (s t : Sums) (ss : List (Option Slot)) (i : ℕ) (d before : Option Slot) → AreSums s ss → i < length ss → before ≡ slice_index_or ss i d → AddsSlot t s before → AreSums t (slice_set ss i None)
sums_taken s t ss i d before h l e a = record {
  each = λ m p.
      let q = subst (λ n. IsMeasure n m) (sym a.shared) p in
      let x = subst (λ n. counted s m ≡ total s.free n m ss) a.shared (h.each m q) in
      let y = subst (λ k. counted s m ≡ total k (shared_in t) m ss) a.free x in
      let f = of_slot t.free (shared_in t) m in
      let z = sum_by-set f ss i None d l in
      let v = ap f e in
      let w = a.each m p in omega arith;
}

pub sums_added : (s t : Sums) (ss : List (Option Slot)) (i : ℕ) (d empty slot : Option Slot) → AreSums s ss → i < length ss → empty ≡ None → slice_index_or ss i d ≡ empty → AddsSlot s t slot → AreSums t (slice_set ss i slot)
sums_added s t ss i d empty slot h l n e a = record {
  each = λ m p.
      let q = subst (λ n. IsMeasure n m) a.shared p in
      let x = h.each m q in
      let f = of_slot s.free (shared_in s) m in
      let z = sum_by-set f ss i slot d l in
      let v = ap f (e ∙ n) in
      let w = a.each m q in
      let r : counted t m ≡ total s.free (shared_in s) m (slice_set ss i slot) = omega arith in
      subst (λ k. counted t m ≡ total k (shared_in t) m (slice_set ss i slot)) (sym a.free) (subst (λ n. counted t m ≡ total s.free n m (slice_set ss i slot)) (sym a.shared) r);
}

pub sums_padded : (s : Sums) (ss ts : List (Option Slot)) → AreSums s ss → ts ≡ ss ++ None ∷ [] → AreSums s ts
sums_padded s ss ts h e = record {
  each = λ m p.
      let x = h.each m p in
      let z = sum_by_push (of_slot s.free (shared_in s) m) ss None in
      let v = ap (total s.free (shared_in s) m) e in omega arith;
}

-- an emptied slot leaves room
pub emptied_le : (k n : ℕ) (m : Measure) (ss : List (Option Slot)) (i : ℕ) → i < length ss → total k n m (slice_set ss i None) ≤ total k n m ss
emptied_le k n m ss i l = let z = sum_by-set (of_slot k n m) ss i None None l in omega arith

pub room_after : (k n k' n' : ℕ) (ss ts : List (Option Slot)) (m : Measure) (i r : ℕ) → k' ≡ k → n' ≡ n → ts ≡ slice_set ss i None → i < length ss → total k n m ss + r < 18446744073709551616 → total k' n' m ts + r < 18446744073709551616
room_after k n k' n' ss ts m i r e f g l h =
    let a = ap (λ j. total j n' m ts) e in
    let b = ap (λ j. total k j m ts) f in
    let c = ap (total k n m) g in
    let d = emptied_le k n m ss i l in omega arith

pub room_slot : (k n k' n' : ℕ) (ss ts : List (Option Slot)) (m : Measure) (i : ℕ) (s : Option Slot) → k' ≡ k → n' ≡ n → ts ≡ slice_set ss i None → i < length ss → total k n m ss + of_slot k n m s < 18446744073709551616 → total k' n' m ts + of_slot k' n' m s < 18446744073709551616
room_slot k n k' n' ss ts m i s e f g l h =
    let a = ap (λ j. of_slot j n' m s) e in
    let b = ap (λ j. of_slot k j m s) f in
    let r = room_after k n k' n' ss ts m i (of_slot k n m s) e f g l h in omega arith

pub room_padded : (k n : ℕ) (ss ts : List (Option Slot)) (m : Measure) (r : ℕ) → ts ≡ ss ++ None ∷ [] → total k n m ss + r < 18446744073709551616 → total k n m ts + r < 18446744073709551616
room_padded k n ss ts m r g h =
    let z = sum_by_push (of_slot k n m) ss None in
    let c = ap (total k n m) g in omega arith

-- the nodes of the parts
pub nodes_total : (k n : ℕ) (ss : List (Option Slot)) → nodes_in_parts (slot_parts ss) ≡ total k n nodes ss
nodes_total k n [] = refl
nodes_total k n (None ∷ ss) = let a = sum_by-cons (of_slot k n nodes) None ss in let h = nodes_total k n ss in omega arith
nodes_total k n (Some s ∷ ss) = let a = sum_by-cons (of_slot k n nodes) (Some s) ss in let h = nodes_total k n ss in omega arith
