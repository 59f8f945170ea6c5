-- One node of the backward pass.
use Rattle.std.proofs.Common.{◌≡◌, refl, sym, ap, ◌∙◌, subst, ℕ, suc, ◌+◌, Bool, true, false, List, [], ◌∷◌, reverse, drop, get_or, Option, Some, arith}
use Rattle.std.specs.Prelude.{slice_get}
use Rattle.spi_infer.proofs.Walked.{none_from, note_here, at_node, at_note}
use Rattle.spi_infer.specs.Accounts.{IsNoted}
use Rattle.spi_infer.specs.Passes.{Note, act, run_notes, scan}
use Rattle.spi_infer.specs.declared.own.Noted.{Noted}
use Rattle.spi_infer.specs.declared.own.OwnNote.{OwnNote}
use Rattle.spi_intern.specs.Meaning.{NoneTwice}
use Rattle.spi_intern.specs.declared.store.Store.{Store}
use Rattle.spi_origin.specs.Gathering.{Aim, keeps, picks, with_node, at_top, joined_lists, top_sum, gather, MarkedStacks, AreMarked, marked_none}
use Rattle.spi_rules.specs.Environment.{Env}
use Rattle.spi_term.specs.Names.{ProcessOver}
use Rattle.spi_term.specs.Spelling.{Shape, spelled}
use Rattle.spi_term.specs.Term.{Effect, Process, process_size}

with_same : (kept picked a b : Bool) (i : ℕ) (ls : List (List ℕ)) → kept ≡ a → (kept ≡ true → picked ≡ b) → at_top (with_node kept picked i) ls ≡ at_top (with_node a b i) ls
with_same true picked a b i ls e f =
    ap (λ p. at_top (with_node true p i) ls) (f refl) ∙ ap (λ k. at_top (with_node k b i) ls) e
with_same false picked a b i [] e f = refl
with_same false picked a b i (l ∷ ls) e f = ap (λ k. with_node k b i l ∷ ls) e

pub starts_marked : (w : Aim) (k : ℕ) (p : Process) (ns : List Note) (n : ℕ) (marks found : List ℕ) → n ≡ process_size p → marks ≡ [] → found ≡ [] → MarkedStacks marks found (gather w n (drop n (spelled k p)) ns)
starts_marked w k p ns n marks found l e f =
    subst (λ ls. MarkedStacks marks found ls) (sym (ap (λ ss. gather w n ss ns) (none_from k p l))) (subst (λ ms. AreMarked ms (reverse found) []) (sym (ap reverse e)) marked_none)

module _ (s : Store) (noted : Noted) (k : ℕ) (p : Process) (env : Env) (h : IsNoted s noted k p env) (i : ℕ) (x : Shape) (g : slice_get (spelled k p) i ≡ Some x) (o : OwnNote) (ix : o ≡ get_or noted.notes.items i o) (once : NoneTwice s) (over : ProcessOver k p) (id : ℕ) (z : id ≡ i + 1) (w : Aim) where
  abbrev ss : List Shape
  ss = spelled k p

  abbrev ns : List Note
  ns = scan 0 env [] (spelled k p)

  abbrev note : Note
  note = note_here s noted k p env h i x g o ix

  abbrev st : List (Option Effect)
  st = run_notes (drop id ss) (drop id ns)

  gather_is : gather w i (drop i ss) (drop i ns) ≡ at_top (with_node (keeps w (top_sum (act x note st))) (picks w x note st) i) (joined_lists x (gather w id (drop id ss) (drop id ns)))
  gather_is =
      let n : suc i ≡ id = omega (arith, z) in
      ap (λ l. gather w i l (drop i ns)) (at_node s noted k p env h i x g o ix once over id z)
      ∙ ap (gather w i (x ∷ drop id ss)) (at_note s noted k p env h i x g o ix once over id z)
      ∙ ap (λ j. at_top (with_node (keeps w (top_sum (act x note st))) (picks w x note st) i) (joined_lists x (gather w j (drop id ss) (drop id ns)))) n

  pub stepped : (kept picked : Bool) (marks found : List ℕ) → kept ≡ keeps w (top_sum (act x note st)) → (kept ≡ true → picked ≡ picks w x note st) → MarkedStacks marks found (at_top (with_node kept picked i) (joined_lists x (gather w id (drop id ss) (drop id ns)))) → MarkedStacks marks found (gather w i (drop i ss) (drop i ns))
  stepped kept picked marks found e f m =
      subst (MarkedStacks marks found) (with_same kept picked (keeps w (top_sum (act x note st))) (picks w x note st) i (joined_lists x (gather w id (drop id ss) (drop id ns))) e f ∙ sym gather_is) m
