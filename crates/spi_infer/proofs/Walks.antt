-- One node after another, forward.
use Rattle.std.proofs.Common.{◌≡◌, ℕ, zero, suc, ◌+◌, ◌-◌, ◌≤◌, ⊎_elim, Bool, true, false, eqb, List, [], ◌∷◌, ◌++◌, Some, length, take, drop, refl, sym, ap, subst, ◌∙◌, arith, append-nil}
use Rattle.std.specs.Prelude.{slice_get, if◌then◌else◌}
use Rattle.std.proofs.lemmas.Bool.{eqb-true}
use Rattle.std.proofs.lemmas.List.{take_all, drop_all}
use Rattle.spi_term.specs.Term.{Pars, Branches, Process, leaf, prefix, fork, binds, fork_binds, process_size}
use Rattle.spi_term.specs.Names.{ProcessOver}
use Rattle.spi_term.specs.Spelling.{Shape, leaf_at, prefix_at, fork_at, flat, numbered, spelled}
use Rattle.spi_term.specs.Arena.{ReadsProcesses, scope_of, scope_at, parts_of, PartsStand}
use Rattle.spi_term.proofs.Lists.{get_either, drop_get}
use Rattle.spi_term.proofs.Rows.{arena_reads, reads_from}
use Rattle.spi_term.proofs.Numbers.{spelled_arena}
use Rattle.spi_term.proofs.Places.{of_order}
use Rattle.spi_rules.specs.Environment.{Env}
use Rattle.spi_message.specs.Judging.{Numbered, Stands}
use Rattle.spi_count.specs.declared.keys.Keys.{Keys}
use Rattle.spi_infer.specs.declared.own.OwnNote.{OwnNote}
use Rattle.spi_infer.specs.Own.{AreFormsNoted, noted_none}
use Rattle.spi_count.specs.Keeping.{with_keys, GrowsTo}
use Rattle.spi_infer.specs.Passes.{note_of, Wait, wait, settled, entered, waiting, left_waiting, scan}
use Rattle.spi_infer.specs.declared.waiting.Pending.{Pending}
use Rattle.spi_infer.specs.Waiting.{Queued, waiting_none, ReachesUpTo, AreLater}
use Rattle.spi_infer.specs.Walking.{Walked, IsNodePassed}
use Rattle.spi_infer.proofs.Kept.{are_noted_keep, noted_push}
use Rattle.spi_infer.proofs.Scanning.{scan_more}

-- scopes
scope_low : (q : Process) (i k n : ℕ) (x : Shape) → slice_get (flat i k q) n ≡ Some x → k ≤ scope_of x
scope_low (leaf l) i k zero x e = let f : leaf_at k l ≡ x = cc in subst (λ x. k ≤ scope_of x) f (omega arith)
scope_low (leaf l) i k (suc n) x e = absurd (cc)
scope_low (prefix s p) i k zero x e = let f : prefix_at k s (suc i) ≡ x = cc in subst (λ x. k ≤ scope_of x) f (omega arith)
scope_low (prefix s p) i k (suc n) x e = omega (arith, scope_low p (suc i) (k + binds s) n x e)
scope_low (fork f p q) i k zero x e = let g : fork_at k f (suc i) (suc i + process_size p) ≡ x = cc in subst (λ x. k ≤ scope_of x) g (omega arith)
scope_low (fork f p q) i k (suc n) x e =
    let m = k + fork_binds f in
    ⊎_elim (λ (h : slice_get (flat (suc i) m p) n ≡ Some x). let g : k ≤ scope_of x = omega (arith, scope_low p (suc i) m n x h) in g) (λ (h : (j : ℕ) × (slice_get (flat (suc i + process_size p) m q) j ≡ Some x)). let g : k ≤ scope_of x = omega (arith, scope_low q (suc i + process_size p) m h.0 x h.1) in g) (get_either (flat (suc i) m p) (flat (suc i + process_size p) m q) n x e)

pub names_low : (k : ℕ) (p : Process) (i : ℕ) (x : Shape) → slice_get (spelled k p) i ≡ Some x → k ≤ scope_of x
names_low k p i x e = scope_low (numbered [] k p) 0 k i x e

scope_at_get : (ss : List Shape) (i : ℕ) (x : Shape) → slice_get ss i ≡ Some x → scope_at ss i ≡ Some (scope_of x)
scope_at_get [] i x e = absurd (cc)
scope_at_get (y ∷ ss) zero x e = let f : y ≡ x = cc in ap (λ y. Some (scope_of y)) f
scope_at_get (y ∷ ss) (suc i) x e = scope_at_get ss i x e

-- the parts of a form stand where it says
pub parts_at : (k : ℕ) (p : Process) (i : ℕ) (x : Shape) → ProcessOver k p → slice_get (spelled k p) i ≡ Some x → PartsStand (spelled k p) i (scope_of x) (parts_of x)
parts_at k p i x o e =
    let ss = spelled k p in
    let a = spelled_arena k p ss (o, refl) in
    let w = reads_from i 0 ss _ (arena_reads k ss a.0 a.1 a.2) in
    let z : 0 + i ≡ i = omega arith in
    (of_order ss (drop (suc i) ss) i x (drop_get ss i x e) (w.0, subst (λ j. ReadsProcesses j (drop i ss) w.0) z w.1)).1

-- types that wait
later_left : (ss : List Shape) (base i : ℕ) (ws : List Wait) → AreLater ss base ws → AreLater ss base (left_waiting i ws)
later_left ss base i [] h = h
later_left ss base i (wait r u ∷ ws) h = go (eqb r i)
  where
    go : (b : Bool) → AreLater ss base (if b then ws else (wait r u ∷ ws))
    go true = h.1
    go false = h

pub later_next : (ss : List Shape) (base i : ℕ) (x : Shape) (ws : List Wait) → AreLater ss base ws → base ≤ scope_of x → PartsStand ss i (scope_of x) (parts_of x) → AreLater ss base (waiting (left_waiting i ws) x)
later_next ss base i (leaf_at k l) ws h b p = later_left ss base i ws h
later_next ss base i (prefix_at k s j) ws h b p = later_left ss base i ws h
later_next ss base i (fork_at k Pars a r) ws h b p = later_left ss base i ws h
later_next ss base i (fork_at k (Branches m t u) a r) ws h b p = ((k + 1, p.3, omega arith), later_left ss base i ws h)

pub later_reaches : (ss : List Shape) (base i k : ℕ) (x : Shape) (ws : List Wait) → AreLater ss base ws → slice_get ss i ≡ Some x → scope_of x ≡ k → base ≤ k → ReachesUpTo base i k ws
later_reaches ss base i k x [] h e q l = l
later_reaches ss base i k x (wait r u ∷ ws) h e q l = go (eqb r i) refl
  where
    some_scope : {a b : ℕ} → Some a ≡ Some b → a ≡ b
    some_scope e = cc

    go : (b : Bool) → eqb r i ≡ b → base ≤ (if eqb r i then k - 1 else k)
    go true f =
        let n : h.0.0 ≡ scope_of x = some_scope (sym h.0.1 ∙ ap (scope_at ss) (eqb-true r i f) ∙ scope_at_get ss i x e) in
        let w : base ≤ k - 1 = omega (arith, n, q, h.0.2) in
        subst (λ b. base ≤ (if b then k - 1 else k)) (sym f) w
    go false f = subst (λ b. base ≤ (if b then k - 1 else k)) (sym f) l

-- the walk
pub walked_start : (ss : List Shape) (e : Env) (j : Numbered) (ks : Keys) (ps : List Pending) (os : List OwnNote) → Stands j e → ps ≡ [] → os ≡ [] → Walked ss e 0 j ks ps os
walked_start ss e j ks ps os s p q = record {
  env = e;
  stands = s;
  waits = [];
  queued = subst (λ ps. Queued j.store ps []) (sym p) waiting_none;
  later = tt;
  notes = [];
  noted = subst (λ os. AreFormsNoted j.store (with_keys j.store ks) [] [] os) (sym q) noted_none;
  rest = refl;
}

take_at_get : (ss : List Shape) (i : ℕ) (x : Shape) → slice_get ss i ≡ Some x → take i ss ++ x ∷ [] ≡ take (i + 1) ss
take_at_get [] i x e = absurd (cc)
take_at_get (y ∷ ss) zero x e = let f : x ≡ y = cc in ap (λ y. y ∷ []) f
take_at_get (y ∷ ss) (suc i) x e =
    let n : suc (i + 1) ≡ suc i + 1 = omega arith in
    ap (λ l. y ∷ l) (take_at_get ss i x e) ∙ ap (λ n. take n (y ∷ ss)) n

pub walked_next : {ss : List Shape} {start : Env} {i : ℕ} {j k : Numbered} {ks ls : Keys} {ps : List Pending} {os : List OwnNote} (n : ℕ) (x : Shape) (qs : List Pending) (o : OwnNote) (rs : List OwnNote) → Walked ss start i j ks ps os → slice_get ss i ≡ Some x → scope_of x ≡ n → length start ≤ scope_of x → PartsStand ss i (scope_of x) (parts_of x) → ((ws : List Wait) → Queued j.store ps ws → IsNodePassed j k ls i n x ws o) → GrowsTo j.store ks k.store ls → ((ws : List Wait) → Queued j.store ps ws → Queued k.store qs (waiting (left_waiting i ws) x)) → rs ≡ os ++ o ∷ [] → Walked ss start (i + 1) k ls qs rs
walked_next {ss} {start} {i} {j} {k} {ks} {ls} {ps} {os} n x qs o rs w e q b f pass g v r =
    let cut = settled i n w.env w.waits in
    let p = pass w.waits w.queued in
    let more = noted_push x (note_of cut x) o (are_noted_keep {s = j.store} {r = k.store} {ks = ks} {ls = ls} g w.noted) (p.noted w.env w.stands) in
    record {
      env = entered cut x;
      stands = p.enters w.env w.stands;
      waits = waiting (left_waiting i w.waits) x;
      queued = v w.waits w.queued;
      later = later_next ss (length start) i x w.waits w.later b f;
      notes = w.notes ++ note_of cut x ∷ [];
      noted = subst (λ rs. AreFormsNoted k.store (with_keys k.store ls) (take (i + 1) ss) (w.notes ++ note_of cut x ∷ []) rs) (sym r) (subst (λ l. AreFormsNoted k.store (with_keys k.store ls) l (w.notes ++ note_of cut x ∷ []) (os ++ o ∷ [])) (take_at_get ss i x e) more);
      rest = scan_more w.notes w.env cut (entered cut x) w.waits (waiting (left_waiting i w.waits) x) ss i x (note_of cut x) e (ap (λ n. settled i n w.env w.waits) (sym q)) refl refl refl ∙ w.rest;
    }

pub walked_end : {ss : List Shape} {start : Env} {i : ℕ} {j : Numbered} {ks : Keys} {ps : List Pending} {os : List OwnNote} → Walked ss start i j ks ps os → length ss ≤ i → AreFormsNoted j.store (with_keys j.store ks) ss (scan 0 start [] ss) os
walked_end {ss} {start} {i} {j} {ks} {ps} {os} w h =
    let At = with_keys j.store ks in
    let n : w.notes ≡ scan 0 start [] ss = sym (append-nil w.notes) ∙ ap (λ l. w.notes ++ scan i w.env w.waits l) (sym (drop_all i ss h)) ∙ w.rest in
    subst (λ ns. AreFormsNoted j.store At ss ns os) n (subst (λ l. AreFormsNoted j.store At l w.notes os) (take_all i ss h) w.noted)
