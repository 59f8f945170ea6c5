-- Edits one after another.
use Rattle.std.proofs.Common.{◌≡◌, ℕ, zero, suc, ◌+◌, ◌<◌, ◌≤◌, ◌↔◌, List, [], ◌∷◌, ◌++◌, length, map, take, drop, get_or, Bool, IsTrue, refl, sym, ap, ◌∙◌, subst, arith, append_assoc, append-nil}
use Rattle.std.specs.Prelude.{None, Some, slice_get, slice_set}
use Rattle.std.proofs.lemmas.List.{take-append-drop, take_all, map-append}
use Rattle.spi_term.proofs.Lookup.{map_take_more}
use Rattle.spi_bench.specs.Parts.{Benched, IsYes}
use Rattle.spi_edits.specs.Edits.{Edit, Bench}
use Rattle.spi_edits.specs.declared.text.Edit as declared
use Rattle.spi_edits.specs.Views.{edit_of}
use Rattle.spi_workbench.specs.Reading.{bench_after}
use Rattle.spi_workbench.specs.Answers.{EditStands, EditsStand, IsEditRefused, AreVerdicts}
use Rattle.spi_workbench.specs.declared.answer.Refusal.{Refusal}
use Rattle.spi_workbench.specs.declared.judging.Work.{Work}
use Rattle.spi_workbench.specs.Work.{IsAt, Comes, StoodEdits, StoppedEdits}

head_drop : {A : Type 0} (i : ℕ) (xs : List A) (d : A) → get_or (drop i xs) 0 d ≡ get_or xs i d
head_drop zero xs d = refl
head_drop (suc i) [] d = refl
head_drop (suc i) (x ∷ xs) d = head_drop i xs d

pub same_item : {A : Type 0} (i : ℕ) (xs ys : List A) (d : A) → drop i xs ≡ drop i ys → get_or xs i d ≡ get_or ys i d
same_item i xs ys d e = sym (head_drop i xs d) ∙ ap (λ l. get_or l 0 d) e ∙ head_drop i ys d

drop_one : {A : Type 0} (i : ℕ) (xs : List A) → drop 1 (drop i xs) ≡ drop (suc i) xs
drop_one zero xs = refl
drop_one (suc i) [] = refl
drop_one (suc i) (x ∷ xs) = drop_one i xs

set_drop : {A : Type 0} (i : ℕ) (xs : List A) (y : A) → drop (suc i) (slice_set xs i y) ≡ drop (suc i) xs
set_drop zero [] y = refl
set_drop zero (x ∷ xs) y = refl
set_drop (suc i) [] y = refl
set_drop (suc i) (x ∷ xs) y = set_drop i xs y

-- what stands behind an item that was changed
pub rest_next : {A : Type 0} (i : ℕ) (xs ys : List A) (y : A) → drop i xs ≡ drop i ys → drop (i + 1) (slice_set xs i y) ≡ drop (i + 1) ys
rest_next i xs ys y e =
    let f : i + 1 ≡ suc i = omega arith in
    ap (λ n. drop n (slice_set xs i y)) f ∙ set_drop i xs y ∙ sym (drop_one i xs) ∙ ap (drop 1) e ∙ drop_one i ys ∙ ap (λ n. drop n ys) (sym f)

get_map : {A : Type 0} (f : A → ℕ) (xs : List A) (i : ℕ) (d : A) → i < length xs → get_or (map f xs) i 0 ≡ f (get_or xs i d)
get_map f [] i d h = absurd (omega arith)
get_map f (x ∷ xs) zero d h = refl
get_map f (x ∷ xs) (suc i) d h = get_map f xs i d (omega arith)

pub nodes_at : {A : Type 0} (f : A → ℕ) (ns : List ℕ) (xs : List A) (i : ℕ) (x : A) → ns ≡ map f xs → i < length xs → x ≡ get_or xs i x → get_or ns i 0 ≡ f x
nodes_at f ns xs i x e h g = ap (λ l. get_or l i 0) e ∙ get_map f xs i x h ∙ ap f (sym g)

stand_last : (b : Bench) (before es : List Edit) (e : Edit) → EditsStand b before es → EditStands b (before ++ es) e → EditsStand b before (es ++ e ∷ [])
stand_last b before [] e h g = (subst (λ l. EditStands b l e) (append-nil before) g, tt)
stand_last b before (d ∷ es) e h g = (h.0, stand_last b (before ++ d ∷ []) es e h.1 (subst (λ l. EditStands b l e) (sym (append_assoc before (d ∷ []) es)) g))

verdict_last : (b : Bench) (before es : List Edit) (e : Edit) (vs : List Bool) (v : Bool) → AreVerdicts b before es vs → (IsTrue v ↔ IsYes (bench_after b ((before ++ es) ++ e ∷ []))) → AreVerdicts b before (es ++ e ∷ []) (vs ++ v ∷ [])
verdict_last b before [] e [] v h g = (subst (λ l. IsTrue v ↔ IsYes (bench_after b (l ++ e ∷ []))) (append-nil before) g, tt)
verdict_last b before [] e (u ∷ vs) v h g = absurd h
verdict_last b before (d ∷ es) e [] v h g = absurd h
verdict_last b before (d ∷ es) e (u ∷ vs) v h g = (h.0, verdict_last b (before ++ d ∷ []) es e vs v h.1 (subst (λ l. IsTrue v ↔ IsYes (bench_after b (l ++ e ∷ []))) (sym (append_assoc before (d ∷ []) es)) g))

pub stood_none : (b : Bench) (w : Work) → IsAt b [] w → StoodEdits b [] w []
stood_none b w h = record { at = h; edits = tt; each = tt }

module _ (b : Bench) (es : List declared.Edit) (i : ℕ) (x : declared.Edit) (lt : i < length es) (is : x ≡ get_or es i x) where
  front : map edit_of (take (i + 1) es) ≡ map edit_of (take i es) ++ edit_of x ∷ []
  front = map_take_more edit_of es i x lt is

  pub stood_next : (w w' : Work) (vs : List Bool) (v : Bool) → StoodEdits b (map edit_of (take i es)) w vs → Comes b (map edit_of (take i es)) (edit_of x) w' None → (IsTrue v ↔ IsYes w'.bench) → StoodEdits b (map edit_of (take (i + 1) es)) w' (vs ++ v ∷ [])
  stood_next w w' vs v h c y =
      let before = map edit_of (take i es) in
      let g : IsTrue v ↔ IsYes (bench_after b (before ++ edit_of x ∷ [])) = subst (λ (q : Benched). IsTrue v ↔ IsYes q) c.1.bench y in
      subst (λ l. StoodEdits b l w' (vs ++ v ∷ [])) (sym front)
      (record {
        at = c.1;
        edits = stand_last b [] before (edit_of x) h.edits c.0;
        each = verdict_last b [] before (edit_of x) vs v h.each g;
      })

  pub stopped_here : (w : Work) (vs : List Bool) (r : Refusal) → StoodEdits b (map edit_of (take i es)) w vs → IsEditRefused b (map edit_of (take i es)) (edit_of x) r → StoppedEdits b (map edit_of es) r
  stopped_here w vs r h c =
      let before = map edit_of (take i es) in
      let after = map edit_of (drop (i + 1) es) in
      record {
        before = before;
        at = edit_of x;
        after = after;
        cut = ap (map edit_of) (sym (take-append-drop (i + 1) es)) ∙ map-append edit_of (take (i + 1) es) (drop (i + 1) es) ∙ ap (λ l. l ++ after) front ∙ append_assoc before (edit_of x ∷ []) after;
        stand = h.edits;
        refused = c;
      }

pub stood_all : (b : Bench) (es : List declared.Edit) (i : ℕ) (w : Work) (vs : List Bool) → length es ≤ i → StoodEdits b (map edit_of (take i es)) w vs → StoodEdits b (map edit_of es) w vs
stood_all b es i w vs le h = subst (λ (l : List declared.Edit). StoodEdits b (map edit_of l) w vs) (take_all i es le) h

pub get_mapped : {A B : Type 0} (f : A → B) (xs : List A) (i : ℕ) (x : A) → i < length xs → x ≡ get_or xs i x → slice_get (map f xs) i ≡ Some (f x)
get_mapped f [] i x h e = absurd (omega arith)
get_mapped f (y ∷ xs) zero x h e = ap (λ z. Some (f z)) (sym e)
get_mapped f (y ∷ xs) (suc i) x h e = get_mapped f xs i x (omega arith) e
