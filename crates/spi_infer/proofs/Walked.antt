-- The backward pass by counts from the last node to the first.
use Rattle.std.proofs.Common.{◌≡◌, refl, sym, ap, ◌∙◌, subst, ℕ, zero, suc, ◌+◌, ◌<◌, ◌≤◌, Bool, true, false, List, [], ◌∷◌, ◌++◌, length, drop, get_or, Option, Some, None, arith, append-nil, append_assoc, length-append}
use Rattle.std.specs.Prelude.{⊤, slice_get, if◌then◌else◌}
use Rattle.std.proofs.lemmas.List.{drop_all}
use Rattle.std.proofs.lemmas.Option.{slice_get_within}
use Rattle.spi_term.specs.Term.{Message, Effect, Prefix, Checks, Casts, Process, leaf, prefix, fork, binds, fork_binds, process_size}
use Rattle.spi_term.specs.Names.{ProcessOver}
use Rattle.spi_term.specs.Spelling.{Shape, leaf_at, prefix_at, fork_at, flat, numbered, spelled}
use Rattle.spi_term.specs.Arena.{InScope}
use Rattle.spi_term.proofs.Lists.{drop_get}
use Rattle.spi_term.proofs.Numbers.{numbered_in_scope, length_spelled}
use Rattle.spi_rules.specs.Environment.{Env}
use Rattle.spi_intern.specs.declared.store.Store.{Store}
use Rattle.spi_intern.specs.declared.messages.MsgId.{MsgId}
use Rattle.spi_intern.specs.declared.types.TyId.{TyId}
use Rattle.spi_intern.specs.Meaning.{NoneTwice}
use Rattle.spi_count.specs.declared.pile.Pile.{Pile}
use Rattle.spi_count.specs.declared.keys.Keys.{Keys}
use Rattle.spi_infer.specs.declared.own.Own.{Own}
use Rattle.spi_infer.specs.declared.own.Own.TheVariants.{Checked, Cast}
use Rattle.spi_infer.specs.declared.own.OwnNote.{OwnNote}
use Rattle.spi_infer.specs.declared.own.Noted.{Noted}
use Rattle.spi_count.specs.Keeping.{with_keys}
use Rattle.spi_infer.specs.Own.{PaidFits, IsOwnOf, FormFits, FormNotedAs, AreFormsNoted, noted_none, noted_next}
use Rattle.spi_message.specs.Forms.{more, on_first, on_rest}
use Rattle.spi_infer.specs.Forms.{effect_of}
use Rattle.spi_infer.specs.Passes.{Note, scan, run_notes, act, is_stuck, first_stuck}
use Rattle.spi_infer.specs.Accounts.{BelowIn, MayBelowIn, TopBelowIn, BothBelowIn, Behind, CheckGiven, CastGiven, OwnGiven, NoteGiven, Tops, IsBeforeNode, IsNoted}
use Rattle.spi_message.proofs.Opened.{length_more, length_first, length_rest}
use Rattle.spi_infer.proofs.Passes.{notes, inside_names, run_two, run_flat}
use Rattle.spi_infer.proofs.Below.{below_effect}
use Rattle.spi_infer.proofs.Located.{scan_is}

-- the effects behind each node
abbrev pub AllBehind : List Shape → List Note → Type 0
AllBehind [] ns = ⊤
AllBehind (x ∷ ss) [] = ⊤
AllBehind (x ∷ ss) (n ∷ ns) = Behind x (run_notes ss ns) × AllBehind ss ns

may_below : (x : Shape) (o : Option Effect) → ((es : Effect) → o ≡ Some es → BelowIn x es) → MayBelowIn x o
may_below x None h = tt
may_below x (Some es) h = h es refl

pub behind_flat : (q : Process) (e : Env) (i k : ℕ) (ss : List Shape) (bs : List Note) → k ≡ length e → InScope k q → AllBehind ss bs → AllBehind (flat i k q ++ ss) (notes q e ++ bs)
behind_flat (leaf l) e i k ss bs n o h = (tt, h)
behind_flat (prefix s p) e i k ss bs n o h =
    let e' = e ++ more e s in
    let n' : k + binds s ≡ length e' = omega (arith, n, length-append e (more e s), length_more e s) in
    let x = prefix_at k s (suc i) in
    let top = may_below x (effect_of p e') (λ es f. below_effect p e' (k + binds s) es n' o.1 f) in
    (subst (TopBelowIn x) (sym (run_flat p e' (suc i) (k + binds s) ss bs n')) top, behind_flat p e' (suc i) (k + binds s) ss bs n' o.1 h)
behind_flat (fork f p q) e i k ss bs n o h =
    let m = k + fork_binds f in
    let e1 = e ++ on_first f in
    let e2 = e ++ on_rest f in
    let n1 = inside_names e (on_first f) n (length_first f) in
    let n2 = inside_names e (on_rest f) n (length_rest f) in
    let r = suc i + process_size p in
    let fp = flat (suc i) m p in
    let fq = flat r m q in
    let x = fork_at k f (suc i) r in
    let first = may_below x (effect_of p e1) (λ es g. below_effect p e1 m es n1 o.1.0 g) in
    let second = may_below x (effect_of q e2) (λ es g. below_effect q e2 m es n2 o.1.1 g) in
    let is = run_two fp fq ss (notes p e1) (notes q e2) bs (run_flat p e1 (suc i) m (fq ++ ss) (notes q e2 ++ bs) n1) (run_flat q e2 r m ss bs n2) in
    let rest = behind_flat p e1 (suc i) m (fq ++ ss) (notes q e2 ++ bs) n1 o.1.0 (behind_flat q e2 r m ss bs n2 o.1.1 h) in (
      subst (BothBelowIn x) (sym is) (first, second),
      subst (λ l. AllBehind l ((notes p e1 ++ notes q e2) ++ bs)) (sym (append_assoc fp fq ss)) (subst (AllBehind (fp ++ (fq ++ ss))) (sym (append_assoc (notes p e1) (notes q e2) bs)) rest),
    )

none_behind : (ss : List Shape) → AllBehind ss []
none_behind [] = tt
none_behind (x ∷ ss) = tt

behind_drop : (i : ℕ) (ss : List Shape) (bs : List Note) → AllBehind ss bs → AllBehind (drop i ss) (drop i bs)
behind_drop zero ss bs h = h
behind_drop (suc i) [] bs h = tt
behind_drop (suc i) (x ∷ ss) [] h = none_behind (drop i ss)
behind_drop (suc i) (x ∷ ss) (b ∷ bs) h = behind_drop i ss bs h.1

-- the place of a node
record NoteAt (s : Store) (At : ℕ → Message → Type 0) (ns : List Note) (i : ℕ) (x : Shape) (o : OwnNote) : Type 0 where
  pub note : Note
  pub is : drop i ns ≡ note ∷ drop (i + 1) ns
  pub noted : FormNotedAs s At x note o

noted_at : {s : Store} (At : ℕ → Message → Type 0) (ss : List Shape) (ns : List Note) (os : List OwnNote) → AreFormsNoted s At ss ns os → (i : ℕ) (x : Shape) (o : OwnNote) → slice_get ss i ≡ Some x → o ≡ get_or os i o → NoteAt s At ns i x o
noted_at At _ _ _ noted_none i x o g e = absurd (cc)
noted_at {s} At _ _ _ (noted_next {x = y} {n = n} {o = p} {ns = ns} h t) zero x o g e =
    let f : y ≡ x = cc in
    let z : zero + 1 ≡ suc zero = omega arith in
    record {
      note = n;
      is = ap (λ m. n ∷ drop m (n ∷ ns)) (sym z);
      noted = subst (λ x. FormNotedAs s At x n o) f (subst (FormNotedAs s At y n) (sym e) h);
    }
noted_at At _ _ _ (noted_next {n = n} {ss = ss} {ns = ns} {os = os} h t) (suc i) x o g e =
    let r = noted_at At ss ns os t i x o g e in
    let z : suc (i + 1) ≡ suc i + 1 = omega arith in
    record { note = r.note; is = r.is ∙ ap (λ m. r.note ∷ drop m (n ∷ ns)) z; noted = r.noted }

pub noted_length : {s : Store} {At : ℕ → Message → Type 0} {ss : List Shape} {ns : List Note} {os : List OwnNote} → AreFormsNoted s At ss ns os → length os ≡ length ss
noted_length noted_none = refl
noted_length (noted_next h t) = ap suc (noted_length t)

-- a loop over the nodes from the last on, and what is kept of each
pub none_from : (k : ℕ) (p : Process) {n : ℕ} → n ≡ process_size p → drop n (spelled k p) ≡ []
none_from k p {n = n} e = drop_all n (spelled k p) (omega (arith, length_spelled k p, e))

pub notes_for_each : {s : Store} {noted : Noted} {k : ℕ} {p : Process} {env : Env} {n : ℕ} → IsNoted s noted k p env → n ≡ process_size p → length noted.notes.items ≡ n
notes_for_each {k = k} {p = p} h e = omega (arith, noted_length h.each, length_spelled k p, e)

pub at_from : {from id : ℕ} → from ≤ id → id ≤ from → id ≡ from
at_from l g = omega (arith, l, g)

-- numbers that fit are of the store
check_given : (s : Store) (own : Own) (id : MsgId) (t : Option TyId) (paid : Option Effect) → own ≡ Checked id t → PaidFits s t paid → CheckGiven s own
check_given s own id t None e f id' t' g =
    let h : t ≡ Some t' = cc in absurd (subst (λ t. PaidFits s t None) h f)
check_given s own id t (Some es) e f id' t' g =
    let h : t ≡ Some t' = cc in
    let m = subst (λ t. PaidFits s t (Some es)) h f in
    slice_get_within s.types t'.place m.kind m.at

cast_given : (s : Store) (own : Own) (t : TyId) (i : ℕ) → own ≡ Cast t → t.place < length s.types → CastGiven s own
cast_given s own t i e l t' g = let h : t ≡ t' = cc in subst (λ (t : TyId). t.place < length s.types) h l

form_given : (s : Store) (keys : Keys) (k : ℕ) (p : Prefix) (paid : Option Effect) (own : Own) → FormFits s (with_keys s keys) k p paid own → (b : ℕ) → OwnGiven s (prefix_at k p b) own
form_given s keys k (Checks m n) paid own f b = check_given s own f.0 f.1 paid f.2 f.4
form_given s keys k (Casts m t) paid own f b = cast_given s own f.0 0 f.1 (slice_get_within s.types f.0.place f.2.kind f.2.at)
form_given s keys k _ paid own f b = tt

fits_given : (s : Store) (keys : Keys) (x : Shape) (paid : Option Effect) (own : Own) → IsOwnOf s (with_keys s keys) x paid own → OwnGiven s x own
fits_given s keys (leaf_at k l) paid own f = tt
fits_given s keys (prefix_at k p b) paid own f = form_given s keys k p paid own f b
fits_given s keys (fork_at k g a r) paid own f = tt

all_behind : (k : ℕ) (p : Process) (env : Env) → k ≡ length env → ProcessOver k p → AllBehind (spelled k p) (scan 0 env [] (spelled k p))
all_behind k p env names over =
    let nodes = spelled k p in
    let tree = numbered [] k p in
    let z : k ≡ k + 0 = omega arith in
    let o = subst (λ n. InScope n tree) refl (numbered_in_scope k 0 k z p over) in
    let b = behind_flat tree env 0 k [] [] names o tt in
    subst (AllBehind nodes) (sym (scan_is k p env names)) (subst (AllBehind nodes) (append-nil (notes tree env)) (subst (λ l. AllBehind l (notes tree env ++ [])) (append-nil nodes) b))

-- one node
module _ (s : Store) (noted : Noted) (k : ℕ) (p : Process) (env : Env) (h : IsNoted s noted k p env) (i : ℕ) (x : Shape) (g : slice_get (spelled k p) i ≡ Some x) (o : OwnNote) (ix : o ≡ get_or noted.notes.items i o) where
  abbrev pub ss : List Shape
  ss = spelled k p

  abbrev pub ns : List Note
  ns = scan 0 env [] (spelled k p)

  here : NoteAt s (with_keys s noted.keys) ns i x o
  here = noted_at (with_keys s noted.keys) ss ns noted.notes.items h.each i x o g ix

  pub note_here : Note
  note_here = here.note

  pub note_given : NoteGiven s x o
  note_given f = fits_given s noted.keys x here.note.paid o.own (here.noted.1 (sym here.noted.0 ∙ f))

  module _ (once : NoneTwice s) (over : ProcessOver k p) (id : ℕ) (z : id ≡ i + 1) where
    abbrev st : List (Option Effect)
    st = run_notes (drop id ss) (drop id ns)

    pub at_node : drop i ss ≡ x ∷ drop id ss
    at_node = drop_get ss i x g ∙ ap (λ n. x ∷ drop n ss) (let n : suc i ≡ id = omega (arith, z) in n)

    pub at_note : drop i ns ≡ note_here ∷ drop id ns
    at_note = unfold note_here in (here.is ∙ ap (λ n. here.note ∷ drop n ns) (sym z))

    behind : Behind x st
    behind =
        let b = behind_drop i ss ns (all_behind k p env h.names over) in
        (subst (AllBehind (x ∷ drop id ss)) at_note (subst (λ l. AllBehind l (drop i ns)) at_node b)).0

    pub before : (old : List (Option Pile)) → Tops s noted.keys old st → IsBeforeNode s noted.keys x o old note_here st
    before old t = record { keyed = record { once = once; keyed = h.keyed }; noted = unfold note_here in here.noted; behind = behind; tops = t }

    pub acted : act x note_here st ≡ run_notes (drop i ss) (drop i ns)
    acted = sym (ap (λ l. run_notes l (drop i ns)) at_node ∙ ap (run_notes (x ∷ drop id ss)) at_note)

    -- what the node's turn makes of the stack, and whether the node is stuck
    pub tops_after : (old new : List (Option Pile)) → Tops s noted.keys old st → ((n : Note) (st : List (Option Effect)) → IsBeforeNode s noted.keys x o old n st → Tops s noted.keys new (act x n st)) → Tops s noted.keys new (run_notes (drop i ss) (drop i ns))
    tops_after old new t f = subst (Tops s noted.keys new) acted (f note_here st (before old t))

    pub stuck_at : (old : List (Option Pile)) (b : Bool) → Tops s noted.keys old st → ((n : Note) (st : List (Option Effect)) → IsBeforeNode s noted.keys x o old n st → b ≡ is_stuck x n st) → b ≡ is_stuck x note_here st
    stuck_at old b t f = f note_here st (before old t)

    stuck_is : first_stuck i (drop i ss) (drop i ns) ≡ (if is_stuck x note_here st then Some i else first_stuck (suc i) (drop id ss) (drop id ns))
    stuck_is = ap (λ l. first_stuck i l (drop i ns)) at_node ∙ ap (first_stuck i (x ∷ drop id ss)) at_note

    pub stuck_here : (b : Bool) → b ≡ is_stuck x note_here st → b ≡ true → Some i ≡ first_stuck i (drop i ss) (drop i ns)
    stuck_here b f e = sym (stuck_is ∙ ap (λ b. if b then Some i else first_stuck (suc i) (drop id ss) (drop id ns)) (sym f ∙ e))

    pub stuck_later : (b : Bool) (r : Option ℕ) → b ≡ is_stuck x note_here st → b ≡ false → r ≡ first_stuck id (drop id ss) (drop id ns) → r ≡ first_stuck i (drop i ss) (drop i ns)
    stuck_later b r f e w =
        let n : id ≡ suc i = omega (arith, z) in
        w ∙ ap (λ n. first_stuck n (drop id ss) (drop id ns)) n ∙ sym (stuck_is ∙ ap (λ b. if b then Some i else first_stuck (suc i) (drop id ss) (drop id ns)) (sym f ∙ e))

-- where the pass begins and ends
pub starts : (s : Store) (keys : Keys) (k : ℕ) (p : Process) (bs : List Note) (n : ℕ) (os : List (Option Pile)) → n ≡ process_size p → os ≡ [] → Tops s keys os (run_notes (drop n (spelled k p)) bs)
starts s keys k p bs n os l e =
    subst (λ os. Tops s keys os (run_notes (drop n (spelled k p)) bs)) (sym e) (ap (λ l. run_notes l bs) (none_from k p l))

pub starts_stuck : (k : ℕ) (p : Process) (bs : List Note) (n : ℕ) → n ≡ process_size p → None ≡ first_stuck n (drop n (spelled k p)) bs
starts_stuck k p bs n l = sym (ap (λ l. first_stuck n l bs) (none_from k p l))
