-- Types that wait, as they are pushed and taken.
use Rattle.std.proofs.Common.{◌≡◌, ℕ, List, [], ◌∷◌, ◌++◌, Option, Some, None, reverse, sym, ap, subst, ◌∙◌}
use Rattle.std.specs.Prelude.{IfSome, IfNone}
use Rattle.std.proofs.lemmas.List.{reverse-append}
use Rattle.spi_term.specs.Term.{Ty}
use Rattle.spi_intern.specs.Meaning.{Means, Keeps}
use Rattle.spi_intern.specs.declared.store.Store.{Store}
use Rattle.spi_intern.specs.declared.types.TyId.{TyId}
use Rattle.spi_intern.proofs.Meanings.{means_keeps}
use Rattle.spi_infer.specs.declared.waiting.Pending.{Pending}
use Rattle.spi_infer.specs.Passes.{Wait, wait, IsCalm, left_waiting}
use Rattle.spi_infer.specs.Waiting.{AreWaiting, waiting_none, waiting_next, Queued, IsDue, IsNotDue}
use Rattle.spi_infer.proofs.Scanning.{calm_left, due_left}

pub waiting_keeps : {s r : Store} {ps : List Pending} {ws : List Wait} → Keeps s r → AreWaiting s ps ws → AreWaiting r ps ws
waiting_keeps k waiting_none = waiting_none
waiting_keeps k (waiting_next m h) = waiting_next (means_keeps k m) (waiting_keeps k h)

pub turned : (ps : List Pending) (p : Pending) → reverse (ps ++ p ∷ []) ≡ p ∷ reverse ps
turned ps p = reverse-append ps (p ∷ [])

pub queued_push : {s r : Store} (ps qs : List Pending) (p : Pending) (u : Ty) (ws : List Wait) → Keeps s r → Means r p.ty.place u → qs ≡ ps ++ p ∷ [] → Queued s ps ws → Queued r qs (wait p.at u ∷ ws)
queued_push {s} {r} ps qs p u ws k m e h =
    subst (λ l. AreWaiting r l (wait p.at u ∷ ws)) (sym (ap reverse e ∙ turned ps p)) (waiting_next m (waiting_keeps k h))

-- what is told of the list
pub calm : {s : Store} (i : ℕ) {ps : List Pending} {ws : List Wait} → IsNotDue i ps → AreWaiting s ps ws → IsCalm i ws
calm i h waiting_none = tt
calm i h (waiting_next m w) = h

pub record Taken (s : Store) (i : ℕ) (t : TyId) (ps : List Pending) (ws : List Wait) : Type 0 where
  pub type : Ty
  pub rest : List Wait
  pub waits : ws ≡ wait i type ∷ rest
  pub means : Means s t.place type
  pub queued : AreWaiting s ps rest

taken_next : {s : Store} (p : Pending) (i : ℕ) (t : TyId) {ps : List Pending} {ws : List Wait} → p.at ≡ i → p.ty ≡ t → AreWaiting s (p ∷ ps) ws → Taken s i t ps ws
taken_next {s} p i t a q (waiting_next {u = u} {ws = ws} m h) = record {
  type = u;
  rest = ws;
  waits = ap (λ i. wait i u ∷ ws) a;
  means = subst (λ (t : TyId). Means s t.place u) q m;
  queued = h;
}

pub taken : {s : Store} {i : ℕ} {t : TyId} {ps qs : List Pending} {ws : List Wait} → IsDue i ps qs t → Queued s ps ws → Taken s i t (reverse qs) ws
taken {s} {i} {t} {ps} {qs} {ws} d h = taken_next d.last i t d.at d.ty (subst (λ l. AreWaiting s l ws) d.items h)

pub calm_queued : {s r : Store} (i : ℕ) (ps qs : List Pending) (ws : List Wait) → Keeps s r → qs ≡ ps → IsNotDue i (reverse ps) → Queued s ps ws → Queued r qs (left_waiting i ws)
calm_queued {s} {r} i ps qs ws k e d h =
    subst (λ l. AreWaiting r (reverse l) (left_waiting i ws)) (sym e) (subst (λ l. AreWaiting r (reverse ps) l) (sym (calm_left i ws (calm i d h))) (waiting_keeps k h))

pub due_queued : {s r : Store} {i : ℕ} {t : TyId} (ps qs : List Pending) (ws : List Wait) → Keeps s r → IsDue i ps qs t → Queued s ps ws → Queued r qs (left_waiting i ws)
due_queued {s} {r} {i} ps qs ws k d h =
    let w = taken d h in
    subst (λ l. AreWaiting r (reverse qs) l) (sym (ap (left_waiting i) w.waits ∙ due_left i w.type w.rest)) (waiting_keeps k w.queued)

pub none_of : {A : Type 0} (o : Option A) (P : Type 0) → o ≡ None → IfNone o P → P
none_of None P e h = h
none_of (Some t) P e h = absurd (cc)

pub some_of : {A : Type 0} (o : Option A) (t : A) (P : A → Type 0) → o ≡ Some t → IfSome o P → P t
some_of o t P e h = subst (λ o. IfSome o P) e h
