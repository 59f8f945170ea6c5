use Rattle.std.proofs.Common.{◌≡◌, ◌≤◌, ◌-◌, ◌∷◌, ◌++◌, [], List, length, reverse, subst, ◌∙◌, arith}
use Rattle.spi_term.proofs.Choices.{on_ok}
use Rattle.spi_intern.specs.Meaning.{Keeps}
use Rattle.spi_intern.specs.declared.store.Store.{Store}
use Rattle.spi_intern.proofs.Meanings.{means_keeps}
use Rattle.spi_infer.specs.Passes.{Wait}
use Rattle.spi_infer.specs.Waiting.{Queued, IsDue, IsNotDue, ReachesUpTo}
use Rattle.spi_message.proofs.Tested.{kept_same}
use Rattle.spi_infer.proofs.Queues.{none_of, some_of, calm, taken, calm_queued, due_queued}
use Rattle.spi_infer.proofs.Bound.{turns_calm, turns_due, turns_bound, reaches_calm, reaches_due, above_cut, above_more, above_bind, few_bind}
use Rattle.spi_message.proofs.Cut.{turns_cut, length_cut, same_store}
use Rattle.spi_infer.proofs.binding.settle.Goals as goal

pub cut_to-requires : goal.cut_to-requires
cut_to-requires c =
    let f = none_of c.in_ok-due.field-0 ((c.due.new.pending.items ≡ c.args.pending.now.items) × IsNotDue c.args.id (reverse c.args.pending.now.items)) c.in-None.is c.in_ok-due.ensures.none in
    reaches_calm c.args.judge.now.free c.args.id c.args.scope c.requires.low.waits (calm c.args.id f.1 c.requires.low.queued) c.requires.low.reaches

pub returns-in-None-clause-bound : goal.returns-in-None-clause-bound
returns-in-None-clause-bound c ws h =
    let f = none_of c.in_ok-due.field-0 ((c.due.new.pending.items ≡ c.args.pending.now.items) × IsNotDue c.args.id (reverse c.args.pending.now.items)) c.in-None.is c.in_ok-due.ensures.none in
    turns_calm c.args.judge.now c.cut_to.new.judge c.args.id c.args.scope ws (calm c.args.id f.1 h) (turns_cut c.args.judge.now c.cut_to.new.judge c.args.scope c.cut_to.ensures.types c.cut_to.ensures.store)

pub returns-in-None-clause-rest : goal.returns-in-None-clause-rest
returns-in-None-clause-rest c ws h =
    let f = none_of c.in_ok-due.field-0 ((c.due.new.pending.items ≡ c.args.pending.now.items) × IsNotDue c.args.id (reverse c.args.pending.now.items)) c.in-None.is c.in_ok-due.ensures.none in
    calm_queued c.args.id c.args.pending.now.items c.due.new.pending.items ws (same_store c.cut_to.ensures.store) f.0 f.1 h

pub returns-in-None-clause-few : goal.returns-in-None-clause-few
returns-in-None-clause-few c =
    omega (arith, length_cut c.args.judge.now.types c.cut_to.new.judge.types c.args.scope c.cut_to.ensures.types, c.requires.few)

pub returns-in-None-clause-store : goal.returns-in-None-clause-store
returns-in-None-clause-store c = same_store c.cut_to.ensures.store

pub returns-in-None-clause-above : goal.returns-in-None-clause-above
returns-in-None-clause-above c first a r =
    let f = none_of c.in_ok-due.field-0 ((c.due.new.pending.items ≡ c.args.pending.now.items) × IsNotDue c.args.id (reverse c.args.pending.now.items)) c.in-None.is c.in_ok-due.ensures.none in
    above_cut first c.args.judge.now c.cut_to.new.judge c.args.scope a (reaches_calm (length first.types) c.args.id c.args.scope r.waits (calm c.args.id f.1 r.queued) r.reaches) c.cut_to.ensures.types c.cut_to.ensures.store c.cut_to.ensures.free

pub cut_to-requires-in-Some : goal.cut_to-requires-in-Some
cut_to-requires-in-Some c =
    let f = some_of c.in_ok-due.field-0 c.in-Some.ty (IsDue c.args.id c.args.pending.now.items c.due.new.pending.items) c.in-Some.is c.in_ok-due.ensures.some in
    let w = taken f c.requires.low.queued in
    omega (arith, reaches_due c.args.judge.now.free c.args.id c.args.scope w.type w.rest (subst (ReachesUpTo c.args.judge.now.free c.args.id c.args.scope) w.waits c.requires.low.reaches), c.saturating_sub-outer.ensures)

pub bind-requires-clause-room : goal.bind-requires-clause-room
bind-requires-clause-room c =
    omega (arith, length_cut c.args.judge.now.types c.cut_to-in-Some.new.judge.types c.saturating_sub-outer.result c.cut_to-in-Some.ensures.types, c.saturating_sub-outer.ensures, c.requires.few)

pub bind-requires-clause-ty : goal.bind-requires-clause-ty
bind-requires-clause-ty c =
    let f = some_of c.in_ok-due.field-0 c.in-Some.ty (IsDue c.args.id c.args.pending.now.items c.due.new.pending.items) c.in-Some.is c.in_ok-due.ensures.some in
    let w = taken f c.requires.low.queued in
    record { type = w.type; means = means_keeps (same_store c.cut_to-in-Some.ensures.store) w.means }

pub returns-in-Some-clause-bound : goal.returns-in-Some-clause-bound
returns-in-Some-clause-bound c =
    let f = some_of c.in_ok-due.field-0 c.in-Some.ty (IsDue c.args.id c.args.pending.now.items c.due.new.pending.items) c.in-Some.is c.in_ok-due.ensures.some in
    let go = λ (k : c.bind.new.self.types ≡ c.cut_to-in-Some.new.judge.types ++ c.in-Some.ty ∷ []) (ws : List Wait) (h : Queued c.args.judge.now.store c.args.pending.now.items ws). let w = taken f h in turns_due c.args.judge.now c.cut_to-in-Some.new.judge c.bind.new.self c.args.id c.args.scope c.saturating_sub-outer.result w.type w.rest ws c.saturating_sub-outer.ensures w.waits (turns_cut c.args.judge.now c.cut_to-in-Some.new.judge c.saturating_sub-outer.result c.cut_to-in-Some.ensures.types c.cut_to-in-Some.ensures.store) (turns_bound c.cut_to-in-Some.new.judge c.cut_to-in-Some.new.judge c.bind.new.self c.in-Some.ty w.type (kept_same c.cut_to-in-Some.new.judge) (means_keeps (same_store c.cut_to-in-Some.ensures.store) w.means) c.bind.ensures.store k) in
    on_ok c.bind.result go c.bind.ensures.ok

pub returns-in-Some-clause-rest : goal.returns-in-Some-clause-rest
returns-in-Some-clause-rest c =
    let f = some_of c.in_ok-due.field-0 c.in-Some.ty (IsDue c.args.id c.args.pending.now.items c.due.new.pending.items) c.in-Some.is c.in_ok-due.ensures.some in
    let go = λ (k : c.bind.new.self.types ≡ c.cut_to-in-Some.new.judge.types ++ c.in-Some.ty ∷ []) (ws : List Wait) (h : Queued c.args.judge.now.store c.args.pending.now.items ws). due_queued c.args.pending.now.items c.due.new.pending.items ws (same_store (c.bind.ensures.store ∙ c.cut_to-in-Some.ensures.store)) f h in
    on_ok c.bind.result go c.bind.ensures.ok

pub returns-in-Some-clause-few : goal.returns-in-Some-clause-few
returns-in-Some-clause-few c =
    few_bind c.cut_to-in-Some.new.judge c.bind.new.self c.in-Some.ty c.bind.result c.bind.ensures.ok (omega (arith, length_cut c.args.judge.now.types c.cut_to-in-Some.new.judge.types c.saturating_sub-outer.result c.cut_to-in-Some.ensures.types, c.saturating_sub-outer.ensures, c.requires.few))

pub returns-in-Some-clause-store : goal.returns-in-Some-clause-store
returns-in-Some-clause-store c =
    subst (λ (s : Store). Keeps s c.bind.new.self.store) c.cut_to-in-Some.ensures.store (same_store c.bind.ensures.store)

pub returns-in-Some-clause-above : goal.returns-in-Some-clause-above
returns-in-Some-clause-above c first a r =
    let f = some_of c.in_ok-due.field-0 c.in-Some.ty (IsDue c.args.id c.args.pending.now.items c.due.new.pending.items) c.in-Some.is c.in_ok-due.ensures.some in
    let w = taken f r.queued in
    let b : length first.types ≤ c.args.scope - 1 = reaches_due (length first.types) c.args.id c.args.scope w.type w.rest (subst (ReachesUpTo (length first.types) c.args.id c.args.scope) w.waits r.reaches) in
    let l : length first.types ≤ c.saturating_sub-outer.result = omega (arith, b, c.saturating_sub-outer.ensures) in
    above_more {a = first} {b = c.cut_to-in-Some.new.judge} {c = c.bind.new.self} (above_cut first c.args.judge.now c.cut_to-in-Some.new.judge c.saturating_sub-outer.result a l c.cut_to-in-Some.ensures.types c.cut_to-in-Some.ensures.store c.cut_to-in-Some.ensures.free) (above_bind c.cut_to-in-Some.new.judge c.bind.new.self c.in-Some.ty c.bind.ensures.store c.bind.ensures.free c.bind.result c.bind.ensures.ok c.bind.ensures.err)
