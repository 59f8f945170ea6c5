use Rattle.std.proofs.Common.{◌<◌, ◌≤◌, List, ◌++◌, ◌∷◌, [], ◌∙◌, sym, ap, subst, length, Option, arith, length-append}
use Rattle.std.specs.Prelude.{IfSome, IfNone}
use Rattle.std.proofs.lemmas.List.{length-map}
use Rattle.spi_term.specs.Spelling.{spelled}
use Rattle.spi_rules.specs.Environment.{untrusted}
use Rattle.spi_rules.specs.Deriv.{rule_use, rule_uses}
use Rattle.spi_audit.specs.declared.asked.Asked.TheVariants as A
use Rattle.spi_audit.specs.declared.asked.Binding.TheVariants.{Nothing}
use Rattle.spi_audit.specs.declared.notes.Note.{Note}
use Rattle.spi_audit.specs.Fits.{Subject, of_process}
use Rattle.spi_audit.specs.Notes.{AreSmallNotes, IsSmallNote}
use Rattle.spi_audit.specs.Walking.{IsWalkState, Misfits, Steps}
use Rattle.spi_audit.proofs.WalkSteps.{led_start, small_push, drop_at, take_at, at_use, at_state, at_misfit, at_fit, led_all}
use Rattle.spi_audit.proofs.walking.walk_uses.Goals as goal

pub loop-i-init : goal.loop-i-init
loop-i-init c = record {
  led = led_start c.args.judge.now c.args.keys.now c.args.process.now.names c.args.process.now.process c.len.ensures.small.few_names c.requires.names c.requires.free c.len-2.result (rule_uses c.args.d.now) c.push.new.self.items c.in_ok-notes.notes.items c.len-2.ensures (c.in_ok-push.ensures.items ∙ ap (λ xs. xs ++ A.Process 0 c.len-2.result Nothing ∷ []) c.new-asked.ensures.items) c.in_ok-notes.ensures.items c.requires.tree;
  kept = c.requires.keys;
  small = subst AreSmallNotes (sym c.in_ok-notes.ensures.items) tt;
  count = ap length c.in_ok-notes.ensures.items;
}

pub step-requires-clause-usage : goal.step-requires-clause-usage
step-requires-clause-usage c =
    let us = c.args.d.now.uses.items in
    let below : c.loop-i.i < length us = omega (arith, c.loop-i-test.true, c.len-i-end.ensures, c.args.d.now.uses.ok.0) in
    at_use c.loop-i.judge c.loop-i.keys (spelled c.args.process.now.names c.args.process.now.process) (of_process (untrusted c.args.process.now.names) c.args.process.now.process) (rule_uses c.args.d.now) c.loop-i.i c.loop-i.asked.items c.loop-i.notes.items c.loop-i.invariant.led (rule_use c.index-u.result.now) (drop_at rule_use us c.loop-i.i c.index-u.result.now c.index-u.ensures below)

pub step-requires-clause-state : goal.step-requires-clause-state
step-requires-clause-state c =
    let us = c.args.d.now.uses.items in
    let below : c.loop-i.i < length us = omega (arith, c.loop-i-test.true, c.len-i-end.ensures, c.args.d.now.uses.ok.0) in
    at_state c.loop-i.judge c.loop-i.keys (spelled c.args.process.now.names c.args.process.now.process) (of_process (untrusted c.args.process.now.names) c.args.process.now.process) (rule_uses c.args.d.now) c.loop-i.i c.loop-i.asked.items c.loop-i.notes.items c.loop-i.invariant.led (rule_use c.index-u.result.now) (drop_at rule_use us c.loop-i.i c.index-u.result.now c.index-u.ensures below)

pub returns-in-None-clause-walked : goal.returns-in-None-clause-walked
returns-in-None-clause-walked c =
    let us = c.args.d.now.uses.items in
    let ss = spelled c.args.process.now.names c.args.process.now.process in
    let below : c.loop-i.i < length us = omega (arith, c.loop-i-test.true, c.len-i-end.ensures, c.args.d.now.uses.ok.0) in
    at_misfit c.loop-i.judge c.loop-i.keys ss (of_process (untrusted c.args.process.now.names) c.args.process.now.process) (rule_uses c.args.d.now) c.loop-i.i c.loop-i.asked.items c.loop-i.notes.items c.loop-i.invariant.led (rule_use c.index-u.result.now) (drop_at rule_use us c.loop-i.i c.index-u.result.now c.index-u.ensures below) (omega (arith, below, length-map us rule_use))
    (subst (λ (r : Option Note). IfNone r ((ts : List Subject) → IsWalkState c.loop-i.judge ss c.loop-i.asked.items ts → Misfits (rule_use c.index-u.result.now) ts)) c.in-None.is c.in_ok-note.ensures.misfit)

pub loop-i-preserved : goal.loop-i-preserved
loop-i-preserved c =
    let us = c.args.d.now.uses.items in
    let ss = spelled c.args.process.now.names c.args.process.now.process in
    let below : c.loop-i.i < length us = omega (arith, c.loop-i-test.true, c.len-i-end.ensures, c.args.d.now.uses.ok.0) in
    let fit = subst (λ (r : Option Note). IfSome r (λ o. (ts : List Subject) → IsWalkState c.loop-i.judge ss c.loop-i.asked.items ts → Steps c.step.new.judge c.step.new.keys ss (rule_use c.index-u.result.now) c.step.new.asked.items ts o)) c.in-Some.is c.in_ok-note.ensures.fit in
    let small = subst (λ (r : Option Note). IfSome r IsSmallNote) c.in-Some.is c.in_ok-note.ensures.small in
    record {
      led = at_fit c.loop-i.judge c.loop-i.keys ss (of_process (untrusted c.args.process.now.names) c.args.process.now.process) (rule_uses c.args.d.now) c.loop-i.i c.loop-i.asked.items c.loop-i.notes.items c.loop-i.invariant.led (rule_use c.index-u.result.now) (drop_at rule_use us c.loop-i.i c.index-u.result.now c.index-u.ensures below)
          c.step.new.judge c.step.new.keys c.step.new.asked.items c.in-Some.note c.push-in-Some.new.self.items c.in_ok-note.ensures.grows fit (take_at rule_use us c.loop-i.i c.index-u.result.now c.index-u.ensures below) c.in_ok-push-in-Some.ensures.items;
      kept = c.in_ok-note.ensures.grows.are;
      small = subst AreSmallNotes (sym c.in_ok-push-in-Some.ensures.items) (small_push c.loop-i.notes.items c.in-Some.note c.loop-i.invariant.small small);
      count = omega (arith, c.loop-i.invariant.count, ap length c.in_ok-push-in-Some.ensures.items, length-append c.loop-i.notes.items (c.in-Some.note ∷ []));
    }

pub returns-clause-walked : goal.returns-clause-walked
returns-clause-walked c =
    let us = c.args.d.now.uses.items in
    let past : length (rule_uses c.args.d.now) ≤ c.loop-i.i = omega (arith, c.loop-i-test.false, c.len-i-end.ensures, c.args.d.now.uses.ok.0, length-map us rule_use) in
    let w = led_all c.loop-i.judge c.loop-i.keys (spelled c.args.process.now.names c.args.process.now.process) (of_process (untrusted c.args.process.now.names) c.args.process.now.process) (rule_uses c.args.d.now) c.loop-i.i c.loop-i.asked.items c.loop-i.notes.items c.loop-i.invariant.led past in
    (c.loop-i.invariant.led.changes, w.0, w.1, c.loop-i.invariant.small, omega (arith, c.loop-i.invariant.count, c.loop-i.auto.i-end, c.len-i-end.ensures, c.args.d.now.uses.ok.0, length-map us rule_use, past))
