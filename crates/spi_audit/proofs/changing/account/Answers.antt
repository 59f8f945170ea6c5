use Rattle.std.proofs.Common.{◌≡◌, ℕ, Bool, true, false, Option, Some, ◌∙◌, sym, ap, length, arith}
use Rattle.std.specs.Prelude.{if◌then◌else◌}
use Rattle.spi_audit.proofs.Turning.{no_items}
use Rattle.spi_audit.proofs.Passing.{passed_start, passed_next, passed_before, passed_root, passed_first, passed_some, small_last, shorter}
use Rattle.spi_audit.proofs.changing.account.Goals as goal

stays : (b : Bool) (old other : Option ℕ) → b ≡ true → old ≡ (if b then old else other)
stays b old other e = ap (λ b. if b then old else other) (sym e)

fails : (b : Bool) (old : Option ℕ) (m n : ℕ) → b ≡ false → m ≡ n → Some m ≡ (if b then old else Some n)
fails b old m n e f = ap Some f ∙ ap (λ b. if b then old else Some n) (sym e)

pub loop-note-init : goal.loop-note-init
loop-note-init c = record {
  short = omega arith;
  small = c.requires.small;
  passed = λ cs n. passed_start c.args.store.now c.args.keys.now cs c.args.notes.items c.new-stack.result.items c.new-stack.ensures.items n;
}

pub change-requires-clause-small : goal.change-requires-clause-small
change-requires-clause-small c = (small_last c.pop.new.self.items c.in-Some.note c.in-Some.ensures.items c.loop-note.invariant.small).1

pub change-requires-clause-before : goal.change-requires-clause-before
change-requires-clause-before c =
    passed_before (record { once = c.distinct.ensures.differ; keyed = c.requires.noted.kept }) (c.loop-note.invariant.passed c.requires.noted.changes c.requires.noted.noted) c.requires.noted.names c.requires.noted.scoped c.pop.new.self.items c.in-Some.note c.in-Some.ensures.items

pub loop-note-preserved-then-not-pays : goal.loop-note-preserved-then-not-pays
loop-note-preserved-then-not-pays c = record {
  short = omega (arith, shorter c.loop-note.rest.items c.pop.new.self.items c.in-Some.note c.in-Some.ensures.items, c.loop-note.invariant.short);
  small = (small_last c.pop.new.self.items c.in-Some.note c.in-Some.ensures.items c.loop-note.invariant.small).0;
  passed = λ cs n. passed_next (c.loop-note.invariant.passed cs n) c.pop.new.self.items c.in-Some.note c.change.new.stack.items c.in_ok-pays.pays (Some c.len.result) c.in-Some.ensures.items c.in_ok-pays.ensures (fails c.in_ok-pays.pays c.loop-note.unpaid c.len.result (length c.pop.new.self.items) c.if-not-pays.true (omega (arith, c.len.ensures, c.pop.new.self.ok.0)));
}

pub loop-note-preserved : goal.loop-note-preserved
loop-note-preserved c = record {
  short = omega (arith, shorter c.loop-note.rest.items c.pop.new.self.items c.in-Some.note c.in-Some.ensures.items, c.loop-note.invariant.short);
  small = (small_last c.pop.new.self.items c.in-Some.note c.in-Some.ensures.items c.loop-note.invariant.small).0;
  passed = λ cs n. passed_next (c.loop-note.invariant.passed cs n) c.pop.new.self.items c.in-Some.note c.change.new.stack.items c.in_ok-pays.pays c.loop-note.unpaid c.in-Some.ensures.items c.in_ok-pays.ensures (stays c.in_ok-pays.pays c.loop-note.unpaid (Some (length c.pop.new.self.items)) c.if-not-pays.false);
}

pub unreachable-requires : goal.unreachable-requires
unreachable-requires c = passed_some (c.loop-note.invariant.passed c.requires.noted.changes c.requires.noted.noted) (no_items c.loop-note.rest c.in_default.ensures.cases.0) c.requires.noted.names c.requires.noted.scoped (no_items c.loop-note.stack c.in-None.ensures.cases.0)

pub returns-clause-effect : goal.returns-clause-effect
returns-clause-effect c cs n noted scoped =
    passed_root (c.loop-note.invariant.passed cs noted) (no_items c.loop-note.rest c.in_default.ensures.cases.0) n scoped c.pop-2.new.self.items c.in-Some-pop.root c.in-Some-pop.ensures.items

pub returns-clause-unpaid : goal.returns-clause-unpaid
returns-clause-unpaid c cs n noted scoped = passed_first (c.loop-note.invariant.passed cs noted) (no_items c.loop-note.rest c.in_default.ensures.cases.0) n scoped
