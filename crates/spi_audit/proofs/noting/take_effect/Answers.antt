use Rattle.std.proofs.Common.{map, take, subst}
use Rattle.spi_term.specs.Term.{Effect}
use Rattle.spi_term.specs.View.{atom}
use Rattle.spi_intern.proofs.Meanings.{map_more}
use Rattle.spi_message.proofs.Tested.{kept_same, kept_more}
use Rattle.spi_count.proofs.Kept.{grows_same, grows_more}
use Rattle.spi_audit.proofs.MessageTaken.{AreTaken, none_taken, more_taken, not_taken}
use Rattle.spi_audit.proofs.noting.take_effect.Goals as goal

pub loop-a-init : goal.loop-a-init
loop-a-init c = record {
  taken = none_taken c.args.judge.now c.args.keys.now c.new-ids.result.items c.new-ids.ensures.items;
  grows = grows_same c.args.judge.now.store c.args.keys.now c.requires;
  kept = kept_same c.args.judge.now;
}

pub returns-in-None-clause-taken : goal.returns-in-None-clause-taken
returns-in-None-clause-taken c =
    not_taken atom c.args.judge.now c.loop-a.judge c.take_atom.new.judge c.take_atom.new.keys c.args.e.now.atoms.items _ c.loop-a.a-index c.a-item.result c.in_ok-id.field-0 c.loop-a.invariant.kept c.deref-a-items.ensures.value c.loop-a-test.true c.a-item.is c.in-None.is c.in_ok-id.ensures.taken

pub loop-a-preserved : goal.loop-a-preserved
loop-a-preserved c =
    let more = map_more atom c.args.e.now.atoms.items _ c.loop-a.a-index c.a-item.result c.deref-a-items.ensures.value c.loop-a-test.true c.a-item.is in
    let es = map atom (take c.loop-a.a-index c.args.e.now.atoms.items) in
    record {
      taken = subst (λ (es : Effect). AreTaken c.args.judge.now c.take_atom.new.judge c.take_atom.new.keys es c.push.new.self.items) more (more_taken c.args.judge.now c.loop-a.judge c.take_atom.new.judge c.loop-a.keys c.take_atom.new.keys es c.loop-a.ids.items c.push.new.self.items c.in_ok-id.field-0 c.in-Some.id (atom c.a-item.result) c.loop-a.invariant.kept c.in_ok-id.ensures.kept c.in_ok-id.ensures.grows c.loop-a.invariant.taken c.in-Some.is c.in_ok-id.ensures.taken c.in_ok-push-in-Some.ensures.items);
      grows = grows_more c.loop-a.invariant.grows c.in_ok-id.ensures.grows;
      kept = kept_more c.loop-a.invariant.kept c.in_ok-id.ensures.kept;
    }
