use Rattle.std.proofs.Common.{Some, sym, ap, ◌∙◌, arith}
use Rattle.std.proofs.lemmas.Option.{slice_get-get_or}
use Rattle.spi_fault.specs.Trying.{IsOf}
use Rattle.spi_fault.proofs.Texts.{best_next, best_end}
use Rattle.spi_fault.proofs.least.least_text.Goals as goal

pub loop-i-preserved : goal.loop-i-preserved
loop-i-preserved c = record {
  within = omega (arith, c.loop-i-test.true);
  best = best_next c.args.names.now (IsOf c.args.kind) c.args.atoms.now c.loop-i.i _ c.loop-i.best _ (slice_get-get_or c.args.atoms.now c.loop-i.i c.index-atoms-i.result c.loop-i-test.true ∙ ap Some (sym c.index-atoms-i.is)) c.loop-i.invariant.best c.in_ok-keep_better.ensures;
}

pub returns : goal.returns
returns c = rw c.place_in.ensures (best_end c.args.names.now (IsOf c.args.kind) c.args.atoms.now c.loop-i.i c.loop-i.best (omega (arith, c.loop-i-test.false)) c.loop-i.invariant.best)
