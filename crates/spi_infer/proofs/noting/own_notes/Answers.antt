use Rattle.std.proofs.Common.{take, ap, ◌∙◌}
use Rattle.spi_infer.proofs.Bound.{kept_cut}
use Rattle.spi_infer.proofs.noting.own_notes.Goals as goal

pub returns-clause-kept : goal.returns-clause-kept
returns-clause-kept g c =
    kept_cut c.args.judge.now c.walk-noted.new.judge c.cut_to.new.judge c.walk-noted.ensures.above (c.cut_to.ensures.types ∙ ap (λ n. take n c.walk-noted.new.judge.types) c.len-count.ensures) c.cut_to.ensures.store c.cut_to.ensures.free
