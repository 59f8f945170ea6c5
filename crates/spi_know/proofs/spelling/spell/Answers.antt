use Rattle.std.proofs.Common.{◌<◌, length, arith}
use Rattle.std.proofs.lemmas.Option.{slice_get-get_or}
use Rattle.spi_know.proofs.Certified.{lines_none, lines_step}
use Rattle.spi_know.proofs.spelling.spell.Goals as goal

pub loop-line-init : goal.loop-line-init
loop-line-init c = lines_none _ _ _ _ _ c.new-cert.ensures.items

pub loop-line-preserved : goal.loop-line-preserved
loop-line-preserved c =
    let lt : c.loop-line.line-index < length c.args.lines.now = omega arith in
    lines_step _ _ _ _ _ _ _ _ _ (slice_get-get_or c.args.lines.now c.loop-line.line-index _ lt) c.in_ok-push.ensures.items c.in_ok-spelled.ensures c.loop-line.invariant
