use Rattle.std.proofs.Common.{◌<◌, length, arith}
use Rattle.std.proofs.lemmas.Option.{slice_get-get_or}
use Rattle.spi_horn.proofs.Waited.{waits_none, waits_step}
use Rattle.spi_horn.proofs.waiting.put_all.Goals as goal

pub loop-k-init : goal.loop-k-init
loop-k-init c = waits_none _ _ _ c.requires.none

pub loop-k-preserved : goal.loop-k-preserved
loop-k-preserved c =
    let lt : c.loop-k.k < length c.args.rules.now = omega arith in
    waits_step _ _ _ _ _ _ (slice_get-get_or c.args.rules.now c.loop-k.k _ lt) c.in_ok-put.ensures c.in_ok-put-2.ensures c.loop-k.invariant
