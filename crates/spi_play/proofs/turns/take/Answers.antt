use Rattle.std.proofs.Common.{arith, ◌<◌}
use Rattle.spi_play.proofs.Steps.{kth_within, kth_found, step_late}
use Rattle.spi_play.proofs.turns.take.Goals as goal

pub unwrap-done-requires : goal.unwrap-done-requires
unwrap-done-requires c =
    let within : c.args.k < c.args.ready = omega (arith, c.if-k-ready.false) in
    kth_within _ c.args.ready c.args.k c.kth.result c.requires.ready within c.kth.ensures

pub fault_of-requires : goal.fault_of-requires
fault_of-requires c = step_late c.in-Err.fault (kth_found _ c.args.k c.kth.result c.unwrap-done.result c.unwrap-done.ensures c.kth.ensures) c.in-Err.ensures.refused
