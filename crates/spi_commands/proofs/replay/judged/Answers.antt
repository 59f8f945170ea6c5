use Rattle.spi_report.proofs.Lines.{each_paired}
use Rattle.spi_commands.proofs.replay.judged.Goals as goal

pub events-requires : goal.events-requires
events-requires c = each_paired c.args.happened.now c.in_ok-pairing.pairing.from.items c.in_ok-pairing.ensures

pub judgement-requires : goal.judgement-requires
judgement-requires c = c.in_ok-pairing.ensures
