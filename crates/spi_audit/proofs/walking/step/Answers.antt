use Rattle.spi_term.specs.Spelling.{spelled}
use Rattle.spi_audit.proofs.Turning.{no_items}
use Rattle.spi_audit.proofs.WalkNext.{state_some}
use Rattle.spi_audit.proofs.walking.step.Goals as goal

pub unreachable-requires : goal.unreachable-requires
unreachable-requires c =
    state_some c.args.judge.now (spelled c.args.process.now.names c.args.process.now.process) c.args.asked.now.items c.requires.state.0 (no_items c.args.asked.now c.in-None.ensures.cases.0) c.requires.state.1 c.requires.state.2
