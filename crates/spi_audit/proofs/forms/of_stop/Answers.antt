use Rattle.spi_audit.proofs.FormRules.{stop_other}
use Rattle.spi_audit.proofs.FormUses.{stop_fits}
use Rattle.spi_audit.proofs.forms.of_stop.Goals as goal

pub returns-in-ProcStop : goal.returns-in-ProcStop
returns-in-ProcStop c = stop_fits c.args.judge.now c.args.rule c.in-ProcStop.is

pub returns-in_default : goal.returns-in_default
returns-in_default c = stop_other c.args.judge.now c.args.rule c.in_default.not-ProcStop
