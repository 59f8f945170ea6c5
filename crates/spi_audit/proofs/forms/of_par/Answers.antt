use Rattle.spi_audit.proofs.FormRules.{par_other}
use Rattle.spi_audit.proofs.FormTyped.{par_fits}
use Rattle.spi_audit.proofs.forms.of_par.Goals as goal

pub returns-in-ProcPar : goal.returns-in-ProcPar
returns-in-ProcPar c =
    par_fits c.args.judge.now c.args.rule c.args.first c.args.rest c.in-ProcPar.is c.begun.ensures c.begun-in-ProcPar.ensures

pub returns-in_default : goal.returns-in_default
returns-in_default c = par_other c.args.judge.now c.args.rule c.args.first c.args.rest c.in_default.not-ProcPar
