use Rattle.spi_term.specs.View.{message}
use Rattle.spi_audit.proofs.FormRules.{send_other}
use Rattle.spi_audit.proofs.FormUses.{send_fits}
use Rattle.spi_audit.proofs.FormPremises.{asked_later}
use Rattle.spi_audit.proofs.forms.of_send.Goals as goal

pub returns-in_ok-next-in-ProcOut-clause-answer : goal.returns-in_ok-next-in-ProcOut-clause-answer
returns-in_ok-next-in-ProcOut-clause-answer c = send_fits c.args.judge.now c.asked_untrusted-in-ProcOut.new.judge c.args.rule c.in-ProcOut.is (asked_later c.in_ok-next-in-ProcOut.ensures.kept.store c.in_ok-first-in-ProcOut.ensures.at) c.in_ok-next-in-ProcOut.ensures.at

pub returns-in_default-clause-answer : goal.returns-in_default-clause-answer
returns-in_default-clause-answer c = send_other c.args.judge.now c.args.rule (message c.args.channel.now) (message c.args.datum.now) c.in_default.not-ProcOut
