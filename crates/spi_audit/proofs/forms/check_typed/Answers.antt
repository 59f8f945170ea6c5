use Rattle.spi_term.specs.View.{message}
use Rattle.spi_audit.proofs.FormPremises.{begins_later}
use Rattle.spi_message.proofs.Tested.{kept_same}
use Rattle.spi_audit.proofs.FormTyped.{check_no_nonce, check_fits}
use Rattle.spi_audit.proofs.forms.check_typed.Goals as goal

pub returns-in-None-clause-answer : goal.returns-in-None-clause-answer
returns-in-None-clause-answer c = check_no_nonce c.args.judge.now c.args.judge.now (message c.args.whole.now) (message c.args.nonce.now) c.args.body c.in-None.ensures.none

pub returns-in_ok-first-in-Some-clause-answer : goal.returns-in_ok-first-in-Some-clause-answer
returns-in_ok-first-in-Some-clause-answer c =
    check_fits c.args.judge.now c.asked_untrusted.new.judge (message c.args.whole.now) (message c.args.nonce.now) c.args.body c.in-Some.ensures.some c.in_ok-first-in-Some.ensures.at
    (begins_later c.args.judge.now c.asked_untrusted.new.judge c.asked_untrusted.new.judge c.asked_untrusted.new.judge c.in_ok-first-in-Some.ensures.kept (kept_same c.asked_untrusted.new.judge).store c.begun-next.ensures)
