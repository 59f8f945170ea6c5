use Rattle.spi_term.specs.View.{message}
use Rattle.spi_audit.proofs.FormPremises.{asked_later, begins_later}
use Rattle.spi_message.proofs.Tested.{kept_more, kept_same}
use Rattle.spi_audit.proofs.FormTyped.{check_un_fits}
use Rattle.spi_audit.proofs.forms.check_untrusted.Goals as goal

pub returns-clause-answer : goal.returns-clause-answer
returns-clause-answer c =
    check_un_fits c.args.judge.now c.asked_untrusted-2.new.judge (message c.args.whole.now) (message c.args.nonce.now) c.args.body (asked_later c.in_ok-part.ensures.kept.store c.in_ok-first.ensures.at) c.in_ok-part.ensures.at
    (begins_later c.args.judge.now c.asked_untrusted-2.new.judge c.asked_untrusted-2.new.judge c.asked_untrusted-2.new.judge (kept_more c.in_ok-first.ensures.kept c.in_ok-part.ensures.kept) (kept_same c.asked_untrusted-2.new.judge).store c.begun-next.ensures)
