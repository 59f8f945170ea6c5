use Rattle.std.proofs.Common.{ap}
use Rattle.spi_term.specs.View.{message, atom}
use Rattle.spi_audit.proofs.MessageTaken.{ends_taken, checks_taken, many_taken}
use Rattle.spi_audit.proofs.noting.take_atom.Goals as goal

pub returns-in-Some-clause-taken : goal.returns-in-Some-clause-taken
returns-in-Some-clause-taken c =
    ends_taken c.args.judge.now c.take_label.new.judge c.take_label.new.keys c.in_ok-id-in-End.field-0 c.in-Some.id (message c.in-End.m) (atom c.args.a.now) c.in-Some.is (ap atom c.in-End.is) c.in_ok-id-in-End.ensures.taken

pub returns-in-Some-2-clause-taken : goal.returns-in-Some-2-clause-taken
returns-in-Some-2-clause-taken c =
    checks_taken c.args.judge.now c.take_untrusted.new.judge c.take_untrusted.new.keys c.in_ok-id-in-Check.field-0 c.in-Some-2.id (message c.in-Check.m) (atom c.args.a.now) c.in-Some-2.is (ap atom c.in-Check.is) c.in_ok-id-in-Check.ensures.taken

pub returns-in-Some-3-clause-taken : goal.returns-in-Some-3-clause-taken
returns-in-Some-3-clause-taken c =
    many_taken c.args.judge.now c.take_label-in-Many.new.judge c.take_label-in-Many.new.keys c.in_ok-id-in-Many.field-0 c.in-Some-3.id (message c.in-Many.m) (atom c.args.a.now) c.in-Some-3.is (ap atom c.in-Many.is) c.in_ok-id-in-Many.ensures.taken
