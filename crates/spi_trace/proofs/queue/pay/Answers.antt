use Rattle.spi_term.specs.View.{message}
use Rattle.spi_trace.proofs.Paying.{paid_begin, paid_end, paid_end_many}
use Rattle.spi_trace.proofs.queue.pay.Goals as goal

pub returns-in_ok-add-in-Begin : goal.returns-in_ok-add-in-Begin
returns-in_ok-add-in-Begin c = rw c.in-Begin.is (paid_begin (message c.in-Begin.field-0) c.args.place c.args.number c.args.queues.now c.index-queues-number.result c.add.new.self c.requires c.in_ok-add-in-Begin.ensures)

pub returns-in-End : goal.returns-in-End
returns-in-End c = rw c.in-End.is (paid_end (message c.in-End.field-0) c.args.place c.args.number c.args.queues.now c.index-queues-number-in-End.result c.take.new.self c.take.result c.requires c.take.ensures.next c.take.ensures.left)

pub returns-in-EndMany : goal.returns-in-EndMany
returns-in-EndMany c = rw c.in-EndMany.is (paid_end_many (message c.in-EndMany.field-0) c.args.place c.args.number c.args.queues.now c.index-queues-number-in-EndMany.result c.first.result c.requires c.first.ensures)
