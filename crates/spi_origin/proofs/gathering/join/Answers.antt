use Rattle.spi_origin.proofs.Marks.{marked_empty, marked_fork}
use Rattle.spi_origin.proofs.gathering.join.Goals as goal

pub returns-in_ok-push-in-Send : goal.returns-in_ok-push-in-Send
returns-in_ok-push-in-Send c found ls l h = rw c.in-Send.is (marked_empty c.args.marks.now.items c.push.new.self.items found ls c.args.end c.in_ok-push-in-Send.ensures.items l h)

pub returns-in_ok-push-in-Stop : goal.returns-in_ok-push-in-Stop
returns-in_ok-push-in-Stop c found ls l h = rw c.in-Stop.is (marked_empty c.args.marks.now.items c.push-in-Stop.new.self.items found ls c.args.end c.in_ok-push-in-Stop.ensures.items l h)

pub returns-in-Branch : goal.returns-in-Branch
returns-in-Branch c found ls l h = rw c.in-Branch.is (marked_fork c.args.marks.now.items c.pop.new.self.items found ls c.args.marks.now.len c.args.marks.now.ok.0 c.pop.ensures.rest h)

pub returns-in-Par : goal.returns-in-Par
returns-in-Par c found ls l h = rw c.in-Par.is (marked_fork c.args.marks.now.items c.pop-in-Par.new.self.items found ls c.args.marks.now.len c.args.marks.now.ok.0 c.pop-in-Par.ensures.rest h)
