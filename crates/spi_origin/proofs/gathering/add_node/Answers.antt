use Rattle.std.proofs.Common.{true, sym}
use Rattle.spi_origin.proofs.Marks.{marked_cut, marked_push, marked_as, marked_not}
use Rattle.spi_origin.proofs.gathering.add_node.Goals as goal

pub returns-in-Some : goal.returns-in-Some
returns-in-Some c ls h =
    marked_not c.args.marks.now c.truncate.new.self.items ls c.args.kept c.args.picked c.args.id c.if-not-kept.true (marked_cut c.args.marks.now c.args.found.now.items c.truncate.new.self.items ls c.in-Some.mark.now (sym c.in-Some.ensures.value) c.truncate.ensures.items h)

pub returns-in_ok-push : goal.returns-in_ok-push
returns-in_ok-push c ls h =
    marked_as c.args.marks.now c.push.new.self.items ls c.args.kept c.args.picked true true c.args.id c.if-not-kept.false c.if-picked.true (marked_push c.args.marks.now c.args.found.now.items c.push.new.self.items ls c.args.id c.in_ok-push.ensures.items h)
