use Rattle.std.proofs.Common.{refl, get_or, None, Some}
use Rattle.spi_run.specs.declared.step.Step.TheVariants.{Act}
use Rattle.spi_course.proofs.Told.{came_none, came_on, came_all, stops_at}
use Rattle.spi_course.proofs.course.take_all.Goals as goal

pub loop-i-init : goal.loop-i-init
loop-i-init c = came_none c.args.pool.now c.args.steps.now c.new-taken.result.items c.new-events.result.items c.new-taken.ensures.items c.new-events.ensures.items

pub loop-i-preserved : goal.loop-i-preserved
loop-i-preserved c =
    came_on c.args.pool.now c.loop-i.pool c.take_one.new.pool c.loop-i.i c.args.steps.now c.loop-i.taken.items c.push.new.self.items c.loop-i.events.items c.take_one.new.events.items c.in-Ok.one (Act 0) c.loop-i-test.true c.in-Ok.ensures.step c.loop-i.invariant
    c.in_ok-push-in-Ok.ensures.items c.in-Ok.ensures.ok

pub returns-in-Err : goal.returns-in-Err
returns-in-Err c =
    stops_at c.args.pool.now c.loop-i.pool c.take_one.new.pool c.loop-i.i c.args.steps.now c.loop-i.events.items (record { taken = c.loop-i.taken; events = c.take_one.new.events; refused = Some c.in_ok-fault-in-Err.fault }) (get_or c.args.steps.now c.loop-i.i (Act 0)) (Act 0) c.in-Err.fault c.in_ok-fault-in-Err.fault c.loop-i-test.true refl refl c.in_ok-fault-in-Err.ensures c.loop-i.invariant c.in-Err.ensures.err

pub returns : goal.returns
returns c = came_all c.args.pool.now c.loop-i.pool c.loop-i.i c.args.steps.now (record { taken = c.loop-i.taken; events = c.loop-i.events; refused = None }) c.loop-i-test.false refl c.loop-i.invariant
