use Rattle.std.proofs.Common.{refl, get_or}
use Rattle.spi_run.specs.declared.step.Step.TheVariants.{Act}
use Rattle.spi_commands.proofs.ScheduleSteps.{came_none, came_on, came_all, stops_at}
use Rattle.spi_commands.proofs.schedule.take_steps.Goals as goal

pub loop-i-init : goal.loop-i-init
loop-i-init c = came_none c.args.pool.now c.args.steps.now c.new-events.result.items (record { «data» = c.new.result; nodes = 0 }) c.args.keeps c.new-events.ensures.items refl c.new.ensures.items

pub loop-i-preserved : goal.loop-i-preserved
loop-i-preserved c = came_on c.args.pool.now c.loop-i.pool c.take_step.new.pool c.loop-i.i c.args.steps.now c.loop-i.events.items c.take_step.new.events.items c.loop-i.talks c.take_step.new.talks c.args.keeps
    (get_or c.args.steps.now c.loop-i.i (Act 0)) (Act 0) c.loop-i-test.true refl c.loop-i.invariant c.in-Ok.ensures.ok c.in-Ok.ensures.talks c.in-Ok.ensures.room

pub returns-in-Err-clause-err : goal.returns-in-Err-clause-err
returns-in-Err-clause-err c = stops_at c.args.pool.now c.loop-i.pool c.loop-i.i c.args.steps.now c.loop-i.events.items c.loop-i.talks c.args.keeps (get_or c.args.steps.now c.loop-i.i (Act 0)) (Act 0) c.in-Err.fault c.loop-i-test.true refl c.loop-i.invariant c.in-Err.ensures.err

pub returns-clause-ok : goal.returns-clause-ok
returns-clause-ok c = came_all c.args.pool.now c.loop-i.pool c.loop-i.i c.args.steps.now c.loop-i.events.items c.loop-i.talks c.args.keeps _ c.loop-i-test.false c.loop-i.invariant c.names.ensures
