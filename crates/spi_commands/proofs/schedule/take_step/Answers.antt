use Rattle.spi_run.specs.View.{step}
use Rattle.spi_commands.proofs.ScheduleTalks.{hands, heard}
use Rattle.spi_commands.proofs.schedule.take_step.Goals as goal

pub returns-clause-talks : goal.returns-clause-talks
returns-clause-talks c = λ ms keeps.
    heard c.args.talks.now c.hear.new.talks c.in_ok-datum.datum _ ms
    (hands c.args.keeps c.args.pool.now c.step.new.self (step c.args.step) _ c.in_ok-datum.datum keeps c.in_ok-datum.ensures.ok c.in_ok-event.ensures.ok)
    c.in_ok-hear.ensures.count c.in_ok-hear.ensures.kept
