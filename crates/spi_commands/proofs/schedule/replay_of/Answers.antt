use Rattle.std.proofs.Common.{ap, map}
use Rattle.spi_run.specs.View.{step}
use Rattle.spi_scope.specs.Files.{steps_in}
use Rattle.spi_commands.proofs.ScheduleRefusals.{lacks_opponent, lacks_schedule, offended}
use Rattle.spi_commands.proofs.schedule.replay_of.Goals as goal

pub returns-in_ok-missing-in-None-clause-ok : goal.returns-in_ok-missing-in-None-clause-ok
returns-in_ok-missing-in-None-clause-ok c =
    lacks_opponent c.args.bytes.now c.args.file.now c.args.keeps c.in_ok-missing-in-None.field-0 c.refused_by.result c.requires.read c.in-None.is c.refused_by.ensures c.in_ok-missing-in-None.ensures.ok.1

pub returns-in_ok-missing-in-None-schedule-clause-ok : goal.returns-in_ok-missing-in-None-schedule-clause-ok
returns-in_ok-missing-in-None-schedule-clause-ok c =
    lacks_schedule c.args.bytes.now c.args.file.now c.in-Some.opponent c.args.keeps c.in_ok-missing-in-None-schedule.field-0 c.refused_by-in-None-schedule.result c.requires.read c.in-Some.is (ap steps_in c.in-None-schedule.is)
    c.refused_by-in-None-schedule.ensures c.in_ok-missing-in-None-schedule.ensures.ok.1

pub not_opponent-requires-clause-first : goal.not_opponent-requires-clause-first
not_opponent-requires-clause-first c = (c.in-Some.opponent, c.in-Some.is, c.in-Err.ensures.first)

pub returns-in_ok-not_opponent-in-Err-clause-ok : goal.returns-in_ok-not_opponent-in-Err-clause-ok
returns-in_ok-not_opponent-in-Err-clause-ok c =
    offended c.args.bytes.now c.args.file.now (map step c.in-Some-schedule.steps.items) c.args.keeps c.in_ok-not_opponent-in-Err.field-0 c.refused_by-in-Err.result c.requires.read (ap steps_in c.in-Some-schedule.is)
    c.refused_by-in-Err.ensures c.in_ok-not_opponent-in-Err.ensures.ok.1
