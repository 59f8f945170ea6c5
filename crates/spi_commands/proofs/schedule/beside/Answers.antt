use Rattle.std.proofs.Common.{map}
use Rattle.spi_run.specs.View.{step}
use Rattle.spi_replay.specs.Stepping.{places_most}
use Rattle.spi_commands.proofs.FileParts.{same_names, few_from}
use Rattle.spi_commands.proofs.ScheduleRefusals.{starts, stopped_at, ran_through}
use Rattle.spi_commands.proofs.schedule.beside.Goals as goal

pub start-requires-clause-names : goal.start-requires-clause-names
start-requires-clause-names c = same_names c.args.bytes.now c.args.file.now c.args.opponent.now c.requires.read c.requires.opponent

pub take_steps-requires : goal.take_steps-requires
take_steps-requires c = few_from c.args.bytes.now c.args.file.now c.args.opponent.now.process c.args.steps.now c.in_ok-pool.pool.configuration c.requires.read c.requires.schedule c.in_ok-pool.ensures.configuration

pub returns-in-Ok-clause-ok : goal.returns-in-Ok-clause-ok
returns-in-Ok-clause-ok c =
    ran_through c.args.bytes.now c.args.file.now c.args.opponent.now c.args.steps.now c.in_ok-pool.pool.configuration.names c.in-Ok.replay c.args.keeps c.in_ok-pool.pool c.take_steps.new.pool
    c.requires.opponent c.requires.schedule c.requires.is (starts places_most c.args.file.now c.args.opponent.now c.in_ok-pool.pool c.in_ok-pool.ensures.configuration c.in_ok-pool.ensures.most)
    (few_from c.args.bytes.now c.args.file.now c.args.opponent.now.process c.args.steps.now c.in_ok-pool.pool.configuration c.requires.read c.requires.schedule c.in_ok-pool.ensures.configuration) c.in-Ok.ensures.ok

pub returns-clause-ok : goal.returns-clause-ok
returns-clause-ok c =
    let start = starts places_most c.args.file.now c.args.opponent.now c.in_ok-pool.pool c.in_ok-pool.ensures.configuration c.in_ok-pool.ensures.most in
    stopped_at c.args.bytes.now c.args.file.now c.args.opponent.now (map step c.args.steps.now) c.in_ok-pool.pool c.in-Err.refused.index c.in-Err.refused.fault c.args.keeps c.stopped.result c.requires.read c.requires.opponent c.requires.schedule c.requires.is start c.in-Err.ensures.err c.stopped.ensures.ok
