use Rattle.std.proofs.Common.{arith}
use Rattle.spi_commands.proofs.FileParts.{few_names}
use Rattle.spi_commands.proofs.KnowsAnswers.{decided, lacks_name, much_sent}
use Rattle.spi_commands.proofs.knows.known_after.Goals as goal

pub returns-then-replay-gt-TALKED-clause-ok : goal.returns-then-replay-gt-TALKED-clause-ok
returns-then-replay-gt-TALKED-clause-ok c =
    much_sent c.args.name c.args.bytes.now c.args.file.now c.args.replay c.refused_count.result c.requires.read c.requires.ran c.if-replay-gt-TALKED.true c.refused_count.ensures.ok

pub returns-then-name-replay-clause-ok : goal.returns-then-name-replay-clause-ok
returns-then-name-replay-clause-ok c =
    lacks_name c.args.name c.args.bytes.now c.args.file.now c.args.replay c.refused_count-then-name-replay.result c.requires.read c.requires.ran
    (omega (arith, c.if-replay-gt-TALKED.false)) (omega (arith, c.if-name-replay.true)) c.refused_count-then-name-replay.ensures.ok

pub decided-requires-clause-names : goal.decided-requires-clause-names
decided-requires-clause-names c = few_names c.args.bytes.now c.args.file.now c.requires.read

pub returns-clause-ok : goal.returns-clause-ok
returns-clause-ok c =
    decided c.args.name c.args.bytes.now c.args.file.now c.args.replay c.decided.result c.requires.read c.requires.ran
    (omega (arith, c.if-replay-gt-TALKED.false)) (omega (arith, c.if-name-replay.false)) c.decided.ensures.ok
