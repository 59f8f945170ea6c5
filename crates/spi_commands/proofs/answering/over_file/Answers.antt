use Rattle.spi_commands.specs.declared.asked.Command.TheVariants.{Check, Derive, Verify, Replay, Play, Print, Knows}
use Rattle.spi_commands.proofs.AnswerCommands.{answered_as, answered_so}
use Rattle.spi_commands.proofs.AnswerNo.{checked}
use Rattle.spi_commands.proofs.PrintAnswers.{printed}
use Rattle.spi_commands.proofs.answering.over_file.Goals as goal

pub returns-in-Check-clause-answers : goal.returns-in-Check-clause-answers
returns-in-Check-clause-answers g c =
    answered_as c.args.command Check c.args.bytes.now _ c.judged.result c.in-Check.is (checked c.args.bytes.now c.args.file.now c.judged.result c.requires.read c.judged.ensures.ok) c.judged.ensures.err

pub returns-in-Derive-clause-answers : goal.returns-in-Derive-clause-answers
returns-in-Derive-clause-answers g c = answered_as c.args.command Derive c.args.bytes.now _ c.derived.result c.in-Derive.is c.derived.ensures.ok c.derived.ensures.err

pub returns-in-Verify-clause-answers : goal.returns-in-Verify-clause-answers
returns-in-Verify-clause-answers g c = answered_as c.args.command Verify c.args.bytes.now _ c.verified.result c.in-Verify.is c.verified.ensures.ok c.verified.ensures.err

pub returns-in-Replay-clause-answers : goal.returns-in-Replay-clause-answers
returns-in-Replay-clause-answers g c = answered_as c.args.command Replay c.args.bytes.now _ c.replayed.result c.in-Replay.is c.replayed.ensures.ok c.replayed.ensures.err

pub returns-in-Print-clause-answers : goal.returns-in-Print-clause-answers
returns-in-Print-clause-answers g c =
    answered_as c.args.command Print c.args.bytes.now _ c.shown.result c.in-Print.is (printed c.args.bytes.now c.args.file.now c.shown.result c.requires.read c.shown.ensures.ok) c.shown.ensures.err

pub returns-in-Knows-clause-answers : goal.returns-in-Knows-clause-answers
returns-in-Knows-clause-answers g c =
    answered_as c.args.command (Knows c.in-Knows.name) c.args.bytes.now _ c.known.result c.in-Knows.is c.known.ensures.ok c.known.ensures.err

pub returns-in-Play-clause-answers : goal.returns-in-Play-clause-answers
returns-in-Play-clause-answers g c =
    answered_so c.args.command (Play c.in-Play.most c.in-Play.only) c.args.bytes.now _ _ c.played.result c.in-Play.is c.played.ensures

pub played-requires-clause-known : goal.played-requires-clause-known
played-requires-clause-known g c = rw c.in-Play.is at c.requires.known
