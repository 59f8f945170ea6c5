use Rattle.spi_commands.specs.Playing.{not_asked}
use Rattle.spi_commands.proofs.AnswerCommands.{answered_play}
use Rattle.spi_commands.proofs.PlayAnswers.{lacks_opponent, offends, on_err}
use Rattle.spi_commands.proofs.play.played.Goals as goal

pub returns-in-None : goal.returns-in-None
returns-in-None g c =
    answered_play c.args.most c.args.only c.args.bytes.now _ _ c.missing.result
    (lacks_opponent c.args.bytes.now c.args.file.now c.args.most c.args.only _ c.missing.result c.requires.read c.in-None.is c.missing.ensures.ok) (on_err c.missing.result _ not_asked) c.missing.ensures.err

pub not_opponent-requires-clause-first : goal.not_opponent-requires-clause-first
not_opponent-requires-clause-first g c = (c.in-Some.opponent, c.in-Some.is, c.in-Err.ensures.first)

pub returns-in-Err : goal.returns-in-Err
returns-in-Err g c =
    answered_play c.args.most c.args.only c.args.bytes.now _ _ c.not_opponent.result
    (offends c.args.bytes.now c.args.most c.args.only _ c.not_opponent.result c.not_opponent.ensures.ok) (on_err c.not_opponent.result _ not_asked) c.not_opponent.ensures.err

pub returns-in-Ok : goal.returns-in-Ok
returns-in-Ok g c = answered_play c.args.most c.args.only c.args.bytes.now _ _ c.beside.result c.beside.ensures.ok c.beside.ensures.left c.beside.ensures.err
