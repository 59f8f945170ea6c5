use Rattle.spi_commands.specs.Playing.{not_asked}
use Rattle.spi_commands.proofs.FileParts.{same_names}
use Rattle.spi_commands.proofs.PlayAnswers.{few_at_start, play_listed, play_refused, leaves_ended, leaves_stopped, on_err}
use Rattle.spi_commands.proofs.play.beside.Goals as goal

pub start-requires-clause-names : goal.start-requires-clause-names
start-requires-clause-names g c = same_names c.args.bytes.now c.args.file.now c.args.opponent.now c.requires.read c.requires.opponent

pub play-requires-clause-names : goal.play-requires-clause-names
play-requires-clause-names g c = few_at_start c.args.bytes.now c.args.file.now c.args.opponent.now c.in_ok-pool.pool c.args.most c.requires.read c.requires.few c.in_ok-pool.ensures.configuration

pub returns-in-Ok-clause-ok : goal.returns-in-Ok-clause-ok
returns-in-Ok-clause-ok g c =
    play_listed c.args.bytes.now c.args.file.now c.args.opponent.now c.args.most c.args.only _ _ c.in_ok-pool.pool c.play.new.pool c.requires.read c.requires.opponent c.requires.is c.in_ok-pool.ensures.configuration c.in_ok-pool.ensures.most
    c.in-Ok.done.steps.items c.in-Ok.done.events.items c.in-Ok.done.ended c.listed.result c.in-Ok.ensures.played (rw c.deref.ensures.value at c.listed.ensures.ok)

pub returns-clause-ok : goal.returns-clause-ok
returns-clause-ok g c =
    play_refused c.args.bytes.now c.args.file.now c.args.opponent.now c.args.most c.args.only _ _ c.in_ok-pool.pool c.play.new.pool c.requires.read c.requires.opponent c.requires.is c.in_ok-pool.ensures.configuration c.in_ok-pool.ensures.most
    c.in-Err.fault c.refused.result c.in-Err.ensures.refused c.refused.ensures.ok

pub returns-in-Ok-clause-left : goal.returns-in-Ok-clause-left
returns-in-Ok-clause-left g c =
    on_err c.listed.result _ (leaves_ended c.args.bytes.now c.args.file.now c.args.opponent.now c.args.most c.args.only _ _ c.in_ok-pool.pool c.play.new.pool c.requires.read c.requires.opponent c.requires.is c.in_ok-pool.ensures.configuration c.in_ok-pool.ensures.most
    c.in-Ok.done.steps.items c.in-Ok.done.events.items c.in-Ok.done.ended c.in-Ok.ensures.played)

pub returns-clause-left : goal.returns-clause-left
returns-clause-left g c =
    on_err c.refused.result _ (leaves_stopped c.args.bytes.now c.args.file.now c.args.opponent.now c.args.most c.args.only _ _ c.in_ok-pool.pool c.play.new.pool c.requires.read c.requires.opponent c.requires.is c.in_ok-pool.ensures.configuration c.in_ok-pool.ensures.most
    c.in-Err.fault c.in-Err.ensures.refused)

pub returns-in_err-pool-clause-left : goal.returns-in_err-pool-clause-left
returns-in_err-pool-clause-left g c = on_err c.from_residual.result _ not_asked
