use Rattle.spi_commands.specs.declared.asked.Command.TheVariants.{Narrate, Bench}
use Rattle.spi_commands.specs.Refusals.{IsUnlexed}
use Rattle.spi_commands.proofs.AnswerCommands.{answered_as, unread_tokens}
use Rattle.spi_commands.proofs.FileRefusals.{stands_named, unlexed_named, unlexed_within}
use Rattle.spi_commands.proofs.answering.on_tokens.Goals as goal

pub narrated-requires : goal.narrated-requires
narrated-requires c = (c.requires.sized, c.in-Ok.ensures.ok, c.in-Ok.ensures.kinds, c.in-Ok.ensures.spans)

pub benched-requires : goal.benched-requires
benched-requires c = (c.requires.sized, c.in-Ok.ensures.ok, c.in-Ok.ensures.kinds, c.in-Ok.ensures.spans)

pub returns-in-Narrate : goal.returns-in-Narrate
returns-in-Narrate c = λ players. answered_as c.args.command Narrate c.args.bytes.now players c.narrated.result c.in-Narrate.is c.narrated.ensures.ok c.narrated.ensures.err

pub returns-in-Bench : goal.returns-in-Bench
returns-in-Bench c = λ players. answered_as c.args.command Bench c.args.bytes.now players c.benched.result c.in-Bench.is c.benched.ensures.ok c.benched.ensures.err

pub refused_for-requires-clause-stands : goal.refused_for-requires-clause-stands
refused_for-requires-clause-stands c =
    stands_named c.args.bytes.now (IsUnlexed c.args.bytes.now) (λ n o s h. unlexed_named h) (λ n o s h. unlexed_within h) c.unlexed.result c.unlexed.ensures

pub returns : goal.returns
returns c = λ players.
    unread_tokens c.args.command c.requires.over c.args.bytes.now players c.unlexed.result c.refused_for.result c.unlexed.ensures c.refused_for.ensures.ok c.refused_for.ensures.err
