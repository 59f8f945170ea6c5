use Rattle.std.proofs.Common.{[], ◌∙◌, ap, inl, inr, sym}
use Rattle.spi_commands.specs.declared.asked.Command.TheVariants.{Load}
use Rattle.spi_commands.specs.Asked.{is_play}
use Rattle.spi_commands.specs.Reading.{GivesText}
use Rattle.spi_commands.proofs.AnswerCommands.{answered_as, never_faults, never_inputless}
use Rattle.spi_commands.proofs.PlayAnswers.{left_same}
use Rattle.spi_commands.proofs.RunEnds.{left_by, never_usage, wants_always, wants_by, wants_on}
use Rattle.spi_commands.proofs.running.answer_to.Goals as goal

pub returns-in-Load-clause-answer : goal.returns-in-Load-clause-answer
returns-in-Load-clause-answer g c =
    wants_always c.args.command c.in-Some.asked _ _ _ c.loads.result c.in-Some.is (λ bytes. answered_as c.in-Some.asked (Load c.in-Load.sessions) bytes _ c.loads.result c.in-Load.is c.loads.ensures.ok c.loads.ensures.err)

pub returns-in-Load-clause-usage : goal.returns-in-Load-clause-usage
returns-in-Load-clause-usage g c = never_usage c.args.command c.in-Some.asked c.loads.result c.in-Some.is c.loads.ensures.answered

pub returns-in-Load-clause-inputless : goal.returns-in-Load-clause-inputless
returns-in-Load-clause-inputless g c = λ e.
    wants_on c.args.command c.in-Some.asked [] [] [] c.loads.result c.in-Some.is (answered_as c.in-Some.asked (Load c.in-Load.sessions) [] [] c.loads.result c.in-Load.is c.loads.ensures.ok c.loads.ensures.err)

pub answers-requires-clause-known : goal.answers-requires-clause-known
answers-requires-clause-known g c = rw c.in-Some.is at c.requires

pub answers-requires-clause-reads : goal.answers-requires-clause-reads
answers-requires-clause-reads g c = c.in_default.not-Load

pub returns-in_ok-take_text-in_default-clause-answer : goal.returns-in_ok-take_text-in_default-clause-answer
returns-in_ok-take_text-in_default-clause-answer g c =
    wants_by c.args.command c.in-Some.asked _ _ _ (λ bytes. GivesText bytes c.in_ok-take_text-in_default.field-0) c.answers.result c.in-Some.is c.in_ok-take_text-in_default.ensures.gives c.answers.ensures.answers

pub returns-in_ok-take_text-in_default-clause-usage : goal.returns-in_ok-take_text-in_default-clause-usage
returns-in_ok-take_text-in_default-clause-usage g c = never_usage c.args.command c.in-Some.asked c.answers.result c.in-Some.is c.answers.ensures.answered

pub returns-in_ok-take_text-in_default-clause-inputless : goal.returns-in_ok-take_text-in_default-clause-inputless
returns-in_ok-take_text-in_default-clause-inputless g c = λ e. absurd (never_inputless c.args.command c.in-Some.asked c.in-Some.is c.in_default.not-Load e)

pub returns-in_ok-take_text-in_default-clause-unread : goal.returns-in_ok-take_text-in_default-clause-unread
returns-in_ok-take_text-in_default-clause-unread g c = λ e. absurd (never_inputless c.args.command c.in-Some.asked c.in-Some.is c.in_default.not-Load e)

pub returns-in_ok-take_text-in_default-clause-memory : goal.returns-in_ok-take_text-in_default-clause-memory
returns-in_ok-take_text-in_default-clause-memory g c = λ e. absurd (never_inputless c.args.command c.in-Some.asked c.in-Some.is c.in_default.not-Load e)

pub returns-in_ok-take_text-in_default-clause-players : goal.returns-in_ok-take_text-in_default-clause-players
returns-in_ok-take_text-in_default-clause-players g c = λ h.
    elim h [
      | inl e ↦ c.answers.ensures.players (ap is_play (sym c.in-Some.is) ∙ e)
      | inr err ↦ absurd (never_faults c.answers.result c.answers.ensures.err err)
    ]

pub returns-in_ok-take_text-in_default-clause-left : goal.returns-in_ok-take_text-in_default-clause-left
returns-in_ok-take_text-in_default-clause-left g c = λ most only e err.
    left_by c.args.command c.in-Some.asked most only _ _ _ (λ bytes. GivesText bytes c.in_ok-take_text-in_default.field-0) c.answers.result c.in-Some.is e c.in_ok-take_text-in_default.ensures.gives c.answers.ensures.answers err

pub returns-in_err-take_text-in_default-clause-unread : goal.returns-in_err-take_text-in_default-clause-unread
returns-in_err-take_text-in_default-clause-unread g c = λ e. absurd (never_inputless c.args.command c.in-Some.asked c.in-Some.is c.in_default.not-Load e)

pub returns-in_err-take_text-in_default-clause-memory : goal.returns-in_err-take_text-in_default-clause-memory
returns-in_err-take_text-in_default-clause-memory g c = λ e. absurd (never_inputless c.args.command c.in-Some.asked c.in-Some.is c.in_default.not-Load e)

pub returns-in_err-take_text-in_default-clause-left : goal.returns-in_err-take_text-in_default-clause-left
returns-in_err-take_text-in_default-clause-left g c = λ most only e err. left_same most only _ _
