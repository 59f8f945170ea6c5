use Rattle.std.proofs.Common.{true≢false, sym, ◌∙◌}
use Rattle.spi_narrate.specs.Views.{narration_of}
use Rattle.spi_term.proofs.Choices.{on_ok}
use Rattle.spi_scope.specs.Files.{meant}
use Rattle.spi_honest.proofs.Playing.{if_err}
use Rattle.spi_honest.proofs.Meeting.{meet_names, apart_bad, meet_roomy, meet_ok, meet_bad}
use Rattle.spi_honest.proofs.lines.meet.Goals as goal

pub returns-then-not-meets-clause-fault : goal.returns-then-not-meets-clause-fault
returns-then-not-meets-clause-fault c = apart_bad (narration_of c.args.n.now) (meant c.args.file.now) c.args.at c.args.from c.args.to c.args.channel c.args.out c.args.stage.now c.requires.tellable c.requires.parted c.index-inp.result.now c.index-inp.ensures (λ m. true≢false (sym (c.meets.ensures.1 m) ∙ c.if-not-meets.true))

pub attempt-requires-clause-names : goal.attempt-requires-clause-names
attempt-requires-clause-names c = meet_names (narration_of c.args.n.now) (meant c.args.file.now) c.args.at c.args.from c.args.to c.args.channel c.args.out c.args.stage.now c.requires.tellable c.requires.parted c.index-inp.result.now c.index-inp.ensures

pub attempt-requires-clause-roomy : goal.attempt-requires-clause-roomy
attempt-requires-clause-roomy c = meet_roomy (narration_of c.args.n.now) (meant c.args.file.now) c.args.at c.args.from c.args.to c.args.channel c.args.out c.args.stage.now c.requires.tellable c.requires.parted c.index-inp.result.now c.index-inp.ensures (c.meets.ensures.0 c.if-not-meets.false)

pub returns-clause-told : goal.returns-clause-told
returns-clause-told c = on_ok c.attempt.result (λ t. meet_ok (narration_of c.args.n.now) (meant c.args.file.now) c.args.at c.args.from c.args.to c.args.channel c.args.out c.args.stage.now c.requires.tellable c.requires.parted c.index-inp.result.now c.index-inp.ensures (c.meets.ensures.0 c.if-not-meets.false) t) c.attempt.ensures.taken

pub returns-clause-fault : goal.returns-clause-fault
returns-clause-fault c = if_err c.attempt.result (λ f r. meet_bad (narration_of c.args.n.now) (meant c.args.file.now) c.args.at c.args.from c.args.to c.args.channel c.args.out c.args.stage.now c.requires.tellable c.requires.parted c.index-inp.result.now c.index-inp.ensures (c.meets.ensures.0 c.if-not-meets.false) f r) c.attempt.ensures.refused
