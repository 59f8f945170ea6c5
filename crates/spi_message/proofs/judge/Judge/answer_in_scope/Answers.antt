use Rattle.spi_message.proofs.Kept.{inside_answers}
use Rattle.spi_message.proofs.judge.Judge.answer_in_scope.Goals as goal

pub invariant_of-self : goal.invariant_of-self
invariant_of-self c = inside_answers c.answered.ensures.kept c.answered.ensures.types c.answered.ensures.answers c.self.invariant
