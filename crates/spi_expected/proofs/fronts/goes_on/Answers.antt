use Rattle.spi_expected.proofs.Front.{begun_front}
use Rattle.spi_expected.proofs.fronts.goes_on.Goals as goal

pub returns-clause-answer : goal.returns-clause-answer
returns-clause-answer c = begun_front c.deref.result.now c.args.front.now.items c.args.kind.now c.in_ok-answer.answer c.in_ok-answer.ensures (rw c.deref.ensures.value c.in_ok-put.ensures.kinds) c.requires.shallow
