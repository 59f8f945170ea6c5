use Rattle.std.proofs.Common.{refl}
use Rattle.spi_message.proofs.Kept.{inside_keeps}
use Rattle.spi_message.proofs.judge.Judge.un.Goals as goal

pub invariant_of-self : goal.invariant_of-self
invariant_of-self c = inside_keeps c.un.ensures.kept refl c.self.invariant
