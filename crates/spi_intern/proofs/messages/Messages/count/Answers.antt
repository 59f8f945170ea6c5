use Rattle.std.proofs.Common.{ap, ◌∙◌, length}
use Rattle.spi_intern.proofs.Tables.{tells_length}
use Rattle.spi_intern.proofs.messages.Messages.count.Goals as goal

pub returns-clause-count : goal.returns-clause-count
returns-clause-count c = c.len.ensures.len ∙ tells_length c.self.invariant.tells ∙ ap length c.self.view_is
