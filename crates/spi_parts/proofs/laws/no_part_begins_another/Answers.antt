use Rattle.spi_parts.proofs.Alone.{types_begin_no_other, messages_begin_no_other, declarations_begin_no_other}
use Rattle.spi_parts.proofs.laws.no_part_begins_another.Goals as goal

pub returns : goal.returns
returns c = λ later. (types_begin_no_other later, messages_begin_no_other later, declarations_begin_no_other later)
