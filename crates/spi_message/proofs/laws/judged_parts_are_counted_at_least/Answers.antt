use Rattle.spi_message.proofs.Giving.{least_parts, least_counted, least_next}
use Rattle.spi_message.proofs.laws.judged_parts_are_counted_at_least.Goals as goal

pub returns : goal.returns
returns c = record { parts = least_parts; counted = least_counted; next = least_next }
