use Rattle.spi_message.proofs.Giving.{judged_parts, judged_counted, judged_next, compared_whole, examined_whole}
use Rattle.spi_message.proofs.laws.judged_parts_are_counted.Goals as goal

pub returns : goal.returns
returns c = record { parts = judged_parts; counted = judged_counted; next = judged_next; typing = compared_whole; good = examined_whole }
