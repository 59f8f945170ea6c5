use Rattle.spi_count.proofs.sum.Sum.is_all_many.Goals as goal

pub returns-in-Some : goal.returns-in-Some
returns-in-Some c = rw c.in-Some.is (rw c.deref.ensures at c.is_all_many.ensures)
