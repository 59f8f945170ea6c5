use Rattle.spi_scope.proofs.Files.{one_of_both, not_both, same_file, same_fault}
use Rattle.spi_scope.proofs.resolution.one_or_other.Goals as goal

pub returns : goal.returns
returns c = record { some = one_of_both; never_both = not_both; one_file = same_file; one_fault = same_fault }
