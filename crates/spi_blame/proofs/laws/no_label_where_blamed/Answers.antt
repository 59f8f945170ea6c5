use Rattle.spi_blame.proofs.Blaming.{blamed_where_no, blamed_no}
use Rattle.spi_blame.proofs.laws.no_label_where_blamed.Goals as goal

pub returns : goal.returns
returns c = λ env m. ((λ n. blamed_where_no n), (λ b h. blamed_no b.2 h))
