use Rattle.std.proofs.Common.{sym, ◌∙◌}
use Rattle.spi_deriv.proofs.Spelled.{canonical_is}
use Rattle.spi_deriv.proofs.laws.one_canonical.Goals as goal

pub returns : goal.returns
returns c = λ k p d e h l. canonical_is h ∙ sym (canonical_is l)
