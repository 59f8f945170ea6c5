use Rattle.std.proofs.Common.{refl, sym, ◌∙◌}
use Rattle.spi_message.proofs.Plains.{told_label}
use Rattle.spi_message.proofs.telling.is_told_label.Goals as goal

pub returns : goal.returns
returns c h = told_label c.args.m refl (sym c.is_plain.ensures ∙ h)
