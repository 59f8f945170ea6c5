use Rattle.std.proofs.Common.{refl, rules, None, []}
use Rattle.spi_commands.proofs.FileTaking.{long_line}
use Rattle.spi_commands.proofs.text.refuse_too_many.Goals as goal

pub returns : goal.returns
returns c bytes l = long_line [] bytes c.in_ok-line.line.items (record { number = 2; offset = None; shown = c.into_bytes-shown.result }) l refl refl (search rules) c.in_ok-line.ensures
