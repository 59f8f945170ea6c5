use Rattle.std.proofs.Common.{rules}
use Rattle.spi_commands.proofs.FileTaking.{takes_long, taken_long, text_taken, text_long, on_ok}
use Rattle.spi_commands.proofs.text.take_text.Goals as goal

pub returns-in-Ok-clause-gives : goal.returns-in-Ok-clause-gives
returns-in-Ok-clause-gives g c = text_taken _ _ c.in-Ok.bytes.items c.in-Ok.ensures.all

pub returns-in-Err-TooLong-clause-gives : goal.returns-in-Err-TooLong-clause-gives
returns-in-Err-TooLong-clause-gives g c = text_long _ c.too_long.result (taken_long _ _ (c.in-Err-TooLong.ensures.too_long (search rules))) c.too_long.ensures.gives

pub returns-in-Err-TooLong-clause-whole : goal.returns-in-Err-TooLong-clause-whole
returns-in-Err-TooLong-clause-whole g c = on_ok c.too_long.result _ (takes_long _ _ (c.in-Err-TooLong.ensures.too_long (search rules)))
