use Rattle.std.proofs.Common.{take}
use Rattle.spi_commands.specs.Upgrading.{AreRespelled}
use Rattle.spi_commands.proofs.upgrade.respelled.Given as goal

abbrev pub invariant-loop-name : goal.invariant-loop-name
invariant-loop-name l = AreRespelled l.names (take l.name-index l.names) l.spellings.items
