use Rattle.spi_audit.proofs.Replies.{unit_not_un, unit_fits, unit_not}
use Rattle.spi_audit.proofs.messages.unit_typed.Goals as goal

pub returns-then-is_untrusted : goal.returns-then-is_untrusted
returns-then-is_untrusted c = unit_not_un c.args.judge.now c.args.t c.is_untrusted.result c.is_untrusted.ensures c.if-is_untrusted.true

pub returns-then-is_unit : goal.returns-then-is_unit
returns-then-is_unit c = unit_fits c.args.judge.now c.args.t c.is_untrusted.result c.is_untrusted.ensures c.if-is_untrusted.false c.is_unit.result c.is_unit.ensures c.if-is_unit.true

pub returns-else-is_unit : goal.returns-else-is_unit
returns-else-is_unit c = unit_not c.args.judge.now c.args.t c.is_untrusted.result c.is_untrusted.ensures c.is_unit.result c.is_unit.ensures c.if-is_unit.false
