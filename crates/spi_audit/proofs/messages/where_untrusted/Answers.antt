use Rattle.std.proofs.Common.{sym, ap, if◌then◌else◌, Some, None}
use Rattle.spi_audit.proofs.messages.where_untrusted.Goals as goal

pub returns-then-is_untrusted : goal.returns-then-is_untrusted
returns-then-is_untrusted c = (c.is_untrusted.result, c.is_untrusted.ensures, ap (λ b. if b then Some c.args.premises else None) (sym c.if-is_untrusted.true))

pub returns-else-is_untrusted : goal.returns-else-is_untrusted
returns-else-is_untrusted c = (c.is_untrusted.result, c.is_untrusted.ensures, ap (λ b. if b then Some c.args.premises else None) (sym c.if-is_untrusted.false))
