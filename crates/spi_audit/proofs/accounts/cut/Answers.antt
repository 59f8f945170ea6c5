use Rattle.std.proofs.Common.{true≢false, sym, refl}
use Rattle.spi_audit.proofs.Holding.{cut_clean, cut_found}
use Rattle.spi_audit.proofs.accounts.cut.Goals as goal

pub returns-in_ok-loosen : goal.returns-in_ok-loosen
returns-in_ok-loosen c n es le h = (c.in_ok-loosen.ensures n es le h, λ e. absurd (true≢false (sym e)), λ e. cut_found c.requires.held.0 n c.args.scope le h (c.if-reaches.ensures.reached refl))

pub returns-else-reaches : goal.returns-else-reaches
returns-else-reaches c n es le h =
    let r = cut_clean c.requires.held.0 n c.args.scope le h (c.if-reaches.ensures.unreached refl) in
    (r.0, λ e. r.1, λ e. absurd (true≢false e))
