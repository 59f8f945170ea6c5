use Rattle.std.proofs.Common.{ap, ◌∙◌, ◌&&◌, suc}
use Rattle.spi_effect.specs.Made.{are_many}
use Rattle.spi_audit.proofs.Loosening.{many_is}
use Rattle.spi_audit.proofs.accounts.serve.Goals as goal

pub returns : goal.returns
returns c es h =
    let r = c.in_ok-free.ensures es h in
    let m = c.both-lasting.ensures ∙ many_is c.requires.held.0 (suc c.args.scope) h c.is_all_many.result c.is_all_many.ensures in
    (r.0, c.both.ensures ∙ (ap (λ b. b && c.in_ok-free.free) m ∙ ap (λ b. are_many es && b) r.1))
