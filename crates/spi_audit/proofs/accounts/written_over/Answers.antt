use Rattle.std.proofs.Common.{◌∙◌, ap, sym, subst}
use Rattle.spi_audit.specs.declared.accounts.Account.{Account}
use Rattle.spi_count.specs.Adding.{SumOf}
use Rattle.spi_audit.specs.Accounts.{HeldBy, outer}
use Rattle.spi_audit.proofs.Holding.{held_more, held_below, below_none}
use Rattle.spi_audit.proofs.Within.{within_is}
use Rattle.spi_audit.proofs.accounts.written_over.Goals as goal

pub returns : goal.returns
returns c s fs es k kd tells key l h =
    let none = c.empty_account-written.ensures s c.args.keys.now k kd in
    let w = held_more fs none (below_none k fs l) (c.in_ok-add_atoms.ensures s fs none.inner kd tells key none.stands) in
    let old = subst (λ a. SumOf s c.args.keys.now a h.inner) (sym (c.into_sum.ensures ∙ ap (λ (a : Account). a.sum) c.replace-old.ensures.value)) h.stands in
    let new = subst (λ (a : Account). SumOf s c.args.keys.now a.sum fs) (sym c.replace-old.ensures.after) (held_below kd k w l) in
    (subst (λ (a : Account). HeldBy s c.args.keys.now (outer k) a.sum a.loose.counts a.lasting fs) (sym c.replace-old.ensures.after) w, c.both.ensures ∙ within_is k fs h l c.is_empty-none.result c.is_sum_within-within.result c.is_empty-none.ensures (c.is_sum_within-within.ensures s c.args.keys.now h.inner fs kd old new))
