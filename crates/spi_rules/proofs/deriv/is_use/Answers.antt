use Rattle.spi_rules.proofs.Trees.{use_some, use_none, not_both, not_from}
use Rattle.spi_rules.proofs.deriv.is_use.Goals as goal

pub returns-in-Some : goal.returns-in-Some
returns-in-Some c =
    let i = use_some c.args.u.now c.in-Some.field-0 c.in-Some.is in
    ((λ h. i.1 (c.is_sub.ensures.0 h)), (λ h. c.is_sub.ensures.1 (i.0 h)))

pub returns-in-None : goal.returns-in-None
returns-in-None c =
    let i = use_none c.args.u.now c.in-None.is in
    let b = c.is_sub-in-None.result in
    let e = c.is_sub-in-None.ensures in
    ((λ h. i.1 (λ p. not_both b h (e.1 p))), (λ h. not_from b (λ t. i.0 h (e.0 t))))
