use Rattle.std.proofs.Common.{sym, subst}
use Rattle.spi_count.specs.Adding.{SumOf}
use Rattle.spi_audit.proofs.Holding.{held_below}
use Rattle.spi_audit.proofs.Settling.{left_nothing, left_something}
use Rattle.spi_audit.proofs.left.Goals as goal

pub returns-then-is_empty : goal.returns-then-is_empty
returns-then-is_empty c es n h l = left_nothing c.in_ok-effect.effect.atoms c.if-is_empty.ensures es (c.in_ok-effect.ensures es (subst (λ s. SumOf c.args.store.now c.args.keys.now s es) (sym c.into_sum.ensures) (held_below c.requires.0 n h l)))

pub returns-else-is_empty : goal.returns-else-is_empty
returns-else-is_empty c es n h l =
    let same = c.in_ok-effect.ensures es (subst (λ s. SumOf c.args.store.now c.args.keys.now s es) (sym c.into_sum.ensures) (held_below c.requires.0 n h l)) in
    (record { at = λ a. sym (same.at a) }, left_something c.in_ok-effect.effect.atoms c.if-is_empty.ensures)
