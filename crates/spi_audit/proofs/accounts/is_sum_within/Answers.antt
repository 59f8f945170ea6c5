use Rattle.std.proofs.Common.{subst, ◌<◌}
use Rattle.spi_audit.proofs.Within.{taken_all, taken_more}
use Rattle.spi_audit.proofs.accounts.is_sum_within.Goals as goal

pub returns-then-count : goal.returns-then-count
returns-then-count c s keys es fs kd h k =
    taken_more kd h k c.loop-kind.rest c.in-Some.kind c.in-Some.key c.in-Some.count c.loop-kind.invariant c.in-Some.ensures.some.0 c.in-Some.ensures.some.1 (subst (λ n. n < c.in-Some.count) c.count.ensures c.if-count.true)

pub returns : goal.returns
returns c s keys es fs kd h k = taken_all kd h k c.loop-kind.rest c.loop-kind.invariant c.in_default.ensures.none
