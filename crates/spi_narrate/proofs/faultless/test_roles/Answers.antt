use Rattle.std.proofs.Common.{◌≡◌, ℕ, ◌+◌, length, take, ◌∷◌, subst, arith}
use Rattle.spi_narrate.proofs.Testing.{IsFailed, role_behind, roles_fault, roles_more}
use Rattle.spi_narrate.proofs.faultless.test_roles.Goals as goal

pub returns-in_err-test_role : goal.returns-in_err-test_role
returns-in_err-test_role c =
    let more = c.args.more.now in
    let first = c.args.first.now in
    let count : length more + 1 ≡ length (first ∷ more) = omega arith in
    let f = c.in_err-test_role.field-0.0 in
    roles_fault c.from_residual.result f (length (first ∷ more)) first more c.loop-i.i c.index-more-i.result c.index-more-i.is c.loop-i-test.true c.loop-i.invariant
    c.from_residual.ensures.1 (subst (λ (k : ℕ). IsFailed f (role_behind k first (take c.loop-i.i more) c.index-more-i.result)) count c.in_err-test_role.ensures)

pub loop-i-preserved : goal.loop-i-preserved
loop-i-preserved c =
    let more = c.args.more.now in
    let first = c.args.first.now in
    roles_more (length (first ∷ more)) first more c.loop-i.i c.index-more-i.result c.index-more-i.is c.loop-i-test.true c.loop-i.invariant c.in_ok-test_role.ensures
