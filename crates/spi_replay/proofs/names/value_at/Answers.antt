use Rattle.std.proofs.Common.{◌≡◌, arith, subst, get_or}
use Rattle.spi_replay.specs.declared.names.Link.{Link}
use Rattle.spi_replay.specs.Standing.{IsValueAt}
use Rattle.spi_replay.proofs.Chains.{has_within, has_before, value_before, value_first}
use Rattle.spi_replay.proofs.names.value_at.Goals as goal

pub loop-left-init : goal.loop-left-init
loop-left-init c = record { has = c.requires; below = has_within c.requires; finds = λ id v. v }

pub loop-left-preserved : goal.loop-left-preserved
loop-left-preserved c =
    let h = has_before _ c.loop-left.invariant.has c.loop-left-test.true in
    record {
      has = h;
      below = has_within h;
      finds = λ id v. c.loop-left.invariant.finds id (value_before _ c.loop-left-test.true v);
    }

pub returns : goal.returns
returns c =
    let z : 0 ≡ c.loop-left.left = omega arith in
    let d : Link = record { value = record { place = 0 }; before = 0 } in
    c.loop-left.invariant.finds (get_or c.args.links.now c.loop-left.at d).value (subst (λ n. IsValueAt c.args.links.now c.loop-left.at n (get_or c.args.links.now c.loop-left.at d).value) z (value_first d))
