use Rattle.std.proofs.Common.{reverse, arith}
use Rattle.spi_scope.specs.Chains.{chain_at}
use Rattle.spi_fault.proofs.Blaming.{passed_none, passed_more, in_checks, can_ask, blamed, all_passed}
use Rattle.spi_fault.proofs.explaining.first_failing.Goals as goal

pub loop-i-init : goal.loop-i-init
loop-i-init c = record { within = omega arith; passed = passed_none c.args.file.now.process.names c.args.file.now.process.process c.args.node c.args.env.now c.args.checks.now }

pub failing-requires-clause-fits : goal.failing-requires-clause-fits
failing-requires-clause-fits c = c.requires.fits _ (in_checks c.args.file.now.process.names c.args.file.now.process.process c.args.node c.args.env.now _ c.loop-i.i _ c.loop-i-test.true c.index-checks-i.is)

pub failing-requires-clause-node : goal.failing-requires-clause-node
failing-requires-clause-node c = can_ask _ _ _ _ _ c.loop-i.i _ c.loop-i-test.true c.index-checks-i.is c.requires.node

pub returns-in-Some : goal.returns-in-Some
returns-in-Some c = blamed _ _ _ _ _ (λ i. reverse (chain_at c.args.file.now.marks.scopes i)) c.loop-i.i c.index-checks-i.result c.in-Some.found c.reason.result c.loop-i-test.true c.index-checks-i.is c.requires.node c.loop-i.invariant.passed (rw c.in-Some.is at c.in_ok-found.ensures) c.reason.ensures

pub loop-i-preserved : goal.loop-i-preserved
loop-i-preserved c = record {
  within = omega (arith, c.loop-i-test.true);
  passed = passed_more _ _ _ _ _ c.loop-i.i _ c.loop-i-test.true c.index-checks-i.is c.loop-i.invariant.passed (rw c.in_default.is at c.in_ok-found.ensures);
}

pub returns : goal.returns
returns c = all_passed _ _ _ _ _ c.loop-i.i (omega (arith, c.loop-i-test.false)) c.requires.node c.loop-i.invariant.passed
