use Rattle.std.proofs.Common.{ap, ◌∙◌}
use Rattle.spi_replay.specs.Stepping.{Pooled}
use Rattle.spi_replay.proofs.Started.{started, started_is}
use Rattle.spi_replay.proofs.pool.Pool.start.Goals as goal

pub returns-clause-configuration : goal.returns-clause-configuration
returns-clause-configuration c =
    ap (λ (p : Pooled). p.configuration) (started c.args.process.now c.args.opponent.now c.in_ok-push_first.ensures.pushed c.in_ok-push_first-2.ensures.pushed c.new-state.ensures.places c.args.most_places (c.new-state.ensures.names ∙ c.names.ensures) c.new-state.ensures.most c.in_ok-push_first.ensures.over c.in_ok-push_first-2.ensures.over)

pub returns-clause-most : goal.returns-clause-most
returns-clause-most c =
    ap (λ (p : Pooled). p.most) (started c.args.process.now c.args.opponent.now c.in_ok-push_first.ensures.pushed c.in_ok-push_first-2.ensures.pushed c.new-state.ensures.places c.args.most_places (c.new-state.ensures.names ∙ c.names.ensures) c.new-state.ensures.most c.in_ok-push_first.ensures.over c.in_ok-push_first-2.ensures.over)

pub invariant_of-result : goal.invariant_of-result
invariant_of-result c =
    started_is c.args.process.now c.args.opponent.now c.in_ok-push_first.ensures.pushed c.in_ok-push_first-2.ensures.pushed c.new-state.ensures.places c.args.most_places c.new-state.ensures.most c.requires.places c.requires.most
