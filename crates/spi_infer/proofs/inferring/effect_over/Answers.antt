use Rattle.std.proofs.Common.{subst}
use Rattle.spi_rules.specs.Environment.{untrusted}
use Rattle.spi_message.specs.Judging.{Stands}
use Rattle.spi_infer.proofs.Descending.{some_node}
use Rattle.spi_infer.proofs.inferring.effect_over.Goals as goal

pub returns : goal.returns
returns g c =
    let w = some_node c.args.process.now.process (untrusted c.args.process.now.names) c.args.node c.requires.node in
    (w.0, w.1, w.2, c.in_ok-effect.ensures.effect (untrusted c.args.process.now.names) w.0 w.1 (subst (λ k. Stands c.in_ok-judge.judge (untrusted k)) c.names.ensures c.in_ok-judge.ensures.names) w.2)
