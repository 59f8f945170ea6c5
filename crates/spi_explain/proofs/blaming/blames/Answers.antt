use Rattle.spi_explain.proofs.Shaped.{answered_at}
use Rattle.spi_term.proofs.Choices.{if_ok}
use Rattle.spi_explain.proofs.blaming.blames.Goals as goal

pub returns : goal.returns
returns c =
    let p = c.args.process.now in
    if_ok c.answers_at.result (λ v h env q n. answered_at p.names p.process c.args.node c.in_ok-env.env env c.in_ok-env.ensures.0 q _ v.items c.in_ok-env.ensures.1 n c.node.ensures h) c.answers_at.ensures
