use Rattle.std.proofs.Common.{sym, subst}
use Rattle.spi_infer.specs.Accounts.{IsNoted}
use Rattle.spi_rules.specs.Blocking.{node_root}
use Rattle.spi_rules.specs.Environment.{untrusted}
use Rattle.spi_term.proofs.Choices.{if_ok}
use Rattle.spi_term.proofs.Sizes.{some_process}
use Rattle.spi_origin.proofs.Listed.{blocking_listed}
use Rattle.spi_origin.proofs.finding.blocked.Goals as goal

pub gathered_from-requires-clause-from : goal.gathered_from-requires-clause-from
gathered_from-requires-clause-from c = some_process c.args.process.now.process

pub returns : goal.returns
returns c =
    let p = c.args.process.now in
    let env = untrusted p.names in
    let noted = subst (λ s. IsNoted s c.in_ok-judge.noted p.names p.process env) (sym c.store.ensures) c.in_ok-judge.ensures in
    if_ok c.gathered_from.result (λ v h. blocking_listed env p.process v.items (h env env p.process noted node_root)) c.gathered_from.ensures
