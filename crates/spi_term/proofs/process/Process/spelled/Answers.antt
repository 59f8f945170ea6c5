use Rattle.std.proofs.Common.{refl, arith}
use Rattle.spi_term.proofs.Numbers.{spelled_is_process}
use Rattle.spi_term.proofs.process.Process.spelled.Goals as goal

pub invariant_of-result : goal.invariant_of-result
invariant_of-result c =
    spelled_is_process c.args.names c.args.nodes.items c.requires.few_names (omega (arith, c.args.nodes.ok.0, c.requires.few_nodes)) c.requires.small c.requires.spells

pub returns : goal.returns
returns c =
    (refl, (spelled_is_process c.args.names c.args.nodes.items c.requires.few_names (omega (arith, c.args.nodes.ok.0, c.requires.few_nodes)) c.requires.small c.requires.spells).spells)
