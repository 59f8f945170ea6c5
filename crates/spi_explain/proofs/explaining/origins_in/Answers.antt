use Rattle.std.proofs.Common.{arith}
use Rattle.spi_explain.proofs.Beyond.{none_beyond}
use Rattle.spi_explain.proofs.explaining.origins_in.Goals as goal
use Rattle.spi_term.specs.View.{atom}

pub returns-else-node-len : goal.returns-else-node-len
returns-else-node-len c =
    let p = c.args.process.now in
    none_beyond p.names p.process c.args.node (atom c.args.atom.now) c.new.result.items (omega (arith, c.if-node-len.false, c.len.ensures.nodes)) c.new.ensures.items
