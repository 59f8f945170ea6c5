use Rattle.spi_commands.proofs.FileRefusals.{refused_named, refused_within}
use Rattle.spi_commands.proofs.FileScopes.{first_is_fault}
use Rattle.spi_advice.proofs.Advised.{line_told}
use Rattle.spi_advice.proofs.refusing.refusal_line.Goals as goal

pub refused-requires-clause-named : goal.refused-requires-clause-named
refused-requires-clause-named c = refused_named first_is_fault c.requires

pub refused-requires-clause-within : goal.refused-requires-clause-within
refused-requires-clause-within c = refused_within c.faults_stand_at_nodes.ensures c.requires

pub returns : goal.returns
returns c = line_told c.args.lines.now c.args.r.now c.refused.result c.requires c.refused.ensures
