use Rattle.spi_replay.proofs.Chains.{names_kept}
use Rattle.spi_replay.proofs.Waited.{instance_later, instance_before}
use Rattle.spi_replay.proofs.places.instances.Goals as goal

pub instance-requires-2-clause-names : goal.instance-requires-2-clause-names
instance-requires-2-clause-names c = names_kept c.in_ok-id.ensures.kept.messages c.requires.names

pub returns-clause-first : goal.returns-clause-first
returns-clause-first c = instance_later c.in_ok-other.ensures.kept.messages c.in_ok-id.ensures.at

pub returns-clause-second : goal.returns-clause-second
returns-clause-second c = instance_before c.in_ok-id.ensures.kept.messages c.in_ok-other.ensures.at
