use Rattle.std.proofs.Common.{refl, arith}
use Rattle.spi_term.specs.Term as Term
use Rattle.spi_intern.specs.Messages.{says_name}
use Rattle.spi_replay.proofs.Chains.{named_low, named_high, has_name}
use Rattle.spi_replay.proofs.names.named.Goals as goal

pub message_over-requires : goal.message_over-requires
message_over-requires c = record { message = Term.name c.args.x; says = says_name }

pub value_at-requires : goal.value_at-requires
value_at-requires c = has_name c.requires.names (omega arith)

pub returns-then-x-scope-clause-at : goal.returns-then-x-scope-clause-at
returns-then-x-scope-clause-at c = named_low c.args.store.now.messages c.message_over.new.self.messages c.args.links.now c.args.scope c.args.x c.if-x-scope.true c.message_over.result c.message_over.ensures.at

pub returns-else-x-scope-clause-at : goal.returns-else-x-scope-clause-at
returns-else-x-scope-clause-at c = named_high c.if-x-scope.false c.requires.over refl c.value_at.ensures
