use Rattle.std.proofs.Common.{ap}
use Rattle.spi_term.specs.View.{ty}
use Rattle.spi_rules.specs.declared.rule.Rule.TheVariants.{ProcCast}
use Rattle.spi_audit.specs.Changes.{cast_change}
use Rattle.spi_audit.proofs.NoteChanges.{one_noted}
use Rattle.spi_audit.proofs.noting.note_cast_typed.Goals as goal

pub returns-in-Un-clause-note : goal.returns-in-Un-clause-note
returns-in-Un-clause-note c = one_noted c.args.judge.now.store c.args.keys.now c.args.scope (ap (λ t. cast_change ProcCast c.args.scope (ty t)) c.in-Un.is)

pub returns-in-Unit-clause-note : goal.returns-in-Unit-clause-note
returns-in-Unit-clause-note c = one_noted c.args.judge.now.store c.args.keys.now c.args.scope (ap (λ t. cast_change ProcCast c.args.scope (ty t)) c.in-Unit.is)

pub returns-in-Pair-clause-note : goal.returns-in-Pair-clause-note
returns-in-Pair-clause-note c = one_noted c.args.judge.now.store c.args.keys.now c.args.scope (ap (λ t. cast_change ProcCast c.args.scope (ty t)) c.in-Pair.is)

pub returns-in-Sum-clause-note : goal.returns-in-Sum-clause-note
returns-in-Sum-clause-note c = one_noted c.args.judge.now.store c.args.keys.now c.args.scope (ap (λ t. cast_change ProcCast c.args.scope (ty t)) c.in-Sum.is)

pub returns-in-Key-clause-note : goal.returns-in-Key-clause-note
returns-in-Key-clause-note c = one_noted c.args.judge.now.store c.args.keys.now c.args.scope (ap (λ t. cast_change ProcCast c.args.scope (ty t)) c.in-Key.is)
