use Rattle.spi_rules.specs.Deriv.{rule_uses}
use Rattle.spi_commands.proofs.VerifyAnswers.{audits_few, audits_tree, unproved_step, unproved_unpaid}
use Rattle.spi_commands.proofs.verify.audited.Goals as goal

pub audit-requires-clause-few : goal.audit-requires-clause-few
audit-requires-clause-few c = audits_few c.args.bytes.now c.args.file.now c.args.d.now c.requires.read c.requires.derivation

pub audit-requires-clause-tree : goal.audit-requires-clause-tree
audit-requires-clause-tree c = audits_tree c.args.bytes.now c.args.file.now c.args.d.now c.requires.read c.requires.derivation

pub returns-in-WrongStep-clause-ok : goal.returns-in-WrongStep-clause-ok
returns-in-WrongStep-clause-ok c = unproved_step c.args.bytes.now c.args.file.now (rule_uses c.args.d.now) c.in-WrongStep.index c.wrong.result c.one_audit.ensures c.requires.read c.requires.derivation (rw c.in-WrongStep.is at c.in_ok-audit.ensures) c.wrong.ensures.ok

pub returns-in-Unpaid-clause-ok : goal.returns-in-Unpaid-clause-ok
returns-in-Unpaid-clause-ok c = unproved_unpaid c.args.bytes.now c.args.file.now (rule_uses c.args.d.now) c.in-Unpaid.effect c.left_unpaid.result c.one_audit.ensures c.requires.read c.requires.derivation (rw c.in-Unpaid.is at c.in_ok-audit.ensures) c.left_unpaid.ensures.ok
