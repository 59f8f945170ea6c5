use Rattle.std.proofs.Common.{⊎_elim}
use Rattle.spi_rules.specs.declared.rule.Rule.TheVariants.{MsgUnitUn}
use Rattle.spi_intern.specs.declared.messages.MsgPart.TheVariants as P
use Rattle.spi_audit.proofs.Replies.{other, un_arm, unit_un_fits}
use Rattle.spi_audit.proofs.messages.of_unit.Goals as goal

pub returns-in_default : goal.returns-in_default
returns-in_default c = other c.args.judge.now c.args.rule c.args.t P.Unit (⊎_elim c.in_default.not-MsgUnit c.in_default.not-MsgUnitUn)

pub returns-in-MsgUnitUn : goal.returns-in-MsgUnitUn
returns-in-MsgUnitUn c = un_arm c.args.judge.now c.args.t c.args.rule MsgUnitUn c.in-MsgUnitUn.is tt P.Unit _ c.where_untrusted.result c.where_untrusted.ensures (unit_un_fits c.args.judge.now c.args.t c.where_untrusted.ensures.0 c.where_untrusted.ensures.1)
