use Rattle.std.proofs.Common.{⊎_elim}
use Rattle.spi_rules.specs.declared.rule.Rule.TheVariants.{MsgInrUn}
use Rattle.spi_intern.specs.declared.messages.MsgPart.TheVariants as P
use Rattle.spi_audit.proofs.Replies.{other, un_arm, right_un_fits}
use Rattle.spi_audit.proofs.messages.of_right.Goals as goal

pub returns-in_default : goal.returns-in_default
returns-in_default c = other c.args.judge.now c.args.rule c.args.t (P.Inr c.args.a) (⊎_elim c.in_default.not-MsgInr c.in_default.not-MsgInrUn)

pub returns-in-MsgInrUn : goal.returns-in-MsgInrUn
returns-in-MsgInrUn c = un_arm c.args.judge.now c.args.t c.args.rule MsgInrUn c.in-MsgInrUn.is tt (P.Inr c.args.a) _ c.part_untrusted.result c.part_untrusted.ensures (right_un_fits c.args.judge.now c.args.t c.part_untrusted.ensures.0 c.part_untrusted.ensures.1 c.args.a)
