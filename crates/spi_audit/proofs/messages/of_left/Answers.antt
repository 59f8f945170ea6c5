use Rattle.std.proofs.Common.{⊎_elim}
use Rattle.spi_rules.specs.declared.rule.Rule.TheVariants.{MsgInlUn}
use Rattle.spi_intern.specs.declared.messages.MsgPart.TheVariants as P
use Rattle.spi_audit.proofs.Replies.{other, un_arm, left_un_fits}
use Rattle.spi_audit.proofs.messages.of_left.Goals as goal

pub returns-in_default : goal.returns-in_default
returns-in_default c = other c.args.judge.now c.args.rule c.args.t (P.Inl c.args.a) (⊎_elim c.in_default.not-MsgInl c.in_default.not-MsgInlUn)

pub returns-in-MsgInlUn : goal.returns-in-MsgInlUn
returns-in-MsgInlUn c = un_arm c.args.judge.now c.args.t c.args.rule MsgInlUn c.in-MsgInlUn.is tt (P.Inl c.args.a) _ c.part_untrusted.result c.part_untrusted.ensures (left_un_fits c.args.judge.now c.args.t c.part_untrusted.ensures.0 c.part_untrusted.ensures.1 c.args.a)
