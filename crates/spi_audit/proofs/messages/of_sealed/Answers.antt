use Rattle.std.proofs.Common.{⊎_elim}
use Rattle.spi_rules.specs.declared.rule.Rule.TheVariants.{MsgEncUn}
use Rattle.spi_intern.specs.declared.messages.MsgPart.TheVariants as P
use Rattle.spi_audit.proofs.Replies.{other, un_arm, enc_un_fits}
use Rattle.spi_audit.proofs.messages.of_sealed.Goals as goal

pub returns-in_default : goal.returns-in_default
returns-in_default c = other c.args.judge.now c.args.rule c.args.t (P.Enc c.args.a c.args.b) (⊎_elim c.in_default.not-MsgEnc c.in_default.not-MsgEncUn)

pub returns-in-MsgEncUn : goal.returns-in-MsgEncUn
returns-in-MsgEncUn c = un_arm c.args.judge.now c.args.t c.args.rule MsgEncUn c.in-MsgEncUn.is tt (P.Enc c.args.a c.args.b) _ c.both_untrusted.result c.both_untrusted.ensures (enc_un_fits c.args.judge.now c.args.t c.both_untrusted.ensures.0 c.both_untrusted.ensures.1 c.args.a c.args.b)
