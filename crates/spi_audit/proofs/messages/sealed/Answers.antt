use Rattle.spi_rules.specs.declared.rule.Rule.TheVariants.{MsgEnc}
use Rattle.spi_intern.specs.declared.messages.MsgPart.TheVariants as P
use Rattle.spi_audit.proofs.Replies.{un_not}
use Rattle.spi_audit.proofs.MessageKeys.{enc_not, enc_fits}
use Rattle.spi_audit.proofs.messages.sealed.Goals as goal

pub returns-then-not-is_untrusted : goal.returns-then-not-is_untrusted
returns-then-not-is_untrusted c = un_not c.args.judge.now c.args.t c.is_untrusted.result c.is_untrusted.ensures MsgEnc (P.Enc c.args.a c.args.b) tt c.if-not-is_untrusted.true

pub returns-in-Some : goal.returns-in-Some
returns-in-Some c = enc_fits c.args.judge.now c.args.t c.is_untrusted.result c.is_untrusted.ensures c.args.a c.args.b c.in-Some.payload c.if-not-is_untrusted.false c.in-Some.ensures.some

pub returns-in-None : goal.returns-in-None
returns-in-None c = enc_not c.args.judge.now c.args.t c.is_untrusted.result c.is_untrusted.ensures c.args.a c.args.b c.in-None.ensures.none
