use Rattle.std.proofs.Common.{⊎_elim}
use Rattle.spi_rules.specs.declared.rule.Rule.TheVariants.{MsgPairUn}
use Rattle.spi_intern.specs.declared.messages.MsgPart.TheVariants as P
use Rattle.spi_audit.proofs.Replies.{other, un_arm, pair_un_fits}
use Rattle.spi_message.proofs.Tested.{kept_same}
use Rattle.spi_audit.proofs.messages.of_pair.Goals as goal

pub returns-in_default : goal.returns-in_default
returns-in_default c = record {
  answer = other c.args.judge.now c.args.rule c.args.t (P.Pair c.args.a c.args.b) (⊎_elim c.in_default.not-MsgPair c.in_default.not-MsgPairUn);
  kept = kept_same c.args.judge.now;
}

pub returns-in-MsgPairUn-clause-answer : goal.returns-in-MsgPairUn-clause-answer
returns-in-MsgPairUn-clause-answer c = un_arm c.args.judge.now c.args.t c.args.rule MsgPairUn c.in-MsgPairUn.is tt (P.Pair c.args.a c.args.b) _ c.both_untrusted.result c.both_untrusted.ensures (pair_un_fits c.args.judge.now c.args.t c.both_untrusted.ensures.0 c.both_untrusted.ensures.1 c.args.a c.args.b)
