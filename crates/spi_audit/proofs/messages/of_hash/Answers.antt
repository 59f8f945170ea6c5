use Rattle.spi_intern.specs.declared.messages.MsgPart.TheVariants as P
use Rattle.spi_audit.proofs.Replies.{other}
use Rattle.spi_message.proofs.Tested.{kept_same}
use Rattle.spi_audit.proofs.messages.of_hash.Goals as goal

pub returns-in_default : goal.returns-in_default
returns-in_default c = record {
  answer = other c.args.judge.now c.args.rule c.args.t (P.Hash c.args.a) c.in_default.not-MsgHash;
  kept = kept_same c.args.judge.now;
}
