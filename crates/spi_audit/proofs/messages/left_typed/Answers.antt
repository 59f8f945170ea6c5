use Rattle.spi_rules.specs.declared.rule.Rule.TheVariants.{MsgInl}
use Rattle.spi_intern.specs.declared.messages.MsgPart.TheVariants as P
use Rattle.spi_audit.proofs.Parts.{given_place, sum_told, no_sum_told}
use Rattle.spi_audit.proofs.Replies.{left_fits, sum_not}
use Rattle.spi_audit.proofs.messages.left_typed.Goals as goal

pub ty_part-requires : goal.ty_part-requires
ty_part-requires c = given_place c.store.ensures c.requires

pub returns-in-Sum : goal.returns-in-Sum
returns-in-Sum c = left_fits c.args.judge.now c.args.t c.in-Sum.left c.in-Sum.field-1 c.args.a (sum_told c.store.ensures c.args.t c.in-Sum.left c.in-Sum.field-1 c.in-Sum.ensures)

pub returns-in_default : goal.returns-in_default
returns-in_default c = sum_not c.args.judge.now MsgInl c.args.t (P.Inl c.args.a) tt (no_sum_told c.store.ensures c.args.t c.ty_part.result c.in_default.not-Sum c.ty_part.ensures)
