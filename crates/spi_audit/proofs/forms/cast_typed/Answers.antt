use Rattle.std.proofs.Common.{ap}
use Rattle.spi_term.specs.View.{message, ty, effect}
use Rattle.spi_audit.proofs.FormUses.{cast_answers}
use Rattle.spi_audit.proofs.forms.cast_typed.Goals as goal

pub returns-in-Nonce-clause-answer : goal.returns-in-Nonce-clause-answer
returns-in-Nonce-clause-answer c = cast_answers c.args.judge.now c.cast_good.new.judge (message c.args.whole.now) (ty c.args.ty.now) (effect c.in-Nonce.field-0.value) c.args.body c.cast_good.result (ap ty c.in-Nonce.is) c.cast_good.ensures.answer
