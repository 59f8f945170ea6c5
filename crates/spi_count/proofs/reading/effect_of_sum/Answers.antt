use Rattle.std.proofs.lemmas.Result.{IfOk-weaker}
use Rattle.spi_count.proofs.Standing.{pile_of_sum}
use Rattle.spi_count.proofs.Waiting.{none_waits}
use Rattle.spi_count.proofs.reading.effect_of_sum.Goals as goal

pub effect_of_pile-requires : goal.effect_of_pile-requires
effect_of_pile-requires c =
    (c.requires.0, c.requires.1, pile_of_sum {s = c.args.sum} (λ kind q. none_waits kind _ _ q c.new-late.ensures.items) c.requires.2)

pub returns : goal.returns
returns c =
    IfOk-weaker c.effect_of_pile.result _ _ (λ e h es t. h es (pile_of_sum {s = c.args.sum} (λ kind q. none_waits kind _ _ q c.new-late.ensures.items) t)) c.effect_of_pile.ensures
