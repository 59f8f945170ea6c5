use Rattle.std.proofs.Common.{arith, ◌<◌, length}
use Rattle.std.proofs.lemmas.Grind.{common_steps}
use Rattle.spi_tree.specs.Views.{deriv_of}
use Rattle.spi_tree.specs.Listed.{deriv_list}
use Rattle.spi_tree.proofs.Rows.{put_derivation}
use Rattle.spi_tree.proofs.Joined.{joined_more}
use Rattle.spi_tree.proofs.tokens.+derivations.Goals as goal

pub put_premises-loop-premise-preserved : goal.put_premises-loop-premise-preserved
put_premises-loop-premise-preserved t c =
    let lt : c.loop-premise.premise-index < length c.args.premises.now = omega arith in
    grind (arith, common_steps, joined_more deriv_list deriv_of c.args.premises.now c.loop-premise.premise-index c.premise-item.result lt)

pub put_derivation-returns : goal.put_derivation-returns
put_derivation-returns t c = put_derivation c.args.derivation.now _ _ _ _ _ c.deref.ensures.value c.in_ok-put_word.ensures c.in_ok-put_written.ensures c.in_ok-put_premises.ensures
