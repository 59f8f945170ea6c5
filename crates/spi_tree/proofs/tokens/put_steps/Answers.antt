use Rattle.std.proofs.Common.{arith}
use Rattle.std.proofs.lemmas.Grind.{common_steps}
use Rattle.spi_tree.specs.Views.{step_of}
use Rattle.spi_tree.specs.Listed.{step_list}
use Rattle.spi_tree.proofs.Joined.{joined_more}
use Rattle.spi_tree.proofs.tokens.put_steps.Goals as goal

pub loop-step-preserved : goal.loop-step-preserved
loop-step-preserved c =
    grind (arith, common_steps, joined_more step_list step_of)
