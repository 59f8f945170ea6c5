use Rattle.std.proofs.Common.{arith, ◌<◌, length}
use Rattle.std.proofs.lemmas.Grind.{common_steps}
use Rattle.spi_tree.specs.Views.{decl_of}
use Rattle.spi_tree.specs.Listed.{decl_list}
use Rattle.spi_tree.proofs.Joined.{joined_more}
use Rattle.spi_tree.proofs.tokens.put_declarations.Goals as goal

pub loop-declaration-preserved : goal.loop-declaration-preserved
loop-declaration-preserved c =
    let lt : c.loop-declaration.declaration-index < length c.args.decls.now = omega arith in
    grind (arith, common_steps, joined_more decl_list decl_of c.args.decls.now c.loop-declaration.declaration-index c.declaration-item.result lt)
