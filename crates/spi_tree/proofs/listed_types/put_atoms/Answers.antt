use Rattle.std.proofs.Common.{arith, ◌<◌, length}
use Rattle.std.proofs.lemmas.Grind.{common_steps}
use Rattle.spi_tree.specs.Views.{atom_of}
use Rattle.spi_tree.specs.Listed.{more_atom_list}
use Rattle.spi_tree.proofs.Joined.{joined_more}
use Rattle.spi_tree.proofs.listed_types.put_atoms.Goals as goal

pub loop-atom-preserved : goal.loop-atom-preserved
loop-atom-preserved c =
    let lt : c.loop-atom.atom-index < length c.args.atoms.now = omega arith in
    grind (arith, common_steps, joined_more more_atom_list atom_of c.args.atoms.now c.loop-atom.atom-index c.atom-item.result lt)
