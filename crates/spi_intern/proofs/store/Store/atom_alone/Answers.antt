use Rattle.std.proofs.Common.{refl, [], ◌∷◌, arith}
use Rattle.spi_intern.specs.Table.{tells_none, tells_next}
use Rattle.spi_intern.proofs.Adding.{adds_atom, adds_no_atom}
use Rattle.spi_intern.proofs.Counting.{cut_means}
use Rattle.spi_intern.proofs.Sorting.{short_order, short_cut}
use Rattle.spi_intern.proofs.store.Store.atom_alone.Goals as goal

pub returns-clause-at : goal.returns-clause-at
returns-clause-at c =
    let ids = c.in_ok-id.id ∷ [] in
    (ids, c.in_ok-place.ensures.at, cut_means c.count.ensures.distinct (tells_next c.in_ok-id.ensures.at tells_none) (short_cut ids (omega arith)) (short_order ids (omega arith)))

pub returns-clause-adds : goal.returns-clause-adds
returns-clause-adds c = adds_atom _ _ (adds_no_atom refl) c.in_ok-id.ensures.kept c.in_ok-id.ensures.grows
