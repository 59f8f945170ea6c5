use Rattle.std.proofs.Common.{◌<◌, length, sym, ◌∙◌, arith}
use Rattle.spi_term.specs.View.{atom, pointed}
use Rattle.spi_term.proofs.Lookup.{pointed_at, place_other}
use Rattle.spi_term.proofs.sorted.place_of.Goals as goal

pub returns-clause-place : goal.returns-clause-place
returns-clause-place c =
    let within : c.cut_of-place.result < length c.args.sorted.now = omega (arith, c.cut_of-place.ensures.bound, c.if-place-sorted.false) in
    place_other (atom c.args.a.now) (atom c.index-sorted-place.result.now) (pointed c.args.sorted.now) c.cut_of-place.result c.requires c.cut_of-place.ensures.cut
    (pointed_at c.args.sorted.now c.cut_of-place.result c.index-sorted-place.result within c.index-sorted-place.is)
    (sym c.is_same_atom.ensures ∙ c.if-is_same_atom.false)
