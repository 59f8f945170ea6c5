use Rattle.std.proofs.Common.{◌+◌, ap, ◌∙◌, subst, map, take, drop, [], ◌∷◌, ◌++◌}
use Rattle.spi_term.specs.Term.{Effect}
use Rattle.spi_term.specs.View.{atom}
use Rattle.spi_intern.proofs.Meanings.{map_more}
use Rattle.spi_bench.specs.Sums.{AddsAtoms}
use Rattle.spi_bench.proofs.Counted.{prefix_rest, take_room, takes_more}
use Rattle.spi_bench.proofs.sums.Sums.take_atoms.Goals as goal

pub take_atom-requires : goal.take_atom-requires
take_atom-requires c =
    let more = map_more atom c.args.e.now.atoms.items _ c.loop-a.a-index c.a-item.result c.deref-a-items.ensures.value c.loop-a-test.true c.a-item.is in
    let gs = map atom (drop (c.loop-a.a-index + 1) c.args.e.now.atoms.items) in
    let whole = ap (λ (es : Effect). es ++ gs) more ∙ prefix_rest atom c.args.e.now.atoms.items (c.loop-a.a-index + 1) in
    take_room c.args.self.now c.loop-a.self (map atom (take c.loop-a.a-index c.args.e.now.atoms.items)) gs (map atom c.args.e.now.atoms.items) (atom c.a-item.result) whole c.loop-a.invariant c.requires

pub loop-a-preserved : goal.loop-a-preserved
loop-a-preserved c =
    let more = map_more atom c.args.e.now.atoms.items _ c.loop-a.a-index c.a-item.result c.deref-a-items.ensures.value c.loop-a-test.true c.a-item.is in
    subst (λ (es : Effect). AddsAtoms c.take_atom.new.self c.args.self.now es) more (takes_more c.args.self.now c.loop-a.self c.take_atom.new.self (map atom (take c.loop-a.a-index c.args.e.now.atoms.items)) (atom c.a-item.result ∷ []) c.loop-a.invariant c.take_atom.ensures)
