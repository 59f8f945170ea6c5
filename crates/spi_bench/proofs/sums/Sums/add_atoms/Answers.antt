use Rattle.std.proofs.Common.{◌<◌, ap, subst, length, map, take, [], ◌∷◌, arith}
use Rattle.spi_term.specs.Term.{Effect}
use Rattle.spi_term.specs.View.{atom}
use Rattle.spi_intern.proofs.Meanings.{map_more}
use Rattle.spi_bench.specs.Sums.{AddsAtoms}
use Rattle.spi_bench.proofs.Counted.{prefix_short, add_room, adds_more}
use Rattle.spi_bench.proofs.sums.Sums.add_atoms.Goals as goal

pub add_atom-requires : goal.add_atom-requires
add_atom-requires c =
    let l : c.loop-a.a-index < length c.args.e.now.atoms.items = omega (arith, c.loop-a-test.true, ap length c.deref-a-items.ensures.value) in
    let s = prefix_short atom c.args.e.now.atoms.items c.loop-a.a-index l in
    add_room c.args.self.now c.loop-a.self (map atom (take c.loop-a.a-index c.args.e.now.atoms.items)) (map atom c.args.e.now.atoms.items) c.loop-a.invariant s c.requires

pub loop-a-preserved : goal.loop-a-preserved
loop-a-preserved c =
    let more = map_more atom c.args.e.now.atoms.items _ c.loop-a.a-index c.a-item.result c.deref-a-items.ensures.value c.loop-a-test.true c.a-item.is in
    subst (λ (es : Effect). AddsAtoms c.args.self.now c.add_atom.new.self es) more (adds_more c.args.self.now c.loop-a.self c.add_atom.new.self (map atom (take c.loop-a.a-index c.args.e.now.atoms.items)) (atom c.a-item.result ∷ []) c.loop-a.invariant c.add_atom.ensures)
