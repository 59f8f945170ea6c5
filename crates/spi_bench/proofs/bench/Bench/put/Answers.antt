use Rattle.std.proofs.Common.{◌≡◌, ◌+◌, ℕ, refl, sym, ap, ◌∙◌, subst, map, length, arith}
use Rattle.std.specs.Str.{bytes_eq}
use Rattle.indexmap.specs.IndexMap.{get}
use Rattle.spi_term.specs.Names.{ProcessOver}
use Rattle.spi_term.specs.View.{ty}
use Rattle.spi_message.proofs.Standing.{stand_length}
use Rattle.spi_message.proofs.Tested.{stands_kept}
use Rattle.spi_bench.specs.Parts.{Benched, nodes_in_parts}
use Rattle.spi_bench.specs.Sums.{shared_in}
use Rattle.spi_bench.proofs.Judged.{names_length, judged_with}
use Rattle.spi_bench.proofs.Totals.{nodes_total}
use Rattle.spi_bench.proofs.Placing.{done_places, done_inferred}
use Rattle.spi_bench.proofs.bench.Bench.put.Goals as goal

pub least_of-requires : goal.least_of-requires
least_of-requires g c =
    let b = c.self.inside in
    stand_length c.self.invariant.stands ∙ names_length c.self.inside.free (map ty c.self.inside.shared.items) ∙ ap (λ (v : Benched). v.free + length v.shared) c.self.view_is ∙ sym c.requires.names

pub invariant_of-self : goal.invariant_of-self
invariant_of-self g c =
    let i = c.self.invariant in
    judged_with i (stands_kept {j = c.self.inside.judge} {k = c.least_of.new.judge} c.least_of.ensures.kept i.stands) refl refl i.places i.inferred

pub put_fitting-requires-clause-nodes : goal.put_fitting-requires-clause-nodes
put_fitting-requires-clause-nodes g c =
    let a = nodes_total c.self.inside.table.sums.free (shared_in c.self.inside.table.sums) c.self.inside.table.slots.items in
    let b = ap (λ (v : Benched). nodes_in_parts v.parts) c.self.view_is in
    omega (arith, c.requires.nodes)

pub invariant_of-self-2 : goal.invariant_of-self-2
invariant_of-self-2 g c =
    let i = c.self.invariant in
    let n : c.args.part.names ≡ c.self.inside.free + length (map ty c.self.inside.shared.items) = c.requires.names ∙ sym (ap (λ (v : Benched). v.free + length v.shared) c.self.view_is) in
    judged_with i (stands_kept {j = c.self.inside.judge} {k = c.least_of.new.judge} c.least_of.ensures.kept i.stands) c.put_fitting.ensures.free c.put_fitting.ensures.shared
    (done_places c.args.name.now c.args.part c.in-Ok.least c.self.inside.table.slots.items c.put_fitting.new.table.slots.items (get bytes_eq c.put_fitting.new.places) c.put_fitting.result c.put_fitting.ensures.ok c.put_fitting.ensures.err)
    (done_inferred c.args.name.now c.args.part c.in-Ok.least c.self.inside.table.slots.items c.put_fitting.new.table.slots.items (get bytes_eq c.put_fitting.new.places) _ _ c.put_fitting.result c.put_fitting.ensures.ok c.put_fitting.ensures.err i.inferred (record {
      names = n;
      over = subst (λ (m : ℕ). ProcessOver m c.args.part.process) n c.len.ensures.over;
      least = c.in-Ok.ensures.least _ i.stands;
    }))
