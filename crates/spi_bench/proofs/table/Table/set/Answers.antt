use Rattle.std.proofs.Common.{◌<◌, refl, ap, ◌∙◌, length, None, arith}
use Rattle.std.specs.Prelude.{slice_set, slice_index_or}
use Rattle.std.proofs.lemmas.List.{length-set, get_or-set_same, set-set}
use Rattle.spi_bench.specs.Sums.{Measure, nodes, atoms, placed, shared_in}
use Rattle.spi_bench.proofs.Totals.{all_fit, placed_within, room_slot, sums_added}
use Rattle.spi_bench.proofs.table.Table.set.Goals as goal

pub add-requires-clause-room : goal.add-requires-clause-room
add-requires-clause-room c = λ m p.
    let t = c.args.self.now in
    let u = c.clear-before.new.self in
    let room = λ (x : Measure). room_slot t.sums.free (shared_in t.sums) u.sums.free (shared_in u.sums) t.slots.items u.slots.items x c.args.at c.args.slot c.clear-before.ensures.free c.clear-before.ensures.shared c.clear-before.ensures.after c.requires.at in
    let r = all_fit u.sums.free (shared_in u.sums) u.slots.items c.args.slot (room nodes c.requires.nodes) (room atoms c.requires.atoms) m in
    let a = u.summed.each m p in
    omega arith

pub add-requires-clause-atoms : goal.add-requires-clause-atoms
add-requires-clause-atoms c = λ w p.
    let u = c.clear-before.new.self in
    let a = u.summed.each (placed w) p in
    let b = u.summed.each atoms tt in
    let l = placed_within u.sums.free (shared_in u.sums) w u.slots.items in
    omega arith

pub invariant_of-self : goal.invariant_of-self
invariant_of-self c =
    let t = c.args.self.now in
    let u = c.clear-before.new.self in
    let l : c.args.at < length u.slots.items = omega (arith, c.requires.at, ap length c.clear-before.ensures.after, length-set t.slots.items c.args.at None) in
    let e = ap (λ ss. slice_index_or ss c.args.at None) c.clear-before.ensures.after ∙ get_or-set_same t.slots.items c.args.at None None c.requires.at in
    record { summed = sums_added u.sums c.add.new.self u.slots.items c.args.at None None c.args.slot u.summed l refl e c.add.ensures }

pub returns-clause-after : goal.returns-clause-after
returns-clause-after c =
    ap (λ ss. slice_set ss c.args.at c.args.slot) c.clear-before.ensures.after ∙ set-set c.args.self.now.slots.items c.args.at None c.args.slot
