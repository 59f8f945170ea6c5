use Rattle.std.proofs.Common.{refl, sym, ap, ◌∙◌, subst, length, Some, None, slice_set, arith}
use Rattle.std.proofs.lemmas.List.{set-set}
use Rattle.spi_term.specs.Spelling.{Spelling}
use Rattle.spi_term.specs.Term.{process_size}
use Rattle.spi_bench.specs.declared.slot.Slot.{Slot}
use Rattle.spi_bench.specs.Slots.{SetsPart, sets_part, sets_none}
use Rattle.spi_bench.specs.Sums.{nodes, atoms, of_least, shared_in}
use Rattle.spi_bench.proofs.Totals.{room_after}
use Rattle.spi_bench.proofs.naming.put_there.Goals as goal

pub set-requires-clause-nodes : goal.set-requires-clause-nodes
set-requires-clause-nodes c =
    let t = c.args.table.now in
    let a = room_after t.sums.free (shared_in t.sums) c.clear.new.self.sums.free (shared_in c.clear.new.self.sums) t.slots.items c.clear.new.self.slots.items nodes c.args.at (process_size c.args.part.process) c.clear.ensures.free c.clear.ensures.shared c.clear.ensures.after c.requires.at c.requires.nodes in
    let b = ap (λ (p : Spelling). process_size p.process) c.replace-before.ensures.after in
    omega arith

pub set-requires-clause-atoms : goal.set-requires-clause-atoms
set-requires-clause-atoms c =
    let t = c.args.table.now in
    room_after t.sums.free (shared_in t.sums) c.clear.new.self.sums.free (shared_in c.clear.new.self.sums) t.slots.items c.clear.new.self.slots.items atoms c.args.at (of_least length c.args.least) c.clear.ensures.free c.clear.ensures.shared c.clear.ensures.after c.requires.at c.requires.atoms

pub returns-in-Some-clause-set : goal.returns-in-Some-clause-set
returns-in-Some-clause-set c =
    let old = c.args.table.now.slots.items in
    let s = c.in-Some.slot in
    let t : Slot = record { name = c.in-Some.slot.name; part = c.replace-before.new.dest; least = c.args.least } in
    let e = c.set.ensures.after ∙ ap (λ l. slice_set l c.args.at (Some t)) c.clear.ensures.after ∙ set-set old c.args.at None (Some t) in
    subst (λ (p : Spelling). SetsPart c.args.at c.args.part c.args.least (Some p) old c.set.new.self.slots.items) (sym c.replace-before.ensures.value)
    (sets_part {s = s} {t = t} (c.clear.ensures.before ∙ ap Some c.in-Some.is) refl c.replace-before.ensures.after refl e)

pub returns-in-None-clause-set : goal.returns-in-None-clause-set
returns-in-None-clause-set c = sets_none (c.clear.ensures.before ∙ ap Some c.in-None.is)
