use Rattle.std.proofs.Common.{◌+◌, arith}
use Rattle.std.proofs.lemmas.List.{length-map}
use Rattle.spi_term.specs.View.{atom}
use Rattle.spi_bench.specs.Sums.{nodes, blocked, atoms, shared_in}
use Rattle.spi_bench.proofs.Counted.{slot_nodes, slot_blocked, slot_atoms, at_with}
use Rattle.spi_bench.proofs.sums.Sums.add.Goals as goal

pub overflow_add-self : goal.overflow_add-self
overflow_add-self c =
    let s = slot_nodes c.args.self.now.free (shared_in c.args.self.now) c.in-Some.is in
    omega (arith, c.requires.room nodes tt, c.len.ensures.nodes)

pub overflow_add-self-in-None : goal.overflow_add-self-in-None
overflow_add-self-in-None c =
    let s = slot_blocked c.args.self.now.free (shared_in c.args.self.now) c.in-Some.is c.in-None.is in
    omega (arith, c.requires.room blocked tt)

pub add_atoms-requires : goal.add_atoms-requires
add_atoms-requires c = λ w p.
    let s = slot_atoms c.args.self.now.free (shared_in c.args.self.now) c.in-Some-least.e c.in-Some.is c.in-Some-least.is in
    let r = c.requires.room atoms tt in
    let a = c.requires.atoms w p in
    let e = at_with c.args.self.now (c.args.self.now.nodes + c.len.result) w in
    omega arith

pub overflow_add-self-in-Some-least : goal.overflow_add-self-in-Some-least
overflow_add-self-in-Some-least c =
    let s = slot_atoms c.args.self.now.free (shared_in c.args.self.now) c.in-Some-least.e c.in-Some.is c.in-Some-least.is in
    let r = c.requires.room atoms tt in
    let m = length-map c.in-Some-least.e.atoms.items atom in
    let l = c.in-Some-least.e.atoms.ok.0 in
    let v = c.len-in-Some-least.ensures in
    omega (arith, c.add_atoms.ensures.atoms)
