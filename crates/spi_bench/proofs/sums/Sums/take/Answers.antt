use Rattle.std.proofs.Common.{◌-◌, arith}
use Rattle.std.proofs.lemmas.List.{length-map}
use Rattle.spi_term.specs.View.{atom}
use Rattle.spi_bench.specs.Sums.{nodes, blocked, atoms, placed, shared_in}
use Rattle.spi_bench.proofs.Counted.{slot_nodes, slot_blocked, slot_atoms, slot_placed, at_with}
use Rattle.spi_bench.proofs.sums.Sums.take.Goals as goal

pub overflow_sub-self : goal.overflow_sub-self
overflow_sub-self c =
    let s = slot_nodes c.args.self.now.free (shared_in c.args.self.now) c.in-Some.is in
    omega (arith, c.requires nodes tt, c.len.ensures.nodes)

pub overflow_sub-self-in-None : goal.overflow_sub-self-in-None
overflow_sub-self-in-None c =
    let s = slot_blocked c.args.self.now.free (shared_in c.args.self.now) c.in-Some.is c.in-None.is in
    omega (arith, c.requires blocked tt)

pub take_atoms-requires : goal.take_atoms-requires
take_atoms-requires c = λ w p.
    let s = slot_placed c.args.self.now.free (shared_in c.args.self.now) c.in-Some-least.e w c.in-Some.is c.in-Some-least.is in
    let r = c.requires (placed w) p in
    let e = at_with c.args.self.now (c.args.self.now.nodes - c.len.result) w in
    omega arith

pub overflow_sub-self-in-Some-least : goal.overflow_sub-self-in-Some-least
overflow_sub-self-in-Some-least c =
    let s = slot_atoms c.args.self.now.free (shared_in c.args.self.now) c.in-Some-least.e c.in-Some.is c.in-Some-least.is in
    let r = c.requires atoms tt in
    let m = length-map c.in-Some-least.e.atoms.items atom in
    let l = c.in-Some-least.e.atoms.ok.0 in
    let v = c.len-in-Some-least.ensures in
    omega (arith, c.take_atoms.ensures.atoms)
