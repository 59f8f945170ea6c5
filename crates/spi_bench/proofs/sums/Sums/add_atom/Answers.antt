use Rattle.std.proofs.Common.{◌≡◌, ◌∙◌, length, Some, None, arith}
use Rattle.std.proofs.lemmas.Grind.{get_or_default_zero}
use Rattle.spi_term.specs.View.{atom}
use Rattle.spi_bench.specs.Sums.{place_of_atom}
use Rattle.spi_bench.proofs.Counted.{place_small}
use Rattle.spi_bench.proofs.sums.Sums.add_atom.Goals as goal

pub overflow_add-index_mut : goal.overflow_add-index_mut
overflow_add-index_mut c =
    let e : place_of_atom c.args.self.now.free (length c.args.self.now.checks.items) (atom c.args.a.now) ≡ Some c.in-Some.at = cc (c.place.ensures, c.len.ensures, c.in-Some.is) in
    let p = place_small c.args.self.now.free (length c.args.self.now.checks.items) (atom c.args.a.now) c.in-Some.at e in
    let h = c.requires (Some c.in-Some.at) p in
    let v = c.index_mut.ensures.value ∙ get_or_default_zero c.args.self.now.checks.items c.in-Some.at c.index_mut.result.now p in
    omega arith

pub overflow_add-self : goal.overflow_add-self
overflow_add-self c = let h = c.requires None tt in omega arith
