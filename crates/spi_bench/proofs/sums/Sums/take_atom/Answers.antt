use Rattle.std.proofs.Common.{◌≡◌, sym, ◌∙◌, length, Some, None, arith}
use Rattle.std.proofs.lemmas.Grind.{get_or_default_zero}
use Rattle.spi_term.specs.View.{atom}
use Rattle.spi_bench.specs.Sums.{place_of_atom}
use Rattle.spi_bench.proofs.Counted.{place_small, times_here}
use Rattle.spi_bench.proofs.sums.Sums.take_atom.Goals as goal

pub overflow_sub-index_mut : goal.overflow_sub-index_mut
overflow_sub-index_mut c =
    let e : place_of_atom c.args.self.now.free (length c.args.self.now.checks.items) (atom c.args.a.now) ≡ Some c.in-Some.at = cc (c.place.ensures, c.len.ensures, c.in-Some.is) in
    let p = place_small c.args.self.now.free (length c.args.self.now.checks.items) (atom c.args.a.now) c.in-Some.at e in
    let h = c.requires (Some c.in-Some.at) p in
    let t = times_here c.args.self.now.free (length c.args.self.now.checks.items) (atom c.args.a.now) (Some c.in-Some.at) (sym e) in
    let v = c.index_mut.ensures.value ∙ get_or_default_zero c.args.self.now.checks.items c.in-Some.at c.index_mut.result.now p in
    omega arith

pub overflow_sub-self : goal.overflow_sub-self
overflow_sub-self c =
    let e : None ≡ place_of_atom c.args.self.now.free (length c.args.self.now.checks.items) (atom c.args.a.now) = cc (c.place.ensures, c.len.ensures, c.in-None.is) in
    let h = c.requires None tt in
    let t = times_here c.args.self.now.free (length c.args.self.now.checks.items) (atom c.args.a.now) None e in
    omega arith
