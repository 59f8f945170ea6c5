use Rattle.std.proofs.Common.{◌≡◌, ⊎_elim, sym, ◌∙◌, subst, ◌<◌, ◌≤◌, arith}
use Rattle.std.proofs.lemmas.Bool.{cases_lt, false≢true}
use Rattle.spi_term.specs.Names.{OfAtom, Avoids}
use Rattle.spi_term.specs.View.{atom}
use Rattle.spi_fault.proofs.Passed.{avoids_atom}
use Rattle.spi_fault.proofs.least.has_bound.Goals as goal

pub loop-x-preserved : goal.loop-x-preserved
loop-x-preserved c y low high =
    let last : OfAtom (Avoids c.loop-x.x) (atom c.args.a.now) = avoids_atom c.loop-x.x (atom c.args.a.now) (λ f. false≢true (sym c.if-is_free_in.false ∙ c.is_free_in.ensures.1 f)) in
    ⊎_elim (λ (l : y < c.loop-x.x). c.loop-x.invariant y low l) (λ (g : c.loop-x.x ≤ y). let e : c.loop-x.x ≡ y = omega (arith, g, high) in subst (λ y. OfAtom (Avoids y) (atom c.args.a.now)) e last) (cases_lt y c.loop-x.x)

pub returns : goal.returns
returns c = (λ e. absurd (false≢true e), λ b. absurd (b.3 (c.loop-x.invariant b.0 b.1 (omega (arith, b.2, c.loop-x-test.false)))))
