use Rattle.std.proofs.Common.{subst, sym}
use Rattle.std.proofs.lemmas.Result.{on_ok_weaker}
use Rattle.spi_count.proofs.Summed.{adds_end, adds_check, adds_many}
use Rattle.spi_count.specs.Adding.{AddsAtom}
use Rattle.spi_count.proofs.atoms.add_atom.Goals as goal

pub returns-in-End : goal.returns-in-End
returns-in-End c =
    on_ok_weaker c.add_keyed.result (λ p. subst (λ a. AddsAtom c.args.keys.now a c.args.sum.now c.add_keyed.new.sum) (sym c.in-End.is) (adds_end c.args.keys.now c.in-End.id c.args.sum.now c.add_keyed.new.sum p)) c.add_keyed.ensures

pub returns-in-Check : goal.returns-in-Check
returns-in-Check c =
    on_ok_weaker c.add_keyed-in-Check.result (λ p. subst (λ a. AddsAtom c.args.keys.now a c.args.sum.now c.add_keyed-in-Check.new.sum) (sym c.in-Check.is) (adds_check c.args.keys.now c.in-Check.id c.args.sum.now c.add_keyed-in-Check.new.sum p)) c.add_keyed-in-Check.ensures

pub returns-in-Many : goal.returns-in-Many
returns-in-Many c =
    on_ok_weaker c.add_keyed-in-Many.result (λ p. subst (λ a. AddsAtom c.args.keys.now a c.args.sum.now c.add_keyed-in-Many.new.sum) (sym c.in-Many.is) (adds_many c.args.keys.now c.in-Many.id c.args.sum.now c.add_keyed-in-Many.new.sum p)) c.add_keyed-in-Many.ensures
