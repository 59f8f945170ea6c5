use Rattle.std.proofs.Common.{subst, sym}
use Rattle.std.proofs.lemmas.Result.{on_ok_weaker}
use Rattle.spi_count.proofs.Piled.{more_end, more_check, more_many}
use Rattle.spi_count.specs.Adding.{AddsTo}
use Rattle.spi_count.proofs.piling.put_atom.Goals as goal

pub returns-in-End : goal.returns-in-End
returns-in-End c =
    on_ok_weaker c.put_keyed.result (λ p. subst (λ a. AddsTo c.args.keys.now a c.args.pile.now c.put_keyed.new.pile) (sym c.in-End.is) (more_end c.args.keys.now c.in-End.id c.args.pile.now c.put_keyed.new.pile p)) c.put_keyed.ensures

pub returns-in-Check : goal.returns-in-Check
returns-in-Check c =
    on_ok_weaker c.put_keyed-in-Check.result (λ p. subst (λ a. AddsTo c.args.keys.now a c.args.pile.now c.put_keyed-in-Check.new.pile) (sym c.in-Check.is) (more_check c.args.keys.now c.in-Check.id c.args.pile.now c.put_keyed-in-Check.new.pile p)) c.put_keyed-in-Check.ensures

pub returns-in-Many : goal.returns-in-Many
returns-in-Many c =
    on_ok_weaker c.put_keyed-in-Many.result (λ p. subst (λ a. AddsTo c.args.keys.now a c.args.pile.now c.put_keyed-in-Many.new.pile) (sym c.in-Many.is) (more_many c.args.keys.now c.in-Many.id c.args.pile.now c.put_keyed-in-Many.new.pile p)) c.put_keyed-in-Many.ensures
