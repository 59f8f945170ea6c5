use Rattle.std.proofs.Common.{subst, sym}
use Rattle.std.proofs.lemmas.Result.{on_ok_weaker}
use Rattle.spi_count.proofs.Piled.{less_end, less_check, less_many}
use Rattle.spi_count.specs.Adding.{TakesFrom}
use Rattle.spi_count.proofs.piling.drop_atom.Goals as goal

pub returns-in-End : goal.returns-in-End
returns-in-End c =
    on_ok_weaker c.drop_keyed.result (λ p. subst (λ a. TakesFrom c.args.keys.now a c.args.pile.now c.drop_keyed.new.pile) (sym c.in-End.is) (less_end c.args.keys.now c.in-End.id c.args.pile.now c.drop_keyed.new.pile p c.drop_keyed.ensures.absent)) c.drop_keyed.ensures.taken

pub returns-in-Check : goal.returns-in-Check
returns-in-Check c =
    on_ok_weaker c.drop_keyed-in-Check.result (λ p. subst (λ a. TakesFrom c.args.keys.now a c.args.pile.now c.drop_keyed-in-Check.new.pile) (sym c.in-Check.is) (less_check c.args.keys.now c.in-Check.id c.args.pile.now c.drop_keyed-in-Check.new.pile p c.drop_keyed-in-Check.ensures.absent)) c.drop_keyed-in-Check.ensures.taken

pub returns-in-Many : goal.returns-in-Many
returns-in-Many c =
    on_ok_weaker c.drop_keyed-in-Many.result (λ p. subst (λ a. TakesFrom c.args.keys.now a c.args.pile.now c.drop_keyed-in-Many.new.pile) (sym c.in-Many.is) (less_many c.args.keys.now c.in-Many.id c.args.pile.now c.drop_keyed-in-Many.new.pile p c.drop_keyed-in-Many.ensures.absent)) c.drop_keyed-in-Many.ensures.taken
