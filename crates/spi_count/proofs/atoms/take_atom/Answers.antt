use Rattle.std.proofs.Common.{subst, sym}
use Rattle.spi_count.proofs.Summed.{takes_end, takes_check, takes_many}
use Rattle.spi_count.specs.Adding.{TakesAtom}
use Rattle.spi_count.proofs.atoms.take_atom.Goals as goal

pub returns-in-End : goal.returns-in-End
returns-in-End c = subst (λ a. TakesAtom c.args.keys.now a c.args.sum.now c.take_keyed.new.sum) (sym c.in-End.is) (takes_end c.args.keys.now c.in-End.id c.args.sum.now c.take_keyed.new.sum c.take_keyed.ensures.taken c.take_keyed.ensures.absent)

pub returns-in-Check : goal.returns-in-Check
returns-in-Check c = subst (λ a. TakesAtom c.args.keys.now a c.args.sum.now c.take_keyed-in-Check.new.sum) (sym c.in-Check.is) (takes_check c.args.keys.now c.in-Check.id c.args.sum.now c.take_keyed-in-Check.new.sum c.take_keyed-in-Check.ensures.taken c.take_keyed-in-Check.ensures.absent)

pub returns-in-Many : goal.returns-in-Many
returns-in-Many c = subst (λ a. TakesAtom c.args.keys.now a c.args.sum.now c.take_keyed-in-Many.new.sum) (sym c.in-Many.is) (takes_many c.args.keys.now c.in-Many.id c.args.sum.now c.take_keyed-in-Many.new.sum c.take_keyed-in-Many.ensures.taken c.take_keyed-in-Many.ensures.absent)
