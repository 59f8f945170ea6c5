use Rattle.std.proofs.Common.{subst, Option}
use Rattle.spi_term.specs.View.{effect}
use Rattle.spi_intern.specs.Atoms.{AtomVec}
use Rattle.spi_audit.specs.Notes.{TakesEffect}
use Rattle.spi_audit.proofs.WalkUses.{sub_fits}
use Rattle.spi_audit.proofs.walking.sub_use.Goals as goal

pub returns-in-Some-clause-answer : goal.returns-in-Some-clause-answer
returns-in-Some-clause-answer c ss =
    let w = subst (λ (o : Option AtomVec). TakesEffect c.args.judge.now c.take_effect.new.judge c.take_effect.new.keys (effect c.args.e.now) o) c.in-Some.is c.in_ok-take_effect.ensures.taken in
    sub_fits c.args.judge.now c.take_effect.new.judge c.take_effect.new.keys ss (effect c.args.e.now) c.args.id c.in-Some.ids c.begun-next.result c.in_ok-take_effect.ensures.kept w.0 w.1 w.2 c.begun-next.ensures
