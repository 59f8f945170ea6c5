use Rattle.spi_infer.proofs.Formed.{one_told, two_told}
use Rattle.spi_infer.proofs.sums.after_binder.Goals as goal

pub returns-clause-one : goal.returns-clause-one
returns-clause-one c =
    one_told c.args.scope c.args.pile.now c.reaches.new.self c.in_ok-reached.reached c.in_ok-reached.ensures.same c.in_ok-reached.ensures.reached c.in_ok-reached.ensures.unreached

pub returns-clause-two : goal.returns-clause-two
returns-clause-two c =
    two_told c.args.scope c.args.pile.now c.reaches.new.self c.in_ok-reached.reached c.in_ok-reached.ensures.same c.in_ok-reached.ensures.reached c.in_ok-reached.ensures.unreached
