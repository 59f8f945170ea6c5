use Rattle.spi_infer.proofs.Formed.{many_is}
use Rattle.spi_infer.proofs.sums.ended_many.Goals as goal

pub returns-in_ok-put_atom-in-Some : goal.returns-in_ok-put_atom-in-Some
returns-in_ok-put_atom-in-Some c = many_is c.args.keys.now c.args.own c.in-Some.label c.args.pile.now c.put_atom.new.pile c.in-Some.ensures c.in_ok-put_atom-in-Some.ensures
