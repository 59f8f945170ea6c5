use Rattle.spi_infer.proofs.Formed.{begin_is}
use Rattle.spi_infer.proofs.sums.begun.Goals as goal

pub returns-in_ok-drop_atom-in-Some-2 : goal.returns-in_ok-drop_atom-in-Some-2
returns-in_ok-drop_atom-in-Some-2 c =
    begin_is c.args.keys.now c.args.own c.in-Some.label c.args.pile.now c.drop_atom.new.pile c.drop_atom-in-Some.new.pile c.in-Some.ensures c.in_ok-drop_atom-in-Some.ensures c.in_ok-drop_atom-in-Some-2.ensures
