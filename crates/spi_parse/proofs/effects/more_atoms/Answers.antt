use Rattle.std.proofs.Common.{arith, map}
use Rattle.std.proofs.lemmas.List.{map_push}
use Rattle.std.proofs.lemmas.Result.{err_from_is_err_and}
use Rattle.spi_parse.specs.Places.{state_of}
use Rattle.spi_parse.specs.Reading.{read, limited}
use Rattle.spi_parse.proofs.Fronts.{goes_on, is_done, gives_up}
use Rattle.spi_tree.specs.Views.{atom_of}
use Rattle.spi_parse.specs.Table.{atoms, atoms_item}
use Rattle.spi_parse.proofs.Readers.{takes_some}
use Rattle.spi_parse.proofs.Lists.{atoms_law, atoms_take}
use Rattle.spi_parse.proofs.effects.more_atoms.Goals as goal

pub items-smaller : goal.items-smaller
items-smaller c =
    let k = takes_some limited (atoms_item c.args.node.later c.args.node.numbered c.args.node.nesting) (state_of c.items.at) _ (atoms_take c.args.node.later c.args.node.numbered c.args.node.nesting) c.in_ok-item.ensures in
    omega arith

pub items-preserved : goal.items-preserved
items-preserved c =
    let e = rw c.in-Some.is at c.in_ok-item.ensures in
    rw (c.in_ok-push-in-Some.ensures.items, map_push atom_of c.items.more.items c.in-Some.part)
    (goes_on (read limited (atoms_item c.args.node.later c.args.node.numbered c.args.node.nesting)) (read limited (atoms c.args.node.later c.args.node.numbered c.args.node.nesting)) (atoms_law c.args.node.later c.args.node.numbered c.args.node.nesting) (map atom_of c.items.more.items) (atom_of c.in-Some.part) (state_of c.items.at) (state_of c.next_atom.new.at) _ e c.items.invariant)

pub returns-in_err-item : goal.returns-in_err-item
returns-in_err-item c =
    let p = err_from_is_err_and c.from_residual.result c.from_residual.ensures.1 in
    rw (p.1, p.2) (gives_up (read limited (atoms_item c.args.node.later c.args.node.numbered c.args.node.nesting)) (read limited (atoms c.args.node.later c.args.node.numbered c.args.node.nesting)) (atoms_law c.args.node.later c.args.node.numbered c.args.node.nesting) (map atom_of c.items.more.items) c.in_err-item.field-0.0 (state_of c.items.at) _ c.in_err-item.ensures c.items.invariant)

pub returns-in-None : goal.returns-in-None
returns-in-None c =
    let e = rw c.in-None.is at c.in_ok-item.ensures in
    is_done (read limited (atoms_item c.args.node.later c.args.node.numbered c.args.node.nesting)) (read limited (atoms c.args.node.later c.args.node.numbered c.args.node.nesting)) (atoms_law c.args.node.later c.args.node.numbered c.args.node.nesting) (map atom_of c.items.more.items) tt (state_of c.items.at) (state_of c.next_atom.new.at) _ e c.items.invariant
