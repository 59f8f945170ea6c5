use Rattle.std.proofs.lemmas.List.{take_more}
use Rattle.std.proofs.lemmas.Option.{slice_get-get_or}
use Rattle.spi_intern.proofs.Meanings.{terms_same, terms_more}
use Rattle.spi_message.proofs.Fills.{all_below_keeps}
use Rattle.spi_message.proofs.FillsTypes.{atoms_none, atoms_next, atoms_below_keep}
use Rattle.spi_message.proofs.Added.{no_atoms_added, next_atom_added}
use Rattle.spi_message.proofs.filling.filled_atoms.Goals as goal

pub loop-a-init : goal.loop-a-init
loop-a-init c = record { kept = terms_same c.args.store.now; fills = atoms_none c.new-filled.ensures.items; added = no_atoms_added }

pub filled_atom-requires-clause-message : goal.filled_atom-requires-clause-message
filled_atom-requires-clause-message c = (atoms_below_keep c.loop-a.invariant.kept.messages c.requires.atoms).at c.loop-a.a-index _ (slice_get-get_or c.args.atoms.now c.loop-a.a-index _ c.loop-a-test.true)

pub filled_atom-requires-clause-values : goal.filled_atom-requires-clause-values
filled_atom-requires-clause-values c = all_below_keeps c.loop-a.invariant.kept.messages c.requires.values

pub loop-a-preserved : goal.loop-a-preserved
loop-a-preserved c =
    let k = c.loop-a.invariant.kept in
    record {
      kept = terms_more k c.in_ok-id.ensures.kept;
      fills = atoms_next k.messages c.requires.values (c.requires.atoms.at c.loop-a.a-index _ (slice_get-get_or c.args.atoms.now c.loop-a.a-index _ c.loop-a-test.true)) c.loop-a.invariant.fills c.in_ok-id.ensures.kept.messages c.in_ok-id.ensures.at (take_more c.args.atoms.now c.loop-a.a-index _ c.loop-a-test.true) c.in_ok-push.ensures.items;
      added = next_atom_added _ k c.requires.values (c.requires.atoms.at c.loop-a.a-index _ (slice_get-get_or c.args.atoms.now c.loop-a.a-index _ c.loop-a-test.true)) c.loop-a.invariant.added c.in_ok-id.ensures.kept c.in_ok-id.ensures.adds (take_more c.args.atoms.now c.loop-a.a-index _ c.loop-a-test.true);
    }
