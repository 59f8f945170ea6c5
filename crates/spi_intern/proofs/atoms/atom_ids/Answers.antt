use Rattle.std.proofs.Common.{refl, subst}
use Rattle.spi_term.specs.View.{atom}
use Rattle.spi_intern.specs.Table.{TellsAll}
use Rattle.spi_intern.specs.Atoms.{SaysAtom}
use Rattle.spi_intern.specs.Parts.{InEffect}
use Rattle.spi_intern.specs.Growing.{AddsMessages}
use Rattle.spi_intern.proofs.Tables.{keeps_same, keeps_more}
use Rattle.spi_intern.proofs.Meanings.{ids_none, ids_next, map_more}
use Rattle.spi_intern.proofs.Adding.{adds_atom, adds_no_atom}
use Rattle.spi_intern.proofs.atoms.atom_ids.Goals as goal

pub loop-a-init : goal.loop-a-init
loop-a-init c = record { ids = ids_none c.new-ids.ensures.items; adds = adds_no_atom refl; kept = keeps_same refl }

pub loop-a-preserved : goal.loop-a-preserved
loop-a-preserved c =
    let more = map_more atom c.args.e.now.atoms.items _ c.loop-a.a-index c.a-item.result c.deref-a-items.ensures.value c.loop-a-test.true c.a-item.is in
    record {
      ids = subst (TellsAll (SaysAtom c.atom_id.new.messages) _) more (ids_next c.in_ok-id.ensures.kept c.loop-a.invariant.ids c.in_ok-id.ensures.at c.in_ok-push.ensures.items);
      adds = subst (λ es. AddsMessages c.args.messages.now c.atom_id.new.messages (λ x. InEffect x es)) more (adds_atom _ _ c.loop-a.invariant.adds c.in_ok-id.ensures.kept c.in_ok-id.ensures.grows);
      kept = keeps_more c.loop-a.invariant.kept c.in_ok-id.ensures.kept;
    }
