use Rattle.std.proofs.Common.{take, map, sym, subst, ap, List}
use Rattle.std.proofs.lemmas.Option.{slice_get-get_or}
use Rattle.spi_term.specs.View.{atom}
use Rattle.spi_count.specs.Adding.{AreRead}
use Rattle.spi_count.specs.declared.pile.Late.{Late}
use Rattle.spi_count.proofs.Summed.{take_step}
use Rattle.spi_count.proofs.Read.{nothing_read, next_read}
use Rattle.spi_count.proofs.reading.read_late.Goals as goal

pub loop-wait-init : goal.loop-wait-init
loop-wait-init c keys k h = nothing_read c.args.store.now keys (map atom c.new-atoms.result.items) (ap (map atom) c.new-atoms.ensures.items)

pub read_atoms-requires : goal.read_atoms-requires
read_atoms-requires c h =
    let (keys, k) = c.requires in
    (keys, k c.loop-wait.wait-index _ (slice_get-get_or c.args.late.now c.loop-wait.wait-index _ c.loop-wait-test.true) h)

pub loop-wait-preserved : goal.loop-wait-preserved
loop-wait-preserved c keys k h =
    subst (λ (ws : List Late). AreRead c.args.store.now keys ws (map atom c.read_atoms.new.atoms.items)) (sym (take_step c.args.late.now c.loop-wait.wait-index _ c.loop-wait-test.true))
    (next_read c.args.store.now keys k (take c.loop-wait.wait-index c.args.late.now) (map atom c.loop-wait.atoms.items) (c.loop-wait.invariant keys k h) _ (map atom c.read_atoms.new.atoms.items)
    (h c.loop-wait.wait-index _ (slice_get-get_or c.args.late.now c.loop-wait.wait-index _ c.loop-wait-test.true))
    (λ j m. c.in_ok-read_atoms.ensures.some keys j m) (λ z. ap (map atom) (c.in_ok-read_atoms.ensures.none z)))
