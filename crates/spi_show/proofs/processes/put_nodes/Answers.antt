use Rattle.std.proofs.Common.{[], ◌∷◌, ◌++◌, refl, ap, ◌∙◌}
use Rattle.spi_show.specs.declared.pieces.Place.TheVariants.{Alone}
use Rattle.spi_show.specs.declared.pieces.Piece.TheVariants.{Process}
use Rattle.spi_show.specs.Spells.{spelling}
use Rattle.spi_show.proofs.Passing.{goes_from, goes_popped, goes_smaller}
use Rattle.spi_show.proofs.processes.put_nodes.Goals as goal

pub loop-x-init : goal.loop-x-init
loop-x-init c =
    goes_from (spelling c.args.spell.now) c.args.process.now.names c.args.process.now.process c.args.out.now.items c.push.new.self.items (Process Alone) refl (c.in_ok-push.ensures.items ∙ ap (λ l. l ++ Process Alone ∷ []) c.new-pending.ensures.items)

pub loop-x-smaller : goal.loop-x-smaller
loop-x-smaller c = goes_smaller c.in-Some.x c.loop-x.pending.items c.pop.new.self.items c.put_piece.new.pending.items c.in-Some.ensures.items c.in_ok-id.ensures

pub loop-x-preserved : goal.loop-x-preserved
loop-x-preserved c = goes_popped c.in-Some.x c.loop-x.pending.items c.pop.new.self.items c.put_piece.new.pending.items c.in-Some.ensures.items c.loop-x.invariant c.in_ok-id.ensures
