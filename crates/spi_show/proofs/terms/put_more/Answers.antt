use Rattle.std.proofs.Common.{ap, ◌∙◌, ◌++◌}
use Rattle.spi_term.specs.View.{atom}
use Rattle.spi_show.specs.Spells.{spelling}
use Rattle.spi_show.specs.Terms.{atom_text}
use Rattle.spi_show.proofs.Texts.{more_next}
use Rattle.spi_show.proofs.terms.put_more.Goals as goal

pub loop-a-preserved : goal.loop-a-preserved
loop-a-preserved c =
    more_next (spelling c.args.spell.now) c.args.n c.args.out.now.items c.loop-a.out.items c.put_atom.new.out.items c.args.atoms.now c.loop-a.a-index c.a-item.result c.a-item.is c.loop-a-test.true c.loop-a.invariant (c.in_ok-put_atom.ensures ∙ ap (λ l. l ++ atom_text (spelling c.args.spell.now) c.args.n (atom c.a-item.result)) c.in_ok-extend_from_slice.ensures.items)
