use Rattle.std.proofs.Common.{length, refl, sym, inr}
use Rattle.std.proofs.lemmas.Bool.{ltb-true, ltb-false}
use Rattle.std.proofs.lemmas.Option.{slice_get_read}
use Rattle.spi_heading.specs.Views.{shared_of}
use Rattle.spi_narrate.proofs.Testing.{shared_faultless, shared_fault}
use Rattle.spi_narrate.proofs.faultless.test_shared.Goals as goal

pub returns-in-None : goal.returns-in-None
returns-in-None c = shared_faultless shared_of c.args.shared.now (ltb-false 16 (length c.args.shared.now) (sym c.in-None.ensures.lookup.0))

pub returns-in-Some : goal.returns-in-Some
returns-in-Some c =
    let xs = c.args.shared.now in
    inr (shared_fault shared_of xs c.in-Some.item.now c.in-Some.item.now.span (length xs)
    (slice_get_read xs (length xs) 16 c.in-Some.item.now refl (ltb-true 16 (length xs) (sym c.in-Some.ensures.lookup.0)) c.in-Some.ensures.lookup.1) refl refl)
