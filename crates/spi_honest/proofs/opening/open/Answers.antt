use Rattle.std.proofs.Common.{refl, arith, length, ◌≤◌, ◌≡◌, ◌+◌, suc, subst}
use Rattle.std.proofs.lemmas.List.{length-map}
use Rattle.spi_narrate.specs.Views.{narration_of}
use Rattle.spi_heading.specs.Views.{shared_of}
use Rattle.spi_scope.specs.Files.{meant}
use Rattle.spi_honest.specs.Progress.{AreRolePlaces}
use Rattle.spi_honest.proofs.Opens.{shares_spread, spread_told}
use Rattle.spi_honest.proofs.opening.open.Goals as goal

pub spread-requires-clause-spreads : goal.spread-requires-clause-spreads
spread-requires-clause-spreads c =
    let z = length-map c.args.n.now.shared.items shared_of in
    let b : length (narration_of c.args.n.now).shared ≤ length c.args.n.now.shared.items = omega (arith, z) in
    shares_spread (narration_of c.args.n.now) (meant c.args.file.now) (length c.args.n.now.shared.items) c.share.new.stage c.args.n.now.first c.args.n.now.more.items c.requires.tellable refl b c.in_ok-share-in-Some.ensures.shares

pub returns : goal.returns
returns c =
    let b : length (narration_of c.args.n.now).roles ≤ suc (length c.args.n.now.more.items) = omega arith in
    let e : c.len.result + 1 ≡ length (narration_of c.args.n.now).roles = omega (arith, c.len.ensures, c.args.n.now.more.ok.0) in
    record { told = spread_told (narration_of c.args.n.now) (meant c.args.file.now) (length c.args.n.now.more.items) c.spread.new.stage (record { pool = c.spread.new.stage.pool; steps = c.spread.new.stage.steps; events = c.spread.new.stage.events; places = c.in_ok-stage-in-Some-2.field-0 }) c.requires.tellable b c.in_ok-spread-in-Some.ensures.spreads (subst (λ k. AreRolePlaces k c.in_ok-stage-in-Some-2.field-0.items) e c.in_ok-stage-in-Some-2.ensures) refl refl refl }
