use Rattle.std.proofs.Common.{◌≡◌, refl, sym, ap, subst, ◌∙◌, Some, length}
use Rattle.std.proofs.lemmas.Option.{slice_get_read}
use Rattle.spi_horn.specs.declared.rules.Reached.{Reached}
use Rattle.spi_horn.specs.Needs.{SaysWhy}
use Rattle.spi_horn.proofs.tracing.line_for.Goals as goal

pub ground_of-ground-requires : goal.ground_of-ground-requires
ground_of-ground-requires c =
    let (start, o) = c.requires.order in
    let at = slice_get_read c.args.closure.now.order.items (length c.args.closure.now.order.items) c.args.t c.index-reached.result.now refl c.requires.within c.index-reached.ensures in
    (start, c.args.t, c.index-reached.result.now.number, c.requires.long, o.reasons _ _ at)

pub returns : goal.returns
returns c = λ x e.
    let at = slice_get_read c.args.closure.now.order.items (length c.args.closure.now.order.items) c.args.t c.index-reached.result.now refl c.requires.within c.index-reached.ensures in
    let p : Some c.index-reached.result.now ≡ Some x = sym at ∙ e in
    let q : c.index-reached.result.now ≡ x = cc in
    (ap (λ r. r.number) q, subst (λ (r : Reached). SaysWhy c.args.rules.now c.args.closure.now.places.items c.args.line_at.now r.why c.ground_of-ground.result) q c.ground_of-ground.ensures)
