use Rattle.std.proofs.Common.{◌≡◌, ap, sym, ◌∙◌, List, ◌∷◌, [], Some, slice_get}
use Rattle.std.specs.Prelude.{slice_set}
use Rattle.std.proofs.lemmas.List.{set-append_left}
use Rattle.spi_term.proofs.Lists.{get_append}
use Rattle.spi_replay.specs.declared.places.Place.{Place}
use Rattle.spi_replay.specs.Indexed.{place_done, places_settled}
use Rattle.spi_replay.proofs.index.Index.met.Goals as goal

pub returns-in_ok-push-clause-settled : goal.returns-in_ok-push-clause-settled
returns-in_ok-push-clause-settled c = λ sender at.
    let ps = c.args.self.now.places.items in
    let k = c.in_ok-push.ensures.pushed in
    let there : slice_get c.push.new.self.places.items c.args.out ≡ Some sender = ap (λ (xs : List Place). slice_get xs c.args.out) k ∙ get_append ps (c.args.now ∷ []) c.args.out sender at in
    c.finish.ensures sender there
    ∙ ap (λ (xs : List Place). slice_set xs c.args.out (place_done sender)) k
    ∙ set-append_left ps (c.args.now ∷ []) c.args.out (place_done sender) c.requires.out
    ∙ sym (ap (places_settled ps c.args.out sender c.args.inp c.args.now) c.if-again.true)
