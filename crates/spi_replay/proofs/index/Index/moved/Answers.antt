use Rattle.std.proofs.Common.{ap, sym, ◌∙◌, List, ◌∷◌, []}
use Rattle.std.specs.Prelude.{slice_set}
use Rattle.std.proofs.lemmas.List.{set-append_left}
use Rattle.spi_replay.specs.declared.places.Place.{Place}
use Rattle.spi_replay.specs.Indexed.{places_moved}
use Rattle.spi_replay.proofs.index.Index.moved.Goals as goal

pub returns-in-Ok-clause-moved : goal.returns-in-Ok-clause-moved
returns-in-Ok-clause-moved c =
    let ps = c.args.self.now.places.items in
    c.in-Ok.ensures.set
    ∙ ap (λ (xs : List Place). slice_set xs c.args.at c.args.now) c.in_ok-push.ensures.pushed
    ∙ set-append_left ps (c.in-Some.more ∷ []) c.args.at c.args.now c.requires.at
    ∙ sym (ap (places_moved ps c.args.at c.args.now) c.in-Some.is)
