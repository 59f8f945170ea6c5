use Rattle.std.proofs.Common.{◌≡◌, ap, sym, ◌∙◌, List, Some, slice_get}
use Rattle.std.specs.Prelude.{slice_set}
use Rattle.std.proofs.lemmas.List.{set_comm, set-set}
use Rattle.spi_replay.specs.declared.places.Place.{Place}
use Rattle.spi_replay.specs.Indexed.{place_done}
use Rattle.spi_replay.proofs.Indexing.{get_other}
use Rattle.spi_replay.proofs.index.Index.met_once.Goals as goal

pub returns-then-out-inp-clause-settled : goal.returns-then-out-inp-clause-settled
returns-then-out-inp-clause-settled c = λ sender at.
    let ps = c.args.self.now.places.items in
    let k = c.in_ok-set.ensures.set in
    let other = λ (e : c.args.inp ≡ c.args.out). c.if-out-inp.true (sym e) in
    let there : slice_get c.set.new.self.places.items c.args.out ≡ Some sender = ap (λ (xs : List Place). slice_get xs c.args.out) k ∙ get_other ps c.args.inp c.args.out c.args.now other ∙ at in
    c.finish.ensures sender there ∙ ap (λ (xs : List Place). slice_set xs c.args.out (place_done sender)) k ∙ set_comm ps c.args.inp c.args.out c.args.now (place_done sender) other

pub returns-else-out-inp-clause-settled : goal.returns-else-out-inp-clause-settled
returns-else-out-inp-clause-settled c = λ sender at.
    let ps = c.args.self.now.places.items in
    let d = place_done sender in
    c.in_ok-set.ensures.set ∙ sym (set-set ps c.args.inp d c.args.now) ∙ ap (λ i. slice_set (slice_set ps i d) c.args.inp c.args.now) (sym c.if-out-inp.false)
