use Rattle.std.proofs.Common.{List, ℕ, subst, ◌∙◌}
use Rattle.std.specs.Ordering.{nat_cmp}
use Rattle.std.specs.List.Sorted.{IsBinarySearchResult}
use Rattle.spi_replay.proofs.Indexing.{removed_there, missing_there}
use Rattle.spi_replay.proofs.tables.take_out.Goals as goal

pub returns-in-Ok : goal.returns-in-Ok
returns-in-Ok c =
    let p = subst (λ (xs : List ℕ). IsBinarySearchResult (λ y. nat_cmp y c.args.place) xs c.binary_search.result) c.deref.ensures.value c.binary_search.ensures.position in
    c.remove.ensures.items ∙ removed_there c.args.place c.in-Ok.at c.args.list.now.items c.binary_search.result c.requires p c.in-Ok.is

pub returns-in_default : goal.returns-in_default
returns-in_default c =
    let p = subst (λ (xs : List ℕ). IsBinarySearchResult (λ y. nat_cmp y c.args.place) xs c.binary_search.result) c.deref.ensures.value c.binary_search.ensures.position in
    missing_there c.args.place c.in_default.field-0 c.args.list.now.items c.binary_search.result c.requires p c.in_default.is
