use Rattle.std.proofs.Common.{List, ℕ, subst, ◌∙◌}
use Rattle.std.specs.Ordering.{nat_cmp}
use Rattle.std.specs.List.Sorted.{IsBinarySearchResult}
use Rattle.spi_replay.proofs.Indexing.{found_there, inserted_there}
use Rattle.spi_replay.proofs.tables.put_in.Goals as goal

pub returns-in-Ok-clause-put : goal.returns-in-Ok-clause-put
returns-in-Ok-clause-put c =
    let p = subst (λ (xs : List ℕ). IsBinarySearchResult (λ y. nat_cmp y c.args.place) xs c.binary_search.result) c.deref.ensures.value c.binary_search.ensures.position in
    found_there c.args.place c.in-Ok.field-0 c.args.list.now.items c.binary_search.result c.requires p c.in-Ok.is

pub returns-in_ok-insert-in-Err-clause-put : goal.returns-in_ok-insert-in-Err-clause-put
returns-in_ok-insert-in-Err-clause-put c =
    let p = subst (λ (xs : List ℕ). IsBinarySearchResult (λ y. nat_cmp y c.args.place) xs c.binary_search.result) c.deref.ensures.value c.binary_search.ensures.position in
    c.in_ok-insert-in-Err.ensures.items ∙ inserted_there c.args.place c.in-Err.at c.args.list.now.items c.binary_search.result c.requires p c.in-Err.is
