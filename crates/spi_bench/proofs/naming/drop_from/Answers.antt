use Rattle.std.proofs.Common.{◌≡◌, sym, ap, ◌∙◌, Some, None}
use Rattle.std.specs.Str.{bytes_eq}
use Rattle.indexmap.specs.IndexMap.{get}
use Rattle.spi_bench.proofs.Placing.{stands_within, stands_some, drops_there, drops_none, other_text, lookup_same}
use Rattle.spi_bench.proofs.naming.drop_from.Goals as goal

pub clear-requires : goal.clear-requires
clear-requires c =
    let e : get bytes_eq c.args.places.now c.args.name.now ≡ Some c.in-Some.at = sym c.swap_remove.ensures.value ∙ c.in-Some.is in
    stands_within c.args.name.now c.in-Some.at c.args.table.now.slots.items (get bytes_eq c.args.places.now) c.requires e

pub returns-in-Some-clear-clause-dropped : goal.returns-in-Some-clear-clause-dropped
returns-in-Some-clear-clause-dropped c =
    let e : get bytes_eq c.args.places.now c.args.name.now ≡ Some c.in-Some.at = sym c.swap_remove.ensures.value ∙ c.in-Some.is in
    drops_there c.args.name.now c.in-Some.at c.in-Some-clear.slot c.args.table.now.slots.items c.clear.new.self.slots.items (get bytes_eq c.args.places.now) (get bytes_eq c.swap_remove.new.self) c.requires e (c.clear.ensures.before ∙ ap Some c.in-Some-clear.is) c.clear.ensures.after c.swap_remove.ensures.updates.1 (λ m d. c.swap_remove.ensures.updates.2 m (other_text c.args.name.now m d))

pub returns-in-None-clear-clause-dropped : goal.returns-in-None-clear-clause-dropped
returns-in-None-clear-clause-dropped c =
    let e : get bytes_eq c.args.places.now c.args.name.now ≡ Some c.in-Some.at = sym c.swap_remove.ensures.value ∙ c.in-Some.is in
    absurd (stands_some c.args.name.now c.in-Some.at c.args.table.now.slots.items (get bytes_eq c.args.places.now) c.requires e (c.clear.ensures.before ∙ ap Some c.in-None-clear.is))

pub returns-in-None-clause-dropped : goal.returns-in-None-clause-dropped
returns-in-None-clause-dropped c =
    let e : get bytes_eq c.args.places.now c.args.name.now ≡ None = sym c.swap_remove.ensures.value ∙ c.in-None.is in
    drops_none c.args.name.now c.args.table.now.slots.items (get bytes_eq c.args.places.now) (get bytes_eq c.swap_remove.new.self) c.requires e (lookup_same c.args.places.now c.swap_remove.new.self c.in-None.ensures.unchanged)
