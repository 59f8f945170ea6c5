use Rattle.std.proofs.Common.{◌≡◌, [], ◌∷◌, ◌++◌, refl, ap, ◌∙◌, Some, None, slice_set}
use Rattle.std.specs.Str.{bytes_eq}
use Rattle.indexmap.specs.IndexMap.{get}
use Rattle.spi_bench.specs.declared.slot.Slot.{Slot}
use Rattle.spi_bench.proofs.Placing.{stands_within, puts_there, puts_last, stays_padded, other_text, lookup_same}
use Rattle.spi_bench.proofs.naming.put_fitting.Goals as goal

pub put_there-requires-clause-at : goal.put_there-requires-clause-at
put_there-requires-clause-at c =
    let e : get bytes_eq c.args.places.now c.args.name.now ≡ Some c.in-Some.at = cc (c.get.ensures.value, c.copied.ensures, c.in-Some.is) in
    stands_within c.args.name.now c.in-Some.at c.args.table.now.slots.items (get bytes_eq c.args.places.now) c.requires.places e

pub returns-in-Some-clause-ok : goal.returns-in-Some-clause-ok
returns-in-Some-clause-ok c =
    let e : get bytes_eq c.args.places.now c.args.name.now ≡ Some c.in-Some.at = cc (c.get.ensures.value, c.copied.ensures, c.in-Some.is) in
    puts_there c.args.name.now c.args.part c.args.least c.in-Some.at c.put_there.result c.args.table.now.slots.items c.put_there.new.table.slots.items (get bytes_eq c.args.places.now) c.requires.places e c.put_there.ensures.set

pub returns-in-Ok-clause-ok : goal.returns-in-Ok-clause-ok
returns-in-Ok-clause-ok c =
    let e : get bytes_eq c.args.places.now c.args.name.now ≡ None = cc (c.get.ensures.value, c.copied.ensures, c.in-None.is) in
    let old = c.args.table.now.slots.items in
    let t : Slot = record { name = c.in-Ok.name; part = c.args.part; least = c.args.least } in
    let last = c.set.ensures.after ∙ ap (λ l. slice_set l c.in-Ok.at (Some t)) c.in-Ok.ensures.slots ∙ ap (λ i. slice_set (old ++ None ∷ []) i (Some t)) c.in-Ok.ensures.at in
    puts_last c.args.name.now c.args.part c.args.least t old c.set.new.self.slots.items (get bytes_eq c.args.places.now) (get bytes_eq c.new_place.new.places) c.requires.places e c.in-Ok.ensures.name refl refl last c.in-Ok.ensures.placed.1 (λ m d. c.in-Ok.ensures.placed.2 m (other_text c.args.name.now m d))

pub returns-in-Err-clause-err : goal.returns-in-Err-clause-err
returns-in-Err-clause-err c =
    stays_padded c.args.table.now.slots.items c.new_place.new.table.slots.items (get bytes_eq c.args.places.now) (get bytes_eq c.new_place.new.places) c.requires.places (lookup_same c.args.places.now c.new_place.new.places c.in-Err.ensures.unchanged) c.new_place.ensures.padded
