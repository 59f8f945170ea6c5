use Rattle.std.proofs.Common.{◌≡◌, ◌-◌, suc, refl, ap, sym, ◌∙◌, arith, List, ◌++◌, ◌∷◌, [], take}
use Rattle.std.specs.Prelude.{nat_eq, slice_set}
use Rattle.std.proofs.lemmas.List.{set_split}
use Rattle.std.proofs.Math.ListN.{drop_of_length-le}
use Rattle.indexmap.specs.IndexMap.{get}
use Rattle.spi_replay.specs.declared.places.Place.{Place}
use Rattle.spi_replay.specs.Indexed.{out_channel, in_channel, place_done}
use Rattle.spi_replay.proofs.Indexing.{has_rise, done_has, popped_has}
use Rattle.spi_replay.proofs.index.Index.take_back.Goals as goal

pub leave-requires-clause-outs : goal.leave-requires-clause-outs
leave-requires-clause-outs c = has_rise out_channel (get nat_eq c.args.self.now.outs) c.args.self.now.places.items c.args.self.now.outs_are

pub leave-requires-clause-ins : goal.leave-requires-clause-ins
leave-requires-clause-ins c = has_rise in_channel (get nat_eq c.args.self.now.ins) c.args.self.now.places.items c.args.self.now.ins_are

pub invariant_of-self : goal.invariant_of-self
invariant_of-self c =
    let h = c.args.self.now in
    let ps = h.places.items in
    let n = c.len.result - 1 in
    let p = c.at-place.result in
    let d = place_done p in
    let e : slice_set ps n d ≡ c.pop.new.self.items ++ d ∷ [] =
    set_split ps n d (omega arith) ∙ ap (λ (xs : List Place). take n ps ++ d ∷ xs) (drop_of_length-le ps {i = suc n} (omega arith)) ∙ ap (λ (xs : List Place). xs ++ d ∷ []) (ap (λ m. take (m - 1) ps) c.len.ensures ∙ sym c.pop.ensures.rest) in
    record {
      outs_are = popped_has out_channel (get nat_eq c.leave.new.outs) (slice_set ps n d) (done_has out_channel (get nat_eq h.outs) ps h.outs_are n d p c.at-place.ensures (get nat_eq c.leave.new.outs) refl c.leave.ensures.outs) c.pop.new.self.items d refl e;
      ins_are = popped_has in_channel (get nat_eq c.leave.new.ins) (slice_set ps n d) (done_has in_channel (get nat_eq h.ins) ps h.ins_are n d p c.at-place.ensures (get nat_eq c.leave.new.ins) refl c.leave.ensures.ins) c.pop.new.self.items d refl e;
    }
