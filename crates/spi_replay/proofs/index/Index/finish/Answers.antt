use Rattle.std.proofs.Common.{ap}
use Rattle.std.specs.Prelude.{nat_eq}
use Rattle.indexmap.specs.IndexMap.{get}
use Rattle.spi_replay.specs.declared.places.Place.{Place}
use Rattle.spi_replay.specs.Indexed.{out_channel, in_channel}
use Rattle.spi_replay.proofs.Indexing.{has_rise, done_has}
use Rattle.spi_replay.proofs.index.Index.finish.Goals as goal

pub invariant_of-self : goal.invariant_of-self
invariant_of-self c =
    let ps = c.args.self.now.places.items in
    let d = c.done_place.result in
    let p = c.at-place.result in
    record {
      outs_are = done_has out_channel (get nat_eq c.args.self.now.outs) ps c.args.self.now.outs_are c.args.at d p c.at-place.ensures (get nat_eq c.leave.new.outs) (ap (λ (x : Place). out_channel x.wait) c.done_place.ensures) c.leave.ensures.outs;
      ins_are = done_has in_channel (get nat_eq c.args.self.now.ins) ps c.args.self.now.ins_are c.args.at d p c.at-place.ensures (get nat_eq c.leave.new.ins) (ap (λ (x : Place). in_channel x.wait) c.done_place.ensures) c.leave.ensures.ins;
    }

pub leave-requires-clause-outs : goal.leave-requires-clause-outs
leave-requires-clause-outs c = has_rise out_channel (get nat_eq c.args.self.now.outs) c.args.self.now.places.items c.args.self.now.outs_are

pub leave-requires-clause-ins : goal.leave-requires-clause-ins
leave-requires-clause-ins c = has_rise in_channel (get nat_eq c.args.self.now.ins) c.args.self.now.places.items c.args.self.now.ins_are
