use Rattle.std.proofs.Common.{◌≡◌, length, refl, sym, ◌∙◌, Some, true, false, slice_get}
use Rattle.std.specs.Prelude.{nat_eq}
use Rattle.std.proofs.lemmas.Option.{slice_get_read}
use Rattle.indexmap.specs.IndexMap.{get}
use Rattle.spi_replay.specs.Indexed.{out_channel, in_channel}
use Rattle.spi_replay.specs.Tables.{wait_alike}
use Rattle.spi_replay.proofs.Indexing.{has_rise, set_rises, set_has, alike_has, alike_out, alike_in, apart_out, apart_in}
use Rattle.spi_replay.proofs.index.Index.set.Goals as goal

pub enter-requires-clause-outs : goal.enter-requires-clause-outs
enter-requires-clause-outs c = has_rise out_channel (get nat_eq c.args.self.now.outs) c.args.self.now.places.items c.args.self.now.outs_are

pub enter-requires-clause-ins : goal.enter-requires-clause-ins
enter-requires-clause-ins c = has_rise in_channel (get nat_eq c.args.self.now.ins) c.args.self.now.places.items c.args.self.now.ins_are

pub leave-requires-clause-outs : goal.leave-requires-clause-outs
leave-requires-clause-outs c = set_rises c.args.at true (out_channel c.args.now.wait) (get nat_eq c.args.self.now.outs) (get nat_eq c.enter.new.outs) (has_rise out_channel (get nat_eq c.args.self.now.outs) c.args.self.now.places.items c.args.self.now.outs_are) c.in_ok-enter.ensures.outs

pub leave-requires-clause-ins : goal.leave-requires-clause-ins
leave-requires-clause-ins c = set_rises c.args.at true (in_channel c.args.now.wait) (get nat_eq c.args.self.now.ins) (get nat_eq c.enter.new.ins) (has_rise in_channel (get nat_eq c.args.self.now.ins) c.args.self.now.places.items c.args.self.now.ins_are) c.in_ok-enter.ensures.ins

pub invariant_of-self : goal.invariant_of-self
invariant_of-self c =
    let h = c.args.self.now in
    let q = c.index.result.now in
    let at : slice_get h.places.items c.args.at ≡ Some q = slice_get_read h.places.items (length h.places.items) c.args.at q refl c.requires c.index.ensures in
    let e : wait_alike q.wait c.args.now.wait ≡ true = sym c.wait_alike.ensures ∙ c.if-wait_alike.true in
    record {
      outs_are = alike_has out_channel (get nat_eq h.outs) h.places.items h.outs_are c.args.at c.args.now q at (alike_out q.wait c.args.now.wait e);
      ins_are = alike_has in_channel (get nat_eq h.ins) h.places.items h.ins_are c.args.at c.args.now q at (alike_in q.wait c.args.now.wait e);
    }

pub invariant_of-self-2 : goal.invariant_of-self-2
invariant_of-self-2 c =
    let h = c.args.self.now in
    let q = c.index.result.now in
    let at : slice_get h.places.items c.args.at ≡ Some q = slice_get_read h.places.items (length h.places.items) c.args.at q refl c.requires c.index.ensures in
    let e : wait_alike q.wait c.args.now.wait ≡ false = sym c.wait_alike.ensures ∙ c.if-wait_alike.false in
    record {
      outs_are = set_has out_channel (get nat_eq h.outs) h.places.items h.outs_are c.args.at c.args.now q at (get nat_eq c.enter.new.outs) (get nat_eq c.leave.new.outs) (apart_out q.wait c.args.now.wait e) c.in_ok-enter.ensures.outs c.leave.ensures.outs;
      ins_are = set_has in_channel (get nat_eq h.ins) h.places.items h.ins_are c.args.at c.args.now q at (get nat_eq c.enter.new.ins) (get nat_eq c.leave.new.ins) (apart_in q.wait c.args.now.wait e) c.in_ok-enter.ensures.ins c.leave.ensures.ins;
    }
