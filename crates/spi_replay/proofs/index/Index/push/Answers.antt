use Rattle.std.proofs.Common.{◌≡◌, length, ap, ◌∙◌, sym, arith, List, ◌++◌, ◌∷◌, [], subst}
use Rattle.std.specs.Prelude.{nat_eq}
use Rattle.indexmap.specs.IndexMap.{get}
use Rattle.spi_replay.specs.declared.places.Place.{Place}
use Rattle.spi_replay.specs.Indexed.{out_channel, in_channel, HasPlaces}
use Rattle.spi_replay.proofs.Indexing.{has_rise, pushed_has}
use Rattle.spi_replay.proofs.index.Index.push.Goals as goal

pub invariant_of-self-2 : goal.invariant_of-self-2
invariant_of-self-2 c =
    let ps = c.args.self.now.places.items in
    let n = c.len-next.result in
    let e : n ≡ length ps = omega (arith, ap length c.reserve.ensures.items) in
    let k : c.append.new.places.items ≡ ps ++ c.args.place ∷ [] = c.append.ensures ∙ ap (λ (xs : List Place). xs ++ c.args.place ∷ []) c.reserve.ensures.items in
    record {
      outs_are = subst (HasPlaces out_channel (get nat_eq c.enter.new.outs)) (sym k) (pushed_has out_channel (get nat_eq c.args.self.now.outs) ps c.args.self.now.outs_are (get nat_eq c.enter.new.outs) n c.args.place e c.in_ok-enter.ensures.outs);
      ins_are = subst (HasPlaces in_channel (get nat_eq c.enter.new.ins)) (sym k) (pushed_has in_channel (get nat_eq c.args.self.now.ins) ps c.args.self.now.ins_are (get nat_eq c.enter.new.ins) n c.args.place e c.in_ok-enter.ensures.ins);
    }

pub enter-requires-clause-outs : goal.enter-requires-clause-outs
enter-requires-clause-outs c = has_rise out_channel (get nat_eq c.args.self.now.outs) c.args.self.now.places.items c.args.self.now.outs_are

pub enter-requires-clause-ins : goal.enter-requires-clause-ins
enter-requires-clause-ins c = has_rise in_channel (get nat_eq c.args.self.now.ins) c.args.self.now.places.items c.args.self.now.ins_are
