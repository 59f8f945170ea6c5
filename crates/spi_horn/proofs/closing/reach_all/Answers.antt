use Rattle.std.proofs.Common.{◌<◌, ◌+◌, length, arith, rules}
use Rattle.spi_horn.proofs.Lookups.{get_read}
use Rattle.spi_horn.proofs.Placing.{keeps_keeps}
use Rattle.spi_horn.proofs.Trying.{good_next, has_list}
use Rattle.spi_horn.proofs.Waited.{within_at, waits_at}
use Rattle.spi_horn.proofs.closing.reach_all.Goals as goal

pub bounds-lists-number : goal.bounds-lists-number
bounds-lists-number c =
    let (start, first) = c.requires.begun in
    let at = get_read c.loop-cursor.closure.order.items c.loop-cursor.cursor c.index.result.now (omega arith) c.index.ensures in
    let below = has_list _ start _ _ _ c.args.lists.now _ _ (c.loop-cursor.invariant.good start first).ordered c.loop-cursor.invariant.keeps c.requires.same at in
    omega (arith, below)

pub offset_bounds-lists-number : goal.offset_bounds-lists-number
offset_bounds-lists-number c =
    let (start, first) = c.requires.begun in
    let at = get_read c.loop-cursor.closure.order.items c.loop-cursor.cursor c.index.result.now (omega arith) c.index.ensures in
    let below : c.index.result.now.number < length c.args.lists.now = has_list _ start _ _ _ c.args.lists.now _ _ (c.loop-cursor.invariant.good start first).ordered c.loop-cursor.invariant.keeps c.requires.same at in
    search rules

pub fire-requires-clause-tried : goal.fire-requires-clause-tried
fire-requires-clause-tried c =
    let (start, first) = c.requires.begun in
    let at = get_read c.loop-cursor.closure.order.items c.loop-cursor.cursor c.index.result.now (omega arith) c.index.ensures in
    let below = has_list _ start _ _ _ c.args.lists.now _ _ (c.loop-cursor.invariant.good start first).ordered c.loop-cursor.invariant.keeps c.requires.same at in
    within_at _ _ _ _ _ c.requires.waits below c.index-lists-number.is

pub loop-cursor-smaller : goal.loop-cursor-smaller
loop-cursor-smaller c =
    let (start, first) = c.requires.begun in
    let count = (c.loop-cursor.invariant.good start first).count in
    let k = c.in_ok-fire.ensures.keeps.0 in
    omega (arith, count, k)

pub loop-cursor-preserved : goal.loop-cursor-preserved
loop-cursor-preserved c =
    let i = c.loop-cursor.invariant in
    let at = get_read c.loop-cursor.closure.order.items c.loop-cursor.cursor c.index.result.now (omega arith) c.index.ensures in
    let f = c.in_ok-fire.ensures in
    record {
      good = λ start first.
          let g = i.good start first in
          let below = has_list _ start _ _ _ c.args.lists.now _ _ g.ordered i.keeps c.requires.same at in
          f.good start (c.loop-cursor.cursor + 1) (good_next _ _ _ _ _ _ c.index.result.now at (waits_at _ _ _ _ c.requires.waits below c.index-lists-number.is) g);
      keeps = keeps_keeps _ _ _ i.keeps f.keeps;
    }
