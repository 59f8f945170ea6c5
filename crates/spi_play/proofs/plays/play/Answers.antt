use Rattle.std.proofs.Common.{◌≡◌, arith, length, map}
use Rattle.std.proofs.lemmas.Grind.{common_steps}
use Rattle.std.proofs.lemmas.List.{length-map}
use Rattle.spi_run.specs.View.{step}
use Rattle.spi_play.proofs.Standing.{play_first, nothing_done, stands_turn, taken_so, ends_so}
use Rattle.spi_play.proofs.Same.{only_play}
use Rattle.spi_play.proofs.plays.play.Goals as goal

pub loop-ended-init : goal.loop-ended-init
loop-ended-init g c = record {
  stands = play_first _ _ c.args.players.now.items c.args.only c.args.most c.args.pool.now _ c.len.result c.place_at_first-next.result
      (omega (arith, c.args.players.now.ok.0)) c.place_at_first-next.ensures.place
      (nothing_done c.args.pool.now c.new-steps.result.items c.new-events.result.items c.new-steps.ensures.items c.new-events.ensures.items);
  within = grind (arith, common_steps);
  few = omega (arith, c.new-steps.ensures.len);
  names = omega arith;
}

pub loop-ended-preserved : goal.loop-ended-preserved
loop-ended-preserved g c =
    let taken : c.len-in-loop-ended.result ≡ length (map step c.loop-ended.steps.items) = omega (arith, c.loop-ended.steps.ok.0, length-map c.loop-ended.steps.items step) in
    let more = c.in-Asks.ensures.more in
    record {
      stands = stands_turn _ _ _ _ _ _ _ c.loop-ended.next c.in-Ok.then c.in-Asks.place c.in-Asks.ready c.loop-ended.invariant.stands
          (taken_so _ _ _ _ _ _ _ taken c.in-Asks.ensures) c.in-Ok.ensures.turned;
      within = c.in-Ok.ensures.within;
      few = omega (arith, more, c.in-Ok.ensures.more, c.loop-ended.invariant.few);
      names = omega (arith, c.in-Ok.ensures.names, c.loop-ended.invariant.names);
    }

pub returns-in-Ends-clause-alone : goal.returns-in-Ends-clause-alone
returns-in-Ends-clause-alone g c =
    let taken : c.len-in-loop-ended.result ≡ length (map step c.loop-ended.steps.items) = omega (arith, c.loop-ended.steps.ok.0, length-map c.loop-ended.steps.items step) in
    λ tell. only_play _ _ _ _ _ _ c.in-Ends.ended tell (ends_so _ _ _ _ _ _ _ _ c.loop-ended.invariant.stands taken c.in-Ends.ensures)
