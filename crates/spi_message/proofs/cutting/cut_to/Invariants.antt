use Rattle.std.proofs.Common.{◌≡◌, length, take}
use Rattle.spi_message.proofs.cutting.cut_to.Given as goal

abbrev pub invariant-loop-judge : goal.invariant-loop-judge
invariant-loop-judge l = record {
  free : l.judge.free ≡ l.initial.judge.free;
  store : l.judge.store ≡ l.initial.judge.store;
  types : take l.count l.judge.types ≡ take l.count l.initial.judge.types;
}

abbrev pub decreases-loop-judge : goal.decreases-loop-judge
decreases-loop-judge l = length l.judge.types
