use Rattle.std.proofs.Common.{◌≡◌, ◌↔◌, ◌+◌, ◌++◌, true, map, take, length}
use Rattle.spi_term.specs.View.{ty}
use Rattle.spi_rules.specs.Environment.{Env}
use Rattle.spi_message.specs.Judging.{Stands}
use Rattle.spi_bench.specs.Whole.{AreShared}
use Rattle.spi_bench.proofs.judging.bind_all.Given as goal

abbrev pub invariant-loop-t : goal.invariant-loop-t
invariant-loop-t l = record {
  stands : (env : Env) → Stands l.initial.judge env → Stands l.judge (env ++ map ty (take l.t-index l.shared));
  answer : (env : Env) → Stands l.initial.judge env → (l.fine ≡ true) ↔ AreShared env (map ty (take l.t-index l.shared));
  more : length l.judge.types ≡ length l.initial.judge.types + l.t-index;
}
