use Rattle.std.proofs.Common.{◌≡◌, ◌+◌}
use Rattle.spi_term.specs.Spelling.{spelled}
use Rattle.spi_rules.specs.Environment.{Env}
use Rattle.spi_message.specs.Judging.{Stands}
use Rattle.spi_count.specs.Keeping.{AreKept}
use Rattle.spi_infer.specs.Walking.{IsAbove, Walked}
use Rattle.spi_infer.proofs.noting.walk.Given as goal

abbrev pub invariant-loop-id : goal.invariant-loop-id
invariant-loop-id g l = record {
  walked : (e : Env) → Stands l.initial.judge e → Walked (spelled l.process.names l.process.process) e l.id l.judge l.keys l.pending.items l.notes.items;
  keys : AreKept l.judge.store l.keys;
  above : IsAbove l.initial.judge l.judge;
  counted : l.steps ≡ l.initial.steps + l.id;
}
