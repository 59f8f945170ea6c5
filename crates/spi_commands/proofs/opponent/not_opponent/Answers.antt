use Rattle.std.proofs.Common.{refl, ap, Some}
use Rattle.spi_text.specs.declared.lines.Span.{Span}
use Rattle.spi_commands.proofs.AnswerOffence.{node_within, offence_line}
use Rattle.spi_commands.proofs.opponent.not_opponent.Goals as goal

pub refusal-requires-clause-within : goal.refusal-requires-clause-within
refusal-requires-clause-within c = rw c.opponent_place-offset.ensures (node_within c.args.bytes.now c.args.file.now c.args.node c.requires.read)

pub returns-clause-ok : goal.returns-clause-ok
returns-clause-ok c = offence_line c.args.bytes.now c.args.file.now c.args.node (record { number = 39; offset = Some c.opponent_place-offset.result.from; shown = c.new.result }) c.refusal.result c.requires.read c.requires.first refl (ap (λ (s : Span). Some s.from) c.opponent_place-offset.ensures) c.new.ensures.items c.refusal.ensures.ok
