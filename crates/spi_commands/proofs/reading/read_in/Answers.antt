use Rattle.std.proofs.Common.{[], inl, inr}
use Rattle.spi_commands.specs.Refusals.{Refuses, syntax, too_deep}
use Rattle.spi_commands.proofs.FileRefusals.{unread_as}
use Rattle.spi_commands.proofs.reading.read_in.Goals as goal

pub unlexed-requires-clause-fault : goal.unlexed-requires-clause-fault
unlexed-requires-clause-fault c = rw c.in-Err-Lexical.fault-is (inr (rw c.in-Err-Lexical.field-0-is at c.in-Err-Lexical.ensures))

pub returns-in-Err-Syntax-clause-unread : goal.returns-in-Err-Syntax-clause-unread
returns-in-Err-Syntax-clause-unread c =
    let parsed = rw c.in-Err-Syntax.field-0-is at c.in-Err-Syntax.ensures in
    unread_as (Refuses c.args.bytes.now) 20 c.in-Err-Syntax.at [] c.unspelled.result (inr (inl (rw parsed.4 (syntax c.requires parsed.2 parsed.3)))) (rw c.in-Err-Syntax.at-is at c.unspelled.ensures)

pub returns-in-Err-TooDeep-clause-unread : goal.returns-in-Err-TooDeep-clause-unread
returns-in-Err-TooDeep-clause-unread c =
    let parsed = rw c.in-Err-TooDeep.field-0-is at c.in-Err-TooDeep.ensures in
    unread_as (Refuses c.args.bytes.now) 21 c.in-Err-TooDeep.at [] c.unspelled-in-Err-TooDeep.result (inr (inl (rw parsed.4 (too_deep c.requires parsed.2 parsed.3)))) (rw c.in-Err-TooDeep.at-is at c.unspelled-in-Err-TooDeep.ensures)
