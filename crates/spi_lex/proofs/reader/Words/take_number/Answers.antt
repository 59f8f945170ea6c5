use Rattle.std.proofs.Common.{sym, ◌∙◌}
use Rattle.spi_lex.proofs.Left.{left_number, left_above}
use Rattle.spi_lex.proofs.reader.Words.take_number.Goals as goal

pub returns-in-Ok-clause-left : goal.returns-in-Ok-clause-left
returns-in-Ok-clause-left c =
    c.take.ensures.left
    ∙ sym (left_number c.args.self.now.later c.args.at c.args.text.now _ c.args.len _ _ c.utf8.text c.requires.front c.split_at.ensures.front c.parse.ensures.value.0 c.in-Ok.is)

pub returns-in-Err-clause-left : goal.returns-in-Err-clause-left
returns-in-Err-clause-left c =
    sym (left_above c.args.self.now.later c.args.at c.args.text.now _ c.args.len _ _ c.utf8.text c.requires.front c.split_at.ensures.front c.parse.ensures.value.0 c.in-Err.is)
