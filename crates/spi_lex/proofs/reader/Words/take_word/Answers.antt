use Rattle.std.proofs.Common.{List, ℕ, ◌+◌, Option, Some, drop, ap, sym, ◌∙◌}
use Rattle.spi_lex.specs.declared.token.Kind.{Kind}
use Rattle.spi_lex.specs.Words.{words_of}
use Rattle.spi_lex.specs.Lexeme.{identifier}
use Rattle.spi_lex.specs.Lexing.{kind_of}
use Rattle.spi_lex.specs.Left.{left_of}
use Rattle.spi_lex.specs.Reader.{tokens_from}
use Rattle.spi_lex.proofs.Left.{left_word, left_long}
use Rattle.spi_lex.proofs.reader.Words.take_word.Goals as goal

pub returns-then-len-gt-NAME_BYTES-clause-left : goal.returns-then-len-gt-NAME_BYTES-clause-left
returns-then-len-gt-NAME_BYTES-clause-left c =
    sym (left_long c.args.self.now.later c.args.at c.args.text.now c.args.len c.utf8.text c.requires.front c.if-len-gt-NAME_BYTES.true)

pub returns-clause-left : goal.returns-clause-left
returns-clause-left c =
    let later = c.args.self.now.later in
    let to : ℕ = c.args.at + c.args.len in
    c.take.ensures.left
    ∙ ap (λ (kind : Option Kind). tokens_from kind (record { from = c.args.at; to = to }) (left_of later to (drop c.args.len c.args.text.now)))
    (c.word-word.ensures ∙ ap (λ (bytes : List ℕ). Some (kind_of (words_of later) (identifier bytes))) c.split_at.ensures.front)
    ∙ sym (left_word later c.args.at c.args.text.now c.args.len c.utf8.text c.requires.front c.if-len-gt-NAME_BYTES.false)
