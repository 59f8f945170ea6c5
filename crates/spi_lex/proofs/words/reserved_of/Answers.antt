use Rattle.std.proofs.Common.{ℕ, List, slice_get, ap, sym, ◌∙◌}
use Rattle.spi_lex.specs.Words.{word_of}
use Rattle.spi_lex.specs.Initials.{words_from}
use Rattle.spi_lex.proofs.Initials.{found_by_initial}
use Rattle.spi_lex.proofs.words.reserved_of.Goals as goal

pub returns-in-Some : goal.returns-in-Some
returns-in-Some c =
    let same = c.as_bytes-bytes.ensures.value in
    let first = ap (λ (bs : List ℕ). slice_get bs 0) (sym same) ∙ sym c.in-Some.ensures.value in
    c.told_from.ensures ∙ ap (word_of (words_from c.args.later c.in-Some.first.now)) same
    ∙ found_by_initial c.args.later c.args.spelling.now c.in-Some.first.now first
