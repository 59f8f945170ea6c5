use Rattle.std.proofs.Common.{ℕ, drop, ap, sym, subst, ◌∙◌}
use Rattle.std.specs.List.{prefix_len}
use Rattle.std.specs.Str.{IsCharBoundary}
use Rattle.spi_lex.specs.Lexeme.{is_blank}
use Rattle.spi_lex.proofs.Fronts.{run_cut}
use Rattle.spi_lex.proofs.Blanks.{blank_ascii}
use Rattle.spi_lex.proofs.scan.after_blanks.Goals as goal

pub split_at-requires : goal.split_at-requires
split_at-requires c =
    let len = c.blanks_len.ensures.value ∙ ap (prefix_len is_blank) c.as_bytes.ensures.value in
    subst (IsCharBoundary c.args.text.now) (sym len) (run_cut is_blank blank_ascii c.args.text.now c.utf8.text)

pub returns : goal.returns
returns c =
    let len = c.blanks_len.ensures.value ∙ ap (prefix_len is_blank) c.as_bytes.ensures.value in
    c.split_at.ensures.back ∙ ap (λ (n : ℕ). drop n c.args.text.now) len
