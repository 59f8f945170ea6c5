use Rattle.std.proofs.Common.{ℕ, drop, ap, sym, subst, ◌∙◌}
use Rattle.std.specs.List.{prefix_len}
use Rattle.std.specs.Str.{IsCharBoundary}
use Rattle.spi_lex.specs.Front.{is_plain, StopsPlain, PassesNameCharacters}
use Rattle.spi_lex.proofs.Fronts.{run_cut}
use Rattle.spi_lex.proofs.Plain.{plain_ascii, plain_passes, plain_stops}
use Rattle.spi_lex.proofs.scan.after_plain.Goals as goal

pub split_at-requires : goal.split_at-requires
split_at-requires c =
    let len = c.plain_len.ensures.value ∙ ap (prefix_len is_plain) c.as_bytes.ensures.value in
    subst (IsCharBoundary c.args.text.now) (sym len) (run_cut is_plain plain_ascii c.args.text.now c.utf8.text)

pub returns-clause-stops : goal.returns-clause-stops
returns-clause-stops c =
    let len = c.plain_len.ensures.value ∙ ap (prefix_len is_plain) c.as_bytes.ensures.value in
    subst StopsPlain (sym c.split_at.ensures.back)
    (subst (λ (n : ℕ). StopsPlain (drop n c.args.text.now)) (sym len) (plain_stops c.args.text.now))

pub returns-clause-passes : goal.returns-clause-passes
returns-clause-passes c =
    let len = c.plain_len.ensures.value ∙ ap (prefix_len is_plain) c.as_bytes.ensures.value in
    subst (PassesNameCharacters c.args.text.now) (sym c.split_at.ensures.back)
    (subst (λ (n : ℕ). PassesNameCharacters c.args.text.now (drop n c.args.text.now)) (sym len) (plain_passes c.args.text.now))
