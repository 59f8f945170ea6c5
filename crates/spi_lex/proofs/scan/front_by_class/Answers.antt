use Rattle.std.proofs.Common.{◌≡◌, ap, sym, ◌∙◌, List, ℕ, get_or, length, drop, ◌==◌, arith}
use Rattle.std.proofs.lemmas.List.{take_rest}
use Rattle.std.specs.List.{position_or_len, prefix_len}
use Rattle.std.specs.Char.{is_ascii_digit}
use Rattle.spi_lex.specs.Front.{class_of}
use Rattle.spi_lex.proofs.Fronts.{blank_front, sign_front, digits_front, comment_front, no_comment}
use Rattle.spi_lex.specs.declared.scan.Class.TheVariants as classes
use Rattle.spi_lex.proofs.Classes.{Slash-is}
use Rattle.spi_lex.proofs.scan.front_by_class.Goals as goal
use Rattle.spi_lex.proofs.scan.front_by_class.Goals.{else-bytes-ge2-via-then-bytes-ge2+else-bytes-eq47, else-bytes-ge2-via-else-bytes-ge2}

pub returns-in-Blank-clause-found : goal.returns-in-Blank-clause-found
returns-in-Blank-clause-found c =
    blank_front _ c.utf8.text c.requires (sym (ap (λ (bs : List ℕ). class_of (get_or bs 0 0)) c.as_bytes-bytes.ensures.value) ∙ sym c.in-Blank.ensures)

pub returns-then-bytes-eq47-clause-found : goal.returns-then-bytes-eq47-clause-found
returns-then-bytes-eq47-clause-found c =
    let same : c.as_bytes-bytes.result.now ≡ c.args.text.now = c.as_bytes-bytes.ensures.value in
    let k : class_of (get_or c.args.text.now 0 0) ≡ classes.Slash = sym (ap (λ (bs : List ℕ). class_of (get_or bs 0 0)) same) ∙ sym c.in-Slash.ensures in
    let second : get_or c.args.text.now 1 0 ≡ 47 = sym (ap (λ (bs : List ℕ). get_or bs 1 0) same) ∙ c.if-bytes-eq47.true in
    let len : length c.as_bytes-bytes.result.now ≡ length c.args.text.now = ap length same in
    comment_front _ _ c.utf8.text (omega (arith, c.if-bytes-ge2.true)) (Slash-is _ k) second
    (c.line_len.ensures.value ∙ ap (position_or_len (λ b. b == 10)) (take_rest c.as_bytes-bytes.result.now 2 ∙ ap (drop 2) same))

pub returns-else-bytes-ge2-clause-none : goal.returns-else-bytes-ge2-clause-none
returns-else-bytes-ge2-clause-none c =
    let same : c.as_bytes-bytes.result.now ≡ c.args.text.now = c.as_bytes-bytes.ensures.value in
    let len : length c.as_bytes-bytes.result.now ≡ length c.args.text.now = ap length same in
    no_comment _ c.requires (sym (ap (λ (bs : List ℕ). class_of (get_or bs 0 0)) same) ∙ sym c.in-Slash.ensures)
    (λ more second. elim c.else-bytes-ge2.branch [
      | else-bytes-ge2-via-then-bytes-ge2+else-bytes-eq47 w ↦ w.if-bytes-eq47.false (ap (λ (bs : List ℕ). get_or bs 1 0) same ∙ second)
      | else-bytes-ge2-via-else-bytes-ge2 w ↦ absurd (omega (arith, w.if-bytes-ge2.false))
    ])

pub returns-in-Digit-clause-found : goal.returns-in-Digit-clause-found
returns-in-Digit-clause-found c =
    let same : c.as_bytes-bytes.result.now ≡ c.args.text.now = c.as_bytes-bytes.ensures.value in
    digits_front _ _ c.utf8.text c.requires (sym (ap (λ (bs : List ℕ). class_of (get_or bs 0 0)) same) ∙ sym c.in-Digit.ensures)
    (c.digits_len.ensures.value ∙ ap (prefix_len is_ascii_digit) same)

pub returns-in-Sign-clause-found : goal.returns-in-Sign-clause-found
returns-in-Sign-clause-found c =
    sign_front _ c.in-Sign.mark c.utf8.text c.requires (sym (ap (λ (bs : List ℕ). class_of (get_or bs 0 0)) c.as_bytes-bytes.ensures.value) ∙ sym c.in-Sign.ensures)
