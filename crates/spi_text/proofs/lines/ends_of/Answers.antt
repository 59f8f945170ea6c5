use Rattle.std.proofs.Common.{◌≡◌, ◌+◌, ◌-◌, ◌<◌, ℕ, List, length, drop, length-drop, sym, subst, arith}
use Rattle.std.proofs.lemmas.Bool.{false_from_ne_true}
use Rattle.std.proofs.lemmas.List.{take_rest}
use Rattle.memchr.specs.Find.{Nowhere, NoneBefore, Passes, is_byte}
use Rattle.spi_text.specs.Ends.{AreEnds}
use Rattle.spi_text.proofs.Ends.{past_bytes, next_end}
use Rattle.spi_text.proofs.lines.ends_of.Goals as goal

pub loop-len-preserved : goal.loop-len-preserved
loop-len-preserved c =
    let bytes : List ℕ = c.args.bytes.now in
    let at : ℕ = c.loop-len.at in
    let len : ℕ = c.in-Some.len in
    let found = subst (λ (bs : List ℕ). NoneBefore (Passes (is_byte 10) bs) 0 (length bs) len × Passes (is_byte 10) bs len) (take_rest bytes at) c.in-Some.ensures in
    let high = found.0.high in
    let within : at + len < length bytes = omega (arith, high, length-drop at bytes, c.loop-len.invariant.0) in (
      omega arith,
      subst (AreEnds bytes (at + (len + 1))) (sym c.in_ok-push.ensures.items)
          (next_end bytes c.loop-len.ends.items at len c.loop-len.invariant.1 within
          (λ k before. false_from_ne_true _ (found.0.before k (omega arith) before)) found.1),
    )

pub returns : goal.returns
returns c =
    let bytes : List ℕ = c.args.bytes.now in
    let at : ℕ = c.loop-len.at in
    let left : ℕ = length bytes - at in
    let none = subst (λ (bs : List ℕ). Nowhere (Passes (is_byte 10) bs) 0 (length bs)) (take_rest bytes at) c.in_default.ensures in
    let dropped : length (drop at bytes) ≡ left = length-drop at bytes in
    let all : at + left ≡ length bytes = omega (arith, c.loop-len.invariant.0) in
    subst (λ (n : ℕ). AreEnds bytes n c.loop-len.ends.items) all
    (past_bytes bytes c.loop-len.ends.items at left c.loop-len.invariant.1 (omega arith)
    (λ k before. false_from_ne_true _ (none k (omega arith) (omega arith))))
