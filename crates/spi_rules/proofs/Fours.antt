-- A word is what its fours of bytes spell.
use Rattle.std.proofs.Common.{◌≡◌, ℕ, ◌+◌, ◌-◌, ◌≤◌, List, ◌++◌, length, take, drop, sym, ap, ap₂, ◌∙◌, subst, arith}
use Rattle.std.proofs.lemmas.List.{take-append-drop, take_all, drop-drop, length-drop}
use Rattle.std.specs.Prelude.{Option, IfSome}
use Rattle.std.specs.Int.{to_le_bytes, w32}
use Rattle.spi_rules.specs.declared.rule.Rule.{Rule}
use Rattle.spi_rules.specs.Rule.{rule_spelled}
use Rattle.spi_rules.specs.Fours.{short_word, long_word}

-- what stands behind so many bytes is among the last four
behind : (n : ℕ) (xs : List ℕ) → 4 ≤ length xs → n ≤ length xs → length xs ≤ n + 4
    → drop ((n + 4) - length xs) (take 4 (drop (length xs - 4) xs)) ≡ drop n xs
behind n xs h low high =
    let e : (length xs - 4) + ((n + 4) - length xs) ≡ n = omega (arith, h, low, high) in
    ap (drop ((n + 4) - length xs)) (take_all 4 (drop (length xs - 4) xs) (omega (arith, h, length-drop (length xs - 4) xs)))
    ∙ drop-drop ((n + 4) - length xs) (length xs - 4) xs ∙ ap (λ k. drop k xs) e

pub short_is : (xs : List ℕ) (first last : ℕ) → 4 ≤ length xs → length xs ≤ 8 → to_le_bytes w32 first ≡ take 4 xs
    → to_le_bytes w32 last ≡ take 4 (drop (length xs - 4) xs) → short_word (length xs) first last ≡ xs
short_is xs first last h k p q =
    ap₂ (λ us vs. us ++ vs) p (ap (drop (8 - length xs)) q ∙ behind 4 xs h h k) ∙ take-append-drop 4 xs

pub long_is : (xs : List ℕ) (first second last : ℕ) → 8 ≤ length xs → length xs ≤ 12 → to_le_bytes w32 first ≡ take 4 xs
    → to_le_bytes w32 second ≡ take 4 (drop 4 xs) → to_le_bytes w32 last ≡ take 4 (drop (length xs - 4) xs)
    → long_word (length xs) first second last ≡ xs
long_is xs first second last h k p q r =
    let low : 4 ≤ length xs = omega (arith, h) in
    let end : drop (12 - length xs) (to_le_bytes w32 last) ≡ drop 4 (drop 4 xs) = ap (drop (12 - length xs)) r ∙ behind 8 xs low h k ∙ sym (drop-drop 4 4 xs) in
    ap₂ (λ us vs. us ++ vs) p (ap₂ (λ us vs. us ++ vs) q end ∙ take-append-drop 4 (drop 4 xs)) ∙ take-append-drop 4 xs

-- what has the spelling of one word has that of the same word
pub spelled_so : (found : Option Rule) (v w : List ℕ) → v ≡ w → IfSome found (λ rule. rule_spelled rule ≡ v)
    → IfSome found (λ rule. rule_spelled rule ≡ w)
spelled_so found v w e h = subst (λ u. IfSome found (λ rule. rule_spelled rule ≡ u)) e h
