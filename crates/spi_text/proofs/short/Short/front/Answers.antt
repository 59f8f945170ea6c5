use Rattle.std.proofs.Common.{◌≡◌, ◌≤◌, ℕ, List, take, ap, ◌∙◌, subst, sym, ltb-false}
use Rattle.std.proofs.lemmas.Bool.{or_parts}
use Rattle.std.proofs.lemmas.List.{take-take}
use Rattle.std.proofs.lemmas.Str.{IsUtf8-take}
use Rattle.std.specs.Str.{IsUtf8}
use Rattle.spi_text.proofs.short.Short.front.Goals as goal

-- the bytes that are copied begin with the text
copied : (s given bytes : List ℕ) (len : ℕ) → len ≤ 14 → given ≡ s → bytes ≡ take 14 given → take len bytes ≡ take len s
copied s given bytes len few same after = ap (take len) (after ∙ ap (take 14) same) ∙ take-take len 14 s few

pub invariant_of-result : goal.invariant_of-result
invariant_of-result c =
    let few : c.args.len ≤ 14 = ltb-false 14 c.args.len (or_parts _ _ c.if-len-s.false).0 in
    let front = copied c.args.s.now c.as_bytes.result.now c.copy_from_slice.new.self c.args.len few c.as_bytes.ensures.value c.copy_from_slice.ensures.after in
    record { fits = few; text = ∣ subst IsUtf8 (sym front) (IsUtf8-take c.args.s.now c.args.len c.utf8.s c.requires) ∣₁ }

pub returns : goal.returns
returns c =
    let few : c.args.len ≤ 14 = ltb-false 14 c.args.len (or_parts _ _ c.if-len-s.false).0 in
    copied c.args.s.now c.as_bytes.result.now c.copy_from_slice.new.self c.args.len few c.as_bytes.ensures.value c.copy_from_slice.ensures.after
