-- Characters counted by blocks.
use Rattle.std.proofs.Common.{◌≡◌, ℕ, ◌+◌, ◌-◌, ◌*◌, ◌<◌, ◌≤◌, not, inl, inr, List, [], ◌∷◌, ◌++◌, length, length-append, take, drop, get_or, ◌∙◌, ap, arith}
use Rattle.std.proofs.lemmas.Bool.{cases_lt}
use Rattle.std.proofs.lemmas.List.{take-take, drop-take, get_or_append_left}
use Rattle.std.proofs.Math.Seq.{get_or-append_seam}
use Rattle.std.proofs.lemmas.List.Sums.{sum_by-take-drop}
use Rattle.std.specs.List.{count_by}
use Rattle.spi_text.specs.Place.{continues}

-- how many characters start in the bytes
abbrev pub block_starts : List ℕ → ℕ
block_starts bytes = count_by (λ b. not (continues b)) bytes

-- the blocks so far, up to an offset
pub record AreBlocksTo (bytes : List ℕ) (at count : ℕ) (blocks : List ℕ) : Type 0 where
  pub before : (k : ℕ) → k < length blocks → get_or blocks k 0 ≡ block_starts (take (k * 1024) bytes)
  pub at_is : at ≡ length blocks * 1024
  pub within : at ≤ length bytes
  pub count_is : count ≡ block_starts (take at bytes)

-- what starts before an offset is what starts before an earlier one and from there on
pub starts_from : (bytes : List ℕ) (from to : ℕ) → from ≤ to
    → block_starts (take to bytes) ≡ block_starts (take from bytes) + block_starts (take (to - from) (drop from bytes))
starts_from bytes from to h =
    let both : block_starts (take from (take to bytes)) + block_starts (drop from (take to bytes)) ≡ block_starts (take to bytes) =
    sum_by-take-drop _ (take to bytes) from in
    let front : block_starts (take from (take to bytes)) ≡ block_starts (take from bytes) = ap block_starts (take-take from to bytes h) in
    let sum : to ≡ from + (to - from) = omega arith in
    let rest : block_starts (drop from (take to bytes)) ≡ block_starts (take (to - from) (drop from bytes)) =
    ap (λ (n : ℕ). block_starts (drop from (take n bytes))) sum ∙ ap block_starts (drop-take from (to - from) bytes) in
    omega (arith, both, front, rest)

-- one block more
pub one_block : (bytes blocks : List ℕ) (at count more : ℕ) → AreBlocksTo bytes at count blocks → at + 1024 ≤ length bytes
    → more ≡ block_starts (take (at + 1024 - at) (drop at bytes))
    → AreBlocksTo bytes (at + 1024) (count + more) (blocks ++ count ∷ [])
one_block bytes blocks at count more h fits e =
    let len : length (blocks ++ count ∷ []) ≡ length blocks + 1 = length-append blocks (count ∷ []) in
    let at_is = h.at_is in
    let count_is = h.count_is in
    let all = starts_from bytes at (at + 1024) (omega arith) in
    record {
      before = λ k l. elim (cases_lt k (length blocks)) [
        | inl old ↦ get_or_append_left blocks (count ∷ []) 0 k old ∙ h.before k old
        | inr new ↦
            let last : k ≡ length blocks = omega (arith, l, new, len) in
            let here : at ≡ k * 1024 = omega (arith, at_is, last) in
            ap (λ (i : ℕ). get_or (blocks ++ count ∷ []) i 0) last ∙ get_or-append_seam blocks count [] 0 ∙ count_is
            ∙ ap (λ (n : ℕ). block_starts (take n bytes)) here
      ];
      at_is = omega (arith, at_is, len);
      within = fits;
      count_is = omega (arith, count_is, all, e);
    }
