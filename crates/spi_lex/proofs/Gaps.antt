-- What has nothing but gaps.
use Rattle.std.proofs.Common.{◌≡◌, ◌↔◌, ℕ, suc, ◌+◌, inl, inr, List, [], ◌∷◌, length, take, drop, sym, ◌∙◌, subst, arith}
use Rattle.std.proofs.lemmas.Bool.{cases_Bool, cond-true, cond-false}
use Rattle.std.proofs.lemmas.Str.{IsUtf8-drop}
use Rattle.std.specs.List.{prefix_len}
use Rattle.std.specs.Str.{IsUtf8}
use Rattle.spi_lex.specs.declared.scan.Shape.{Shape}
use Rattle.spi_lex.specs.declared.scan.Shape.TheVariants as shapes
use Rattle.spi_lex.specs.Lexeme.{is_blank, IsGap, StartsNone}
use Rattle.spi_lex.specs.Lexing.{Leads, here, past_gap}
use Rattle.spi_lex.specs.Front.{IsFront}
use Rattle.spi_lex.specs.Left.{OnlyGaps}
use Rattle.spi_lex.proofs.Classes.{blank_class}
use Rattle.spi_lex.proofs.Fronts.{blank_front}
use Rattle.spi_lex.proofs.Left.{blanks_utf8, shape_part, one_shape}
use Rattle.spi_lex.proofs.Unique.{one_length}

shifted : {at to : ℕ} {text : List ℕ} (other : ℕ) → Leads at text [] to [] → (end : ℕ) × Leads other text [] end []
shifted other here = (other, here)
shifted other (past_gap n l g h) = (let s = shifted (other + n) h in (s.0, past_gap n l g s.1))

pub gaps_from : (text : List ℕ) (at : ℕ) → OnlyGaps text → (to : ℕ) × Leads at text [] to []
gaps_from text at h = shifted at h.2

gap_on : (text : List ℕ) (n : ℕ) → IsFront text shapes.Gap n → OnlyGaps (drop n text) → OnlyGaps text
gap_on text n f h = (let s = shifted (0 + n) h.2 in (0, s.0, past_gap n f.longest f.is_shape s.1))

gap_off : {at to : ℕ} {text : List ℕ} (shape : Shape) (n : ℕ) → IsFront text shape n → Leads at text [] to [] → (shape ≡ shapes.Gap) × OnlyGaps (drop n text)
gap_off shape n f here = absurd (let some = f.some in let within = f.longest.within in omega arith)
gap_off {at = at} {to = to} {text = text} shape n f (past_gap m l g h) =
    let e : m ≡ n = one_length text m n l (inl g) f.longest (shape_part shape (take n text) f.is_shape) in
    let same : shape ≡ shapes.Gap = one_shape shape shapes.Gap (take n text) f.is_shape (subst (λ (i : ℕ). IsGap (take i text)) e g) in
    (same, (at + m, to, subst (λ (i : ℕ). Leads (at + m) (drop i text) [] to []) e h))

gaps_off : (text : List ℕ) (n : ℕ) → IsFront text shapes.Gap n → OnlyGaps text → OnlyGaps (drop n text)
gaps_off text n f h = (gap_off shapes.Gap n f h.2).1

pub no_gaps : (text : List ℕ) (shape : Shape) (n : ℕ) → IsFront text shape n → (shape ≡ shapes.Gap → ⊥) → OnlyGaps text → ⊥
no_gaps text shape n f other h = other (gap_off shape n f h.2).0

nothing_found : {at to : ℕ} {text : List ℕ} → StartsNone text → Leads at text [] to [] → ⊥
nothing_found s here = (let more = s.more in omega arith)
nothing_found s (past_gap n l g h) = s.none n l.within (inl g)

pub none_found : (text : List ℕ) → StartsNone text → OnlyGaps text → ⊥
none_found text s h = nothing_found s h.2

pub gaps_over : (text : List ℕ) → length text ≡ 0 → OnlyGaps text
gaps_over [] e = (0, 0, here)
gaps_over (b ∷ bs) e = absurd (omega arith)

past_blanks : (text : List ℕ) → IsUtf8 text → OnlyGaps text ↔ OnlyGaps (drop (prefix_len is_blank text) text)
past_blanks [] u = (λ h. h, λ h. h)
past_blanks (b ∷ bs) u = elim (cases_Bool (is_blank b)) [
  | inl is ↦
      let f : IsFront (b ∷ bs) shapes.Gap 1 = blank_front (b ∷ bs) u (omega arith) (blank_class b is) in
      let n : suc (prefix_len is_blank bs) ≡ prefix_len is_blank (b ∷ bs) = sym (cond-true (is_blank b) (1 + prefix_len is_blank bs) 0 is ∙ omega arith) in
      let rest = past_blanks bs (IsUtf8-drop (b ∷ bs) 1 u f.cut) in
      subst (λ (i : ℕ). OnlyGaps (b ∷ bs) ↔ OnlyGaps (drop i (b ∷ bs))) n
      (λ h. rest.0 (gaps_off (b ∷ bs) 1 f h), λ h. gap_on (b ∷ bs) 1 f (rest.1 h))
  | inr isnt ↦
      let none : 0 ≡ prefix_len is_blank (b ∷ bs) = sym (cond-false (is_blank b) (1 + prefix_len is_blank bs) 0 isnt) in
      subst (λ (i : ℕ). OnlyGaps (b ∷ bs) ↔ OnlyGaps (drop i (b ∷ bs))) none (λ h. h, λ h. h)
]

pub gaps_behind_blanks : (text rest : List ℕ) → IsUtf8 rest → rest ≡ drop (prefix_len is_blank text) text → OnlyGaps text ↔ OnlyGaps rest
gaps_behind_blanks text rest u e =
    subst (λ (bs : List ℕ). OnlyGaps text ↔ OnlyGaps bs) (sym e) (past_blanks text (blanks_utf8 text (subst IsUtf8 e u)))

pub gaps_behind_gap : (text behind rest : List ℕ) (n : ℕ) → IsUtf8 rest → IsFront text shapes.Gap n → behind ≡ drop n text → rest ≡ drop (prefix_len is_blank behind) behind → OnlyGaps text ↔ OnlyGaps rest
gaps_behind_gap text behind rest n u f e g =
    let on = gaps_behind_blanks behind rest u g in
    (λ h. on.0 (subst OnlyGaps (sym e) (gaps_off text n f h)), λ h. gap_on text n f (subst OnlyGaps e (on.1 h)))
