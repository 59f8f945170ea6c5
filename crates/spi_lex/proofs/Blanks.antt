-- Blanks at the front of a text.
use Rattle.std.proofs.Common.{◌≡◌, ℕ, suc, ◌+◌, ◌<◌, true, inl, inr, List, [], ◌∷◌, drop, sym, ◌∙◌, subst, arith}
use Rattle.std.proofs.lemmas.Bool.{cases_Bool, cond-true, cond-false}
use Rattle.std.proofs.lemmas.Str.{IsUtf8-drop}
use Rattle.std.specs.List.{prefix_len}
use Rattle.std.specs.Str.{IsUtf8}
use Rattle.spi_lex.specs.declared.token.Token.{Token}
use Rattle.spi_lex.specs.declared.scan.Shape.TheVariants as shapes
use Rattle.spi_lex.specs.Lexeme.{is_blank}
use Rattle.spi_lex.specs.Front.{IsFront}
use Rattle.spi_lex.proofs.Classes.{narrow, blank_class}
use Rattle.spi_lex.proofs.Fronts.{blank_front}
use Rattle.spi_lex.proofs.Reached.{Reached, reads_gap}

pub blank_ascii : (b : ℕ) → is_blank b ≡ true → b < 128
blank_ascii b h = let k = blank_class b h in narrow b (λ o. cc)

-- each is a gap of its own
pub reads_blanks : (text rest : List ℕ) (tokens : List Token) → IsUtf8 rest → Reached text tokens rest
    → Reached text tokens (drop (prefix_len is_blank rest) rest)
reads_blanks text [] tokens u h = h
reads_blanks text (b ∷ bs) tokens u h = elim (cases_Bool (is_blank b)) [
  | inl is ↦
      let f : IsFront (b ∷ bs) shapes.Gap 1 = blank_front (b ∷ bs) u (omega arith) (blank_class b is) in
      let past : Reached text tokens bs = reads_gap text (b ∷ bs) tokens 1 h f.longest f.is_shape in
      let one_more : suc (prefix_len is_blank bs) ≡ prefix_len is_blank (b ∷ bs) =
      sym (cond-true (is_blank b) (1 + prefix_len is_blank bs) 0 is ∙ omega arith) in
      subst (λ (n : ℕ). Reached text tokens (drop n (b ∷ bs))) one_more
      (reads_blanks text bs tokens (IsUtf8-drop (b ∷ bs) 1 u f.cut) past)
  | inr isnt ↦
      subst (λ (n : ℕ). Reached text tokens (drop n (b ∷ bs)))
      (sym (cond-false (is_blank b) (1 + prefix_len is_blank bs) 0 isnt)) h
]

-- the same of what is left
pub passes_blanks : (text rest after : List ℕ) (tokens : List Token) → IsUtf8 rest
    → after ≡ drop (prefix_len is_blank rest) rest → Reached text tokens rest → Reached text tokens after
passes_blanks text rest after tokens u e h = subst (Reached text tokens) (sym e) (reads_blanks text rest tokens u h)
