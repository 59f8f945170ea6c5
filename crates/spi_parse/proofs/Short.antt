-- A text has no more tokens than bytes.
use Rattle.std.proofs.Common.{ℕ, zero, suc, ◌+◌, ◌≤◌, Bool, inl, inr, Option, Some, None, List, length, take, drop, arith}
use Rattle.std.proofs.lemmas.Bool.{cases_Bool}
use Rattle.spi_lex.specs.declared.token.Token.{Token}
use Rattle.spi_lex.specs.Lexeme.{Lexeme}
use Rattle.spi_lex.specs.Front.{lexeme_of}
use Rattle.spi_lex.specs.Left.{Found, front_at, is_allowed, tokens_by, tokens_at, left}

by_short : (n : ℕ) (later : Bool) (at : ℕ) (behind : ℕ → List Token) → ((k : ℕ) → length (behind k) ≤ n) → (m : ℕ) (o : Option Lexeme) → length (tokens_by later at behind m o) ≤ suc n
by_short n later at behind few m None = let k = few m in omega arith
by_short n later at behind few m (Some lexeme) = (let k = few m in elim (cases_Bool (is_allowed lexeme)) [
  | inl on ↦ rw on (omega arith)
  | inr off ↦ rw off (omega arith)
])

at_short : (n : ℕ) (later : Bool) (at : ℕ) (text : List ℕ) (behind : ℕ → List Token) → ((k : ℕ) → length (behind k) ≤ n) → (o : Option Found) → length (tokens_at later at text behind o) ≤ suc n
at_short n later at text behind few None = omega arith
at_short n later at text behind few (Some found) = by_short n later at behind few found.n (lexeme_of found.shape (take found.n text))

pub left_short : (n : ℕ) (later : Bool) (at : ℕ) (text : List ℕ) → length (left n later at text) ≤ n
unfolding left
left_short zero later at text = omega arith
left_short (suc n) later at text = at_short n later at text (λ k. left n later (at + k) (drop k text)) (λ k. left_short n later (at + k) (drop k text)) (front_at text)
