use Rattle.std.proofs.Common.{◌≡◌, ℕ, zero, suc, ◌∙◌, ap, List, [], ◌∷◌, Some, None, length, drop, slice_get}
use Rattle.spi_text.specs.declared.lines.Span.{Span}
use Rattle.spi_lex.specs.declared.token.Token.{Token}
use Rattle.spi_lex.specs.Numbered.{listed}
use Rattle.spi_commands.specs.Refusals.{start_of_fault}
use Rattle.spi_commands.proofs.causes.start.Goals as goal

at_token : (bytes : List ℕ) (ts : List Token) (i : ℕ) (t : Token) → slice_get ts i ≡ Some t → t.span.from ≡ start_of_fault bytes (drop i ts)
at_token bytes [] i t e = cc
at_token bytes (x ∷ xs) zero t e = cc
at_token bytes (x ∷ xs) (suc i) t e = at_token bytes xs i t e

at_end : (bytes : List ℕ) (ts : List Token) (i : ℕ) → slice_get ts i ≡ None → length bytes ≡ start_of_fault bytes (drop i ts)
at_end bytes [] zero e = cc
at_end bytes [] (suc i) e = cc
at_end bytes (x ∷ xs) zero e = cc
at_end bytes (x ∷ xs) (suc i) e = at_end bytes xs i e

pub returns-in-Some : goal.returns-in-Some
returns-in-Some c =
    let found = c.in-Some.ensures in
    ap (λ (s : Span). s.from) found.3 ∙ at_token c.args.bytes.now (listed c.args.tokens.now) c.args.token found.0 found.1

pub returns-in-None : goal.returns-in-None
returns-in-None c = at_end c.args.bytes.now (listed c.args.tokens.now) c.args.token c.in-None.ensures
