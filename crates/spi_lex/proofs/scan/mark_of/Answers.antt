-- The table is held against the marks at each of the 256 bytes, by computing.
use Rattle.std.proofs.Common.{◌≡◌, ℕ, ◌-◌, ◌<◌, ◌==◌, ◌&&◌, ◌||◌, not, nat_le, Bool, true, get_or, refl, ap, subst, ◌∙◌, arith}
use Rattle.std.proofs.lemmas.Bool.{agree_below_at, eqb-true}
use Rattle.spi_lex.specs.declared.scan.TheConstants.{CLASSES, MARKS}
use Rattle.spi_lex.specs.declared.token.Mark.{Mark}
use Rattle.spi_lex.specs.declared.token.Mark.TheVariants.{ParenOpen}
use Rattle.spi_lex.specs.Words.{mark_byte}
use Rattle.spi_lex.specs.Front.{class_of}
use Rattle.spi_lex.proofs.Classes.{mark_class}
use Rattle.spi_lex.proofs.scan.mark_of.Goals as goal

abbrev stands_for : ℕ → Mark
stands_for b = get_or MARKS (get_or CLASSES b 0 - 65) ParenOpen

abbrev is_capital : ℕ → Bool
is_capital b = nat_le 65 (get_or CLASSES b 0) && nat_le (get_or CLASSES b 0) 77

stands : (b : ℕ) → b < 256 → is_capital b ≡ true → b ≡ mark_byte (stands_for b)
stands b l h =
    let t : (not (is_capital b) || (b == mark_byte (stands_for b))) ≡ true =
    agree_below_at (λ k. not (is_capital k) || (k == mark_byte (stands_for k))) (λ k. true) 256 b refl l in
    eqb-true b (mark_byte (stands_for b)) (subst (λ (v : Bool). (not v || (b == mark_byte (stands_for b))) ≡ true) h t)

pub returns-then-class : goal.returns-then-class
returns-then-class c = ap class_of (stands c.args.byte (omega arith) c.if-class.true) ∙ mark_class (stands_for c.args.byte)
