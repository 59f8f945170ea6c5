-- One session, and several.
use Rattle.std.proofs.Common.{◌≡◌, refl, sym, subst, ℕ, ◌+◌, ◌-◌, ◌/◌, ◌≤◌, Bool, true, false, Result, Ok, Err, IfOk}
use Rattle.spi_tree.specs.declared.tree.SProc.{SProc}
use Rattle.spi_tree.specs.Trees as t
use Rattle.spi_tree.specs.Views.{proc_of}
use Rattle.spi_gen.specs.Handshake.{handshake}
use Rattle.spi_gen.specs.Sessions.{AreBeside, one_session, two_halves, AreGrouped, alone, in_parentheses}
use Rattle.spi_tree.specs.Trees.{nowhere}

pub one_grouped : {E : Type 0} (n : ℕ) (result : Result SProc E) (in_part : Bool) → n ≡ 1 → IfOk result (λ p. proc_of p ≡ handshake) → IfOk result (λ p. in_part ≡ true → AreGrouped n (proc_of p))
one_grouped n (Ok p) in_part one h = λ is. subst (λ n. AreGrouped n (proc_of p)) (sym one) (subst (AreGrouped 1) (sym h) alone)
one_grouped n (Err e) in_part one h = tt

pub one_beside : {E : Type 0} (n : ℕ) (result : Result SProc E) (in_part : Bool) → n ≡ 1 → IfOk result (λ p. proc_of p ≡ handshake) → IfOk result (λ p. in_part ≡ false → AreBeside n (proc_of p))
one_beside n (Ok p) in_part one h = λ is. subst (λ n. AreBeside n (proc_of p)) (sym one) (subst (AreBeside 1) (sym h) one_session)
one_beside n (Err e) in_part one h = tt

pub beside_halves : (n : ℕ) (p q : t.Proc) → 2 ≤ n → AreGrouped ((n + 1) / 2) p → AreGrouped (n - (n + 1) / 2) q → AreBeside n (t.par nowhere p q)
beside_halves n p q two a b = two_halves two refl a b

pub grouped_halves : (n : ℕ) (p q : t.Proc) → 2 ≤ n → AreGrouped ((n + 1) / 2) p → AreGrouped (n - (n + 1) / 2) q → AreGrouped n (t.group nowhere p q)
grouped_halves n p q two a b = in_parentheses two (beside_halves n p q two a b)
