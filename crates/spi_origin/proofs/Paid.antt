-- What a form adds, by what is kept of it.
use Rattle.std.proofs.Common.{◌≡◌, refl, sym, ap, ◌∙◌, subst, ℕ, Bool, true, false, Option, Some, None}
use Rattle.std.specs.Prelude.{is_some, ◌&&◌}
use Rattle.spi_count.specs.Keeping.{with_keys}
use Rattle.spi_count.specs.declared.keys.Keys.{Keys}
use Rattle.spi_infer.specs.Own.{PaidFits, IsOwnOf}
use Rattle.spi_infer.specs.declared.own.Own.{Own}
use Rattle.spi_infer.specs.declared.own.Own.TheVariants.{Checked}
use Rattle.spi_intern.specs.declared.messages.MsgId.{MsgId}
use Rattle.spi_intern.specs.declared.store.Store.{Store}
use Rattle.spi_intern.specs.declared.types.TyId.{TyId}
use Rattle.spi_origin.specs.Gathering.{adds_at}
use Rattle.spi_term.specs.Spelling.{Shape, prefix_at}
use Rattle.spi_term.specs.Term.{Message, Atom, checks, same_atom, Effect, Checks}

paid_some : (s : Store) (t : Option TyId) (paid : Option Effect) → PaidFits s t paid → is_some t ≡ is_some paid
paid_some s None None h = refl
paid_some s None (Some es) h = absurd h
paid_some s (Some t) None h = absurd h
paid_some s (Some t) (Some es) h = refl

module _ (s : Store) (keys : Keys) (k : ℕ) (m n : Message) (b : ℕ) (x : Shape) (x_is : x ≡ prefix_at k (Checks m n) b) (paid : Option Effect) (own : Own) (a : Atom) (p : Bool) (is : (i : MsgId) (t : Option TyId) → own ≡ Checked i t → p ≡ is_some t) (h : IsOwnOf s (with_keys s keys) x paid own) where
  fits : IsOwnOf s (with_keys s keys) (prefix_at k (Checks m n) b) paid own
  fits = subst (λ x. IsOwnOf s (with_keys s keys) x paid own) x_is h

  paid_is : p ≡ is_some paid
  paid_is = is fits.0 fits.1 fits.2 ∙ paid_some s fits.1 paid fits.4

  adds_is : (q : Bool) → p ≡ q → q && same_atom a (checks m) ≡ adds_at a x paid
  adds_is q e = ap (λ p. p && same_atom a (checks m)) (sym e ∙ paid_is) ∙ sym (ap (λ x. adds_at a x paid) x_is)

  pub check_then : p ≡ true → (r : Bool) → r ≡ same_atom a (checks m) → r ≡ adds_at a x paid
  check_then e r f = f ∙ adds_is true e

  pub check_else : p ≡ false → p ≡ adds_at a x paid
  check_else e = e ∙ adds_is false e
