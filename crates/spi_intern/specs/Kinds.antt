-- Types in which an effect is a number.
use Rattle.std.specs.Prelude.{◌≡◌, ℕ, zero, suc, Bool, true, false, refl}
use Rattle.std.specs.Coded.{Coded, code_by}
use base.Stored.{Gv, gnil, gnum, gcons, num}
use denote.Struct.Codes.{itself}
use mathlib.Core.HLevel.{Discrete}
use native.Mathlib.Decide.{ℕ_discrete}
use Rattle.std.proofs.Common.{ap}

pub data Kind : Type 0 where
  un : Kind
  unit : Kind
  pair : (first second : Kind) → Kind
  sum : (left right : Kind) → Kind
  key : (payload : Kind) → Kind
  nonce : (effect : ℕ) → Kind
  deriving Discrete as Kind-deciding

abbrev pub kind_discrete : Discrete Kind
kind_discrete = Kind-deciding ℕ_discrete

abbrev pub same_kind : Kind → Kind → Bool
same_kind t u = elim (kind_discrete t u) [ yes e ↦ true | no d ↦ false ]

abbrev of_kind : Kind → Gv
of_kind un = gnil
of_kind unit = gnum 0
of_kind (nonce e) = gcons gnil (gnum e)
of_kind (pair t u) = gcons (gnum 0) (gcons (of_kind t) (of_kind u))
of_kind (sum t u) = gcons (gnum 1) (gcons (of_kind t) (of_kind u))
of_kind (key t) = gcons (gnum 2) (gcons (of_kind t) gnil)

abbrev two_kinds : ℕ → Kind → Kind → Kind
two_kinds zero t u = pair t u
two_kinds (suc zero) t u = sum t u
two_kinds (suc (suc n)) t u = key t

abbrev to_kind : Gv → Kind
to_kind gnil = un
to_kind (gnum i) = unit
to_kind (gcons t gnil) = un
to_kind (gcons t (gnum e)) = nonce e
to_kind (gcons t (gcons a b)) = two_kinds (num t) (to_kind a) (to_kind b)

pub back_kind : (t : Kind) → to_kind (of_kind t) ≡ t
back_kind un = refl
back_kind unit = refl
back_kind (nonce e) = refl
back_kind (pair t u) = λ i. pair (back_kind t i) (back_kind u i)
back_kind (sum t u) = λ i. sum (back_kind t i) (back_kind u i)
back_kind (key t) = ap key (back_kind t)

abbrev pub coded_kind : Coded Kind
coded_kind = code_by Gv itself of_kind to_kind back_kind
