-- Names that are taken away from a judge.
use Rattle.std.proofs.Common.{◌≡◌, ℕ, zero, suc, ◌<◌, ◌≤◌, List, [], ◌∷◌, ◌++◌, length, take, sym, ap, subst, ◌∙◌, arith, length-take}
use Rattle.std.proofs.lemmas.List.{take-append-le, take_all, length_push}
use Rattle.spi_rules.specs.Environment.{Env}
use Rattle.spi_intern.specs.Meaning.{Keeps}
use Rattle.spi_intern.specs.declared.types.TyId.{TyId}
use Rattle.spi_intern.specs.declared.store.Store.{Store}
use Rattle.spi_intern.proofs.Meanings.{terms_same}
use Rattle.spi_message.specs.Judging.{Numbered, StandFor, stand_none, stand_next}
use Rattle.spi_message.specs.Tested.{Turns}

pub same_store : {s r : Store} → r ≡ s → Keeps s r
same_store {s} e = subst (λ r. Keeps s r) (sym e) (terms_same s)

-- fewer names
stand_take : {s : Store} {ids : List TyId} {e : Env} (n : ℕ) → StandFor s ids e → StandFor s (take n ids) (take n e)
stand_take zero h = stand_none
stand_take (suc n) stand_none = stand_none
stand_take (suc n) (stand_next m h) = stand_next m (stand_take n h)

pub turns_cut : (j k : Numbered) (n : ℕ) → k.types ≡ take n j.types → k.store ≡ j.store → Turns j k (λ e. take n e)
turns_cut j k n t q = record {
  at = λ e s. subst (λ ids. StandFor k.store ids (take n e)) (sym t) (subst (λ r. StandFor r (take n j.types) (take n e)) (sym q) (stand_take n s));
}

-- one name fewer, where there are more than are wanted
pub cut_more : (ids js : List TyId) (t : TyId) (n : ℕ) → ids ≡ js ++ t ∷ [] → n < length ids → take n js ≡ take n ids
cut_more ids js t n e h =
    sym (ap (take n) e ∙ take-append-le n js (t ∷ []) (omega (arith, ap length e, length_push js t)))

pub length_less : (ids js : List TyId) (t : TyId) → ids ≡ js ++ t ∷ [] → length js < length ids
length_less ids js t e = omega (arith, ap length e, length_push js t)

pub cut_done : (ids : List TyId) (n : ℕ) → length ids ≤ n → ids ≡ take n ids
cut_done ids n h = sym (take_all n ids h)

pub length_cut : (ids js : List TyId) (n : ℕ) → js ≡ take n ids → length js ≤ n
length_cut ids js n e = omega (arith, ap length e, length-take n ids)
