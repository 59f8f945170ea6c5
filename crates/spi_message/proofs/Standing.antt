-- Environments of numbers, and the environments that they stand for.
use Rattle.std.proofs.Common.{◌≡◌, ℕ, zero, suc, ◌≤◌, true, false, List, [], ◌∷◌, ◌++◌, Some, None, length, get_or, refl, sym, ap, subst, ◌∙◌, arith}
use Rattle.std.specs.Prelude.{slice_get, nat_lt, replicate}
use Rattle.std.proofs.lemmas.Bool.{ltb-true, ltb-false, le-ltb}
use Rattle.std.proofs.lemmas.Option.{slice_get-get_or}
use Rattle.spi_term.specs.Term.{Ty}
use Rattle.spi_term.proofs.Lists.{some_is}
use Rattle.spi_rules.specs.Environment.{Env}
use Rattle.spi_intern.specs.Meaning.{Means, Keeps}
use Rattle.spi_intern.specs.declared.types.TyId.{TyId}
use Rattle.spi_intern.specs.declared.store.Store.{Store}
use Rattle.spi_intern.proofs.Meanings.{means_keeps}
use Rattle.spi_message.specs.Judging.{StandFor, stand_none, stand_next}
use Rattle.spi_message.specs.Asking.{IsEnvironment}

-- what the numbers stand for stays as the store grows
pub stand_keeps : {s r : Store} {ids : List TyId} {e : Env} → Keeps s r → StandFor s ids e → StandFor r ids e
stand_keeps k stand_none = stand_none
stand_keeps k (stand_next m h) = stand_next (means_keeps k m) (stand_keeps k h)

-- one more name, and one less
pub stand_push : {s : Store} {ids : List TyId} {e : Env} {i : TyId} {t : Ty} → StandFor s ids e → Means s i.place t → StandFor s (ids ++ i ∷ []) (e ++ t ∷ [])
stand_push stand_none m = stand_next m stand_none
stand_push (stand_next l h) m = stand_next l (stand_push h m)

pub stand_same : {s : Store} {i : TyId} {t : Ty} (n : ℕ) → Means s i.place t → StandFor s (replicate n i) (replicate n t)
stand_same zero m = stand_none
stand_same (suc n) m = stand_next m (stand_same n m)

pub stand_front : {s : Store} (ids js : List TyId) {e : Env} → StandFor s (ids ++ js) e → (front : Env) × StandFor s ids front
stand_front [] js h = ([], stand_none)
stand_front (i ∷ ids) js (stand_next {t = t} m h) = let w = stand_front ids js h in (t ∷ w.0, stand_next m w.1)

pub stand_length : {s : Store} {ids : List TyId} {e : Env} → StandFor s ids e → length ids ≡ length e
stand_length stand_none = refl
stand_length (stand_next m h) = ap suc (stand_length h)

pub environment_keeps : {s r : Store} {ids : List TyId} → Keeps s r → IsEnvironment s ids → IsEnvironment r ids
environment_keeps k h = record { env = h.env; stands = stand_keeps k h.stands }

-- the type of a name
pub stand_at : {s : Store} {ids : List TyId} {e : Env} → StandFor s ids e → (x : ℕ) (i : TyId) → slice_get ids x ≡ Some i → (t : Ty) × (slice_get e x ≡ Some t) × Means s i.place t
stand_at stand_none x i h = absurd cc
stand_at {s} (stand_next {i = j} {t = t} m w) zero i h = (t, refl, subst (λ k. Means s k.place t) (some_is h) m)
stand_at (stand_next m w) (suc x) i h = stand_at w x i h

pub stand_none_at : {s : Store} {ids : List TyId} {e : Env} → StandFor s ids e → (x : ℕ) → slice_get ids x ≡ None → slice_get e x ≡ None
stand_none_at stand_none x h = refl
stand_none_at (stand_next m w) zero h = absurd cc
stand_none_at (stand_next m w) (suc x) h = stand_none_at w x h

-- a look-up
pub found_at : {A : Type 0} (xs : List A) (i : ℕ) (x d : A) → true ≡ nat_lt i (length xs) → x ≡ get_or xs i d → slice_get xs i ≡ Some x
found_at xs i x d h e = slice_get-get_or xs i d (ltb-true i (length xs) (sym h)) ∙ ap Some (sym e)

pub missing_at : {A : Type 0} (xs : List A) (i : ℕ) → false ≡ nat_lt i (length xs) → slice_get xs i ≡ None
missing_at [] i h = refl
missing_at (x ∷ xs) zero h = absurd (omega (arith, ltb-false zero (length (x ∷ xs)) (sym h)))
missing_at (x ∷ xs) (suc i) h = missing_at xs i (sym (below (length xs) i (ltb-false (suc i) (length (x ∷ xs)) (sym h))))
  where
    below : (n i : ℕ) → suc n ≤ suc i → nat_lt i n ≡ false
    below n i h = le-ltb i n (omega arith)
