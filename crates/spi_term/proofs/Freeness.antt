-- What the tests of free names decide.
use Rattle.std.proofs.Common.{◌≡◌, refl, sym, ◌∙◌, subst, ℕ, suc, ◌↔◌, IsTrue, Bool, true, false, ◌||◌, [], ◌∷◌, ◌≢◌, ⊎_elim, true≢false, eqb, eq-eqb}
use Rattle.std.proofs.lemmas.Bool.{eqb-true, cases_Bool}
use Rattle.spi_term.specs.Term.{Message, bound, name, unit, pair, in_left, in_right, enc, hash, ends, checks, many, Effect, Ty, un, unit_ty, pair_ty, sum_ty, key, nonce}
use Rattle.spi_term.specs.Names.{Avoids, EffectAvoids, OfTy, TyAvoids}
use Rattle.spi_term.specs.Tests.{is_free, mentions, is_free_ty}

pub or_false : (a b : Bool) → (a || b) ≡ false → (a ≡ false) × (b ≡ false)
or_false false b h = (refl, h)
or_false true b h = cc

pub both_false : {a b : Bool} → a ≡ false → b ≡ false → (a || b) ≡ false
both_false h k = rw (h, k)

free_not : (x y : ℕ) → eqb x y ≡ false → y ≢ x
free_not x y h = λ e. true≢false (sym (go x y (sym e)) ∙ h)
  where
    refl_eqb : (x : ℕ) → eqb x x ≡ true
    refl_eqb x = eq-eqb x x refl

    go : (x y : ℕ) → x ≡ y → eqb x y ≡ true
    go x y e = subst (λ z. eqb x z ≡ true) e (refl_eqb x)

pub avoids_sound : (x : ℕ) (m : Message) → is_free x m ≡ false → Avoids x m
avoids_sound x (bound i) h = tt
avoids_sound x (name y) h = free_not x y h
avoids_sound x unit h = tt
avoids_sound x (pair a b) h = let r = or_false _ _ h in (avoids_sound x a r.0, avoids_sound x b r.1)
avoids_sound x (in_left m) h = avoids_sound x m h
avoids_sound x (in_right m) h = avoids_sound x m h
avoids_sound x (enc a b) h = let r = or_false _ _ h in (avoids_sound x a r.0, avoids_sound x b r.1)
avoids_sound x (hash m) h = avoids_sound x m h

pub avoids_complete : (x : ℕ) (m : Message) → Avoids x m → is_free x m ≡ false
avoids_complete x (bound i) h = refl
avoids_complete x (name y) h = ⊎_elim (λ (t : eqb x y ≡ true). absurd (h (sym (eqb-true x y t)))) (λ (t : eqb x y ≡ false). t) (cases_Bool (eqb x y))
avoids_complete x unit h = refl
avoids_complete x (pair a b) h = both_false (avoids_complete x a h.0) (avoids_complete x b h.1)
avoids_complete x (in_left m) h = avoids_complete x m h
avoids_complete x (in_right m) h = avoids_complete x m h
avoids_complete x (enc a b) h = both_false (avoids_complete x a h.0) (avoids_complete x b h.1)
avoids_complete x (hash m) h = avoids_complete x m h

pub mentions_sound : (x : ℕ) (es : Effect) → mentions x es ≡ false → EffectAvoids x es
mentions_sound x [] h = tt
mentions_sound x (ends m ∷ es) h = let r = or_false _ _ h in (avoids_sound x m r.0, mentions_sound x es r.1)
mentions_sound x (checks m ∷ es) h = let r = or_false _ _ h in (avoids_sound x m r.0, mentions_sound x es r.1)
mentions_sound x (many m ∷ es) h = let r = or_false _ _ h in (avoids_sound x m r.0, mentions_sound x es r.1)

pub mentions_complete : (x : ℕ) (es : Effect) → EffectAvoids x es → mentions x es ≡ false
mentions_complete x [] h = refl
mentions_complete x (ends m ∷ es) h = both_false (avoids_complete x m h.0) (mentions_complete x es h.1)
mentions_complete x (checks m ∷ es) h = both_false (avoids_complete x m h.0) (mentions_complete x es h.1)
mentions_complete x (many m ∷ es) h = both_false (avoids_complete x m h.0) (mentions_complete x es h.1)

-- at any number of binders, which a name doesn't meet
avoids_ty_sound : (x k : ℕ) (t : Ty) → is_free_ty x t ≡ false → OfTy (λ d. Avoids x) k t
avoids_ty_sound x k un h = tt
avoids_ty_sound x k unit_ty h = tt
avoids_ty_sound x k (pair_ty t u) h = let r = or_false _ _ h in (avoids_ty_sound x k t r.0, avoids_ty_sound x (suc k) u r.1)
avoids_ty_sound x k (sum_ty t u) h = let r = or_false _ _ h in (avoids_ty_sound x k t r.0, avoids_ty_sound x k u r.1)
avoids_ty_sound x k (key t) h = avoids_ty_sound x k t h
avoids_ty_sound x k (nonce es) h = mentions_sound x es h

avoids_ty_complete : (x k : ℕ) (t : Ty) → OfTy (λ d. Avoids x) k t → is_free_ty x t ≡ false
avoids_ty_complete x k un h = refl
avoids_ty_complete x k unit_ty h = refl
avoids_ty_complete x k (pair_ty t u) h = both_false (avoids_ty_complete x k t h.0) (avoids_ty_complete x (suc k) u h.1)
avoids_ty_complete x k (sum_ty t u) h = both_false (avoids_ty_complete x k t h.0) (avoids_ty_complete x k u h.1)
avoids_ty_complete x k (key t) h = avoids_ty_complete x k t h
avoids_ty_complete x k (nonce es) h = mentions_complete x es h

-- an answer that is the test is yes exactly where the name isn't avoided
told : {P : Type 0} (b c : Bool) → (c ≡ false → P) → (P → c ≡ false) → b ≡ c → IsTrue b ↔ (P → ⊥)
told true true f g e = (λ _ p. true≢false (g p), λ _. refl)
told false false f g e = (λ h. absurd (true≢false (sym h)), λ n. absurd (n (f refl)))
told true false f g e = absurd (true≢false e)
told false true f g e = absurd (true≢false (sym e))

pub is_free_told : (b : Bool) (x : ℕ) (m : Message) → b ≡ is_free x m → IsTrue b ↔ (Avoids x m → ⊥)
is_free_told b x m e = told b (is_free x m) (avoids_sound x m) (avoids_complete x m) e

pub mentions_told : (b : Bool) (x : ℕ) (es : Effect) → b ≡ mentions x es → IsTrue b ↔ (EffectAvoids x es → ⊥)
mentions_told b x es e = told b (mentions x es) (mentions_sound x es) (mentions_complete x es) e

pub is_free_ty_told : (b : Bool) (x : ℕ) (t : Ty) → b ≡ is_free_ty x t → IsTrue b ↔ (TyAvoids x t → ⊥)
is_free_ty_told b x t e = told b (is_free_ty x t) (avoids_ty_sound x 0 t) (avoids_ty_complete x 0 t) e
