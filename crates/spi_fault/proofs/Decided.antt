-- Each check passes at a node, or fails there.
use Rattle.std.proofs.Common.{◌≡◌, ◌⊎◌, ◌↔◌, inl, inr, ⊎_elim, refl, sym, ap, ◌∙◌, subst, ℕ, zero, suc, ◌+◌, ◌<◌, ◌≤◌, Bool, true, false, [], ◌∷◌, length, Option, Some, None, arith}
use Rattle.std.specs.Prelude.{slice_get}
use Rattle.std.proofs.lemmas.Bool.{cases_Bool, cases_lt, false≢true}
use Rattle.spi_term.specs.Lists.{In}
use Rattle.spi_term.specs.Names.{Avoids, EffectAvoids, ProcessOver}
use Rattle.spi_term.specs.Term.{Message, name, Atom, checks, Effect, Ty, un, key, nonce, Process}
use Rattle.spi_term.proofs.Lists.{get_at, at_get}
use Rattle.spi_effect.specs.Effect.{IsMany, IsDifference}
use Rattle.spi_effect.specs.Made.{are_many, minus, mentions}
use Rattle.spi_effect.proofs.Laws.{OfEffect_in, AllMany_in}
use Rattle.spi_effect.proofs.Made.{minus_difference, are_many_sound, are_many_complete, mentions_sound, mentions_complete}
use Rattle.spi_rules.specs.Environment.{Env}
use Rattle.spi_rules.specs.Messages.{HasType, IsLabel}
use Rattle.spi_rules.specs.Good.{GoodTy}
use Rattle.spi_rules.specs.Processes.{IsGenerative, IsNonce, nonce_name, nonce_cast}
use Rattle.spi_rules.specs.Blocking.{HasSome, Child}
use Rattle.spi_message.specs.Tests.{is_un, nonce_in, typed, labelled, good, nonce_of}
use Rattle.spi_message.specs.Forms.{is_nonce}
use Rattle.spi_message.proofs.Tested.{nonce_there as nonce_type_of}
use Rattle.spi_message.proofs.Deciding.{is_un_true, is_un_from, typed_true, typed_from, labelled_true, labelled_from, good_true, good_from, nonce_sound, nonce_complete}
use Rattle.spi_fault.specs.Checks as C
use Rattle.spi_fault.specs.Passing.{IsCastable, HasLeastBehind, HasBoundName, Passes, Spoils, not_many, escapes, unchecked}
use Rattle.spi_fault.specs.Trying.{IsAskedOf}
use Rattle.spi_fault.proofs.Children.{has_least, follows_in, follows_within, less_in}
use Rattle.spi_fault.proofs.Passed.{many_when, stays_out, made_out}

abbrev pub Decided : Type 0 → Type 0
Decided P = P ⊎ (P → ⊥)

typed_or : (e : Env) (m : Message) (t : Ty) → Decided (HasType [] e m t)
typed_or e m t =
    ⊎_elim (λ (h : typed m e t ≡ true). inl (typed_true m e t h)) (λ (h : typed m e t ≡ false). inr (λ k. false≢true (sym h ∙ typed_from k))) (cases_Bool (typed m e t))

label_or : (e : Env) (m : Message) → Decided (IsLabel [] e m)
label_or e m =
    ⊎_elim (λ (h : labelled m e ≡ true). inl (labelled_true m e h)) (λ (h : labelled m e ≡ false). inr (λ k. false≢true (sym h ∙ labelled_from k))) (cases_Bool (labelled m e))

good_or : (e : Env) (t : Ty) → Decided (GoodTy [] e t)
good_or e t =
    ⊎_elim (λ (h : good e t ≡ true). inl (good_true e t h)) (λ (h : good e t ≡ false). inr (λ k. false≢true (sym h ∙ good_from e t k))) (cases_Bool (good e t))

un_or : (t : Ty) → Decided (t ≡ un)
un_or t =
    ⊎_elim (λ (h : is_un t ≡ true). inl (is_un_true t h)) (λ (h : is_un t ≡ false). inr (λ k. false≢true (sym h ∙ is_un_from t k))) (cases_Bool (is_un t))

both_or : {P Q : Type 0} → Decided P → Decided Q → Decided (P × Q)
both_or (inl p) (inl q) = inl (p, q)
both_or (inl p) (inr n) = inr (λ z. n z.1)
both_or (inr n) d = inr (λ z. n z.0)

three_or : {P Q R : Type 0} → Decided P → Decided Q → Decided R → Decided (P × Q × R)
three_or (inl p) (inl q) (inl r) = inl (p, q, r)
three_or (inl p) (inl q) (inr n) = inr (λ z. n z.2)
three_or (inl p) (inr n) d = inr (λ z. n z.1)
three_or (inr n) d e = inr (λ z. n z.0)

either_or : {P Q : Type 0} → Decided P → Decided Q → Decided (P ⊎ Q)
either_or (inl p) d = inl (inl p)
either_or (inr n) (inl q) = inl (inr q)
either_or (inr n) (inr m) = inr (λ z. ⊎_elim n m z)

generative_or : (t : Ty) → Decided (IsGenerative t)
generative_or un = inl tt
generative_or (key t) = inl tt
generative_or _ = inr (λ z. z)

castable_or : (t : Ty) → Decided (IsCastable t)
castable_or un = inl tt
castable_or (nonce es) = inl tt
castable_or _ = inr (λ z. z)

-- names of a Nonce type
nonce_when : (e : Env) (m : Message) (o : Option Effect) → nonce_of e m ≡ o → Decided ((fs : Effect) × IsNonce [] e m fs)
nonce_when e m None h = inr (λ z. absurd (let f : None ≡ Some z.0 = sym h ∙ nonce_complete z.1 in cc f))
nonce_when e m (Some fs) h = inl (fs, nonce_sound e m fs h)

pub nonce_or : (e : Env) (m : Message) → Decided ((fs : Effect) × IsNonce [] e m fs)
nonce_or e m = nonce_when e m (nonce_of e m) refl

-- what a lookup tells
abbrev pub NonceName : Env → Message → Type 0
NonceName e m = (fs : Effect) × IsNonce [] e m fs

name_told : {e : Env} {x : ℕ} {fs : Effect} → IsNonce [] e (name x) fs → slice_get e x ≡ Some (nonce fs)
name_told (nonce_name a) = at_get a
name_told (nonce_cast i) = elim i [ ]

pub nonce_there : (e : Env) (x : ℕ) (t : Ty) (b : Bool) → slice_get e x ≡ Some t → b ≡ is_nonce (nonce_in (Some t)) → (b ≡ true) ↔ NonceName e (name x)
nonce_there e x t b at h = (
  λ y. let z = nonce_type_of t (sym h ∙ y) in (z.0, nonce_name (get_at e x (at ∙ ap Some z.1))),
  λ z. h ∙ ap (λ o. is_nonce (nonce_in o)) (sym at ∙ name_told z.1),
)

pub none_past : (e : Env) (x : ℕ) → length e ≤ x → NonceName e (name x) → ⊥
none_past e x l z = past e x _ l (name_told z.1)
  where
    past : (e : Env) (x : ℕ) (t : Ty) → length e ≤ x → slice_get e x ≡ Some t → ⊥
    past [] x t l h = absurd (cc h)
    past (s ∷ e) zero t l h = absurd (omega (arith, l))
    past (s ∷ e) (suc x) t l h = past e x t (omega (arith, l)) h

-- effects
abbrev pub EffectIsOut : ℕ → ℕ → Effect → Type 0
EffectIsOut n k es = (x : ℕ) → n ≤ x → x < n + k → EffectAvoids x es

avoids_or : (x : ℕ) (es : Effect) → Decided (EffectAvoids x es)
avoids_or x es =
    ⊎_elim (λ (h : mentions x es ≡ true). inr (λ a. false≢true (sym (mentions_complete x es a) ∙ h))) (λ (h : mentions x es ≡ false). inl (mentions_sound x es h)) (cases_Bool (mentions x es))

out_at : (n k : ℕ) (es : Effect) → EffectAvoids (n + k) es → EffectIsOut n k es → EffectIsOut n (suc k) es
out_at n k es a o x low high =
    ⊎_elim (λ (l : x < n + k). o x low l) (λ (g : n + k ≤ x). let e : n + k ≡ x = omega (arith, g, high) in subst (λ x. EffectAvoids x es) e a) (cases_lt x (n + k))

out_or : (n k : ℕ) (es : Effect) → Decided (EffectIsOut n k es)
out_or n zero es = inl (λ x low high. absurd (omega (arith, low, high)))
out_or n (suc k) es = step (avoids_or (n + k) es) (out_or n k es)
  where
    step : Decided (EffectAvoids (n + k) es) → Decided (EffectIsOut n k es) → Decided (EffectIsOut n (suc k) es)
    step (inr f) d = inr (λ o. f (o (n + k) (let z : n ≤ n + k = omega arith in z) (let z : n + k < n + suc k = omega arith in z)))
    step (inl a) (inr f) = inr (λ o. f (λ x low high. o x low (let z : x < n + suc k = omega (arith, high) in z)))
    step (inl a) (inl o) = inl (out_at n k es a o)

pub spoils_served : {env : Env} {p : Process} {i : ℕ} {es : Effect} {a : Atom} → HasLeastBehind env p i es → Spoils env p (C.served i) a → In a es × (IsMany a → ⊥)
spoils_served f (not_many g i b) = (follows_in g f i, b)

pub spoils_stays : {env : Env} {p : Process} {k i : ℕ} {es : Effect} {a : Atom} → HasLeastBehind env p i es → Spoils env p (C.stays k i) a → In a es × HasBoundName (length env) k a
spoils_stays f (escapes g i b) = (follows_in g f i, b)

pub spoils_made : {env : Env} {p : Process} {i : ℕ} {es ds : Effect} {a : Atom} → HasLeastBehind env p i es → IsDifference ds es (checks (name (length env)) ∷ []) → Spoils env p (C.made i) a → In a ds × HasBoundName (length env) 1 a
spoils_made f d (unchecked g c i b) = (less_in c d (follows_within g f) i, b)

served_or : {env : Env} {p : Process} {i : ℕ} (es : Effect) → HasLeastBehind env p i es → Decided (Passes env p (C.served i))
served_or {env} {p} {i} es f =
    ⊎_elim (λ (h : are_many es ≡ true). inl (λ a s. let z = spoils_served f s in z.1 (AllMany_in z.0 (are_many_sound es h)))) (λ (h : are_many es ≡ false). inr (λ pass. false≢true (sym h ∙ are_many_complete es (many_when es (λ a i g. pass a (not_many f i g)))))) (cases_Bool (are_many es))

free_of : {es : Effect} {a : Atom} (n k : ℕ) → In a es → HasBoundName n k a → EffectIsOut n k es → ⊥
free_of n k i b o = b.3 (OfEffect_in (Avoids b.0) i (o b.0 b.1 b.2))

stays_or : {env : Env} {p : Process} {i : ℕ} (k : ℕ) (es : Effect) → HasLeastBehind env p i es → Decided (Passes env p (C.stays k i))
stays_or {env} {p} {i} k es f = step (out_or (length env) k es)
  where
    step : Decided (EffectIsOut (length env) k es) → Decided (Passes env p (C.stays k i))
    step (inl o) = inl (λ a s. let z = spoils_stays f s in free_of (length env) k z.0 z.1 o)
    step (inr g) = inr (λ pass. g (λ x low high. stays_out f pass x low high))

made_or : {env : Env} {p : Process} {i : ℕ} (es : Effect) → HasLeastBehind env p i es → Decided (Passes env p (C.made i))
made_or {env} {p} {i} es f = step (out_or (length env) 1 ds)
  where
    ds : Effect
    ds = minus es (checks (name (length env)) ∷ [])

    off : IsDifference ds es (checks (name (length env)) ∷ [])
    off = minus_difference es (checks (name (length env)) ∷ [])

    step : Decided (EffectIsOut (length env) 1 ds) → Decided (Passes env p (C.made i))
    step (inl o) = inl (λ a s. let z = spoils_made f off s in free_of (length env) 1 z.0 z.1 o)
    step (inr g) = inr (λ pass. g (λ x low high. made_out f off pass x low high))

module _ (env : Env) (p : Process) (over : ProcessOver (length env) p) (kids : (i : ℕ) (e : Env) (q : Process) → Child env p i e q → HasSome e q) where
  pub follows : (i : ℕ) → ((e : Env) × (q : Process) × Child env p i e q) → (es : Effect) × HasLeastBehind env p i es
  follows i (e, q, c) = let l = has_least over c (kids i e q c) in (l.0, record { inner = e; process = q; child = c; least = l.1 })

  pub decided : (c : C.Check) → IsAskedOf env p c → Decided (Passes env p c)
  decided (C.channel m) a = typed_or env m un
  decided (C.datum m) a = typed_or env m un
  decided (C.untrusted t) a = un_or t
  decided (C.good t) a = good_or env t
  decided (C.scrutinee m s t u) a = either_or (typed_or env m s) (three_or (typed_or env m un) (un_or t) (un_or u))
  decided (C.sealed m) a = typed_or env m un
  decided (C.first m t) a = typed_or env m t
  decided (C.key_of m t) a = either_or (typed_or env m (key t)) (both_or (typed_or env m un) (un_or t))
  decided (C.nonce_of m) a = either_or (nonce_or env m) (typed_or env m un)
  decided (C.label m) a = label_or env m
  decided (C.generative t) a = generative_or t
  decided (C.castable t) a = castable_or t
  decided (C.served i) a = let f = follows i a in served_or f.0 f.1
  decided (C.stays k i) a = let f = follows i a in stays_or k f.0 f.1
  decided (C.made i) a = let f = follows i a in made_or f.0 f.1
