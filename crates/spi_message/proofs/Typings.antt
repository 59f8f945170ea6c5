-- Typing over shared terms is typing in each environment that the numbers stand for.
use Rattle.std.proofs.Common.{◌≡◌, ℕ, zero, suc, ◌-◌, ◌<◌, ◌≤◌, Bool, true, false, ◌==◌, List, [], ◌∷◌, ◌++◌, Option, Some, None, length, refl, sym, ap, subst, ◌∙◌, arith, ⊎_elim, ◌⊎◌, inl, inr}
use Rattle.std.specs.Prelude.{slice_get, nat_lt, if◌then◌else◌, ⊤}
use Rattle.std.proofs.lemmas.Bool.{lt-ltb, le-ltb, ne_eqb, eqb-true, cases_lt}
use Rattle.spi_term.specs.Term.{Message, bound, name, unit, pair, in_left, in_right, enc, hash, Effect, Ty}
use Rattle.spi_term.specs.Substitution.{message_map, put, ty_map, ty_put}
use Rattle.spi_term.specs.Names.{MessageOver}
use Rattle.spi_term.specs.Lists.{In}
use Rattle.spi_term.proofs.Terms.{put_closed, put_here}
use Rattle.spi_term.proofs.Maps.{fixed_ty, joined_ty, each_ty}
use Rattle.spi_term.proofs.Lists.{get_last, length_more}
use Rattle.spi_rules.specs.Environment.{Env}
use Rattle.spi_rules.specs.Messages.{cast_of}
use Rattle.spi_rules.proofs.Good.{type_over}
use Rattle.spi_intern.specs.Meaning.{Means}
use Rattle.spi_intern.specs.declared.messages.MsgId.{MsgId}
use Rattle.spi_intern.specs.declared.types.TyId.{TyId}
use Rattle.spi_intern.specs.declared.store.Store.{Store}
use Rattle.spi_message.specs.Filling.{last_but, value_of, or_bound, fill, filled, FillsTy, AllStay}
use Rattle.spi_message.specs.Tests.{typed}
use Rattle.spi_message.proofs.Deciding.{typed_true}

-- a message that has a type has no loose index
no_casts : (e : Env) (m : Message) (fs : Effect) → In (cast_of m fs) [] → MessageOver (length e) 0 m
no_casts e m fs i = elim i [ ]

pub typed_stays : (e : Env) (m : Message) (t : Ty) → typed m e t ≡ true → (n : Message) (d : ℕ) → put n d m ≡ m
typed_stays e m t h n d = put_closed (length e) n d m (type_over (λ m fs i. no_casts e m fs i) (typed_true m e t h))

-- the last values
get_front : {A : Type 0} (xs : List A) (x : A) (i : ℕ) → i < length xs → slice_get (xs ++ x ∷ []) i ≡ slice_get xs i
get_front [] x i h = absurd (omega arith)
get_front (y ∷ xs) x zero h = refl
get_front (y ∷ xs) x (suc i) h = get_front xs x i (omega arith)

last_first : {A : Type 0} (xs : List A) (x : A) → last_but 0 (xs ++ x ∷ []) ≡ Some x
last_first xs x =
    (λ i. if nat_lt 0 (length_more xs x i) then slice_get (xs ++ x ∷ []) (length_more xs x i - 1) else None)
    ∙ ap (λ b. if b then slice_get (xs ++ x ∷ []) (suc (length xs) - 1) else None) (lt-ltb 0 (suc (length xs)) (omega arith))
    ∙ (let e : suc (length xs) - 1 ≡ length xs = omega arith in ap (slice_get (xs ++ x ∷ [])) e)
    ∙ get_last xs x

last_within : {A : Type 0} (k : ℕ) (xs : List A) → k < length xs → last_but k xs ≡ slice_get xs (length xs - suc k)
last_within k xs h = ap (λ b. if b then slice_get xs (length xs - suc k) else None) (lt-ltb k (length xs) h)

last_beyond : {A : Type 0} (k : ℕ) (xs : List A) → length xs ≤ k → last_but k xs ≡ None
last_beyond k xs h = ap (λ b. if b then slice_get xs (length xs - suc k) else None) (le-ltb k (length xs) h)

last_more : {A : Type 0} (j : ℕ) (xs : List A) (x : A) → last_but (suc j) (xs ++ x ∷ []) ≡ last_but j xs
last_more j xs x =
    ⊎_elim
    (λ h. last_within (suc j) (xs ++ x ∷ []) (omega (arith, length_more xs x)) ∙ (let e : length (xs ++ x ∷ []) - suc (suc j) ≡ length xs - suc j = omega (arith, length_more xs x) in ap (slice_get (xs ++ x ∷ [])) e) ∙ get_front xs x (length xs - suc j) (omega arith) ∙ sym (last_within j xs h))
    (λ h. last_beyond (suc j) (xs ++ x ∷ []) (omega (arith, length_more xs x)) ∙ sym (last_beyond j xs h))
    (cases_lt j (length xs))

last_in : {A : Type 0} (k : ℕ) (xs : List A) (x : A) → last_but k xs ≡ Some x → (i : ℕ) × (slice_get xs i ≡ Some x)
last_in k xs x = by (nat_lt k (length xs))
  where
    by : (b : Bool) → (if b then slice_get xs (length xs - suc k) else None) ≡ Some x → (i : ℕ) × (slice_get xs i ≡ Some x)
    by true e = (length xs - suc k, e)
    by false e = absurd cc

value_inside : {A : Type 0} (vs : List A) (d i : ℕ) → i < d → value_of vs d i ≡ None
value_inside vs d i h = ap (λ b. if b then None else last_but (i - d) vs) (lt-ltb i d h)

value_outside : {A : Type 0} (vs : List A) (d i : ℕ) → d ≤ i → value_of vs d i ≡ last_but (i - d) vs
value_outside vs d i h = ap (λ b. if b then None else last_but (i - d) vs) (le-ltb i d h)

put_bound : (a : Message) (k i : ℕ) → (i ≡ k → ⊥) → put a k (bound i) ≡ bound i
put_bound a k i h = ap (λ b. if b then a else bound i) (ne_eqb i k h)

-- a value that stays where another message is put
put_value : (vs : List Message) → AllStay vs → (a : Message) (k i j : ℕ) → (i ≡ k → ⊥) → put a k (or_bound i (last_but j vs)) ≡ or_bound i (last_but j vs)
put_value vs s a k i j h = by (last_but j vs) refl
  where
    by : (o : Option Message) → last_but j vs ≡ o → put a k (or_bound i o) ≡ or_bound i o
    by None e = put_bound a k i h
    by (Some v) e = let w = last_in j vs v e in s.at w.0 v w.1 a k

three_ways : (i k : ℕ) → (i < k) ⊎ ((i ≡ k) ⊎ (k < i))
three_ways i k = ⊎_elim inl (λ h. inr (⊎_elim (λ g. inr g) (λ g. inl (omega arith)) (cases_lt k i))) (cases_lt i k)

fill_index : (vs : List Message) → AllStay vs → (a : Message) (k i : ℕ) → put a k (or_bound i (value_of vs (suc k) i)) ≡ or_bound i (value_of (vs ++ a ∷ []) k i)
fill_index vs s a k i =
    ⊎_elim
    (λ h. ap (λ o. put a k (or_bound i o)) (value_inside vs (suc k) i (omega arith)) ∙ put_bound a k i (λ e. omega arith) ∙ ap (or_bound i) (sym (value_inside (vs ++ a ∷ []) k i h)))
    (λ g. ⊎_elim
    (λ e. ap (λ o. put a k (or_bound i o)) (value_inside vs (suc k) i (omega arith)) ∙ ap (λ j. put a k (bound j)) e ∙ put_here a k ∙ ap (or_bound i) (sym (value_outside (vs ++ a ∷ []) k i (omega arith) ∙ (let z : i - k ≡ 0 = omega arith in ap (λ j. last_but j (vs ++ a ∷ [])) z) ∙ last_first vs a)))
    (λ h. ap (λ o. put a k (or_bound i o)) (value_outside vs (suc k) i (omega arith)) ∙ put_value vs s a k i (i - suc k) (λ e. omega arith) ∙ ap (or_bound i) (sym (value_outside (vs ++ a ∷ []) k i (omega arith) ∙ (let z : i - k ≡ suc (i - suc k) = omega arith in ap (λ j. last_but j (vs ++ a ∷ [])) z) ∙ last_more (i - suc k) vs a)))
    g)
    (three_ways i k)

pub put_fill : (vs : List Message) → AllStay vs → (a : Message) (k : ℕ) (m : Message) → put a k (fill vs (suc k) m) ≡ fill (vs ++ a ∷ []) k m
put_fill vs s a k (bound i) = fill_index vs s a k i
put_fill vs s a k (name x) = refl
put_fill vs s a k unit = refl
put_fill vs s a k (pair m n) = λ i. pair (put_fill vs s a k m i) (put_fill vs s a k n i)
put_fill vs s a k (in_left m) = ap in_left (put_fill vs s a k m)
put_fill vs s a k (in_right m) = ap in_right (put_fill vs s a k m)
put_fill vs s a k (enc m n) = λ i. enc (put_fill vs s a k m i) (put_fill vs s a k n i)
put_fill vs s a k (hash m) = ap hash (put_fill vs s a k m)

-- one more value is put into what the others have filled under a binder
pub put_filled : (vs : List Message) → AllStay vs → (a : Message) (t : Ty) → ty_put a (ty_map (fill vs) 1 t) ≡ filled (vs ++ a ∷ []) t
put_filled vs s a t =
    joined_ty (put a) (fill vs) (fill (vs ++ a ∷ [])) (λ d m. ⊤) 1 0 (λ d c e p q m u. let z : c ≡ suc d = omega arith in subst (λ k. put a d (fill vs k m) ≡ fill (vs ++ a ∷ []) d m) (sym z) (put_fill vs s a d m)) 0 1 0 refl refl t (each_ty (λ d m. ⊤) (λ d m. tt) 0 t)

-- a message in which each index stays
pub stays_mapped : (f : ℕ → Message) → ((i : ℕ) → f i ≡ bound i) → (m : Message) → message_map f name m ≡ m
stays_mapped f h (bound i) = h i
stays_mapped f h (name x) = refl
stays_mapped f h unit = refl
stays_mapped f h (pair m n) = λ i. pair (stays_mapped f h m i) (stays_mapped f h n i)
stays_mapped f h (in_left m) = ap in_left (stays_mapped f h m)
stays_mapped f h (in_right m) = ap in_right (stays_mapped f h m)
stays_mapped f h (enc m n) = λ i. enc (stays_mapped f h m i) (stays_mapped f h n i)
stays_mapped f h (hash m) = ap hash (stays_mapped f h m)

-- without values nothing changes, and one value is put for the one binder
fill_none : (d : ℕ) (m : Message) → fill [] d m ≡ m
fill_none d m = stays_mapped (λ i. or_bound i (value_of [] d i)) (λ i. by i (nat_lt i d)) m
  where
    by : (i : ℕ) (b : Bool) → or_bound i (if b then None else last_but (i - d) []) ≡ bound i
    by i true = refl
    by i false = ap (or_bound i) (last_beyond {A = Message} (i - d) [] (omega arith))

pub filled_none : (t : Ty) → filled [] t ≡ t
filled_none t = fixed_ty (fill []) fill_none 0 t

pub fills_none : (s : Store) (vs : List MsgId) (depth : ℕ) (t : TyId) → true ≡ (length vs == 0) → FillsTy s s vs depth t t
fills_none s [] depth t e = record { at = λ d u h m. subst (Means s t.place) (sym (fixed_ty (fill []) fill_none d u)) m }
fills_none s (v ∷ vs) depth t e = let n : length (v ∷ vs) ≡ 0 = eqb-true (length (v ∷ vs)) 0 (sym e) in absurd (omega arith)

pub none_stay : AllStay []
none_stay = record { at = λ i v e. absurd cc }

pub filled_one : (a : Message) (t : Ty) → filled (a ∷ []) t ≡ ty_put a t
filled_one a t = sym (put_filled [] none_stay a t) ∙ ap (ty_put a) (fixed_ty (fill []) fill_none 1 t)

pub stay_push : (vs : List Message) (a : Message) → AllStay vs → ((n : Message) (d : ℕ) → put n d a ≡ a) → AllStay (vs ++ a ∷ [])
stay_push vs a s h = record { at = at vs s.at }
  where
    at : (us : List Message) → ((i : ℕ) (v : Message) → slice_get us i ≡ Some v → (n : Message) (d : ℕ) → put n d v ≡ v) → (i : ℕ) (v : Message) → slice_get (us ++ a ∷ []) i ≡ Some v → (n : Message) (d : ℕ) → put n d v ≡ v
    at [] f zero v e n d = let q : a ≡ v = cc in subst (λ w. put n d w ≡ w) q (h n d)
    at [] f (suc i) v e n d = absurd cc
    at (u ∷ us) f zero v e n d = f zero v e n d
    at (u ∷ us) f (suc i) v e n d = at us (λ j. f (suc j)) i v e n d
