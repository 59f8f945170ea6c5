-- The first part that lacks what is asked: there is one exactly where the answer is no, and only one.
use Rattle.std.proofs.Common.{◌≡◌, refl, sym, ap, subst, ℕ, zero, suc, ◌<◌, ◌⊎◌, inl, inr, ⊎_elim, Bool, true, false, List, [], ◌∷◌, length, arith}
use Rattle.std.proofs.lemmas.Bool.{false≢true, cases_order}
use Rattle.spi_term.specs.Lists.{At, at_first, at_later}
use Rattle.spi_term.proofs.Lists.{at_unique}
use Rattle.spi_term.specs.SameTy.{SameTy}
use Rattle.spi_term.specs.Tests.{same_ty}
use Rattle.spi_term.specs.Term.{Message, bound, name, unit, pair, in_left, in_right, enc, hash, Ty, un, unit_ty, pair_ty, sum_ty, key, nonce}
use Rattle.spi_term.specs.Substitution.{ty_put}
use Rattle.spi_term.specs.Names.{MessageOver}
use Rattle.spi_effect.proofs.Made.{same_sound, same_complete}
use Rattle.spi_term.proofs.Counting.{same_ty_refl}
use Rattle.spi_rules.specs.Environment.{Env}
use Rattle.spi_rules.specs.Messages.{HasType, msg_name, msg_unit, msg_unit_un, msg_pair, msg_pair_un, msg_inl, msg_inl_un, msg_inr, msg_inr_un, msg_enc, msg_enc_un, msg_hash, msg_cast, IsLabel, label_name, label_unit, label_pair, label_inl, label_inr, label_enc, label_hash}
use Rattle.spi_blame.specs.Blaming.{Question, typed, labelled, AnswersYes, subject, IsKeyName, Asks, asks_name, asks_unit, asks_unit_un, asks_pair, asks_pair_un, asks_left, asks_left_un, asks_right, asks_right_un, asks_key, asks_enc, asks_hash, asks_label_name, asks_label_unit, asks_label_pair, asks_label_left, asks_label_right, asks_label_key, asks_label_enc, asks_label_hash, IsMisfit, EachHolds, HoldBefore, Blamed, itself, inside}
use Rattle.spi_blame.specs.Paths.{Reaches, reaches_itself, reaches_inside, IsLeftOf, turns_here, turns_further, ChildAt, child_first, child_second, child_left, child_right, child_body, child_key, child_hash, PartAt, part_whole, part_inside}
use Rattle.spi_blame.specs.Reasons.{MayHaveType, IsUnscoped, loose, unknown, Reason, mismatched, unscoped, Mismatch, has_other, never_has}

key_named : {env : Env} {x : ℕ} {t : Ty} → At env x (key t) → IsKeyName env (name x)
key_named {env} {x} {t} a = record { number = x; payload = t; is = refl; has = a }

-- the name of a Key type has one payload
payload_one : {env : Env} {x : ℕ} {t u : Ty} → At env x (key t) → At env x (key u) → t ≡ u
payload_one {t = t} {u = u} a b = let e : key t ≡ key u = at_unique a b in cc

-- of a ciphertext the same is asked where it is to be a label and where it is to be Un
as_un : {env : Env} {m n : Message} {qs : List Question} → Asks env (labelled (enc m n)) qs → Asks env (typed (enc m n) un) qs
as_un (asks_label_key a) = asks_key a
as_un (asks_label_enc n) = asks_enc n

sealed_one : {env : Env} {m n : Message} {qs rs : List Question} → Asks env (typed (enc m n) un) qs → Asks env (typed (enc m n) un) rs → qs ≡ rs
sealed_one (asks_key {m} {x} a) (asks_key b) = ap (λ v. typed (name x) (key v) ∷ typed m v ∷ []) (payload_one a b)
sealed_one (asks_key a) (asks_enc n) = absurd (n (key_named a))
sealed_one (asks_enc n) (asks_key a) = absurd (n (key_named a))
sealed_one (asks_enc n) (asks_enc k) = refl

-- a question comes down to one list
pub asks_one : {env : Env} {q : Question} {qs rs : List Question} → Asks env q qs → Asks env q rs → qs ≡ rs
asks_one (asks_name a s) (asks_name b z) = refl
asks_one asks_unit asks_unit = refl
asks_one asks_unit_un asks_unit_un = refl
asks_one asks_pair asks_pair = refl
asks_one asks_pair_un asks_pair_un = refl
asks_one asks_left asks_left = refl
asks_one asks_left_un asks_left_un = refl
asks_one asks_right asks_right = refl
asks_one asks_right_un asks_right_un = refl
asks_one (asks_key a) h = sealed_one (asks_key a) h
asks_one (asks_enc n) h = sealed_one (asks_enc n) h
asks_one asks_hash asks_hash = refl
asks_one (asks_label_name a) (asks_label_name b) = refl
asks_one asks_label_unit asks_label_unit = refl
asks_one asks_label_pair asks_label_pair = refl
asks_one asks_label_left asks_label_left = refl
asks_one asks_label_right asks_label_right = refl
asks_one (asks_label_key a) h = sealed_one (asks_key a) (as_un h)
asks_one (asks_label_enc n) h = sealed_one (asks_enc n) (as_un h)
asks_one asks_label_hash asks_label_hash = refl

pub each_none : (env : Env) → EachHolds env []
each_none env i r a = elim a [ ]

pub each_more : (env : Env) (q : Question) {qs : List Question} → AnswersYes env q → EachHolds env qs → EachHolds env (q ∷ qs)
each_more env q {qs} h f i r a = at a
  where
    at : {i : ℕ} {r : Question} → At (q ∷ qs) i r → AnswersYes env r
    at at_first = h
    at (at_later {x = x} {i = i} b) = f i x b

-- where those hold, it does
pub asks_holds : {env : Env} {q : Question} {qs : List Question} → Asks env q qs → EachHolds env qs → AnswersYes env q
asks_holds (asks_name a s) h = msg_name a s
asks_holds asks_unit h = msg_unit
asks_holds asks_unit_un h = msg_unit_un
asks_holds asks_pair h = msg_pair (h 0 _ at_first) (h 1 _ (at_later at_first))
asks_holds asks_pair_un h = msg_pair_un (h 0 _ at_first) (h 1 _ (at_later at_first))
asks_holds asks_left h = msg_inl (h 0 _ at_first)
asks_holds asks_left_un h = msg_inl_un (h 0 _ at_first)
asks_holds asks_right h = msg_inr (h 0 _ at_first)
asks_holds asks_right_un h = msg_inr_un (h 0 _ at_first)
asks_holds (asks_key a) h = msg_enc (h 1 _ (at_later at_first)) a
asks_holds (asks_enc n) h = msg_enc_un (h 1 _ (at_later at_first)) (h 0 _ at_first)
asks_holds asks_hash h = msg_hash (h 0 _ at_first)
asks_holds (asks_label_name a) h = label_name a
asks_holds asks_label_unit h = label_unit
asks_holds asks_label_pair h = label_pair (h 0 _ at_first) (h 1 _ (at_later at_first))
asks_holds asks_label_left h = label_inl (h 0 _ at_first)
asks_holds asks_label_right h = label_inr (h 0 _ at_first)
asks_holds (asks_label_key a) h = label_enc (msg_enc (h 1 _ (at_later at_first)) a)
asks_holds (asks_label_enc n) h = label_enc (msg_enc_un (h 1 _ (at_later at_first)) (h 0 _ at_first))
asks_holds asks_label_hash h = label_hash (h 0 _ at_first)

-- where it holds, some row is for it, and they do
abbrev pub Down : Env → Question → Type 0
Down env q = (qs : List Question) × Asks env q qs × EachHolds env qs

down_none : {env : Env} {q : Question} → Asks env q [] → Down env q
down_none k = ([], k, each_none _)

down_one : {env : Env} {q a : Question} → Asks env q (a ∷ []) → AnswersYes env a → Down env q
down_one {a = a} k h = (a ∷ [], k, each_more _ a h (each_none _))

down_two : {env : Env} {q a b : Question} → Asks env q (a ∷ b ∷ []) → AnswersYes env a → AnswersYes env b → Down env q
down_two {a = a} {b} k h j = (a ∷ b ∷ [], k, each_more _ a h (each_more _ b j (each_none _)))

-- a name of a Key type has that type
pub key_typed : {env : Env} {x : ℕ} {t : Ty} → At env x (key t) → HasType [] env (name x) (key t)
key_typed {t = t} a = msg_name a (same_ty_refl (key t))

pub no_key : {env : Env} {n : Message} → HasType [] env n un → IsKeyName env n → ⊥
no_key {env} {n} h k = at_name (subst (λ v. HasType [] env v un) k.is h) k.has
  where
    no_same : {s t : Ty} → key t ≡ s → SameTy s un → ⊥
    no_same e q = elim (subst (λ v. SameTy v un) (sym e) q) [ ]

    at_name : {x : ℕ} {t : Ty} → HasType [] env (name x) un → At env x (key t) → ⊥
    at_name (msg_name b q) a = no_same (at_unique a b) q
    at_name (msg_cast i s) a = elim i [ ]

typed_asks : {env : Env} {m : Message} {t : Ty} → HasType [] env m t → Down env (typed m t)
typed_asks (msg_name a s) = down_none (asks_name a s)
typed_asks msg_unit = down_none asks_unit
typed_asks msg_unit_un = down_none asks_unit_un
typed_asks (msg_pair h k) = down_two asks_pair h k
typed_asks (msg_pair_un h k) = down_two asks_pair_un h k
typed_asks (msg_inl h) = down_one asks_left h
typed_asks (msg_inl_un h) = down_one asks_left_un h
typed_asks (msg_inr h) = down_one asks_right h
typed_asks (msg_inr_un h) = down_one asks_right_un h
typed_asks (msg_enc h a) = down_two (asks_key a) (key_typed a) h
typed_asks (msg_enc_un h k) = down_two (asks_enc (no_key k)) k h
typed_asks (msg_hash l) = down_one asks_hash l
typed_asks (msg_cast i s) = elim i [ ]

label_asks : {env : Env} {m : Message} → IsLabel [] env m → Down env (labelled m)
label_asks (label_name a) = down_none (asks_label_name a)
label_asks label_unit = down_none asks_label_unit
label_asks (label_pair h k) = down_two asks_label_pair h k
label_asks (label_inl h) = down_one asks_label_left h
label_asks (label_inr h) = down_one asks_label_right h
label_asks (label_enc h) = enc_asks h
  where
    enc_asks : {env : Env} {m n : Message} → HasType [] env (enc m n) un → Down env (labelled (enc m n))
    enc_asks (msg_enc h a) = down_two (asks_label_key a) (key_typed a) h
    enc_asks (msg_enc_un h k) = down_two (asks_label_enc (no_key k)) k h
    enc_asks (msg_cast i s) = elim i [ ]
label_asks (label_hash h) = down_one asks_label_hash h

pub holds_asks : {env : Env} (q : Question) → AnswersYes env q → Down env q
holds_asks (typed m t) h = typed_asks h
holds_asks (labelled m) h = label_asks h

neither : (i j : ℕ) → (i < j → ⊥) → (j < i → ⊥) → i ≡ j
neither i j f g = elim (cases_order i j) [ inl e ↦ e | inr r ↦ elim r [ inl l ↦ absurd (f l) | inr l ↦ absurd (g l) ] ]

-- not both
pub blamed_no : {env : Env} {q r : Question} {path : List ℕ} → Blamed env q path r → AnswersYes env q → ⊥
blamed_no (itself {q} n) h = let (qs, k, each) = holds_asks q h in n qs k
blamed_no {env} (inside {q} {r = r} {i = i} k a f b) h = let (qs, j, each) = holds_asks q h in blamed_no b (subst (λ l. EachHolds env l) (asks_one j k) each i r a)

-- only one
pub blamed_unique : {env : Env} {q r s : Question} {p o : List ℕ} → Blamed env q p r → Blamed env q o s → (p ≡ o) × (r ≡ s)
blamed_unique (itself n) (itself k) = (refl, refl)
blamed_unique (itself n) (inside k a f b) = absurd (n _ k)
blamed_unique (inside k a f b) (itself n) = absurd (n _ k)
blamed_unique {env} {r = s} {s = z} (inside {r = r} {qs = qs} {i = i} {path = p} k a f b) (inside {r = w} {qs = rs} {i = j} {path = o} k' a' f' b') =
    let e : rs ≡ qs = asks_one k' k in
    let at : At qs j w = subst (λ l. At l j w) e a' in
    let early : j < i → ⊥ = λ lt. blamed_no b' (f j w lt at) in
    let late : i < j → ⊥ = λ lt. blamed_no b (f' i r lt (subst (λ l. At l i r) (sym e) a)) in
    let same : i ≡ j = neither i j late early in
    let rw_is : w ≡ r = at_unique (subst (λ n. At qs n w) (sym same) at) a in
    let (x, y) = blamed_unique b (subst (λ v. Blamed env v o z) rw_is b') in
    (cc, y)

-- one of them
pub data BlameAnswer (env : Env) (q : Question) : Type 0 where
  yes : AnswersYes env q → BlameAnswer env q
  no : {path : List ℕ} {r : Question} → Blamed env q path r → BlameAnswer env q

pub before_second : (env : Env) (a b : Question) → AnswersYes env a → HoldBefore env (a ∷ b ∷ []) 1
before_second env a b h j r lt at = go at lt
  where
    go : {j : ℕ} {r : Question} → At (a ∷ b ∷ []) j r → j < 1 → AnswersYes env r
    go at_first lt = h
    go (at_later i) lt = absurd (omega arith)

none : {env : Env} {q : Question} → Asks env q [] → BlameAnswer env q
none k = yes (asks_holds k (each_none _))

one : {env : Env} {q a : Question} → Asks env q (a ∷ []) → BlameAnswer env a → BlameAnswer env q
one {a = a} k (yes h) = yes (asks_holds k (each_more _ a h (each_none _)))
one k (no b) = no (inside k at_first (λ j r lt a. absurd (omega arith)) b)

two : {env : Env} {q a b : Question} → Asks env q (a ∷ b ∷ []) → BlameAnswer env a → BlameAnswer env b → BlameAnswer env q
two {a = a} {b} k (yes h) (yes j) = yes (asks_holds k (each_more _ a h (each_more _ b j (each_none _))))
two {env} {a = a} {b = b} k (yes h) (no d) = no (inside k (at_later at_first) (before_second env a b h) d)
two k (no b) _ = no (inside k at_first (λ j r lt a. absurd (omega arith)) b)

abbrev Looked : Env → ℕ → Type 0
Looked env x = ((s : Ty) × At env x s) ⊎ ((s : Ty) → At env x s → ⊥)

look : (env : Env) (x : ℕ) → Looked env x
look [] x = inr (λ s a. elim a [ ])
look (t ∷ env) zero = inl (t, at_first)
look (t ∷ env) (suc x) = ⊎_elim (λ h. inl (h.0, at_later h.1)) (λ n. inr (λ s a. n s (earlier a))) (look env x)
  where
    earlier : {s : Ty} → At (t ∷ env) (suc x) s → At env x s
    earlier (at_later a) = a

same_or : (s t : Ty) → SameTy s t ⊎ (SameTy s t → ⊥)
same_or s t = by (same_ty s t) refl
  where
    by : (b : Bool) → same_ty s t ≡ b → SameTy s t ⊎ (SameTy s t → ⊥)
    by true e = inl (same_sound s t e)
    by false e = inr (λ q. false≢true (let f : same_ty s t ≡ true = same_complete q in cc))

abbrev HasTypedKey : Env → Message → Type 0
HasTypedKey env n = IsKeyName env n ⊎ (IsKeyName env n → ⊥)

key_or : (env : Env) (n : Message) → HasTypedKey env n
key_or env (name x) = ⊎_elim (λ h. of h.0 h.1) (λ n. inr (λ k. let e : x ≡ k.number = cc (k.is) in n (key k.payload) (subst (λ y. At env y (key k.payload)) (sym e) k.has))) (look env x)
  where
    other : {s : Ty} → At env x s → ((t : Ty) → key t ≡ s → ⊥) → HasTypedKey env (name x)
    other {s} a f = inr (λ k. let e : k.number ≡ x = cc (k.is) in f k.payload (at_unique (subst (λ y. At env y (key k.payload)) e k.has) a))

    of : (s : Ty) → At env x s → HasTypedKey env (name x)
    of (key t) a = inl (key_named a)
    of un a = other a (λ t e. absurd (cc (e)))
    of unit_ty a = other a (λ t e. absurd (cc (e)))
    of (pair_ty t u) a = other a (λ v e. absurd (cc (e)))
    of (sum_ty t u) a = other a (λ v e. absurd (cc (e)))
    of (nonce es) a = other a (λ v e. absurd (cc (e)))
key_or env (bound i) = inr (λ k. cc (k.is))
key_or env _ = inr (λ k. cc (k.is))

typed_key : {env : Env} {m n : Message} (k : IsKeyName env n) → Asks env (typed (enc m n) un) (typed (name k.number) (key k.payload) ∷ typed m (k.payload) ∷ [])
typed_key {env} {m} k = subst (λ n. Asks env (typed (enc m n) un) (typed (name k.number) (key k.payload) ∷ typed m (k.payload) ∷ [])) (sym k.is) (asks_key k.has)

label_key : {env : Env} {m n : Message} (k : IsKeyName env n) → Asks env (labelled (enc m n)) (typed (name k.number) (key k.payload) ∷ typed m (k.payload) ∷ [])
label_key {env} {m} k = subst (λ n. Asks env (labelled (enc m n)) (typed (name k.number) (key k.payload) ∷ typed m (k.payload) ∷ [])) (sym k.is) (asks_label_key k.has)

name_answer : (env : Env) (x : ℕ) (t : Ty) → BlameAnswer env (typed (name x) t)
name_answer env x t = ⊎_elim (λ h. ⊎_elim (λ s. none (asks_name h.1 s)) (λ n. no (itself (λ qs k. other h.1 n k))) (same_or h.0 t)) (λ n. no (itself (λ qs k. unknown n k))) (look env x)
  where
    other : {s : Ty} {qs : List Question} → At env x s → (SameTy s t → ⊥) → Asks env (typed (name x) t) qs → ⊥
    other a n (asks_name b q) = n (subst (λ v. SameTy v t) (at_unique b a) q)

    unknown : {qs : List Question} → ((s : Ty) → At env x s → ⊥) → Asks env (typed (name x) t) qs → ⊥
    unknown n (asks_name b q) = n _ b

label_answer : (env : Env) (x : ℕ) → BlameAnswer env (labelled (name x))
label_answer env x = ⊎_elim (λ h. none (asks_label_name h.1)) (λ n. no (itself (λ qs k. unknown n k))) (look env x)
  where
    unknown : {qs : List Question} → ((s : Ty) → At env x s → ⊥) → Asks env (labelled (name x)) qs → ⊥
    unknown n (asks_label_name b) = n _ b

-- a row is for a form that fits
pub asks_fits : {env : Env} {m : Message} {t : Ty} {qs : List Question} → Asks env (typed m t) qs → MayHaveType m t
asks_fits (asks_name a s) = tt
asks_fits _ = tt

mutual
  pub answer_typed : (env : Env) (m : Message) (t : Ty) → BlameAnswer env (typed m t)
  answer_typed env (name x) t = name_answer env x t
  answer_typed env (bound i) t = no (itself (λ qs k. elim k [ ]))
  answer_typed env unit un = none asks_unit_un
  answer_typed env unit unit_ty = none asks_unit
  answer_typed env (pair m n) un = two asks_pair_un (answer_typed env m un) (answer_typed env n un)
  answer_typed env (pair m n) (pair_ty t u) = two asks_pair (answer_typed env m t) (answer_typed env n (ty_put m u))
  answer_typed env (in_left m) un = one asks_left_un (answer_typed env m un)
  answer_typed env (in_left m) (sum_ty t u) = one asks_left (answer_typed env m t)
  answer_typed env (in_right m) un = one asks_right_un (answer_typed env m un)
  answer_typed env (in_right m) (sum_ty t u) = one asks_right (answer_typed env m u)
  answer_typed env (enc m n) un = ⊎_elim (λ k. two (typed_key k) (yes (key_typed k.has)) (answer_typed env m k.payload)) (λ f. two (asks_enc f) (answer_typed env n un) (answer_typed env m un)) (key_or env n)
  answer_typed env (hash m) un = one asks_hash (answer_label env m)
  answer_typed env _ _ = no (itself (λ qs k. asks_fits k))

  pub answer_label : (env : Env) (m : Message) → BlameAnswer env (labelled m)
  answer_label env (name x) = label_answer env x
  answer_label env (bound i) = no (itself (λ qs k. elim k [ ]))
  answer_label env unit = none asks_label_unit
  answer_label env (pair m n) = two asks_label_pair (answer_label env m) (answer_label env n)
  answer_label env (in_left m) = one asks_label_left (answer_label env m)
  answer_label env (in_right m) = one asks_label_right (answer_label env m)
  answer_label env (enc m n) = ⊎_elim (λ k. two (label_key k) (yes (key_typed k.has)) (answer_typed env m k.payload)) (λ f. two (asks_label_enc f) (answer_typed env n un) (answer_typed env m un)) (key_or env n)
  answer_label env (hash m) = one asks_label_hash (answer_label env m)

pub answer : (env : Env) (q : Question) → BlameAnswer env q
answer env (typed m t) = answer_typed env m t
answer env (labelled m) = answer_label env m

pub blamed_where_no : {env : Env} {q : Question} → (AnswersYes env q → ⊥) → (path : List ℕ) × (r : Question) × Blamed env q path r
blamed_where_no {env} {q} n = elim (answer env q) [ yes h ↦ absurd (n h) | no {path} {r} b ↦ (path, r, b) ]

-- what a question that holds comes down to holds
pub reached_holds : {env : Env} {q s : Question} {o : List ℕ} → Reaches env q o s → AnswersYes env q → AnswersYes env s
reached_holds reaches_itself h = h
reached_holds {env} (reaches_inside {q = q} {r = r} {i = i} k a d) h =
    let (rs, j, each) = holds_asks q h in reached_holds d (subst (λ l. EachHolds env l) (asks_one j k) each i r a)

-- the blamed one is the first that no row is for
pub blamed_reached : {env : Env} {q r : Question} {path : List ℕ} → Blamed env q path r → Reaches env q path r
blamed_reached (itself n) = reaches_itself
blamed_reached (inside k a f b) = reaches_inside k a (blamed_reached b)

pub blamed_misfit : {env : Env} {q r : Question} {path : List ℕ} → Blamed env q path r → IsMisfit env r
blamed_misfit (itself n) = n
blamed_misfit (inside k a f b) = blamed_misfit b

pub blamed_before : {env : Env} {q r s : Question} {path o : List ℕ} → Blamed env q path r → Reaches env q o s → IsLeftOf o path → AnswersYes env s
blamed_before (itself n) d l = elim l [ ]
blamed_before (inside k a f b) reaches_itself l = elim l [ ]
blamed_before {env} (inside {qs = qs} k a f b) (reaches_inside {r = w} {qs = rs} {i = j} k' a' d') (turns_here lt) =
    reached_holds d' (f j w lt (subst (λ l. At l j w) (asks_one k' k) a'))
blamed_before {env} {s = s} (inside {r = r} {qs = qs} {i = i} k a f b) (reaches_inside {r = w} {qs = rs} {path = o} k' a' d') (turns_further l) =
    let e : w ≡ r = at_unique (subst (λ l. At l i w) (asks_one k' k) a') a in
    blamed_before b (subst (λ v. Reaches env v o s) e d') l

pub first_blamed : {env : Env} {q r : Question} {path : List ℕ} → Reaches env q path r → IsMisfit env r → ((o : List ℕ) (s : Question) → Reaches env q o s → IsLeftOf o path → AnswersYes env s) → Blamed env q path r
first_blamed reaches_itself n f = itself n
first_blamed (reaches_inside {i = i} k a d) n f =
    inside k a (λ j w lt at. f (j ∷ []) w (reaches_inside k at reaches_itself) (turns_here lt))
    (first_blamed d n (λ o w e l. f (i ∷ o) w (reaches_inside k a e) (turns_further l)))

-- a path to a question is one to its part
no_child : {p : Message} {r : Question} {i : ℕ} → At [] i r → ChildAt p i (subject r)
no_child x = elim x [ ]

one_child : {p : Message} {a r : Question} {i : ℕ} → At (a ∷ []) i r → ChildAt p 0 (subject a) → ChildAt p i (subject r)
one_child at_first c = c
one_child (at_later x) c = elim x [ ]

two_children : {p : Message} {a b r : Question} {i : ℕ} → At (a ∷ b ∷ []) i r → ChildAt p 0 (subject a) → ChildAt p 1 (subject b) → ChildAt p i (subject r)
two_children at_first c d = c
two_children (at_later at_first) c d = d
two_children (at_later (at_later x)) c d = elim x [ ]

pub child_asked : {env : Env} {q r : Question} {qs : List Question} {i : ℕ} → Asks env q qs → At qs i r → ChildAt (subject q) i (subject r)
child_asked asks_pair a = two_children a child_first child_second
child_asked asks_pair_un a = two_children a child_first child_second
child_asked asks_left a = one_child a child_left
child_asked asks_left_un a = one_child a child_left
child_asked asks_right a = one_child a child_right
child_asked asks_right_un a = one_child a child_right
child_asked (asks_key b) a = two_children a child_key child_body
child_asked (asks_enc n) a = two_children a child_key child_body
child_asked asks_hash a = one_child a child_hash
child_asked asks_label_pair a = two_children a child_first child_second
child_asked asks_label_left a = one_child a child_left
child_asked asks_label_right a = one_child a child_right
child_asked (asks_label_key b) a = two_children a child_key child_body
child_asked (asks_label_enc n) a = two_children a child_key child_body
child_asked asks_label_hash a = one_child a child_hash
child_asked _ a = no_child a

pub reached_part : {env : Env} {q r : Question} {path : List ℕ} → Reaches env q path r → PartAt (subject q) path (subject r)
reached_part reaches_itself = part_whole
reached_part (reaches_inside k a d) = part_inside (child_asked k a) (reached_part d)

-- why no row is for a question
pub data BlameRow (env : Env) (q : Question) : Type 0 where
  some_row : {qs : List Question} → Asks env q qs → BlameRow env q
  no_row : Reason env q → BlameRow env q

name_row : (env : Env) (x : ℕ) (t : Ty) → BlameRow env (typed (name x) t)
name_row env x t = ⊎_elim (λ h. ⊎_elim (λ s. some_row (asks_name h.1 s)) (λ n. no_row (mismatched (has_other h.1 n))) (same_or h.0 t)) (λ n. no_row (unscoped (unknown n))) (look env x)

typed_row : (env : Env) (m : Message) (t : Ty) → BlameRow env (typed m t)
typed_row env (name x) t = name_row env x t
typed_row env (bound i) t = no_row (unscoped loose)
typed_row env unit un = some_row asks_unit_un
typed_row env unit unit_ty = some_row asks_unit
typed_row env (pair m n) un = some_row asks_pair_un
typed_row env (pair m n) (pair_ty t u) = some_row asks_pair
typed_row env (in_left m) un = some_row asks_left_un
typed_row env (in_left m) (sum_ty t u) = some_row asks_left
typed_row env (in_right m) un = some_row asks_right_un
typed_row env (in_right m) (sum_ty t u) = some_row asks_right
typed_row env (enc m n) un = ⊎_elim (λ k. some_row (typed_key k)) (λ f. some_row (asks_enc f)) (key_or env n)
typed_row env (hash m) un = some_row asks_hash
typed_row env _ _ = no_row (mismatched (never_has (λ f. f)))

label_row : (env : Env) (m : Message) → BlameRow env (labelled m)
label_row env (name x) = ⊎_elim (λ h. some_row (asks_label_name h.1)) (λ n. no_row (unscoped (unknown n))) (look env x)
label_row env (bound i) = no_row (unscoped loose)
label_row env unit = some_row asks_label_unit
label_row env (pair m n) = some_row asks_label_pair
label_row env (in_left m) = some_row asks_label_left
label_row env (in_right m) = some_row asks_label_right
label_row env (enc m n) = ⊎_elim (λ k. some_row (label_key k)) (λ f. some_row (asks_label_enc f)) (key_or env n)
label_row env (hash m) = some_row asks_label_hash

row : (env : Env) (q : Question) → BlameRow env q
row env (typed m t) = typed_row env m t
row env (labelled m) = label_row env m

pub misfit_reason : {env : Env} {q : Question} → IsMisfit env q → Reason env q
misfit_reason {env} {q} n = elim (row env q) [ some_row {qs} k ↦ absurd (n qs k) | no_row r ↦ r ]

no_label : {env : Env} {m : Message} {qs : List Question} → IsUnscoped env m → Asks env (labelled m) qs → ⊥
no_label loose k = elim k [ ]
no_label (unknown n) (asks_label_name a) = n _ a

no_typed : {env : Env} {m : Message} {t : Ty} {qs : List Question} → IsUnscoped env m → Asks env (typed m t) qs → ⊥
no_typed loose k = asks_fits k
no_typed (unknown n) (asks_name a s) = n _ a

pub reason_misfit : {env : Env} {q : Question} → Reason env q → IsMisfit env q
reason_misfit {env} (mismatched (has_other {x} {s} {t} a n)) qs k = other k
  where
    other : {qs : List Question} → Asks env (typed (name x) t) qs → ⊥
    other (asks_name b q) = n (subst (λ v. SameTy v t) (at_unique b a) q)
reason_misfit (mismatched (never_has n)) qs k = n (asks_fits k)
reason_misfit (unscoped {q = typed m t} u) qs k = no_typed u k
reason_misfit (unscoped {q = labelled m} u) qs k = no_label u k

-- parts of what is in scope are
child_over : (n : ℕ) {m p : Message} {i : ℕ} → ChildAt m i p → MessageOver n 0 m → MessageOver n 0 p
child_over n child_first h = h.0
child_over n child_second h = h.1
child_over n child_left h = h
child_over n child_right h = h
child_over n child_body h = h.0
child_over n child_key h = h.1
child_over n child_hash h = h

part_over : (n : ℕ) {m p : Message} {path : List ℕ} → PartAt m path p → MessageOver n 0 m → MessageOver n 0 p
part_over n part_whole h = h
part_over n (part_inside k d) h = part_over n d (child_over n k h)

at_some : (env : Env) (x : ℕ) → x < length env → ((s : Ty) → At env x s → ⊥) → ⊥
at_some [] x l f = absurd (omega arith)
at_some (t ∷ env) zero l f = f t at_first
at_some (t ∷ env) (suc x) l f = at_some env x (omega arith) (λ s a. f s (at_later a))

scoped : (env : Env) {m : Message} → IsUnscoped env m → MessageOver (length env) 0 m → ⊥
scoped env loose h = absurd (omega arith)
scoped env (unknown {x} n) h = at_some env x h n

mismatch : {env : Env} {q : Question} → Reason env q → (IsUnscoped env (subject q) → ⊥) → Mismatch env q
mismatch (mismatched n) f = n
mismatch (unscoped u) f = absurd (f u)

pub blamed_mismatch : {env : Env} {q r : Question} {path : List ℕ} → MessageOver (length env) 0 (subject q) → Blamed env q path r → Mismatch env r
blamed_mismatch {env} {q} {r} h b = mismatch (misfit_reason (blamed_misfit b)) (λ u. scoped env u (part_over (length env) (reached_part (blamed_reached b)) h))
