-- What the program's answers say of a question, from those of its parts.
use Rattle.std.proofs.Common.{◌≡◌, ◌∙◌, refl, sym, ap, subst, ℕ, ◌<◌, ◌≤◌, List, [], ◌∷◌, reverse, length, Option, Some, None, Result, Ok, Err, IfOk, IfSome, IfNone, ◌↔◌, arith}
use Rattle.std.specs.Prelude.{slice_get}
use Rattle.spi_term.specs.Lists.{At, at_first, at_later}
use Rattle.spi_term.proofs.Lists.{at_unique, get_at}
use Rattle.spi_term.specs.Term.{Message, name, enc, Ty, un, key}
use Rattle.spi_rules.proofs.Typing.{at_below}
use Rattle.spi_rules.specs.Environment.{Env}
use Rattle.spi_term.specs.SameTy.{SameTy}
use Rattle.spi_rules.specs.Messages.{HasType, msg_name, msg_cast, IsLabel}
use Rattle.spi_term.specs.Substitution.{ty_put}
use Rattle.spi_blame.specs.Blaming.{Question, typed, labelled, AnswersYes, IsKeyName, Asks, asks_name, asks_label_name, asks_key, asks_label_key, asks_enc, asks_label_enc, IsMisfit, Blamed, itself, inside}
use Rattle.spi_blame.specs.Told.{question_of, TellsBlame, IsKeyOfMessage, AsksSealed}
use Rattle.spi_blame.proofs.Blaming.{asks_holds, each_none, each_more, before_second, key_typed}
use Rattle.spi_blame.specs.declared.blame.Blame.{Blame}

pub told_itself : {env : Env} {q r : Question} {path : List ℕ} → IsMisfit env q → path ≡ [] → r ≡ q → Blamed env q path r
told_itself {env} {q} {r} {path} n e f = subst (λ p. Blamed env q p r) (sym e) (subst (λ v. Blamed env q [] v) (sym f) (itself n))

moved : {env : Env} {q r s : Question} {p o : List ℕ} → Blamed env q p r → o ≡ p → s ≡ r → Blamed env q o s
moved {env} {q} {r} {s} {p} {o} b e f = subst (λ v. Blamed env q o v) (sym f) (subst (λ l. Blamed env q l r) (sym e) b)

pub first_told : {env : Env} {q a : Question} {qs : List Question} {o : Option Blame} {b : Blame} (d : Blame) → Asks env q (a ∷ qs) → TellsBlame env a o → o ≡ Some b → reverse d.steps.items ≡ 0 ∷ reverse b.steps.items → d.part ≡ b.part → d.wanted ≡ b.wanted → Blamed env q (reverse d.steps.items) (question_of d.part d.wanted)
first_told {env} {q} {a} {o = o} {b = b} d k t is e f g =
    let h : Blamed env a (reverse b.steps.items) (question_of b.part b.wanted) = subst (λ v. TellsBlame env a v) is t in
    moved (inside k at_first (λ j r lt a. absurd (omega arith)) h) e cc

pub second_told : {env : Env} {q a b : Question} {o u : Option Blame} {x : Blame} (d : Blame) → Asks env q (a ∷ b ∷ []) → TellsBlame env a o → TellsBlame env b u → o ≡ None → u ≡ Some x → reverse d.steps.items ≡ 1 ∷ reverse x.steps.items → d.part ≡ x.part → d.wanted ≡ x.wanted → Blamed env q (reverse d.steps.items) (question_of d.part d.wanted)
second_told {env} {q} {a} {b} {o} {u} {x} d k t v is is' e f g =
    let h : AnswersYes env a = subst (λ v. TellsBlame env a v) is t in
    let j : Blamed env b (reverse x.steps.items) (question_of x.part x.wanted) = subst (λ v. TellsBlame env b v) is' v in
    moved (inside k (at_later at_first) (before_second env a b h) j) e cc

pub one_told : {env : Env} {q a : Question} {o : Option Blame} → Asks env q (a ∷ []) → TellsBlame env a o → o ≡ None → AnswersYes env q
one_told {env} {q} {a} k t is = let h : AnswersYes env a = subst (λ v. TellsBlame env a v) is t in asks_holds k (each_more _ a h (each_none _))

pub two_told : {env : Env} {q a b : Question} {o u : Option Blame} → Asks env q (a ∷ b ∷ []) → TellsBlame env a o → TellsBlame env b u → o ≡ None → u ≡ None → AnswersYes env q
two_told {env} {q} {a} {b} k t v is is' =
    let h : AnswersYes env a = subst (λ v. TellsBlame env a v) is t in
    let j : AnswersYes env b = subst (λ v. TellsBlame env b v) is' v in
    asks_holds k (each_more _ a h (each_more _ b j (each_none _)))

pub keyed : {env : Env} {x : ℕ} {s u : Ty} → slice_get env x ≡ Some s → s ≡ key u → IsKeyOfMessage env (name x) u
keyed {env} {x} e f = (x, refl, get_at env x (cc (e, f)))

pub keyed_other : {env : Env} {x : ℕ} {s : Ty} → slice_get env x ≡ Some s → ((u : Ty) → s ≡ key u → ⊥) → IsKeyName env (name x) → ⊥
keyed_other {env} {x} {s} e n k =
    let f : k.number ≡ x = cc (k.is) in
    n k.payload (at_unique (get_at env x e) (subst (λ y. At env y (key k.payload)) f k.has))

pub keyed_beyond : {env : Env} {x : ℕ} → length env ≤ x → IsKeyName env (name x) → ⊥
keyed_beyond {env} {x} l k =
    let f : k.number ≡ x = cc (k.is) in
    let h : k.number < length env = at_below k.has in absurd (omega arith)

pub asks_for : {env : Env} {m n : Message} {t : Ty} → IsKeyOfMessage env n t → Asks env (typed (enc m n) un) (typed n (key t) ∷ typed m t ∷ [])
asks_for {env} {m} {n} {t} k = subst (λ n. Asks env (typed (enc m n) un) (typed n (key t) ∷ typed m t ∷ [])) (sym k.1) (asks_key k.2)

-- the key of such a name holds
pub key_holds : {env : Env} {n : Message} {t : Ty} → IsKeyOfMessage env n t → AnswersYes env (typed n (key t))
key_holds {env} {n} {t} k = subst (λ n. HasType [] env n (key t)) (sym k.1) (key_typed k.2)

pub weaker : {E : Type 0} (r : Result (Option Blame) E) {P Q : Option Blame → Type 0} → ((o : Option Blame) → P o → Q o) → IfOk r P → IfOk r Q
weaker (Ok o) f h = f o h
weaker (Err e) f h = h

-- an answer put together from those of one part, and of two. The questions are as the program has them, and equal to the row's
pub one_ok : {E : Type 0} (env : Env) (q q' a a' : Question) (part : Option Blame) (r : Result (Option Blame) E) → q ≡ q' → a ≡ a' → Asks env q' (a' ∷ []) → TellsBlame env a part → IfOk r (λ o. (env : Env) (q a : Question) → Asks env q (a ∷ []) → TellsBlame env a part → TellsBlame env q o) → IfOk r (λ o. TellsBlame env q o)
one_ok env q q' a a' part r e f k t h = weaker r (λ o g. subst (λ v. TellsBlame env v o) (sym e) (g env q' a' k (subst (λ v. TellsBlame env v part) f t))) h

pub two_ok : {E : Type 0} (env : Env) (q q' a a' b b' : Question) (first second : Option Blame) (r : Result (Option Blame) E) → q ≡ q' → a ≡ a' → b ≡ b' → Asks env q' (a' ∷ b' ∷ []) → TellsBlame env a first → TellsBlame env b second → IfOk r (λ o. (env : Env) (q a b : Question) → Asks env q (a ∷ b ∷ []) → TellsBlame env a first → TellsBlame env b second → TellsBlame env q o) → IfOk r (λ o. TellsBlame env q o)
two_ok env q q' a a' b b' first second r e f g k t v h = weaker r (λ o w. subst (λ v. TellsBlame env v o) (sym e) (w env q' a' b' k (subst (λ v. TellsBlame env v first) f t) (subst (λ x. TellsBlame env x second) g v))) h

-- the same from the answer for both
pub both_ok : {E : Type 0} (env : Env) (q q' a a' b b' : Question) (r : Result (Option Blame) E) → q ≡ q' → a ≡ a' → b ≡ b' → Asks env q' (a' ∷ b' ∷ []) → IfOk r (λ o. (q : Question) → Asks env q (a ∷ b ∷ []) → TellsBlame env q o) → IfOk r (λ o. TellsBlame env q o)
both_ok env q q' a a' b b' r e f g k h =
    let j : Asks env q (a ∷ b ∷ []) = rw (e, f, g) k in
    weaker r (λ o w. w q j) h

-- and from the answer for the parts of {M}N
pub sealed_ok : {E : Type 0} (env : Env) (q q' : Question) (m m' n n' : Message) (r : Result (Option Blame) E) → q ≡ q' → m ≡ m' → n ≡ n' → AsksSealed env q' m' n' → IfOk r (λ o. (q : Question) → AsksSealed env q m n → TellsBlame env q o) → IfOk r (λ o. TellsBlame env q o)
sealed_ok env q q' m m' n n' r e f g k h =
    let j : AsksSealed env q m n = rw (e, f, g) k in
    weaker r (λ o w. w q j) h

-- as a label it asks the same
pub label_sealed : {env : Env} (m n : Message) → AsksSealed env (labelled (enc m n)) m n
label_sealed {env} m n qs k = at k
  where
    at : {m n : Message} {qs : List Question} → Asks env (typed (enc m n) un) qs → Asks env (labelled (enc m n)) qs
    at (asks_key a) = asks_label_key a
    at (asks_enc k) = asks_label_enc k

pub itself_ok : {E : Type 0} (env : Env) (q : Question) (r : Result (Option Blame) E) → IsMisfit env q → IfOk r (λ o. (env : Env) → IsMisfit env q → TellsBlame env q o) → IfOk r (λ o. TellsBlame env q o)
itself_ok env q r n h = weaker r (λ o g. g env n) h

-- names
pub name_misfit : {env : Env} {x : ℕ} {t : Ty} → (HasType [] env (name x) t → ⊥) → IsMisfit env (typed (name x) t)
name_misfit {env} {x} {t} n qs k = no k
  where
    no : {qs : List Question} → Asks env (typed (name x) t) qs → ⊥
    no (asks_name a s) = n (msg_name a s)

pub beyond_misfit : {env : Env} {x : ℕ} → length env ≤ x → IsMisfit env (labelled (name x))
beyond_misfit {env} {x} l qs k = no k
  where
    no : {qs : List Question} → Asks env (labelled (name x)) qs → ⊥
    no (asks_label_name a) = let h = at_below a in absurd (omega arith)

pub name_typed : {env : Env} {x : ℕ} {s t : Ty} → slice_get env x ≡ Some s → HasType [] env (name x) t ↔ SameTy s t
name_typed {env} {x} {s} {t} e = (to, λ q. msg_name (get_at env x e) q)
  where
    to : HasType [] env (name x) t → SameTy s t
    to (msg_name a q) = subst (λ v. SameTy v t) (at_unique a (get_at env x e)) q
    to (msg_cast i q) = elim i [ ]

pub beyond_typed : {env : Env} {x : ℕ} {t : Ty} → length env ≤ x → HasType [] env (name x) t → ⊥
beyond_typed l (msg_name a q) = let h = at_below a in absurd (omega arith)
beyond_typed l (msg_cast i q) = elim i [ ]

pub typed_as : {env : Env} {m n : Message} {t u : Ty} → m ≡ n → t ≡ u → HasType [] env n u → HasType [] env m t
typed_as {env} {m} {n} {t} {u} e f h = subst (λ v. HasType [] env v t) (sym e) (subst (λ v. HasType [] env n v) (sym f) h)

pub label_as : {env : Env} {m n : Message} → m ≡ n → IsLabel [] env n → IsLabel [] env m
label_as {env} e h = subst (λ v. IsLabel [] env v) (sym e) h

pub no_key_at : {env : Env} {m n : Message} → m ≡ n → (IsKeyName env m → ⊥) → IsKeyName env n → ⊥
no_key_at {env} e h = subst (λ v. IsKeyName env v → ⊥) e h

-- what a type's own payload says of the name that has the type
pub some_payload : {X : Type 0} (view : X → Ty) (r : Option X) (env : Env) (m : Message) (x : ℕ) (s : Ty) → m ≡ name x → slice_get env x ≡ Some s → IfSome r (λ u. s ≡ key (view u)) → IfSome r (λ u. IsKeyOfMessage env m (view u))
some_payload view (Some u) env m x s e f h = subst (λ v. IsKeyOfMessage env v (view u)) (sym e) (keyed f h)
some_payload view None env m x s e f h = h

pub no_payload : {X : Type 0} (r : Option X) (env : Env) (m : Message) (x : ℕ) (s : Ty) → m ≡ name x → slice_get env x ≡ Some s → IfNone r ((u : Ty) → s ≡ key u → ⊥) → IfNone r (IsKeyName env m → ⊥)
no_payload (Some u) env m x s e f h = h
no_payload None env m x s e f h = subst (λ v. IsKeyName env v → ⊥) (sym e) (keyed_other f h)

pub typed_equal : {m n : Message} {t u : Ty} → m ≡ n → t ≡ u → typed m t ≡ typed n u
typed_equal {m} {n} {t} {u} e f = ap (λ v. typed v t) e ∙ ap (λ v. typed n v) f

pub put_equal : {m n : Message} {t u w : Ty} → w ≡ ty_put m t → m ≡ n → t ≡ u → w ≡ ty_put n u
put_equal {m} {n} {t} {u} h e f = h ∙ (ap (λ v. ty_put v t) e ∙ ap (λ v. ty_put n v) f)
