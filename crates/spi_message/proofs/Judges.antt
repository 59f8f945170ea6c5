-- A judge answers in each environment that it stands for.
use Rattle.std.proofs.Common.{◌≡◌, ℕ, zero, suc, ◌+◌, ◌-◌, ◌<◌, ◌≤◌, ◌^◌, Bool, true, List, [], ◌∷◌, ◌++◌, Option, Some, None, length, length-append, refl, sym, ap, subst, ◌∙◌, arith, Result, Ok, Err, IfOk, ◌↔◌}
use Rattle.std.specs.Prelude.{slice_get, replicate}
use Rattle.std.specs.Option.{option_to_list}
use Rattle.spi_term.specs.Term.{Message, Ty, un}
use Rattle.spi_term.specs.Substitution.{ty_put}
use Rattle.spi_term.specs.Spelling.{ty_nodes}
use Rattle.spi_term.specs.Term as Term
use Rattle.spi_rules.specs.Environment.{Env, untrusted}
use Rattle.spi_rules.specs.Messages.{HasType, IsLabel}
use Rattle.spi_rules.specs.Good.{GoodTy}
use Rattle.spi_intern.specs.Given.{IsGiven}
use Rattle.spi_intern.specs.Messages.{message_at}
use Rattle.spi_intern.specs.Meaning.{Means, Keeps}
use Rattle.spi_intern.proofs.Meanings.{means_keeps}
use Rattle.spi_intern.specs.declared.messages.MsgId.{MsgId}
use Rattle.spi_intern.specs.declared.types.TyId.{TyId}
use Rattle.spi_intern.specs.declared.store.Store.{Store}
use Rattle.spi_intern.proofs.Sized.{at_message}
use Rattle.spi_message.specs.Judging.{Numbered, StandFor, stand_none, Stands, IsGivenSmall, IsKept, IsJudge}
use Rattle.spi_message.specs.Filling.{FillsTy, AreIdsBelow, ty_size}
use Rattle.spi_message.specs.Asking.{IsEnvironment, IsTyped, IsLabelled, IsGood, IsAskedGood}
use Rattle.spi_message.specs.Tests.{typed, labelled, good}
use Rattle.spi_message.proofs.Deciding.{typed_true, typed_from, labelled_true, labelled_from, good_true, good_from}
use Rattle.spi_message.proofs.Fills.{none_below}
use Rattle.spi_message.proofs.FillsTypes.{means_size}
use Rattle.spi_message.proofs.Standing.{stand_keeps, stand_push, stand_front, stand_length}
use Rattle.spi_message.proofs.Typings.{filled_none, filled_one, none_stay}

-- what holds of every judge goes on to hold
pub judge_keeps : {s r : Store} {f : ℕ} {ids js : List TyId} → Keeps s r → js ≡ ids → IsJudge s f ids → IsJudge r f js
judge_keeps {r = r} {f = f} k p h = subst (IsJudge r f) (sym p) record { small = h.small; within = h.within; env = h.env; stands = stand_keeps k h.stands }

pub judge_bound : {s : Store} {f : ℕ} {ids js : List TyId} {t : TyId} → IsJudge s f ids → IsGiven s t.place → length ids < 2 ^ 32 - 1 → js ≡ ids ++ t ∷ [] → IsJudge s f js
judge_bound {s} {f} {ids} {js} {t} h g l p =
    subst (IsJudge s f) (sym p) record {
      small = let e = length-append ids (t ∷ []) in omega arith;
      within = let e = length-append ids (t ∷ []) in let w = h.within in omega arith;
      env = h.env ++ g.type ∷ [];
      stands = stand_push h.stands g.means;
    }

rest_length : (o : Option TyId) → length (option_to_list o) ≤ 1
rest_length None = omega arith
rest_length (Some x) = omega arith

pub judge_unbound : {s : Store} {f : ℕ} {ids js : List TyId} (o : Option TyId) → IsJudge s f ids → ids ≡ js ++ option_to_list o → f < length ids → IsJudge s f js
judge_unbound {s} {f} {ids} {js} o h p l =
    let w = stand_front js (option_to_list o) (subst (λ is. StandFor s is h.env) p h.stands) in
    let n : length ids ≡ length js + length (option_to_list o) = ap length p ∙ length-append js (option_to_list o) in
    record {
      small = let e = h.small in omega arith;
      within = let e = rest_length o in omega arith;
      env = w.0;
      stands = w.1;
    }

replicate_push : {A : Type 0} (n : ℕ) (x : A) → replicate n x ++ x ∷ [] ≡ replicate (suc n) x
replicate_push zero x = refl
replicate_push (suc n) x = ap (λ l. x ∷ l) (replicate_push n x)

replicate_length : {A : Type 0} (n : ℕ) (x : A) → length (replicate n x) ≡ n
replicate_length zero x = refl
replicate_length (suc n) x = ap suc (replicate_length n x)

pub free_none : {s : Store} {ids : List TyId} → ids ≡ [] → StandFor s ids (untrusted 0)
free_none {s} p = subst (λ is. StandFor s is []) (sym p) stand_none

pub free_next : {s : Store} {ids js : List TyId} {t : TyId} (n : ℕ) → StandFor s ids (untrusted n) → Means s t.place un → js ≡ ids ++ t ∷ [] → StandFor s js (untrusted (n + 1))
free_next {s} {ids} {js} {t} n h m p =
    let e : suc n ≡ n + 1 = omega arith in
    subst (λ is. StandFor s is (untrusted (n + 1))) (sym p) (subst (StandFor s (ids ++ t ∷ [])) (replicate_push n un ∙ ap untrusted e) (stand_push h m))

pub free_all : {s : Store} {ids : List TyId} (n f : ℕ) → StandFor s ids (untrusted n) → n ≡ f → StandFor s ids (untrusted f)
free_all {s} {ids} n f h e = subst (λ k. StandFor s ids (untrusted k)) e h

pub free_length : {s : Store} {ids : List TyId} (f : ℕ) → StandFor s ids (untrusted f) → length ids ≡ f
free_length f h = stand_length h ∙ replicate_length f un

pub free_judge : {s : Store} {ids : List TyId} (f : ℕ) → f ≤ 100000 → StandFor s ids (untrusted f) → IsJudge s f ids
free_judge f l h =
    let n = stand_length h ∙ replicate_length f un in
    record { small = omega arith; within = omega arith; env = untrusted f; stands = h }

-- the answers, in the words of the rules
abbrev pub TypedIn : {E : Type 0} → Result Bool E → MsgId → TyId → Numbered → Type 0
TypedIn r m t j = IfOk r (λ b. (env : Env) (n : Message) (u : Ty) → Stands j env → slice_get j.store.messages m.place ≡ Some n → Means j.store t.place u → (b ≡ true) ↔ HasType [] env n u)

abbrev pub LabelledIn : {E : Type 0} → Result Bool E → MsgId → Numbered → Type 0
LabelledIn r m j = IfOk r (λ b. (env : Env) (n : Message) → Stands j env → slice_get j.store.messages m.place ≡ Some n → (b ≡ true) ↔ IsLabel [] env n)

abbrev pub GoodIn : {E : Type 0} → Result Bool E → TyId → Numbered → Type 0
GoodIn r t j = IfOk r (λ b. (env : Env) (u : Ty) → Stands j env → Means j.store t.place u → (b ≡ true) ↔ GoodTy [] env u)

abbrev pub OpenedIn : {E : Type 0} → Result TyId E → Store → TyId → MsgId → Numbered → Type 0
OpenedIn r q t m j = IfOk r (λ id. (u : Ty) (n : Message) → Means j.store t.place u → slice_get j.store.messages m.place ≡ Some n → Means q id.place (ty_put n u))

pub typed_in : {E : Type 0} (s : Store) (f : ℕ) (ids : List TyId) (m : MsgId) (t : TyId) {ds : List TyId} {vs : List MsgId} → ds ≡ ids → vs ≡ [] → (r : Result Bool E) → IfOk r (IsTyped s ds (message_at s.messages m) t vs) → TypedIn r m t record { store = s; free = f; types = ids }
typed_in s f ids m t {ds = ds} {vs = vs} p q (Ok b) h = λ env n u st at mu.
    let g : IsTyped s ids (message_at s.messages m) t [] b = subst (λ is. IsTyped s is (message_at s.messages m) t [] b) p (subst (λ us. IsTyped s ds (message_at s.messages m) t us b) q h) in
    let e : b ≡ typed n env u = g.at env u st mu none_stay ∙ (λ i. typed (at_message s.messages m at i) env (filled_none u i)) in
    ((λ y. typed_true n env u (sym e ∙ y)), (λ y. e ∙ typed_from y))
typed_in s f ids m t p q (Err x) h = tt

pub labelled_in : {E : Type 0} (s : Store) (f : ℕ) (ids : List TyId) (m : MsgId) {ds : List TyId} → ds ≡ ids → (r : Result Bool E) → IfOk r (IsLabelled s ds (message_at s.messages m)) → LabelledIn r m record { store = s; free = f; types = ids }
labelled_in s f ids m p (Ok b) h = λ env n st at.
    let g : IsLabelled s ids (message_at s.messages m) b = subst (λ is. IsLabelled s is (message_at s.messages m) b) p h in
    let e : b ≡ labelled n env = g.at env st ∙ ap (λ k. labelled k env) (at_message s.messages m at) in
    ((λ y. labelled_true n env (sym e ∙ y)), (λ y. e ∙ labelled_from y))
labelled_in s f ids m p (Err x) h = tt

pub good_in : {E : Type 0} (s : Store) (f : ℕ) (ids : List TyId) (t : TyId) {vs : List MsgId} → vs ≡ [] → (r : Result Bool E) → IfOk r (IsGood s ids t vs) → GoodIn r t record { store = s; free = f; types = ids }
good_in s f ids t q (Ok b) h = λ env u st mu.
    let g : IsGood s ids t [] b = subst (λ us. IsGood s ids t us b) q h in
    let e : b ≡ good env u = g.at env u st mu none_stay ∙ ap (good env) (filled_none u) in
    ((λ y. good_true env u (sym e ∙ y)), (λ y. e ∙ good_from env u y))
good_in s f ids t q (Err x) h = tt

pub opened_in : {E : Type 0} (s q : Store) (f : ℕ) (ids : List TyId) (t : TyId) (m : MsgId) (r : Result TyId E) → IfOk r (FillsTy s q (m ∷ []) 0 t) → OpenedIn r q t m record { store = s; free = f; types = ids }
opened_in s q f ids t m (Ok id) h = λ u n mu at.
    subst (Means q id.place) (ap (λ k. ty_put k u) (at_message s.messages m at)) (subst (Means q id.place) (filled_one (message_at s.messages m) u) (h.at 0 u (omega arith) mu))
opened_in s q f ids t m (Err x) h = tt

-- a type has at least as many nodes as constructors outside its effects
size_within : (t : Ty) → ty_size t ≤ ty_nodes t
size_within Term.un = omega arith
size_within Term.unit_ty = omega arith
size_within (Term.pair_ty t u) = let a = size_within t in let b = size_within u in omega arith
size_within (Term.sum_ty t u) = let a = size_within t in let b = size_within u in omega arith
size_within (Term.key t) = let a = size_within t in omega arith
size_within (Term.nonce es) = omega arith

pub small_asked : {s : Store} {ids : List TyId} {t : TyId} {vs : List MsgId} → IsEnvironment s ids → IsGivenSmall s t.place (length ids) → vs ≡ [] → IsAskedGood s ids t vs
small_asked {s} {t = t} h g q = record {
  names = h;
  given = record { type = g.type; means = g.means };
  values = subst (λ us. AreIdsBelow us (length s.messages)) (sym q) (none_below (length s.messages));
  few = let e = means_size s t g.means in let w = size_within g.type in let l = g.few in omega arith;
}

-- a number that was given stays one, also for a judge
pub given_in : {j l : Numbered} (i : ℕ) (t : Ty) → IsKept j l → Means j.store i t → IsGiven l.store i
given_in i t k m = record { type = t; means = means_keeps k.store m }
