-- Labels, untrusted messages and atoms that are taken with their keys.
use Rattle.std.proofs.Common.{◌≡◌, sym, ◌∙◌, subst, ℕ, zero, suc, ◌<◌, ◌↔◌, arith, Bool, true, false, true≢false, eqb, List, [], ◌∷◌, ◌++◌, length, get_or, map, Option, Some, None}
use Rattle.std.specs.Prelude.{slice_get, nat_eq, if◌then◌else◌}
use Rattle.indexmap.specs.IndexMap.{get}
use Rattle.spi_term.specs.Term.{Message, Atom, ends, checks, many, Effect, Ty, un}
use Rattle.spi_rules.specs.Environment.{Env}
use Rattle.spi_rules.specs.Messages.{HasType, IsLabel}
use Rattle.spi_rules.specs.Good.{GoodEffect, good_none, good_ends, good_checks, good_many}
use Rattle.spi_rules.proofs.Good.{good_append}
use Rattle.spi_intern.specs.declared.messages.MsgId.{MsgId}
use Rattle.spi_intern.specs.declared.atoms.AtomId.{AtomId}
use Rattle.spi_intern.specs.declared.atoms.AtomId.TheVariants.{End, Check, Many}
use Rattle.spi_intern.specs.Table.{TellsAll}
use Rattle.spi_intern.specs.Atoms.{SaysAtom, says_end, says_check, says_many}
use Rattle.spi_intern.specs.Meaning.{Means}
use Rattle.spi_intern.proofs.Meanings.{ids_none, ids_next}
use Rattle.spi_message.specs.Judging.{Numbered, Stands, IsKept}
use Rattle.spi_count.specs.Sums.{name_bound, key_of}
use Rattle.spi_count.specs.declared.keys.Keys.{Keys}
use Rattle.spi_count.specs.Keeping.{with_keys, HaveKeys, GrowsTo}
use Rattle.spi_audit.specs.Notes.{TakesLabelled, TakesUn, TakesAtomic}
use Rattle.spi_message.proofs.Tested.{stands_kept}
use Rattle.spi_count.proofs.Kept.{keyed_here, have_none, have_more, have_keys_keep}

-- what is answered of a message's number
module _ (j k : Numbered) (h : IsKept j k) (m : Message) (i : ℕ) (at : slice_get k.store.messages i ≡ Some m) (d : Bool) where
  module _ (f : (e : Env) (n : Message) → Stands k e → slice_get k.store.messages i ≡ Some n → (d ≡ true) ↔ IsLabel [] e n) where
    pub is_label : d ≡ true → (e : Env) → Stands j e → IsLabel [] e m
    is_label p e s = (f e m (stands_kept {j = j} {k = k} h s) at).0 p

    pub is_no_label : d ≡ false → (e : Env) → Stands j e → IsLabel [] e m → ⊥
    is_no_label p e s l = true≢false (sym ((f e m (stands_kept {j = j} {k = k} h s) at).1 l) ∙ p)

  module _ (t : ℕ) (w : Means k.store t un) (f : (e : Env) (n : Message) (u : Ty) → Stands k e → slice_get k.store.messages i ≡ Some n → Means k.store t u → (d ≡ true) ↔ HasType [] e n u) where
    pub is_untrusted : d ≡ true → (e : Env) → Stands j e → HasType [] e m un
    is_untrusted p e s = (f e m un (stands_kept {j = j} {k = k} h s) at w).0 p

    pub is_not_untrusted : d ≡ false → (e : Env) → Stands j e → HasType [] e m un → ⊥
    is_not_untrusted p e s l = true≢false (sym ((f e m un (stands_kept {j = j} {k = k} h s) at w).1 l) ∙ p)

-- the key of a message goes in after the store has grown
module _ (j k l : Numbered) (h : IsKept j k) (g : IsKept k l) (ks ls : Keys) (m : Message) (i : ℕ) (at : slice_get k.store.messages i ≡ Some m) (small : i < 4294967296) (new : (n : ℕ) → get nat_eq ls.keys n ≡ (if eqb i n then Some (key_of (name_bound m) i) else get nat_eq ks.keys n)) where
  there : slice_get l.store.messages i ≡ Some m
  there = g.store.messages.at i m at

  pub key_taken : with_keys l.store ls i m
  key_taken = keyed_here l.store ks ls i m there small new

-- an atom by the kind of its number
pub ends_taken : (j k : Numbered) (ks : Keys) (o : Option MsgId) (id : MsgId) (m : Message) (a : Atom) → o ≡ Some id → a ≡ ends m → TakesLabelled j k ks m o → TakesAtomic j k ks a (Some (End id))
ends_taken j k ks o id m a e q h = subst (λ a. TakesAtomic j k ks a (Some (End id))) (sym q) (go (subst (λ o. TakesLabelled j k ks m o) e h))
  where
    go : TakesLabelled j k ks m (Some id) → TakesAtomic j k ks (ends m) (Some (End id))
    go (w, f) = (says_end w.at, (id.place, w), λ env s. good_ends (f env s) good_none)

pub many_taken : (j k : Numbered) (ks : Keys) (o : Option MsgId) (id : MsgId) (m : Message) (a : Atom) → o ≡ Some id → a ≡ many m → TakesLabelled j k ks m o → TakesAtomic j k ks a (Some (Many id))
many_taken j k ks o id m a e q h = subst (λ a. TakesAtomic j k ks a (Some (Many id))) (sym q) (go (subst (λ o. TakesLabelled j k ks m o) e h))
  where
    go : TakesLabelled j k ks m (Some id) → TakesAtomic j k ks (many m) (Some (Many id))
    go (w, f) = (says_many w.at, (id.place, w), λ env s. good_many (f env s) good_none)

pub checks_taken : (j k : Numbered) (ks : Keys) (o : Option MsgId) (id : MsgId) (m : Message) (a : Atom) → o ≡ Some id → a ≡ checks m → TakesUn j k ks m o → TakesAtomic j k ks a (Some (Check id))
checks_taken j k ks o id m a e q h = subst (λ a. TakesAtomic j k ks a (Some (Check id))) (sym q) (go (subst (λ o. TakesUn j k ks m o) e h))
  where
    go : TakesUn j k ks m (Some id) → TakesAtomic j k ks (checks m) (Some (Check id))
    go (w, f) = (says_check w.at, (id.place, w), λ env s. good_checks (f env s) good_none)

-- the atoms of an effect so far
pub record AreTaken (j k : Numbered) (ks : Keys) (es : Effect) (numbers : List AtomId) : Type 0 where
  pub ids : TellsAll (SaysAtom k.store.messages) numbers es
  pub keys : HaveKeys k.store ks es
  pub good : (e : Env) → Stands j e → GoodEffect [] e es

pub none_taken : (j : Numbered) (ks : Keys) (ids : List AtomId) → ids ≡ [] → AreTaken j j ks [] ids
none_taken j ks ids e = record { ids = ids_none e; keys = have_none j.store ks; good = λ env s. good_none }

pub more_taken : (j k l : Numbered) (ks ls : Keys) (es : Effect) (ids js : List AtomId) (o : Option AtomId) (id : AtomId) (a : Atom) → IsKept j k → IsKept k l → GrowsTo k.store ks l.store ls → AreTaken j k ks es ids → o ≡ Some id → TakesAtomic k l ls a o → js ≡ ids ++ id ∷ [] → AreTaken j l ls (es ++ a ∷ []) js
more_taken j k l ks ls es ids js o id a h g w t e n q = go (subst (λ o. TakesAtomic k l ls a o) e n)
  where
    go : TakesAtomic k l ls a (Some id) → AreTaken j l ls (es ++ a ∷ []) js
    go (s, (i, z), f) = record {
      ids = ids_next g.store.messages t.ids s q;
      keys = have_more l.store ls es a (have_keys_keep {s = k.store} {r = l.store} {ks = ks} {ls = ls} es w t.keys) z;
      good = λ env s. good_append (t.good env s) (f env (stands_kept {j = j} {k = k} h s));
    }

-- an atom that isn't good
good_rest : {env : Env} {a : Atom} {es : Effect} → GoodEffect [] env (a ∷ es) → GoodEffect [] env es
good_rest (good_ends l g) = g
good_rest (good_many l g) = g
good_rest (good_checks l g) = g

good_first : {env : Env} {a : Atom} {es : Effect} → GoodEffect [] env (a ∷ es) → GoodEffect [] env (a ∷ [])
good_first (good_ends l g) = good_ends l good_none
good_first (good_many l g) = good_many l good_none
good_first (good_checks l g) = good_checks l good_none

good_at : {A : Type 0} (f : A → Atom) {env : Env} (xs : List A) (i : ℕ) (x : A) → i < length xs → x ≡ get_or xs i x → GoodEffect [] env (map f xs) → GoodEffect [] env (f x ∷ [])
good_at f [] i x l e g = absurd (omega arith)
good_at f {env = env} (y ∷ xs) zero x l e g = subst (λ z. GoodEffect [] env (f z ∷ [])) (sym e) (good_first g)
good_at f (y ∷ xs) (suc i) x l e g = good_at f xs i x (omega arith) e (good_rest g)

pub not_taken : {A : Type 0} (f : A → Atom) (j k l : Numbered) (ls : Keys) (xs ys : List A) (i : ℕ) (x : A) (o : Option AtomId) → IsKept j k → ys ≡ xs → i < length ys → x ≡ get_or ys i x → o ≡ None → TakesAtomic k l ls (f x) o → (e : Env) → Stands j e → GoodEffect [] e (map f xs) → ⊥
not_taken f j k l ls xs ys i x o h v b r q n e s g =
    let there : GoodEffect [] e (map f ys) = subst (λ zs. GoodEffect [] e (map f zs)) (sym v) g in
    subst (λ o. TakesAtomic k l ls (f x) o) q n e (stands_kept {j = j} {k = k} h s) (good_at f ys i x b r there)
