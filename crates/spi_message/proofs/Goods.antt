-- Good types over shared terms.
use Rattle.std.proofs.Common.{◌≡◌, ℕ, zero, suc, ◌+◌, ◌<◌, ◌≤◌, Bool, true, false, ◌&&◌, List, [], ◌∷◌, ◌++◌, map, drop, get_or, Some, length, length-append, refl, sym, ap, subst, ◌∙◌, arith, Result, Ok, Err, IfOk}
use Rattle.std.proofs.lemmas.Option.{slice_get_within}
use Rattle.std.specs.Prelude.{slice_get}
use Rattle.spi_term.specs.Term.{Message, name, Effect, Ty, un, unit_ty, pair_ty, sum_ty, key}
use Rattle.spi_term.specs.Counts.{SameEffect}
use Rattle.spi_term.specs.Substitution.{put, atom_map, effect_map, ty_map, ty_put}
use Rattle.spi_term.proofs.Counting.{same_sym}
use Rattle.spi_term.proofs.Choices.{truths}
use Rattle.spi_effect.proofs.Laws.{same_map, same_within}
use Rattle.spi_rules.specs.Environment.{Env}
use Rattle.spi_rules.proofs.Good.{good_within}
use Rattle.spi_intern.specs.Meaning.{Means, Keeps}
use Rattle.spi_intern.specs.Messages.{says_name, message_at}
use Rattle.spi_intern.specs.Given.{IsGiven, IsOverGiven}
use Rattle.spi_intern.specs.Typed.{kind_at}
use Rattle.spi_intern.specs.declared.messages.MsgId.{MsgId}
use Rattle.spi_intern.specs.declared.messages.MsgPart.TheVariants.{Name}
use Rattle.spi_intern.specs.declared.types.TyId.{TyId}
use Rattle.spi_intern.specs.declared.atoms.AtomId.{AtomId}
use Rattle.spi_intern.specs.declared.atoms.AtomId.TheVariants.{End, Check, Many}
use Rattle.spi_intern.specs.declared.store.Store.{Store}
use Rattle.spi_intern.proofs.Meanings.{means_keeps}
use Rattle.spi_intern.proofs.Sized.{at_message}
use Rattle.spi_message.specs.Judging.{StandFor}
use Rattle.spi_message.specs.Filling.{fill, filled, AllStay, values_of, atom_at, message_in, AreIdsBelow, AtomsAreBelow, FillsMessage, FillsTy, kind_size}
use Rattle.spi_message.specs.Asking.{IsEnvironment, IsTyped, IsLabelled, IsGoodAtom, IsAskedAtoms, AreGood, IsAskedGood, IsGood}
use Rattle.spi_message.specs.Tests.{typed, labelled, good_atom, good_effect, good}
use Rattle.spi_message.proofs.Deciding.{good_effect_true, good_effect_from, good-pair, good_of_sum}
use Rattle.spi_message.proofs.Fills.{message_keeps, below_keeps, values_keep, all_below_keeps}
use Rattle.spi_message.proofs.FillsTypes.{TwoTys, OneTy, NonceTy, given_keeps, size_of_kept, atom_at_keeps}
use Rattle.spi_message.proofs.Standing.{stand_keeps, stand_push, environment_keeps, stand_length}
use Rattle.spi_message.proofs.Typings.{put_filled, none_stay, stay_push}
use Rattle.spi_message.proofs.Questions.{below_more, values_push}

-- a message that was filled
pub filled_below : {ms ns : List Message} {vs : List MsgId} {m r : MsgId} → FillsMessage ms ns vs 0 m r → r.place < length ns
filled_below {ms} {ns} {vs} {m} {r} f = slice_get_within ns r.place _ (f.at 0 (omega arith))

pub filled_is : {ms ns : List Message} {vs : List MsgId} {m r : MsgId} → FillsMessage ms ns vs 0 m r → message_at ns r ≡ fill (values_of ms vs) 0 (message_at ms m)
filled_is {ns = ns} {r = r} f = at_message ns r (f.at 0 (omega arith))

-- one atom
pub good_end : {E : Type 0} {s r : Store} (env : List TyId) {a : AtomId} {m x : MsgId} (vs : List MsgId) → a ≡ End m → Keeps s r → FillsMessage s.messages r.messages vs 0 m x → (o : Result Bool E) → IfOk o (IsLabelled r env (message_at r.messages x)) → IfOk o (IsGoodAtom s env a vs)
good_end {s = s} env vs q k f (Ok b) h = record {
  at = λ e st. h.at e (stand_keeps k st) ∙ ap (λ n. labelled n e) (filled_is f) ∙ ap (λ c. good_atom (atom_map (fill (values_of s.messages vs) 0) (atom_at s.messages c)) e) (sym q);
}
good_end env vs q k f (Err x) h = tt

pub good_many : {E : Type 0} {s r : Store} (env : List TyId) {a : AtomId} {m x : MsgId} (vs : List MsgId) → a ≡ Many m → Keeps s r → FillsMessage s.messages r.messages vs 0 m x → (o : Result Bool E) → IfOk o (IsLabelled r env (message_at r.messages x)) → IfOk o (IsGoodAtom s env a vs)
good_many {s = s} env vs q k f (Ok b) h = record {
  at = λ e st. h.at e (stand_keeps k st) ∙ ap (λ n. labelled n e) (filled_is f) ∙ ap (λ c. good_atom (atom_map (fill (values_of s.messages vs) 0) (atom_at s.messages c)) e) (sym q);
}
good_many env vs q k f (Err x) h = tt

pub good_check : {E : Type 0} {s p r : Store} (env : List TyId) {a : AtomId} {m x : MsgId} {t : TyId} {ws : List MsgId} (vs : List MsgId) → a ≡ Check m → Keeps s p → FillsMessage s.messages p.messages vs 0 m x → Keeps p r → Means r t.place un → ws ≡ [] → (o : Result Bool E) → IfOk o (IsTyped r env (message_at r.messages x) t ws) → IfOk o (IsGoodAtom s env a vs)
good_check {s = s} {r = r} env {x = x} {t = t} vs q k f l u w (Ok b) h = record {
  at = λ e st.
      let g = subst (λ us. IsTyped r env (message_at r.messages x) t us b) w h in
      g.at e un (stand_keeps l (stand_keeps k st)) u none_stay
      ∙ ap (λ n. typed n e un) (message_keeps x l.messages (filled_below f) ∙ filled_is f)
      ∙ ap (λ c. good_atom (atom_map (fill (values_of s.messages vs) 0) (atom_at s.messages c)) e) (sym q);
}
good_check env vs q k f l u w (Err x) h = tt

-- a list of atoms
pub record SameFrom (s : Store) (env : List TyId) (ids rest : List AtomId) (vs : List MsgId) : Type 0 where
  pub at : (e : Env) → StandFor s env e → good_effect (effect_map (fill (values_of s.messages vs) 0) (map (atom_at s.messages) ids)) e ≡ good_effect (effect_map (fill (values_of s.messages vs) 0) (map (atom_at s.messages) rest)) e

pub same_start : {s : Store} {env : List TyId} (ids : List AtomId) {vs : List MsgId} → SameFrom s env ids ids vs
same_start ids = record { at = λ e st. refl }

pub drop_one : {A : Type 0} (xs : List A) (i : ℕ) (d : A) → i < length xs → drop i xs ≡ get_or xs i d ∷ drop (suc i) xs
drop_one [] i d h = absurd (omega arith)
drop_one (x ∷ xs) zero d h = refl
drop_one (x ∷ xs) (suc i) d h = drop_one xs i d (omega arith)

pub drop_next : {A : Type 0} (xs : List A) (i : ℕ) (d : A) → i < length xs → drop i xs ≡ get_or xs i d ∷ drop (i + 1) xs
drop_next xs i d h = let e : suc i ≡ i + 1 = omega arith in drop_one xs i d h ∙ ap (λ j. get_or xs i d ∷ drop j xs) e

-- an answer on an atom, over a store that has grown
good_later : {s r : Store} {env : List TyId} {a : AtomId} {vs : List MsgId} {b : Bool} → Keeps s r → (message_in a).place < length s.messages → AreIdsBelow vs (length s.messages) → IsGoodAtom r env a vs b → IsGoodAtom s env a vs b
good_later {a = a} {vs = vs} k l v h = record {
  at = λ e st. h.at e (stand_keeps k st) ∙ (λ i. good_atom (atom_map (fill (values_keep vs k.messages v i) 0) (atom_at_keeps a k.messages l i)) e);
}

pub same_next : {s r : Store} {env : List TyId} {ids rest more : List AtomId} {a : AtomId} {vs : List MsgId} {b : Bool} → SameFrom s env ids rest vs → rest ≡ a ∷ more → Keeps s r → (message_in a).place < length s.messages → AreIdsBelow vs (length s.messages) → IsGoodAtom r env a vs b → b ≡ true → SameFrom s env ids more vs
same_next {s} {more = more} {a = a} {vs = vs} h q k l v g w = record {
  at = λ e st.
      let f = λ (xs : List AtomId). effect_map (fill (values_of s.messages vs) 0) (map (atom_at s.messages) xs) in
      let z = sym ((good_later k l v g).at e st) ∙ w in
      h.at e st ∙ ap (λ xs. good_effect (f xs) e) q ∙ ap (λ c. c && good_effect (f more) e) z;
}

pub same_stop : {s r : Store} {env : List TyId} {ids rest more : List AtomId} {a : AtomId} {vs : List MsgId} {b : Bool} → SameFrom s env ids rest vs → rest ≡ a ∷ more → Keeps s r → (message_in a).place < length s.messages → AreIdsBelow vs (length s.messages) → IsGoodAtom r env a vs b → b ≡ false → AreGood s env ids vs false
same_stop {s} {more = more} {a = a} {vs = vs} h q k l v g w = record {
  at = λ e st.
      let f = λ (xs : List AtomId). effect_map (fill (values_of s.messages vs) 0) (map (atom_at s.messages) xs) in
      let z = sym ((good_later k l v g).at e st) ∙ w in
      sym (h.at e st ∙ ap (λ xs. good_effect (f xs) e) q ∙ ap (λ c. c && good_effect (f more) e) z);
}

pub same_end : {s : Store} {env : List TyId} {ids rest : List AtomId} {vs : List MsgId} → SameFrom s env ids rest vs → rest ≡ [] → AreGood s env ids vs true
same_end {s} {vs = vs} h q = record { at = λ e st. sym (h.at e st ∙ ap (λ xs. good_effect (effect_map (fill (values_of s.messages vs) 0) (map (atom_at s.messages) xs)) e) q) }

-- effects with equal counts are good alike
good_same : (es fs : Effect) (e : Env) → SameEffect es fs → good_effect es e ≡ good_effect fs e
good_same es fs e h = truths (good_effect es e) (good_effect fs e) (λ t. good_effect_from (good_within (same_within (same_sym h)) (good_effect_true es e t))) (λ t. good_effect_from (good_within (same_within h) (good_effect_true fs e t)))

-- types
pub un_good : {s : Store} {env : List TyId} {t : TyId} {vs : List MsgId} → ((u : Ty) → Means s t.place u → u ≡ un) → IsGood s env t vs true
un_good {s} {vs = vs} f = record { at = λ e u st m w. ap (λ v. good e (filled (values_of s.messages vs) v)) (sym (f u m)) }

pub unit_good : {s : Store} {env : List TyId} {t : TyId} {vs : List MsgId} → ((u : Ty) → Means s t.place u → u ≡ unit_ty) → IsGood s env t vs true
unit_good {s} {vs = vs} f = record { at = λ e u st m w. ap (λ v. good e (filled (values_of s.messages vs) v)) (sym (f u m)) }

pub key_good : {E : Type 0} {s : Store} (env : List TyId) {t x : TyId} (vs : List MsgId) → OneTy s t x key → (o : Result Bool E) → IfOk o (IsGood s env x vs) → IfOk o (IsGood s env t vs)
key_good {s = s} env vs t (Ok b) h = record { at = λ e u st m w. let z = t.at u m in h.at e z.0 st z.2 w ∙ ap (λ v. good e (filled (values_of s.messages vs) v)) (sym z.1) }
key_good env vs t (Err x) h = tt

pub nonce_good : {E : Type 0} {s : Store} {t : TyId} {ids js : List AtomId} {env ns : List TyId} {vs ws : List MsgId} → NonceTy s t ids → js ≡ ids → ns ≡ env → ws ≡ vs → (o : Result Bool E) → IfOk o (AreGood s ns js ws) → IfOk o (IsGood s env t vs)
nonce_good {s = s} {ids = ids} {js = js} {env = env} {ns = ns} {vs = vs} t p q r (Ok b) h = record {
  at = λ e u st m w.
      let z = t.at u m in
      let f = fill (values_of s.messages vs) 0 in
      let g : AreGood s env ids vs b = subst (λ js. AreGood s env js vs b) p (subst (λ ns. AreGood s ns js vs b) q (subst (λ ws. AreGood s ns js ws b) r h)) in
      g.at e st ∙ good_same (effect_map f (map (atom_at s.messages) ids)) (effect_map f z.0) e (same_map f (map (atom_at s.messages) ids) z.0 z.2) ∙ ap (λ v. good e (filled (values_of s.messages vs) v)) (sym z.1);
}
nonce_good t p q r (Err x) h = tt

later_good : {s r : Store} {env ns : List TyId} {t : TyId} {vs ws : List MsgId} {c : Bool} → Keeps s r → AreIdsBelow vs (length s.messages) → ns ≡ env → ws ≡ vs → IsGood r ns t ws c → (e : Env) (u : Ty) → StandFor s env e → Means s t.place u → AllStay (values_of s.messages vs) → c ≡ good e (filled (values_of s.messages vs) u)
later_good {s} {r} {vs = vs} {ws = ws} k v p q h e u st m a =
    let vals : values_of r.messages ws ≡ values_of s.messages vs = ap (values_of r.messages) q ∙ values_keep vs k.messages v in
    h.at e u (subst (λ is. StandFor r is e) (sym p) (stand_keeps k st)) (means_keeps k m) (subst AllStay (sym vals) a) ∙ ap (λ us. good e (filled us u)) vals

pub sum_good : {E : Type 0} {s r : Store} {env ns : List TyId} {t x y : TyId} {vs ws : List MsgId} {c : Bool} → TwoTys s t x y sum_ty → IsGood s env x vs c → c ≡ true → Keeps s r → AreIdsBelow vs (length s.messages) → ns ≡ env → ws ≡ vs → (o : Result Bool E) → IfOk o (IsGood r ns y ws) → IfOk o (IsGood s env t vs)
sum_good {s = s} {vs = vs} t h q k v p j (Ok b) g = record {
  at = λ e u st m w.
      let us = values_of s.messages vs in
      let z = t.at u m in
      let f : good e (filled us z.0) ≡ true = sym (h.at e z.0 st z.3 w) ∙ q in
      later_good k v p j g e z.1 st z.4 w ∙ ap (λ d. d && good e (filled us z.1)) (sym f) ∙ sym (good_of_sum e (filled us z.0) (filled us z.1)) ∙ ap (λ x. good e (filled us x)) (sym z.2);
}
sum_good t h q k v p j (Err x) g = tt

-- a type of two parts, of which the first isn't good
two_bad : {s : Store} {env : List TyId} {t x y : TyId} {vs : List MsgId} {c : Bool} {f : Ty → Ty → Ty} → ((e : Env) (us : List Message) (v w : Ty) → (r : Bool) × (good e (filled us (f v w)) ≡ (good e (filled us v) && r))) → TwoTys s t x y f → IsGood s env x vs c → c ≡ false → IsGood s env t vs false
two_bad {s} {vs = vs} g t h q = record {
  at = λ e u st m w.
      let us = values_of s.messages vs in
      let z = t.at u m in
      let r = g e us z.0 z.1 in
      let p : good e (filled us z.0) ≡ false = sym (h.at e z.0 st z.3 w) ∙ q in
      ap (λ d. d && r.0) (sym p) ∙ sym r.1 ∙ ap (λ x. good e (filled us x)) (sym z.2);
}

pub sum_bad : {s : Store} {env : List TyId} {t x y : TyId} {vs : List MsgId} {c : Bool} → TwoTys s t x y sum_ty → IsGood s env x vs c → c ≡ false → IsGood s env t vs false
sum_bad t h q = two_bad (λ e us v w. (good e (filled us w), good_of_sum e (filled us v) (filled us w))) t h q

pub pair_bad : {s : Store} {env : List TyId} {t x y : TyId} {vs : List MsgId} {c : Bool} → TwoTys s t x y pair_ty → IsGood s env x vs c → c ≡ false → IsGood s env t vs false
pair_bad t h q =
    two_bad (λ e us v w. let under = ty_map (fill us) 1 w in (good (e ++ filled us v ∷ []) (ty_put (name (length e)) under), good-pair e (filled us v) under)) t h q

pub name_stays : (x : ℕ) (n : Message) (d : ℕ) → put n d (name x) ≡ name x
name_stays x n d = refl

-- The first type is good, the store has grown by what was asked, by the name and by the first type, and then the
-- second type is asked for with one more name and one more value.
pub pair_good : {E : Type 0} {s p q r : Store} {env ns : List TyId} {t x y o : TyId} (m : MsgId) {vs ws : List MsgId} {c : Bool} {k : ℕ} → TwoTys s t x y pair_ty → IsGood s env x vs c → c ≡ true → Keeps s p → AreIdsBelow vs (length s.messages) → Keeps p q → slice_get q.messages m.place ≡ Some (name k) → k ≡ length env → Keeps q r → FillsTy q r vs 0 x o → ns ≡ env ++ o ∷ [] → ws ≡ vs ++ m ∷ [] → (z : Result Bool E) → IfOk z (IsGood r ns y ws) → IfOk z (IsGood s env t vs)
pair_good {s = s} {p = p} {q = q} {r = r} {env = env} {ns = ns} {x = x} {y = y} {o = o} m {vs = vs} {ws = ws} t h w k v l at counted j f a b (Ok d) g = record {
  at = λ e u st mu stay.
      let us = values_of s.messages vs in
      let z = t.at u mu in
      let v1 = filled us z.0 in
      let v2 = ty_map (fill us) 1 z.1 in
      let good_one : good e v1 ≡ true = sym (h.at e z.0 st z.3 stay) ∙ w in
      let below_q : AreIdsBelow vs (length q.messages) = all_below_keeps l.messages (all_below_keeps k.messages v) in
      let us_q : values_of q.messages vs ≡ us = values_keep vs l.messages (all_below_keeps k.messages v) ∙ values_keep vs k.messages v in
      let us_r : values_of r.messages vs ≡ us = values_keep vs j.messages below_q ∙ us_q in
      let means_o : Means r o.place v1 = subst (λ ns. Means r o.place (filled ns z.0)) us_q (f.at 0 z.0 (omega arith) (means_keeps l (means_keeps k z.3))) in
      let stands : StandFor r (env ++ o ∷ []) (e ++ v1 ∷ []) = stand_push (stand_keeps j (stand_keeps l (stand_keeps k st))) means_o in
      let named : message_at r.messages m ≡ name (length e) = at_message r.messages m (j.messages.at _ _ at) ∙ ap name (counted ∙ stand_length st) in
      let vals : values_of r.messages ws ≡ us ++ name (length e) ∷ [] = ap (values_of r.messages) b ∙ values_push r.messages vs m ∙ (λ i. us_r i ++ named i ∷ []) in
      let stays : AllStay (us ++ name (length e) ∷ []) = stay_push us (name (length e)) stay (name_stays (length e)) in
      g.at (e ++ v1 ∷ []) z.1 (subst (λ is. StandFor r is (e ++ v1 ∷ [])) (sym a) stands) (means_keeps j (means_keeps l (means_keeps k z.4))) (subst AllStay (sym vals) stays)
      ∙ ap (λ ns. good (e ++ v1 ∷ []) (filled ns z.1)) vals
      ∙ ap (good (e ++ v1 ∷ [])) (sym (put_filled us stay (name (length e)) z.1))
      ∙ ap (λ d. d && good (e ++ v1 ∷ []) (ty_put (name (length e)) v2)) (sym good_one)
      ∙ sym (good-pair e v1 v2)
      ∙ ap (λ x. good e (filled us x)) (sym z.2);
}
pair_good m t h w k v l at counted j f a b (Err x) g = tt

-- what is asked for
pub asked_good_part : {s : Store} {env : List TyId} {t x : TyId} {vs : List MsgId} → IsAskedGood s env t vs → IsGiven s x.place → kind_size (kind_at s.types x) ≤ kind_size (kind_at s.types t) → IsAskedGood s env x vs
asked_good_part h g l = record { names = h.names; given = g; values = h.values; few = let f = h.few in omega arith }

pub asked_good_later : {s r : Store} {env ns : List TyId} {t x : TyId} {vs ws : List MsgId} → Keeps s r → IsAskedGood s env t vs → IsGiven s x.place → kind_size (kind_at s.types x) ≤ kind_size (kind_at s.types t) → ns ≡ env → ws ≡ vs → IsAskedGood r ns x ws
asked_good_later {r = r} {x = x} k h g l p q = record {
  names = subst (IsEnvironment r) (sym p) (environment_keeps k h.names);
  given = given_keeps k g;
  values = subst (λ us. AreIdsBelow us (length r.messages)) (sym q) (all_below_keeps k.messages h.values);
  few = let f = h.few in let e = size_of_kept x k g in let n = ap length p in omega arith;
}

pub asked_good_under : {s q r : Store} {env ns : List TyId} {t y o : TyId} (m : MsgId) {n : Message} {vs ws : List MsgId} → Keeps s q → IsAskedGood s env t vs → IsGiven s y.place → suc (kind_size (kind_at s.types y)) ≤ kind_size (kind_at s.types t) → slice_get q.messages m.place ≡ Some n → Keeps q r → IsGiven r o.place → ns ≡ env ++ o ∷ [] → ws ≡ vs ++ m ∷ [] → IsAskedGood r ns y ws
asked_good_under {q = q} {r = r} {env = env} {y = y} {o = o} m k h g l at j d p w = record {
  names = subst (IsEnvironment r) (sym p) record { env = _; stands = stand_push (stand_keeps j (stand_keeps k h.names.stands)) d.means };
  given = given_keeps j (given_keeps k g);
  values = below_more (all_below_keeps j.messages (all_below_keeps k.messages h.values)) (below_keeps m j.messages (slice_get_within q.messages m.place _ at)) w;
  few =
      let f = h.few in let e = size_of_kept y k g in let b = size_of_kept y j (given_keeps k g) in
      let n = ap length p in let c = length-append env (o ∷ []) in
      omega arith;
}

pub name_over : {ms : List Message} (x : ℕ) → IsOverGiven ms (Name x)
name_over x = record { message = name x; says = says_name }

pub asked_atoms : {s : Store} {env ns : List TyId} {ids js : List AtomId} {t : TyId} {vs ws : List MsgId} → IsAskedGood s env t vs → AtomsAreBelow ids (length s.messages) → js ≡ ids → ns ≡ env → ws ≡ vs → IsAskedAtoms s ns js ws
asked_atoms {s} h a p q r = record {
  names = subst (IsEnvironment s) (sym q) h.names;
  atoms = subst (λ is. AtomsAreBelow is (length s.messages)) (sym p) a;
  values = subst (λ us. AreIdsBelow us (length s.messages)) (sym r) h.values;
}
