-- What asking whether types are good gives numbers to, form by form.
use Rattle.std.proofs.Common.{◌≡◌, ◌<◌, List, [], ◌∷◌, ◌++◌, map, get_or, Some, slice_get, length, refl, sym, ap, subst, ◌∙◌, ℕ, zero, suc, arith}
use Rattle.spi_term.specs.Term.{Message, name, Effect, Ty, un, pair_ty, sum_ty, key, nonce}
use Rattle.spi_term.specs.Counts.{SameEffect}
use Rattle.spi_term.specs.Lists.{In, in_first as first_of, in_later as later_of}
use Rattle.spi_term.specs.Substitution.{atom_map, effect_map, ty_map, ty_put}
use Rattle.spi_effect.proofs.Laws.{same_map}
use Rattle.spi_rules.specs.Environment.{Env}
use Rattle.spi_intern.specs.Messages.{message_at}
use Rattle.spi_intern.specs.Parts.{PartOf, whole, message_of}
use Rattle.spi_intern.specs.Meaning.{Means, Keeps}
use Rattle.spi_intern.specs.Growing.{Given, Adds, a_message, a_type, over_messages}
use Rattle.spi_intern.specs.declared.messages.MsgId.{MsgId}
use Rattle.spi_intern.specs.declared.types.TyId.{TyId}
use Rattle.spi_intern.specs.declared.atoms.AtomId.{AtomId}
use Rattle.spi_intern.specs.declared.store.Store.{Store}
use Rattle.spi_intern.proofs.Meanings.{means_keeps}
use Rattle.spi_intern.proofs.Adding.{adds_as}
use Rattle.spi_intern.proofs.Sized.{at_message}
use Rattle.spi_message.specs.declared.answers.Asked.{Asked}
use Rattle.spi_message.specs.declared.answers.Asked.TheVariants.{Typed, Labelled, Good}
use Rattle.spi_message.specs.Judging.{StandFor}
use Rattle.spi_message.specs.Filling.{fill, filled, AllStay, values_of, atom_at, message_in, AreIdsBelow, FillsMessage, FillsTy}
use Rattle.spi_message.specs.Giving.{HasParts, GivesOnly, Compared, with_un, Tested, the_message, its_typing, Examined, the_name, its_type, in_first, in_second, in_left, in_right, in_payload, of_atom}
use Rattle.spi_message.specs.Added.{AllHaveParts, MessageIsAdded, TypeIsAdded, TypingGives, LabelGives, AtomGives, AtomsGive, GoodGives, AnswerGives}
use Rattle.spi_message.proofs.Fills.{message_keeps, values_keep, all_below_keeps}
use Rattle.spi_message.proofs.FillsTypes.{TwoTys, OneTy, NonceTy}
use Rattle.spi_message.proofs.Added.{parts_keep, all_parts_keep, message_of_atom, atom_same_in}
use Rattle.spi_message.proofs.Standing.{stand_keeps, stand_push, stand_length}
use Rattle.spi_message.proofs.Typings.{put_filled, filled_none, none_stay, stay_push}
use Rattle.spi_message.proofs.Questions.{values_push}
use Rattle.spi_message.proofs.Giving.{gives_none, gives_one, gives_more, gives_as}
use Rattle.spi_message.proofs.Comparing.{parts_push, un_part, alone_typing, none_have_parts}
use Rattle.spi_message.proofs.Goods.{filled_is, name_stays}

-- ---- one atom

pub atom_gives : {s p r : Store} {env : List TyId} (a : AtomId) {m x : MsgId} {vs : List MsgId} → m ≡ message_in a → Keeps s p → FillsMessage s.messages p.messages vs 0 m x → MessageIsAdded s p vs 0 m → LabelGives p r env (message_at p.messages x) → AtomGives s r env a vs
atom_gives {s} {p} {r} a {m} {x} {vs} q k f fa h = record {
  at = λ e st hp.
      let n = fill (values_of s.messages vs) 0 (message_at s.messages m) in
      let ad : Adds s p (a_message n) = fa.at 0 (omega arith) hp in
      let is : message_at p.messages x ≡ n = filled_is f in
      let hn : HasParts p.messages n = record { each = λ y o. ad.messages.all y o } in
      let tests = subst (λ o. GivesOnly (Compared e o un) p r) is (h.at e (stand_keeps k st) (subst (HasParts p.messages) (sym is) hn)) in
      let all : GivesOnly (Tested e n) s r = gives_more (gives_one the_message k ad) (gives_as (λ g. its_typing) tests) in
      subst (λ i. GivesOnly (Tested e (fill (values_of s.messages vs) 0 (message_at s.messages i))) s r) q all;
}

-- typing at Un gives numbers as asking for a label does
pub un_label : {p q r : Store} {env : List TyId} (x : MsgId) {t : TyId} {ws : List MsgId} → Keeps p q → Adds p q (a_type un) → Means q t.place un → x.place < length p.messages → ws ≡ [] → TypingGives q r env (message_at q.messages x) t ws → LabelGives p r env (message_at p.messages x)
un_label x k a m w v g = record { at = λ e st hn. gives_more (gives_one with_un k a) (un_part k m w v whole g e st hn) }

-- ---- atoms

pub no_atoms : {s : Store} {env : List TyId} {ids : List AtomId} {vs : List MsgId} → AtomsGive s s env ids vs
no_atoms = record { at = λ e st hp. gives_none }

in_mapped : {A B : Type 0} (f : A → B) {x : A} {xs : List A} → In x xs → In (f x) (map f xs)
in_mapped f first_of = first_of
in_mapped f (later_of h) = later_of (in_mapped f h)

pub in_got : {A : Type 0} (xs : List A) (i : ℕ) (d : A) → i < length xs → In (get_or xs i d) xs
in_got [] i d h = absurd (omega arith)
in_got (x ∷ xs) zero d h = first_of
in_got (x ∷ xs) (suc i) d h = later_of (in_got xs i d (omega arith))

pub next_atom : {s p r : Store} {env : List TyId} {ids : List AtomId} (a : AtomId) {vs : List MsgId} → AtomsGive s p env ids vs → Keeps s p → AreIdsBelow vs (length s.messages) → (message_in a).place < length s.messages → In a ids → AtomGives p r env a vs → AtomsGive s r env ids vs
next_atom {s} {p} {r} {ids = ids} a {vs} f k v w i g = record {
  at = λ e st hp.
      let fs = fill (values_of s.messages vs) 0 in
      let es = effect_map fs (map (atom_at s.messages) ids) in
      let stands : In (atom_map fs (atom_at s.messages a)) es = in_mapped (atom_map fs) (in_mapped (atom_at s.messages) i) in
      let raw = g.at e (stand_keeps k st) (all_parts_keep k.messages v hp) in
      let one : GivesOnly (Tested e (fs (message_at s.messages (message_in a)))) p r = subst (λ n. GivesOnly (Tested e n) p r) (λ j. fill (values_keep vs k.messages v j) 0 (message_keeps (message_in a) k.messages w j)) raw in
      let two : GivesOnly (Tested e (message_of (atom_map fs (atom_at s.messages a)))) p r = subst (λ n. GivesOnly (Tested e n) p r) (sym (message_of_atom fs s.messages a)) one in
      gives_more (f.at e st hp) (gives_as (λ g. of_atom stands) two);
}

-- ---- types

pub no_examining : {s : Store} {env : List TyId} {t : TyId} {vs : List MsgId} → GoodGives s s env t vs
no_examining = record { at = λ e u st m stay hp. gives_none }

pub first_examined : {s r : Store} {env : List TyId} {t x y : TyId} {vs : List MsgId} → TwoTys s t x y pair_ty → GoodGives s r env x vs → GoodGives s r env t vs
first_examined {s} {r} {vs = vs} w h = record {
  at = λ e u st m stay hp.
      let z = w.at u m in
      subst (λ v. GivesOnly (Examined e (filled (values_of s.messages vs) v)) s r) (sym z.2) (gives_as (λ g. in_first) (h.at e z.0 st z.3 stay hp));
}

pub left_examined : {s r : Store} {env : List TyId} {t x y : TyId} {vs : List MsgId} → TwoTys s t x y sum_ty → GoodGives s r env x vs → GoodGives s r env t vs
left_examined {s} {r} {vs = vs} w h = record {
  at = λ e u st m stay hp.
      let z = w.at u m in
      subst (λ v. GivesOnly (Examined e (filled (values_of s.messages vs) v)) s r) (sym z.2) (gives_as (λ g. in_left) (h.at e z.0 st z.3 stay hp));
}

pub payload_examined : {s r : Store} {env : List TyId} {t x : TyId} {vs : List MsgId} → OneTy s t x key → GoodGives s r env x vs → GoodGives s r env t vs
payload_examined {s} {r} {vs = vs} w h = record {
  at = λ e u st m stay hp.
      let z = w.at u m in
      subst (λ v. GivesOnly (Examined e (filled (values_of s.messages vs) v)) s r) (sym z.1) (gives_as (λ g. in_payload) (h.at e z.0 st z.2 stay hp));
}

-- over a store that has grown
later_examined : {s p r : Store} {env ns : List TyId} {y : TyId} {vs ws : List MsgId} → Keeps s p → AreIdsBelow vs (length s.messages) → ns ≡ env → ws ≡ vs → GoodGives p r ns y ws → (e : Env) (u : Ty) → StandFor s env e → Means s y.place u → AllStay (values_of s.messages vs) → AllHaveParts s.messages (values_of s.messages vs) → GivesOnly (Examined e (filled (values_of s.messages vs) u)) p r
later_examined {s} {p} {r} {vs = vs} {ws = ws} k v a b g e u st m stay hp =
    let vals : values_of p.messages ws ≡ values_of s.messages vs = ap (values_of p.messages) b ∙ values_keep vs k.messages v in
    let parts : AllHaveParts p.messages (values_of p.messages vs) = all_parts_keep k.messages v hp in
    subst (λ us. GivesOnly (Examined e (filled us u)) p r) vals (g.at e u (subst (λ is. StandFor p is e) (sym a) (stand_keeps k st)) (means_keeps k m) (subst AllStay (sym vals) stay) (subst (λ us. AllHaveParts p.messages (values_of p.messages us)) (sym b) parts))

pub sum_examined : {s p r : Store} {env ns : List TyId} {t x y : TyId} {vs ws : List MsgId} → TwoTys s t x y sum_ty → GoodGives s p env x vs → Keeps s p → AreIdsBelow vs (length s.messages) → ns ≡ env → ws ≡ vs → GoodGives p r ns y ws → GoodGives s r env t vs
sum_examined {s} {r = r} {vs = vs} w h k v a b g = record {
  at = λ e u st m stay hp.
      let z = w.at u m in
      subst (λ v. GivesOnly (Examined e (filled (values_of s.messages vs) v)) s r) (sym z.2) (gives_more (gives_as (λ g. in_left) (h.at e z.0 st z.3 stay hp)) (gives_as (λ g. in_right) (later_examined k v a b g e z.1 st z.4 stay hp)));
}

pub nonce_examined : {s r : Store} {t : TyId} {ids js : List AtomId} {env ns : List TyId} {vs ws : List MsgId} → NonceTy s t ids → js ≡ ids → ns ≡ env → ws ≡ vs → AtomsGive s r ns js ws → GoodGives s r env t vs
nonce_examined {s} {r} {ids = ids} {js = js} {env = env} {ns = ns} {vs = vs} {ws = ws} w p q b h = record {
  at = λ e u st m stay hp.
      let z = w.at u m in
      let f = fill (values_of s.messages vs) 0 in
      let g : AtomsGive s r env ids vs = subst (λ js. AtomsGive s r env js vs) p (subst (λ ns. AtomsGive s r ns js vs) q (subst (λ ws. AtomsGive s r ns js ws) b h)) in
      let same : SameEffect (effect_map f (map (atom_at s.messages) ids)) (effect_map f z.0) = same_map f (map (atom_at s.messages) ids) z.0 z.2 in
      subst (λ v. GivesOnly (Examined e (filled (values_of s.messages vs) v)) s r) (sym z.1) (gives_as (λ g. across same) (g.at e st hp));
}
  where
    across : {e : Env} {es fs : Effect} {g : Given} → SameEffect es fs → Examined e (nonce es) g → Examined e (nonce fs) g
    across same (of_atom {a = a} i o) = of_atom (atom_same_in a same i) o

name_part : (x : ℕ) (y : Message) → PartOf y (name x) → y ≡ name x
name_part x y whole = refl

-- a name has no parts
name_added : {p q : Store} (x : ℕ) → Adds p q (over_messages (name x)) → Adds p q (a_message (name x))
name_added x a = record { messages = adds_as (λ y e. subst (λ z. PartOf z (name x)) (sym e) whole) (λ y o. name_part x y o) a.messages; types = a.types }

-- The first type is good, the store has grown by what was asked, by the name and by the first type, and then the
-- second type is asked for with one more name and one more value.
pub pair_examined : {s p q r o : Store} {env ns : List TyId} {t x y i : TyId} (m : MsgId) {vs ws : List MsgId} {c : ℕ} → TwoTys s t x y pair_ty → GoodGives s p env x vs → Keeps s p → AreIdsBelow vs (length s.messages) → Keeps p q → slice_get q.messages m.place ≡ Some (name c) → c ≡ length env → Adds p q (over_messages (name c)) → Keeps q r → FillsTy q r vs 0 x i → TypeIsAdded q r vs 0 x → ns ≡ env ++ i ∷ [] → ws ≡ vs ++ m ∷ [] → GoodGives r o ns y ws → GoodGives s o env t vs
pair_examined {s} {p} {q} {r} {o} {env} {ns} {x = x} {y = y} {i = i} m {vs} {ws} {c} t h k v l at counted an j f fa a b g = record {
  at = λ e u st mu stay hp.
      let us = values_of s.messages vs in
      let z = t.at u mu in
      let v1 = filled us z.0 in
      let v2 = ty_map (fill us) 1 z.1 in
      let below_p : AreIdsBelow vs (length p.messages) = all_below_keeps k.messages v in
      let below_q : AreIdsBelow vs (length q.messages) = all_below_keeps l.messages below_p in
      let us_q : values_of q.messages vs ≡ us = values_keep vs l.messages below_p ∙ values_keep vs k.messages v in
      let us_r : values_of r.messages vs ≡ us = values_keep vs j.messages below_q ∙ us_q in
      let hq : AllHaveParts q.messages (values_of q.messages vs) = all_parts_keep l.messages below_p (all_parts_keep k.messages v hp) in
      let hr : AllHaveParts r.messages us = subst (AllHaveParts r.messages) us_r (all_parts_keep j.messages below_q hq) in
      let mq = means_keeps l (means_keeps k z.3) in
      let means_o : Means r i.place v1 = subst (λ ns. Means r i.place (filled ns z.0)) us_q (f.at 0 z.0 (omega arith) mq) in
      let stands : StandFor r (env ++ i ∷ []) (e ++ v1 ∷ []) = stand_push (stand_keeps j (stand_keeps l (stand_keeps k st))) means_o in
      let long : c ≡ length e = counted ∙ stand_length st in
      let named : message_at r.messages m ≡ name (length e) = at_message r.messages m (j.messages.at _ _ at) ∙ ap name long in
      let vals : values_of r.messages ws ≡ us ++ name (length e) ∷ [] = ap (values_of r.messages) b ∙ values_push r.messages vs m ∙ (λ c. us_r c ++ named c ∷ []) in
      let stays : AllStay (us ++ name (length e) ∷ []) = stay_push us (name (length e)) stay (name_stays (length e)) in
      let gave_name : Adds p q (a_message (name (length e))) = subst (λ c. Adds p q (a_message (name c))) long (name_added c an) in
      let hn : HasParts r.messages (name (length e)) = parts_keep j.messages record { each = λ y c. gave_name.messages.all y c } in
      let gave_type : Adds q r (a_type v1) = subst (λ ns. Adds q r (a_type (filled ns z.0))) us_q (fa.at 0 z.0 (omega arith) mq hq) in
      let rest = g.at (e ++ v1 ∷ []) z.1 (subst (λ is. StandFor r is (e ++ v1 ∷ [])) (sym a) stands) (means_keeps j (means_keeps l (means_keeps k z.4))) (subst AllStay (sym vals) stays) (subst (AllHaveParts r.messages) (sym vals) (parts_push hr hn)) in
      let under : GivesOnly (Examined (e ++ v1 ∷ []) (ty_put (name (length e)) v2)) r o = subst (λ w. GivesOnly (Examined (e ++ v1 ∷ []) w) r o) (ap (λ ns. filled ns z.1) vals ∙ sym (put_filled us stay (name (length e)) z.1)) rest in
      let first : GivesOnly (Examined e (pair_ty v1 v2)) s p = gives_as (λ g. in_first) (h.at e z.0 st z.3 stay hp) in
      let then_name : GivesOnly (Examined e (pair_ty v1 v2)) s q = gives_more first (gives_one the_name l gave_name) in
      let then_type : GivesOnly (Examined e (pair_ty v1 v2)) s r = gives_more then_name (gives_one its_type j gave_type) in
      subst (λ w. GivesOnly (Examined e (filled us w)) s o) (sym z.2) (gives_more then_type (gives_as (λ g. in_second) under));
}

-- ---- questions

pub typing_answer : {s r : Store} {ids ds : List TyId} (m : MsgId) (t : TyId) {vs : List MsgId} → ds ≡ ids → vs ≡ [] → TypingGives s r ds (message_at s.messages m) t vs → AnswerGives s r ids (Typed m t)
typing_answer {s} {r} {ids} m t {vs} p q h = λ env n u st at mu hn.
    let g : TypingGives s r ids (message_at s.messages m) t vs = subst (λ is. TypingGives s r is (message_at s.messages m) t vs) p h in
    let e = at_message s.messages m at in
    subst (λ n. GivesOnly (Compared env n u) s r) e (alone_typing q g env u st mu (subst (HasParts s.messages) (sym e) hn))

pub label_answer : {s r : Store} {ids ds : List TyId} (m : MsgId) → ds ≡ ids → LabelGives s r ds (message_at s.messages m) → AnswerGives s r ids (Labelled m)
label_answer {s} {r} {ids} m p h = λ env n st at hn.
    let g : LabelGives s r ids (message_at s.messages m) = subst (λ is. LabelGives s r is (message_at s.messages m)) p h in
    let e = at_message s.messages m at in
    subst (λ n. GivesOnly (Compared env n un) s r) e (g.at env st (subst (HasParts s.messages) (sym e) hn))

pub good_answer : {s r : Store} {ids : List TyId} (t : TyId) {vs : List MsgId} → vs ≡ [] → GoodGives s r ids t vs → AnswerGives s r ids (Good t)
good_answer {s} {r} {ids} t q h = λ env u st mu.
    let g : GoodGives s r ids t [] = subst (GoodGives s r ids t) q h in
    subst (λ v. GivesOnly (Examined env v) s r) (filled_none u) (g.at env u st mu none_stay none_have_parts)

pub kept_answer : (s : Store) (ids : List TyId) (a : Asked) → AnswerGives s s ids a
kept_answer s ids (Typed m t) = λ env n u st at mu hn. gives_none
kept_answer s ids (Labelled m) = λ env n st at hn. gives_none
kept_answer s ids (Good t) = λ env u st mu. gives_none
