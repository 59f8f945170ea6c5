-- Uses of the rules of messages, held against what they are asked of.
use Rattle.std.proofs.Common.{◌≡◌, refl, sym, ap, ◌∙◌, subst, ℕ, ◌≤◌, length, arith, Bool, true, false, true≢false, List, [], ◌∷◌, Some, None, ◌⊎◌, inl, inr}
use Rattle.std.proofs.lemmas.Option.{slice_get_within}
use Rattle.std.specs.Prelude.{slice_get, ⊤, if◌then◌else◌, Option}
use Rattle.spi_term.specs.Term.{Message, unit, Ty, un, unit_ty, sum_ty}
use Rattle.spi_rules.specs.Environment.{Env}
use Rattle.spi_rules.specs.declared.rule.Rule.{Rule}
use Rattle.spi_rules.specs.declared.rule.Rule.TheVariants.{MsgUnit, MsgUnitUn, MsgPairUn, MsgInl, MsgInlUn, MsgInr, MsgInrUn, MsgEncUn, MsgName, MsgEnc, MsgPair, MsgHash}
use Rattle.spi_intern.specs.declared.store.Store.{Store}
use Rattle.spi_intern.specs.declared.messages.MsgId.{MsgId}
use Rattle.spi_intern.specs.declared.messages.MsgPart.{MsgPart}
use Rattle.spi_intern.specs.declared.messages.MsgPart.TheVariants as P
use Rattle.spi_intern.specs.declared.types.TyId.{TyId}
use Rattle.spi_intern.specs.Meaning.{Means}
use Rattle.spi_intern.specs.Messages.{Says, says_bound, says_name, says_unit, says_pair, says_left, says_right, says_enc, says_hash}
use Rattle.spi_intern.specs.Meaning.{NoneTwice}
use Rattle.spi_intern.proofs.Telling.{types_tell}
use Rattle.spi_term.proofs.Lists.{at_get, get_at, some_is}
use Rattle.spi_message.proofs.Standing.{stand_at, stand_length}
use Rattle.spi_message.specs.Judging.{Numbered, Stands}
use Rattle.spi_message.specs.Tests.{is_un, is_unit}
use Rattle.spi_message.proofs.Deciding.{is_un_true}
use Rattle.spi_audit.specs.declared.asked.Asked.TheVariants as A
use Rattle.spi_audit.specs.declared.asked.Premises.{Premises}
use Rattle.spi_audit.specs.declared.asked.Premises.TheVariants.{NoPremise, OnePremise, TwoPremises}
use Rattle.spi_audit.specs.Fits.{Subject, of_message, plain, Fits, fits_unit, fits_unit_un, fits_pair_un, fits_inl, fits_inl_un, fits_inr, fits_inr_un, fits_enc_un, fits_name, fits_enc, fits_pair, fits_hash}
use Rattle.spi_audit.specs.Asked.{IsTypeAsked, asked_none, asked_next, IsWhereUn, AnsweredMessage, AnswersPart, IsSumOf, IsNoSum}

unit_of : (u : Ty) → is_un u ≡ false → is_unit u ≡ true → u ≡ unit_ty
unit_of unit_ty e f = refl
unit_of _ e f = absurd (cc)

asked_as : (s : Store) (a : MsgId) (t : TyId) {m : Message} {u : Ty} → slice_get s.messages a.place ≡ Some m → Means s t.place u → IsTypeAsked s (A.Message a t) m u
asked_as s a t g m = record { id = a; ty = t; is = refl; at = g; means = m }

-- the rules of a message's outermost form
abbrev OwnRule : MsgPart → Rule → Type 0
OwnRule (P.Name x) rule = rule ≡ MsgName
OwnRule P.Unit rule = (rule ≡ MsgUnit) ⊎ (rule ≡ MsgUnitUn)
OwnRule (P.Pair x y) rule = (rule ≡ MsgPair) ⊎ (rule ≡ MsgPairUn)
OwnRule (P.Inl x) rule = (rule ≡ MsgInl) ⊎ (rule ≡ MsgInlUn)
OwnRule (P.Inr x) rule = (rule ≡ MsgInr) ⊎ (rule ≡ MsgInrUn)
OwnRule (P.Enc x y) rule = (rule ≡ MsgEnc) ⊎ (rule ≡ MsgEncUn)
OwnRule (P.Hash x) rule = rule ≡ MsgHash
OwnRule (P.Bound i) rule = ⊥

own_rule : {ms : List Message} {p : MsgPart} {rule : Rule} {env : Env} {m : Message} {u : Ty} {ps : List Subject} → Says ms p m → Fits (plain rule) (of_message env m u) ps → OwnRule p rule
own_rule says_bound f = elim f [ ]
own_rule says_name (fits_name a q) = refl
own_rule says_unit fits_unit = inl refl
own_rule says_unit fits_unit_un = inr refl
own_rule (says_pair g h) fits_pair = inl refl
own_rule (says_pair g h) fits_pair_un = inr refl
own_rule (says_left g) fits_inl = inl refl
own_rule (says_left g) fits_inl_un = inr refl
own_rule (says_right g) fits_inr = inl refl
own_rule (says_right g) fits_inr_un = inr refl
own_rule (says_enc g h) (fits_enc a) = inl refl
own_rule (says_enc g h) fits_enc_un = inr refl
own_rule (says_hash g) (fits_hash l) = refl

-- no use of another rule fits
pub other : (j : Numbered) (rule : Rule) (t : TyId) (p : MsgPart) → (OwnRule p rule → ⊥) → AnswersPart j j rule p t None
other j rule t p d = record { at = λ env m u s w n ps f. d (own_rule w f) }

-- the rules that give a message the type Un alone
abbrev pub ForUn : Rule → Type 0
ForUn MsgUnitUn = ⊤
ForUn MsgPairUn = ⊤
ForUn MsgInlUn = ⊤
ForUn MsgInrUn = ⊤
ForUn MsgEnc = ⊤
ForUn MsgEncUn = ⊤
ForUn MsgHash = ⊤
ForUn _ = ⊥

at_un : {rule : Rule} {env : Env} {m : Message} {u : Ty} {ps : List Subject} → ForUn rule → Fits (plain rule) (of_message env m u) ps → u ≡ un
at_un k fits_unit_un = refl
at_un k fits_pair_un = refl
at_un k fits_inl_un = refl
at_un k fits_inr_un = refl
at_un k (fits_enc a) = refl
at_un k fits_enc_un = refl
at_un k (fits_hash l) = refl
at_un k _ = absurd k

module _ (j : Numbered) (t : TyId) (b : Bool) (told : (u : Ty) → Means j.store t.place u → b ≡ is_un u) where
  pub is_there : b ≡ true → (u : Ty) → Means j.store t.place u → u ≡ un
  is_there e u m = is_un_true u (sym (told u m) ∙ e)

  not_there : b ≡ false → (u : Ty) → Means j.store t.place u → u ≡ un → ⊥
  not_there e u m q = true≢false (sym (sym e ∙ (told u m ∙ ap is_un q)))

  un_fits : (rule : Rule) (p : MsgPart) (ps : Premises) → b ≡ true → ((env : Env) (m : Message) → Says j.store.messages p m → Means j.store t.place un → AnsweredMessage j.store env (plain rule) m un (Some ps)) → AnswersPart j j rule p t (Some ps)
  un_fits rule p ps e f = record { at = λ env m u s w n. subst (λ u. AnsweredMessage j.store env (plain rule) m u (Some ps)) (sym (is_there e u n)) (f env m w (subst (λ u. Means j.store t.place u) (is_there e u n) n)) }

  pub un_not : (rule : Rule) (p : MsgPart) → ForUn rule → b ≡ false → AnswersPart j j rule p t None
  un_not rule p k e = record { at = λ env m u s w n ps f. not_there e u n (at_un k f) }

  -- the premises are answered where the type is Un
  where_un : (rule : Rule) (p : MsgPart) → ForUn rule → (ps : Premises) (r : Option Premises) → r ≡ (if b then Some ps else None) → (b ≡ true → AnswersPart j j rule p t (Some ps)) → AnswersPart j j rule p t r
  where_un rule p k ps r e f = subst (AnswersPart j j rule p t) (sym e) (by b refl)
    where
      by : (d : Bool) → b ≡ d → AnswersPart j j rule p t (if d then Some ps else None)
      by true g = f g
      by false g = un_not rule p k g

  pub unit_un_fits : b ≡ true → AnswersPart j j MsgUnitUn P.Unit t (Some NoPremise)
  unit_un_fits e = un_fits MsgUnitUn P.Unit NoPremise e at
    where
      at : (env : Env) (m : Message) → Says j.store.messages P.Unit m → Means j.store t.place un → AnsweredMessage j.store env (plain MsgUnitUn) m un (Some NoPremise)
      at env _ says_unit w = ([], fits_unit_un, asked_none)

  pub unit_not_un : b ≡ true → AnswersPart j j MsgUnit P.Unit t None
  unit_not_un e = record { at = λ env m u s w n ps f. go (is_there e u n) f }
    where
      go : {env : Env} {m : Message} {u : Ty} {ps : List Subject} → u ≡ un → Fits (plain MsgUnit) (of_message env m u) ps → ⊥
      go q fits_unit = absurd (cc)

  pub unit_fits : b ≡ false → (c : Bool) → ((u : Ty) → Means j.store t.place u → c ≡ is_unit u) → c ≡ true → AnswersPart j j MsgUnit P.Unit t (Some NoPremise)
  unit_fits e c k f = record { at = at }
    where
      at : (env : Env) (m : Message) (u : Ty) → Stands j env → Says j.store.messages P.Unit m → Means j.store t.place u → AnsweredMessage j.store env (plain MsgUnit) m u (Some NoPremise)
      at env _ u s says_unit m = subst (λ u. AnsweredMessage j.store env (plain MsgUnit) unit u (Some NoPremise)) (sym (unit_of u (sym (told u m) ∙ e) (sym (k u m) ∙ f))) ([], fits_unit, asked_none)

  pub unit_not : (c : Bool) → ((u : Ty) → Means j.store t.place u → c ≡ is_unit u) → c ≡ false → AnswersPart j j MsgUnit P.Unit t None
  unit_not c k f = record { at = λ env m u s w n ps g. true≢false (sym (sym f ∙ (k u n ∙ ap is_unit (go g)))) }
    where
      go : {env : Env} {m : Message} {u : Ty} {ps : List Subject} → Fits (plain MsgUnit) (of_message env m u) ps → u ≡ unit_ty
      go fits_unit = refl

  pub pair_un_fits : (x y : MsgId) → b ≡ true → AnswersPart j j MsgPairUn (P.Pair x y) t (Some (TwoPremises (A.Message x t) (A.Message y t)))
  pair_un_fits x y e = un_fits MsgPairUn (P.Pair x y) (TwoPremises (A.Message x t) (A.Message y t)) e at
    where
      at : (env : Env) (m : Message) → Says j.store.messages (P.Pair x y) m → Means j.store t.place un → AnsweredMessage j.store env (plain MsgPairUn) m un (Some (TwoPremises (A.Message x t) (A.Message y t)))
      at env _ (says_pair {m = k} {n = l} g h) w = (of_message env k un ∷ (of_message env l un ∷ []), fits_pair_un, asked_next (asked_as j.store x t g w) (asked_next (asked_as j.store y t h w) asked_none))

  pub enc_un_fits : (x y : MsgId) → b ≡ true → AnswersPart j j MsgEncUn (P.Enc x y) t (Some (TwoPremises (A.Message x t) (A.Message y t)))
  enc_un_fits x y e = un_fits MsgEncUn (P.Enc x y) (TwoPremises (A.Message x t) (A.Message y t)) e at
    where
      at : (env : Env) (m : Message) → Says j.store.messages (P.Enc x y) m → Means j.store t.place un → AnsweredMessage j.store env (plain MsgEncUn) m un (Some (TwoPremises (A.Message x t) (A.Message y t)))
      at env _ (says_enc {m = k} {n = l} g h) w = (of_message env k un ∷ (of_message env l un ∷ []), fits_enc_un, asked_next (asked_as j.store x t g w) (asked_next (asked_as j.store y t h w) asked_none))

  pub left_un_fits : (x : MsgId) → b ≡ true → AnswersPart j j MsgInlUn (P.Inl x) t (Some (OnePremise (A.Message x t)))
  left_un_fits x e = un_fits MsgInlUn (P.Inl x) (OnePremise (A.Message x t)) e at
    where
      at : (env : Env) (m : Message) → Says j.store.messages (P.Inl x) m → Means j.store t.place un → AnsweredMessage j.store env (plain MsgInlUn) m un (Some (OnePremise (A.Message x t)))
      at env _ (says_left {m = k} g) w = (of_message env k un ∷ [], fits_inl_un, asked_next (asked_as j.store x t g w) asked_none)

  pub right_un_fits : (x : MsgId) → b ≡ true → AnswersPart j j MsgInrUn (P.Inr x) t (Some (OnePremise (A.Message x t)))
  right_un_fits x e = un_fits MsgInrUn (P.Inr x) (OnePremise (A.Message x t)) e at
    where
      at : (env : Env) (m : Message) → Says j.store.messages (P.Inr x) m → Means j.store t.place un → AnsweredMessage j.store env (plain MsgInrUn) m un (Some (OnePremise (A.Message x t)))
      at env _ (says_right {m = k} g) w = (of_message env k un ∷ [], fits_inr_un, asked_next (asked_as j.store x t g w) asked_none)

pub un_arm : (j : Numbered) (t : TyId) (rule own : Rule) → rule ≡ own → ForUn own → (p : MsgPart) (ps : Premises) (r : Option Premises) → (w : IsWhereUn j.store t ps r) → (w.0 ≡ true → AnswersPart j j own p t (Some ps)) → AnswersPart j j rule p t r
un_arm j t rule own q k p ps r w f = subst (λ o. AnswersPart j j o p t r) (sym q) (where_un j t w.0 w.1 own p k ps r w.2 f)

-- the rules that give a message a sum type alone
abbrev pub ForSum : Rule → Type 0
ForSum MsgInl = ⊤
ForSum MsgInr = ⊤
ForSum _ = ⊥

at_sum : {rule : Rule} {env : Env} {m : Message} {u : Ty} {ps : List Subject} → ForSum rule → Fits (plain rule) (of_message env m u) ps → (v w : Ty) × (u ≡ sum_ty v w)
at_sum k (fits_inl {t = v} {u = w}) = (v, w, refl)
at_sum k (fits_inr {t = v} {u = w}) = (v, w, refl)
at_sum k _ = absurd k

pub sum_not : (j : Numbered) (rule : Rule) (t : TyId) (p : MsgPart) → ForSum rule → IsNoSum j.store t → AnswersPart j j rule p t None
sum_not j rule t p k none = record { at = λ env m u s says n ps f. let (v, w, q) = at_sum k f in none.at u v w n q }

sum_fits : (j : Numbered) (rule : Rule) (t a b : TyId) (p : MsgPart) (ps : Premises) → IsSumOf j.store t a b → ((env : Env) (m : Message) (v w : Ty) → Says j.store.messages p m → Means j.store a.place v → Means j.store b.place w → AnsweredMessage j.store env (plain rule) m (sum_ty v w) (Some ps)) → AnswersPart j j rule p t (Some ps)
sum_fits j rule t a b p ps is f = record { at = λ env m u s says n. let (v, w, q, mv, mw) = is.at u n in subst (λ u. AnsweredMessage j.store env (plain rule) m u (Some ps)) (sym q) (f env m v w says mv mw) }

pub left_fits : (j : Numbered) (t a b : TyId) (y : MsgId) → IsSumOf j.store t a b → AnswersPart j j MsgInl (P.Inl y) t (Some (OnePremise (A.Message y a)))
left_fits j t a b y is = sum_fits j MsgInl t a b (P.Inl y) (OnePremise (A.Message y a)) is at
  where
    at : (env : Env) (m : Message) (v w : Ty) → Says j.store.messages (P.Inl y) m → Means j.store a.place v → Means j.store b.place w → AnsweredMessage j.store env (plain MsgInl) m (sum_ty v w) (Some (OnePremise (A.Message y a)))
    at env _ v w (says_left {m = k} g) mv mw = (of_message env k v ∷ [], fits_inl, asked_next (asked_as j.store y a g mv) asked_none)

pub right_fits : (j : Numbered) (t a b : TyId) (y : MsgId) → IsSumOf j.store t a b → AnswersPart j j MsgInr (P.Inr y) t (Some (OnePremise (A.Message y b)))
right_fits j t a b y is = sum_fits j MsgInr t a b (P.Inr y) (OnePremise (A.Message y b)) is at
  where
    at : (env : Env) (m : Message) (v w : Ty) → Says j.store.messages (P.Inr y) m → Means j.store a.place v → Means j.store b.place w → AnsweredMessage j.store env (plain MsgInr) m (sum_ty v w) (Some (OnePremise (A.Message y b)))
    at env _ v w (says_right {m = k} g) mv mw = (of_message env k w ∷ [], fits_inr, asked_next (asked_as j.store y b g mw) asked_none)

-- the type of a name
module _ (j : Numbered) (x : ℕ) (t : TyId) where
  pub name_past : length j.types ≤ x → AnswersPart j j MsgName (P.Name x) t None
  name_past l = record { at = λ env m u s w n. go s w }
    where
      go : {env : Env} {m : Message} {u : Ty} → Stands j env → Says j.store.messages (P.Name x) m → (ps : List Subject) → Fits (plain MsgName) (of_message env m u) ps → ⊥
      go {env} s says_name ps (fits_name {s = v} a q) = let b = slice_get_within env x v (at_get a) in let h = stand_length s in omega (arith, b, h, l)

  module _ (i : TyId) (d : NoneTwice j.store) (g : slice_get j.types x ≡ Some i) where
    pub name_same : i.place ≡ t.place → AnswersPart j j MsgName (P.Name x) t (Some NoPremise)
    name_same e = record { at = λ env m u s w n. go s w n }
      where
        go : {env : Env} {m : Message} {u : Ty} → Stands j env → Says j.store.messages (P.Name x) m → Means j.store t.place u → AnsweredMessage j.store env (plain MsgName) m u (Some NoPremise)
        go {env} {u = u} s says_name n = let (v, h, m) = stand_at s x i g in ([], fits_name (get_at env x h) ((types_tell j.store d i.place t.place v u m n).0 e), asked_none)

    pub name_differs : (i.place ≡ t.place → ⊥) → AnswersPart j j MsgName (P.Name x) t None
    name_differs e = record { at = λ env m u s w n. go s w n }
      where
        go : {env : Env} {m : Message} {u : Ty} → Stands j env → Says j.store.messages (P.Name x) m → Means j.store t.place u → (ps : List Subject) → Fits (plain MsgName) (of_message env m u) ps → ⊥
        go {u = u} s says_name n ps (fits_name {s = v} a q) =
            let (w, h, m) = stand_at s x i g in
            let z : w ≡ v = some_is (sym h ∙ at_get a) in
            e ((types_tell j.store d i.place t.place v u (subst (λ w. Means j.store i.place w) z m) n).1 q)
