-- Types without the effects in them, and what is seen of types that are the same so.
use Rattle.std.proofs.Common.{◌≡◌, ℕ, zero, suc, List, [], ◌∷◌, ◌++◌, Some, map, refl, sym, ap, ◌∙◌}
use Rattle.std.specs.Prelude.{slice_get}
use Rattle.std.proofs.lemmas.List.{map-append}
use Rattle.spi_term.specs.Term.{Message, unit, pair, in_left, in_right, Effect, Ty, un, unit_ty, pair_ty, sum_ty, key, nonce}
use Rattle.spi_term.specs.Substitution.{ty_map}
use Rattle.spi_rules.specs.Derivations.{RuleUse, uses}
use Rattle.spi_rules.specs.declared.rule.Rule.TheVariants.{MsgPair, MsgInl, MsgInr}
use Rattle.spi_deriv.specs.Uses.{unit_uses, pair_uses, left_uses, right_uses, message_uses}

-- a type without its effects
abbrev pub bare_type : Ty → Ty
bare_type un = un
bare_type unit_ty = unit_ty
bare_type (pair_ty t u) = pair_ty (bare_type t) (bare_type u)
bare_type (sum_ty t u) = sum_ty (bare_type t) (bare_type u)
bare_type (key t) = key (bare_type t)
bare_type (nonce es) = nonce []

pub bare_map : (f : ℕ → Message → Message) (k : ℕ) (t : Ty) → bare_type (ty_map f k t) ≡ bare_type t
bare_map f k un = refl
bare_map f k unit_ty = refl
bare_map f k (pair_ty t u) = λ i. pair_ty (bare_map f k t i) (bare_map f (suc k) u i)
bare_map f k (sum_ty t u) = λ i. sum_ty (bare_map f k t i) (bare_map f k u i)
bare_map f k (key t) = ap key (bare_map f k t)
bare_map f k (nonce es) = refl

-- what is read off a bare type
pub bare_un : (t : Ty) → bare_type t ≡ un → t ≡ un
bare_un un h = refl
bare_un _ h = absurd (cc)

pub bare_pair : (t a b : Ty) → bare_type t ≡ pair_ty a b → (c : Ty) × (d : Ty) × (t ≡ pair_ty c d)
bare_pair (pair_ty t u) a b h = (t, u, refl)
bare_pair _ a b h = absurd (cc)

pub bare_sum : (t a b : Ty) → bare_type t ≡ sum_ty a b → (c : Ty) × (d : Ty) × (t ≡ sum_ty c d)
bare_sum (sum_ty t u) a b h = (t, u, refl)
bare_sum _ a b h = absurd (cc)

pub bare_key : (t a : Ty) → bare_type t ≡ key a → (c : Ty) × (t ≡ key c) × (bare_type c ≡ a)
bare_key (key t) a h = let e : bare_type t ≡ a = cc in (t, refl, e)
bare_key _ a h = absurd (cc)

pub bare_nonce : (t : Ty) (es : Effect) → bare_type t ≡ nonce es → (fs : Effect) × (t ≡ nonce fs)
bare_nonce (nonce fs) es h = (fs, refl)
bare_nonce _ es h = absurd (cc)

-- two lists of types that are the same so
abbrev pub Alike : List Ty → List Ty → Type 0
Alike e f = map bare_type e ≡ map bare_type f

pub alike_more : (e f g h : List Ty) → Alike e f → Alike g h → Alike (e ++ g) (f ++ h)
alike_more e f g h a b = map-append bare_type e g ∙ (ap (λ l. l ++ map bare_type g) a ∙ ap (λ l. map bare_type f ++ l) b) ∙ sym (map-append bare_type f h)

pub seen : (e f : List Ty) (x : ℕ) (s : Ty) → Alike e f → slice_get f x ≡ Some s → (t : Ty) × (slice_get e x ≡ Some t) × (bare_type t ≡ bare_type s)
seen [] [] x s a h = absurd (cc)
seen [] (u ∷ f) x s a h = absurd (cc)
seen (t ∷ e) [] x s a h = absurd (cc)
seen (t ∷ e) (u ∷ f) zero s a h = let g : u ≡ s = cc in let b : bare_type t ≡ bare_type u = cc in (t, refl, b ∙ ap bare_type g)
seen (t ∷ e) (u ∷ f) (suc x) s a h = let b : map bare_type e ≡ map bare_type f = cc in seen e f x s b h

-- the uses of a message's typing go by the bare type alone
unit_bare : (t : Ty) → unit_uses t ≡ unit_uses (bare_type t)
unit_bare un = refl
unit_bare _ = refl

pair_bare : (f g : Ty → List RuleUse) → ((t : Ty) → f t ≡ f (bare_type t)) → ((t : Ty) → g t ≡ g (bare_type t)) → (t : Ty) → pair_uses f g t ≡ pair_uses f g (bare_type t)
pair_bare f g p q (pair_ty t u) = λ i. uses MsgPair (p t i ++ q u i)
pair_bare f g p q _ = refl

left_bare : (f : Ty → List RuleUse) → ((t : Ty) → f t ≡ f (bare_type t)) → (t : Ty) → left_uses f t ≡ left_uses f (bare_type t)
left_bare f p (sum_ty t u) = ap (uses MsgInl) (p t)
left_bare f p _ = refl

right_bare : (f : Ty → List RuleUse) → ((t : Ty) → f t ≡ f (bare_type t)) → (t : Ty) → right_uses f t ≡ right_uses f (bare_type t)
right_bare f p (sum_ty t u) = ap (uses MsgInr) (p u)
right_bare f p _ = refl

message_bare : (m : Message) (e : List Ty) (t : Ty) → message_uses m e t ≡ message_uses m e (bare_type t)
message_bare unit e t = unit_bare t
message_bare (pair a b) e t = pair_bare (message_uses a e) (message_uses b e) (message_bare a e) (message_bare b e) t
message_bare (in_left a) e t = left_bare (message_uses a e) (message_bare a e) t
message_bare (in_right a) e t = right_bare (message_uses a e) (message_bare a e) t
message_bare _ e t = refl

pub same_uses : (m : Message) (e : List Ty) (t u : Ty) → bare_type t ≡ bare_type u → message_uses m e t ≡ message_uses m e u
same_uses m e t u h = message_bare m e t ∙ ap (message_uses m e) h ∙ sym (message_bare m e u)
