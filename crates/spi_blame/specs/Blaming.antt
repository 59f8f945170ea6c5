-- What typing a message asks of its parts, and the first of them that lacks what is asked.
use Rattle.std.specs.Prelude.{◌≡◌, ℕ, ◌<◌, List, [], ◌∷◌}
use Rattle.spi_rules.specs.Environment.{Env}
use Rattle.spi_rules.specs.Messages.{HasType, IsLabel}
use Rattle.spi_term.specs.Lists.{At}
use Rattle.spi_term.specs.SameTy.{SameTy}
use Rattle.spi_term.specs.Substitution.{ty_put}
use Rattle.spi_term.specs.Term.{Message, name, unit, pair, in_left, in_right, enc, hash, Ty, un, unit_ty, pair_ty, sum_ty, key}

-- a question: has the message this type, and is it a label
pub data Question : Type 0 where
  typed : (part : Message) (wanted : Ty) → Question
  labelled : (part : Message) → Question

-- the answer is yes
abbrev pub AnswersYes : Env → Question → Type 0
AnswersYes env (typed m t) = HasType [] env m t
AnswersYes env (labelled m) = IsLabel [] env m

-- the message that is asked about
abbrev pub subject : Question → Message
subject (typed m t) = m
subject (labelled m) = m

-- the message is a name of a Key type
pub record IsKeyName (env : Env) (m : Message) : Type 0 where
  pub number : ℕ
  pub payload : Ty
  pub is : m ≡ name number
  pub has : At env number (key payload)

-- Asks env q qs: a typing rule is for q, and its premises are qs, those of a message's first part first and those of the
-- key of {M}N before those of M. Where no rule is for q, it asks nothing
pub data Asks (env : Env) : Question → List Question → Type 0 where
  asks_name : {x : ℕ} {s t : Ty} → At env x s → SameTy s t → Asks env (typed (name x) t) []
  asks_unit : Asks env (typed unit unit_ty) []
  asks_unit_un : Asks env (typed unit un) []
  asks_pair : {m n : Message} {t u : Ty}
      → Asks env (typed (pair m n) (pair_ty t u)) (typed m t ∷ typed n (ty_put m u) ∷ [])
  asks_pair_un : {m n : Message} → Asks env (typed (pair m n) un) (typed m un ∷ typed n un ∷ [])
  asks_left : {m : Message} {t u : Ty} → Asks env (typed (in_left m) (sum_ty t u)) (typed m t ∷ [])
  asks_left_un : {m : Message} → Asks env (typed (in_left m) un) (typed m un ∷ [])
  asks_right : {m : Message} {t u : Ty} → Asks env (typed (in_right m) (sum_ty t u)) (typed m u ∷ [])
  asks_right_un : {m : Message} → Asks env (typed (in_right m) un) (typed m un ∷ [])
  asks_key : {m : Message} {x : ℕ} {t : Ty}
      → At env x (key t) → Asks env (typed (enc m (name x)) un) (typed (name x) (key t) ∷ typed m t ∷ [])
  asks_enc : {m n : Message}
      → (IsKeyName env n → ⊥) → Asks env (typed (enc m n) un) (typed n un ∷ typed m un ∷ [])
  asks_hash : {m : Message} → Asks env (typed (hash m) un) (labelled m ∷ [])
  asks_label_name : {x : ℕ} {t : Ty} → At env x t → Asks env (labelled (name x)) []
  asks_label_unit : Asks env (labelled unit) []
  asks_label_pair : {m n : Message} → Asks env (labelled (pair m n)) (labelled m ∷ labelled n ∷ [])
  asks_label_left : {m : Message} → Asks env (labelled (in_left m)) (labelled m ∷ [])
  asks_label_right : {m : Message} → Asks env (labelled (in_right m)) (labelled m ∷ [])
  asks_label_key : {m : Message} {x : ℕ} {t : Ty}
      → At env x (key t) → Asks env (labelled (enc m (name x))) (typed (name x) (key t) ∷ typed m t ∷ [])
  asks_label_enc : {m n : Message}
      → (IsKeyName env n → ⊥) → Asks env (labelled (enc m n)) (typed n un ∷ typed m un ∷ [])
  asks_label_hash : {m : Message} → Asks env (labelled (hash m)) (labelled m ∷ [])

-- no rule is for the question
abbrev pub IsMisfit : Env → Question → Type 0
IsMisfit env q = (qs : List Question) → Asks env q qs → ⊥

-- each answer is yes
abbrev pub EachHolds : Env → List Question → Type 0
EachHolds env qs = (i : ℕ) (r : Question) → At qs i r → AnswersYes env r

-- each answer before number i is yes
abbrev pub HoldBefore : Env → List Question → ℕ → Type 0
HoldBefore env qs i = (j : ℕ) (r : Question) → j < i → At qs j r → AnswersYes env r

-- Blamed env q path r: r is to blame for q's no. It stands at the end of the path, no rule is for it, and what is asked
-- before it holds
pub data Blamed (env : Env) : Question → List ℕ → Question → Type 0 where
  itself : {q : Question} → IsMisfit env q → Blamed env q [] q
  inside : {q r s : Question} {qs : List Question} {i : ℕ} {path : List ℕ}
      → Asks env q qs → At qs i r → HoldBefore env qs i → Blamed env r path s → Blamed env q (i ∷ path) s
