-- What uses are asked of, by the numbers of a judge's store, and the premises of a use that fits.
use Rattle.std.specs.Prelude.{◌≡◌, ℕ, List, [], ◌∷◌, ◌++◌, drop, length, slice_get, Option, Some, None, Bool, true, false, if◌then◌else◌}
use Rattle.spi_term.specs.Lists.{At}
use Rattle.spi_term.specs.Term.{Message, name, Ty, un, pair_ty, sum_ty, key, Leaf, Prefix, Fork, Process, leaf, prefix, fork, binds, fork_binds}
use Rattle.spi_term.specs.Spelling.{Shape, flat, numbered}
use Rattle.spi_rules.specs.Environment.{Env}
use Rattle.spi_rules.specs.Messages.{IsLabel}
use Rattle.spi_rules.specs.Good.{GoodTy}
use Rattle.spi_rules.specs.Derivations.{RuleUse}
use Rattle.spi_rules.specs.declared.rule.Rule.{Rule}
use Rattle.spi_intern.specs.declared.messages.MsgId.{MsgId}
use Rattle.spi_intern.specs.declared.messages.MsgPart.{MsgPart}
use Rattle.spi_intern.specs.declared.types.TyId.{TyId}
use Rattle.spi_intern.specs.declared.store.Store.{Store}
use Rattle.spi_intern.specs.Meaning.{Means}
use Rattle.spi_intern.specs.Messages.{Says}
use Rattle.spi_message.specs.Judging.{Numbered, Stands}
use Rattle.spi_message.specs.Tests.{is_un}
use Rattle.spi_audit.specs.declared.asked.Binding.{Binding}
use Rattle.spi_audit.specs.declared.asked.Binding.TheVariants.{Nothing, OneName, TwoNames}
use Rattle.spi_audit.specs.declared.asked.Asked.{Asked}
use Rattle.spi_audit.specs.declared.asked.Asked.TheVariants as A
use Rattle.spi_audit.specs.declared.asked.Premises.{Premises}
use Rattle.spi_audit.specs.declared.asked.Premises.TheVariants.{NoPremise, OnePremise, TwoPremises, ThreePremises}
use Rattle.spi_audit.specs.Fits.{Subject, of_message, of_process, plain, Fits}
use Rattle.spi_message.specs.Forms.{enter, more, on_first, on_rest}

abbrev pub listed : Premises → List Asked
listed NoPremise = []
listed (OnePremise a) = a ∷ []
listed (TwoPremises a b) = a ∷ (b ∷ [])
listed (ThreePremises a b c) = a ∷ (b ∷ (c ∷ []))

-- the types of the names that are bound
pub data Bound (s : Store) : Binding → Env → Type 0 where
  bound_none : Bound s Nothing []
  bound_one : {i : TyId} {t : Ty} → Means s i.place t → Bound s (OneName i) (t ∷ [])
  bound_two : {i j : TyId} {t u : Ty} → Means s i.place t → Means s j.place u
      → Bound s (TwoNames i j) (t ∷ (u ∷ []))

-- the nodes of a process stand from place i on
pub record Located (ss : List Shape) (i : ℕ) (e : Env) (p : Process) : Type 0 where
  pub rest : List Shape
  pub is : drop i ss ≡ flat i (length e) (numbered [] (length e) p) ++ rest

-- asked whether a message has a type
pub record IsTypeAsked (s : Store) (a : Asked) (m : Message) (t : Ty) : Type 0 where
  pub id : MsgId
  pub ty : TyId
  pub is : a ≡ A.Message id ty
  pub at : slice_get s.messages id.place ≡ Some m
  pub means : Means s ty.place t

-- asked which effect a process has, with some more names than env has
pub record IsBegun (s : Store) (ss : List Shape) (env : Env) (a : Asked) (e : Env) (p : Process) : Type 0
  where
    pub node : ℕ
    pub names : Binding
    pub types : Env
    pub is : a ≡ A.Process node (length env) names
    pub bound : Bound s names types
    pub env_is : e ≡ env ++ types
    pub located : Located ss node e p

-- the process at a node begins with these types more, in each environment that the judge stands for
pub record BeginsWalk (old new : Numbered) (node : ℕ) (types : Env → Env) (a : Asked) : Type 0 where
  pub names : Binding
  pub is : a ≡ A.Process node (length old.types) names
  pub bound : (e : Env) → Stands old e → Bound new.store names (types e)

-- messages alone
pub data AreAsked (s : Store) (env : Env) : List Asked → List Subject → Type 0 where
  asked_none : AreAsked s env [] []
  asked_next : {a : Asked} {m : Message} {t : Ty} {others : List Asked} {ps : List Subject}
      → IsTypeAsked s a m t
      → AreAsked s env others ps → AreAsked s env (a ∷ others) (of_message env m t ∷ ps)

-- processes alone
pub data AreBegun (s : Store) (ss : List Shape) (env : Env) : List Asked → List Subject → Type 0 where
  begun_none : AreBegun s ss env [] []
  begun_next : {a : Asked} {e : Env} {p : Process} {others : List Asked} {ps : List Subject}
      → IsBegun s ss env a e p → AreBegun s ss env others ps
      → AreBegun s ss env (a ∷ others) (of_process e p ∷ ps)

-- messages, and then processes
pub data AreOpen (s : Store) (ss : List Shape) (env : Env) : List Asked → List Subject → Type 0 where
  open_message : {a : Asked} {m : Message} {t : Ty} {others : List Asked} {ps : List Subject}
      → IsTypeAsked s a m t → AreOpen s ss env others ps
      → AreOpen s ss env (a ∷ others) (of_message env m t ∷ ps)
  open_processes : {others : List Asked} {ps : List Subject} → AreBegun s ss env others ps
      → AreOpen s ss env others ps

-- what is answered of a message's use, and of a process's: the premises where it fits
abbrev pub AnsweredMessage : Store → Env → RuleUse → Message → Ty → Option Premises → Type 0
AnsweredMessage s e u m t None = (ps : List Subject) → Fits u (of_message e m t) ps → ⊥
AnsweredMessage s e u m t (Some p) = (ps : List Subject) × Fits u (of_message e m t) ps
    × AreAsked s e (listed p) ps

abbrev pub Answered : Store → List Shape → Env → RuleUse → Process → Option Premises → Type 0
Answered s ss e u p None = (ps : List Subject) → Fits u (of_process e p) ps → ⊥
Answered s ss e u p (Some q) = (ps : List Subject) × Fits u (of_process e p) ps × AreOpen s ss e (listed q) ps

-- the same in each reading of the numbers
pub record AnswersPart (old new : Numbered) (rule : Rule) (part : MsgPart) (t : TyId)
    (r : Option Premises) : Type 0 where
  pub at : (e : Env) (m : Message) (u : Ty) → Stands old e → Says old.store.messages part m
      → Means old.store t.place u → AnsweredMessage new.store e (plain rule) m u r

pub record AnswersMessage (old new : Numbered) (rule : Rule) (id : MsgId) (t : TyId)
    (r : Option Premises) : Type 0 where
  pub at : (e : Env) (m : Message) (u : Ty) → Stands old e → slice_get old.store.messages id.place ≡ Some m
      → Means old.store t.place u → AnsweredMessage new.store e (plain rule) m u r

pub record AnswersLeaf (old new : Numbered) (rule : Rule) (l : Leaf) (r : Option Premises) : Type 0 where
  pub at : (ss : List Shape) (e : Env) → Stands old e → Answered new.store ss e (plain rule) (leaf l) r

pub record AnswersPrefix (old new : Numbered) (rule : Rule) (s : Prefix) (body : ℕ)
    (r : Option Premises) : Type 0 where
  pub at : (ss : List Shape) (e : Env) (p : Process) → Stands old e
      → Located ss body (e ++ more e s) (enter (binds s) (length e) p)
      → Answered new.store ss e (plain rule) (prefix s p) r

pub record AnswersFork (old new : Numbered) (rule : Rule) (f : Fork) (a b : ℕ) (r : Option Premises) : Type 0
  where
    pub at : (ss : List Shape) (e : Env) (p q : Process) → Stands old e
        → Located ss a (e ++ on_first f) (enter (fork_binds f) (length e) p)
        → Located ss b (e ++ on_rest f) (enter (fork_binds f) (length e) q)
        → Answered new.store ss e (plain rule) (fork f p q) r

pub record AnswersNode (old new : Numbered) (u : RuleUse) (x : Shape) (r : Option Premises) : Type 0 where
  pub at : (ss : List Shape) (i : ℕ) (e : Env) (p : Process) → Stands old e → slice_get ss i ≡ Some x
      → Located ss i e p → Answered new.store ss e u p r

-- a process under one untrusted name, where what is taken has type Un
abbrev pub TakesUntrusted : Numbered → Numbered → Message → Ty → ℕ → Option Premises → Type 0
TakesUntrusted old new m t body None = is_un t ≡ false
TakesUntrusted old new m t body (Some p) =
    (a b : Asked) × (p ≡ TwoPremises a b) × IsTypeAsked new.store a m un
    × BeginsWalk old new body (λ e. t ∷ []) b
    × (is_un t ≡ true)

-- a process behind a label
abbrev pub TakesLabel : Numbered → Numbered → Message → ℕ → Option Premises → Type 0
TakesLabel old new m body None = (e : Env) → Stands old e → IsLabel [] e m → ⊥
TakesLabel old new m body (Some p) =
    (a : Asked) × (p ≡ OnePremise a) × BeginsWalk old new body (λ e. []) a
    × ((e : Env) → Stands old e → IsLabel [] e m)

-- these premises where the type with this number is Un, and none where it isn't
abbrev pub IsWhereUn : Store → TyId → Premises → Option Premises → Type 0
IsWhereUn s t ps r =
    (b : Bool) × ((u : Ty) → Means s t.place u → b ≡ is_un u) × (r ≡ (if b then Some ps else None))

-- the parts of a type by its number
pub record IsPairOf (s : Store) (t a b : TyId) : Type 0 where
  pub at : (u : Ty) → Means s t.place u
      → (v w : Ty) × (u ≡ pair_ty v w) × Means s a.place v × Means s b.place w

pub record IsSumOf (s : Store) (t a b : TyId) : Type 0 where
  pub at : (u : Ty) → Means s t.place u
      → (v w : Ty) × (u ≡ sum_ty v w) × Means s a.place v × Means s b.place w

pub record IsNoPair (s : Store) (t : TyId) : Type 0 where
  pub at : (u v w : Ty) → Means s t.place u → u ≡ pair_ty v w → ⊥

pub record IsNoSum (s : Store) (t : TyId) : Type 0 where
  pub at : (u v w : Ty) → Means s t.place u → u ≡ sum_ty v w → ⊥

-- the T of a message that is a name of type Key(T)
pub record IsKeyAt (j : Numbered) (m : Message) (t : TyId) : Type 0 where
  pub at : (e : Env) → Stands j e
      → (x : ℕ) × (v : Ty) × (m ≡ name x) × At e x (key v) × Means j.store t.place v

pub record IsNoKeyAt (j : Numbered) (m : Message) : Type 0 where
  pub at : (e : Env) (x : ℕ) (v : Ty) → Stands j e → m ≡ name x → At e x (key v) → ⊥

-- the same under a name of a good type
abbrev pub TakesGood : Numbered → Numbered → Message → Ty → ℕ → Option Premises → Type 0
TakesGood old new m t body None = (e : Env) → Stands old e → GoodTy [] e t → ⊥
TakesGood old new m t body (Some p) =
    (a b : Asked) × (p ≡ TwoPremises a b) × IsTypeAsked new.store a m un
    × BeginsWalk old new body (λ e. t ∷ []) b
    × ((e : Env) → Stands old e → GoodTy [] e t)
