-- What the forward pass keeps of uses by numbers, and what that stands for.
use Rattle.std.specs.Prelude.{◌≡◌, ℕ, ◌≤◌, ⊤, Bool, slice_get, List, [], ◌∷◌, ◌++◌, reverse, Option, Some, None}
use Rattle.spi_term.specs.Term.{Message, name, Atom, Effect, un, nonce}
use Rattle.spi_term.specs.Spelling.{Shape}
use Rattle.spi_rules.specs.Environment.{Env}
use Rattle.spi_rules.specs.Messages.{HasType, IsLabel}
use Rattle.spi_rules.specs.Good.{GoodEffect}
use Rattle.spi_rules.specs.declared.rule.Rule.{Rule}
use Rattle.spi_intern.specs.declared.store.Store.{Store}
use Rattle.spi_intern.specs.declared.messages.MsgId.{MsgId}
use Rattle.spi_intern.specs.declared.types.TyId.{TyId}
use Rattle.spi_intern.specs.declared.atoms.AtomId.{AtomId}
use Rattle.spi_intern.specs.Table.{TellsAll}
use Rattle.spi_intern.specs.Atoms.{SaysAtom, AtomVec}
use Rattle.spi_intern.specs.Meaning.{Means}
use Rattle.spi_message.specs.Judging.{Numbered, Stands}
use Rattle.spi_count.specs.declared.keys.Keys.{Keys}
use Rattle.spi_audit.specs.declared.accounts.Account.{Account}
use Rattle.spi_audit.specs.declared.notes.Note.{Note}
use Rattle.spi_audit.specs.declared.notes.Note.TheVariants as N
use Rattle.spi_count.specs.Keeping.{with_keys, HasKey, HaveKeys, IsKeyed, AreKept}
use Rattle.spi_audit.specs.Accounts.{Held, HoldsEffects}
use Rattle.spi_audit.specs.Changes.{Change, nothing_done, no_effect, same_effect, one_left, two_left, served, chosen, checked, begun, ended, ended_many, casted, made, summed, subsumed_to, shape_change, top_effect, effects_after, pays, before, own, scope_in, IsScoped, AreScoped}
use Rattle.spi_intern.specs.Parts.{message_of}

-- what is kept of a use stands for what it does
pub data NotedAs (s : Store) (keys : Keys) : Change → Note → Type 0 where
  noted_nothing : NotedAs s keys nothing_done N.Nothing
  noted_empty : {k : ℕ} → NotedAs s keys (no_effect k) N.Empty
  noted_same : {k : ℕ} → NotedAs s keys (same_effect k) N.Same
  noted_one : {k : ℕ} → NotedAs s keys (one_left k) (N.LeaveOne k)
  noted_two : {k : ℕ} → NotedAs s keys (two_left k) (N.LeaveTwo k)
  noted_serve : {k : ℕ} → NotedAs s keys (served k) (N.Serve k)
  noted_branch : {k : ℕ} → NotedAs s keys (chosen k) (N.Case k)
  noted_check : {k : ℕ} {m : Message} {fs : Effect} {id : MsgId} {t : TyId} → with_keys s keys id.place m
      → Means s t.place (nonce fs) → NotedAs s keys (checked k m fs) (N.Check id t)
  noted_begin : {k : ℕ} {m : Message} {id : MsgId} → slice_get s.messages id.place ≡ Some m
      → NotedAs s keys (begun k m) (N.Begin id)
  noted_end : {k : ℕ} {m : Message} {id : MsgId} → with_keys s keys id.place m
      → NotedAs s keys (ended k m) (N.End id)
  noted_many : {k : ℕ} {m : Message} {id : MsgId} → with_keys s keys id.place m
      → NotedAs s keys (ended_many k m) (N.EndMany id)
  noted_cast : {k : ℕ} {fs : Effect} {t : TyId} → Means s t.place (nonce fs) → HaveKeys s keys fs
      → NotedAs s keys (casted k fs) (N.Cast k t)
  noted_make : {k : ℕ} {id : MsgId} → slice_get s.messages id.place ≡ Some (name k)
      → NotedAs s keys (made k) (N.Make k id)
  noted_both : {k : ℕ} → NotedAs s keys (summed k) N.Both
  noted_taken : {k : ℕ} {fs : Effect} {ids : AtomVec} → TellsAll (SaysAtom s.messages) ids.items fs
      → HaveKeys s keys fs → NotedAs s keys (subsumed_to k fs) (N.Taken ids)

pub data AreNoted (s : Store) (keys : Keys) : List Change → List Note → Type 0 where
  are_noted_none : AreNoted s keys [] []
  are_noted_next : {c : Change} {o : Note} {cs : List Change} {os : List Note} → NotedAs s keys c o
      → AreNoted s keys cs os → AreNoted s keys (c ∷ cs) (o ∷ os)

-- what is kept of a node's use in each environment that the judge stood for
pub record NotesNode (old new : Numbered) (ks : Keys) (rule : Rule) (x : Shape) (o : Note) : Type 0 where
  pub at : (e : Env) → Stands old e → NotedAs new.store ks (shape_change rule e x) o

-- the atoms of a written effect by numbers, where it is good
abbrev pub TakesEffect : Numbered → Numbered → Keys → Effect → Option AtomVec → Type 0
TakesEffect old new ks es None = (e : Env) → Stands old e → GoodEffect [] e es → ⊥
TakesEffect old new ks es (Some ids) = TellsAll (SaysAtom new.store.messages) ids.items es
    × HaveKeys new.store ks es × ((e : Env) → Stands old e → GoodEffect [] e es)

-- what a change with one premise does to its account
pub record ChangesOne (s : Store) (keys : Keys) (o : Note) (old : Account) (b : Bool) (new : Account) : Type 0
  where
    pub at : (c : Change) (n : ℕ) (es : Effect) → NotedAs s keys c o → IsScoped c → before c ≡ n ∷ []
        → Held s keys n old es
        → Held s keys (scope_in c) new (top_effect (effects_after c (es ∷ []))) × (b ≡ pays c (es ∷ []))

-- what a change does to the accounts of the open processes: the stack grows at its end
pub record ChangesAll (s : Store) (keys : Keys) (o : Note) (old : List Account) (b : Bool)
    (new : List Account) : Type 0 where
  pub at : (c : Change) (ns : List ℕ) (st : List Effect) → NotedAs s keys c o → IsScoped c
      → HoldsEffects s keys (before c ++ ns) (reverse old) st
      → HoldsEffects s keys (own c ++ ns) (reverse new) (effects_after c st) × (b ≡ pays c st)

-- a change that is to be made, with what stands behind it
pub record IsBeforeChange (s : Store) (keys : Keys) (o : Note) (old : List Account) : Type 0 where
  pub keyed : IsKeyed s keys
  pub change : Change
  pub scopes : List ℕ
  pub effects : List Effect
  pub noted : NotedAs s keys change o
  pub scoped : IsScoped change
  pub holds : HoldsEffects s keys (before change ++ scopes) (reverse old) effects

-- the same for the change of one account
pub record IsBeforeOne (s : Store) (keys : Keys) (o : Note) (old : Account) : Type 0 where
  pub keyed : IsKeyed s keys
  pub change : Change
  pub names : ℕ
  pub effect : Effect
  pub noted : NotedAs s keys change o
  pub scoped : IsScoped change
  pub one : before change ≡ names ∷ []
  pub held : Held s keys names old effect

-- at most 300,000 names are in scope
abbrev pub IsSmallNote : Note → Type 0
IsSmallNote N.Nothing = ⊤
IsSmallNote N.Empty = ⊤
IsSmallNote N.Same = ⊤
IsSmallNote (N.LeaveOne k) = k ≤ 300000
IsSmallNote (N.LeaveTwo k) = k ≤ 300000
IsSmallNote (N.Serve k) = k ≤ 300000
IsSmallNote (N.Case k) = k ≤ 300000
IsSmallNote (N.Check id t) = ⊤
IsSmallNote (N.Begin id) = ⊤
IsSmallNote (N.End id) = ⊤
IsSmallNote (N.EndMany id) = ⊤
IsSmallNote (N.Cast k t) = k ≤ 300000
IsSmallNote (N.Make k id) = k ≤ 300000
IsSmallNote N.Both = ⊤
IsSmallNote (N.Taken ids) = ⊤

abbrev pub AreSmallNotes : List Note → Type 0
AreSmallNotes [] = ⊤
AreSmallNotes (o ∷ os) = IsSmallNote o × AreSmallNotes os

-- there is one process in the premises
abbrev pub IsUnaryNote : Note → Type 0
IsUnaryNote N.Nothing = ⊥
IsUnaryNote N.Empty = ⊥
IsUnaryNote N.Same = ⊤
IsUnaryNote (N.LeaveOne k) = ⊤
IsUnaryNote (N.LeaveTwo k) = ⊤
IsUnaryNote (N.Serve k) = ⊤
IsUnaryNote (N.Case k) = ⊥
IsUnaryNote (N.Check id t) = ⊤
IsUnaryNote (N.Begin id) = ⊤
IsUnaryNote (N.End id) = ⊤
IsUnaryNote (N.EndMany id) = ⊤
IsUnaryNote (N.Cast k t) = ⊤
IsUnaryNote (N.Make k id) = ⊤
IsUnaryNote N.Both = ⊥
IsUnaryNote (N.Taken ids) = ⊤

-- what is kept are the changes of one process's uses
pub record IsRooted (s : Store) (keys : Keys) (os : List Note) : Type 0 where
  pub changes : List Change
  pub names : ℕ
  pub kept : AreKept s keys
  pub noted : AreNoted s keys changes os
  pub scoped : AreScoped (names ∷ []) changes

-- a message's number with its key, where it is a label, and where it has type Un
abbrev pub TakesLabelled : Numbered → Numbered → Keys → Message → Option MsgId → Type 0
TakesLabelled old new ks m None = (e : Env) → Stands old e → IsLabel [] e m → ⊥
TakesLabelled old new ks m (Some id) = with_keys new.store ks id.place m
    × ((e : Env) → Stands old e → IsLabel [] e m)

abbrev pub TakesUn : Numbered → Numbered → Keys → Message → Option MsgId → Type 0
TakesUn old new ks m None = (e : Env) → Stands old e → HasType [] e m un → ⊥
TakesUn old new ks m (Some id) = with_keys new.store ks id.place m
    × ((e : Env) → Stands old e → HasType [] e m un)

-- an atom by numbers, where it is good
abbrev pub TakesAtomic : Numbered → Numbered → Keys → Atom → Option AtomId → Type 0
TakesAtomic old new ks a None = (e : Env) → Stands old e → GoodEffect [] e (a ∷ []) → ⊥
TakesAtomic old new ks a (Some id) = SaysAtom new.store.messages id a × HasKey new.store ks (message_of a)
    × ((e : Env) → Stands old e → GoodEffect [] e (a ∷ []))
