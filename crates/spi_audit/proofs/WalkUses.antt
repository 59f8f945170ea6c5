-- A use that fits: its premises, and what is kept of it.
use Rattle.std.proofs.Common.{◌≡◌, refl, sym, ap, ◌∙◌, subst, ℕ, suc, ◌+◌, ◌<◌, ◌≤◌, List, [], ◌∷◌, ◌++◌, length, Option, Some, None}
use Rattle.std.specs.Prelude.{slice_get}
use Rattle.std.proofs.lemmas.List.{append-nil}
use Rattle.std.proofs.lemmas.Option.{slice_get_within}
use Rattle.spi_term.specs.Term.{Message, Effect, Ty, Fork, Branches, Pars, Process, leaf, prefix, fork, binds, fork_binds, process_size}
use Rattle.spi_term.specs.Spelling.{Shape, leaf_at, prefix_at, fork_at, flat, numbered, name_message, under}
use Rattle.spi_term.specs.Substitution.{leaf_map, prefix_map, fork_map}
use Rattle.spi_term.specs.Arena.{scope_of}
use Rattle.spi_term.proofs.Lists.{some_is, get_first}
use Rattle.spi_rules.specs.Environment.{Env}
use Rattle.spi_rules.specs.Good.{GoodEffect}
use Rattle.spi_rules.specs.Derivations.{RuleUse}
use Rattle.spi_rules.specs.Deriv.{IsUse, sub_use, other_use}
use Rattle.spi_rules.specs.declared.rule.Rule.{Rule}
use Rattle.spi_intern.specs.declared.store.Store.{Store}
use Rattle.spi_intern.specs.declared.messages.MsgId.{MsgId}
use Rattle.spi_intern.specs.declared.types.TyId.{TyId}
use Rattle.spi_intern.specs.Table.{TellsAll}
use Rattle.spi_intern.specs.Atoms.{SaysAtom, AtomVec}
use Rattle.spi_intern.specs.Meaning.{Keeps}
use Rattle.spi_message.specs.Judging.{Numbered, Stands, IsKept}
use Rattle.spi_message.proofs.Standing.{stand_length}
use Rattle.spi_count.specs.declared.keys.Keys.{Keys}
use Rattle.spi_audit.specs.declared.notes.Note.{Note}
use Rattle.spi_audit.specs.declared.notes.Note.TheVariants as N
use Rattle.spi_audit.specs.declared.asked.Asked.{Asked}
use Rattle.spi_audit.specs.declared.asked.Asked.TheVariants as A
use Rattle.spi_audit.specs.declared.asked.Premises.{Premises}
use Rattle.spi_audit.specs.declared.asked.Premises.TheVariants.{OnePremise}
use Rattle.spi_audit.specs.declared.walking.Fit.{Fit}
use Rattle.spi_audit.specs.Fits.{Subject, of_message, of_process, plain, subsumed, Fits, fits_name, fits_sub}
use Rattle.spi_audit.specs.Asked.{Located, IsBegun, BeginsWalk, AreBegun, begun_none, begun_next, AreOpen, open_message, open_processes, AnswersMessage, AnswersNode}
use Rattle.spi_count.specs.Keeping.{HaveKeys}
use Rattle.spi_audit.specs.Changes.{shape_change, form_change, prefix_change}
use Rattle.spi_audit.specs.Notes.{NotedAs, noted_taken, NotesNode}
use Rattle.spi_audit.specs.Walking.{FitsMessage, FitsNode}
use Rattle.spi_message.proofs.Opened.{name_none_prefix}
use Rattle.spi_message.proofs.Tested.{stands_kept}
use Rattle.spi_audit.proofs.FormPremises.{asked_later, bound_later}

-- a use that writes no effect, and one that writes one
pub is_plain : (u : RuleUse) → u.taken ≡ None → plain u.rule ≡ u
is_plain u q = ap (λ (o : Option Effect). let w : RuleUse = record { rule = u.rule; taken = o } in w) (sym q)

pub is_subsumed : {u : RuleUse} {fs : Effect} → IsUse u → u.taken ≡ Some fs → subsumed fs ≡ u
is_subsumed (sub_use gs) q = ap subsumed (sym (some_is q))
is_subsumed (other_use r n) q = absurd (cc)

-- the node where a process stands
pub record NodeOfShape (e : Env) (p : Process) (x : Shape) : Type 0 where
  pub scope : scope_of x ≡ length e
  pub change : (r : Rule) → shape_change r e x ≡ form_change r e p

record FrontOfWalk (i : ℕ) (e : Env) (p : Process) (rest : List Shape) : Type 0 where
  first : Shape
  others : List Shape
  are : flat i (length e) (numbered [] (length e) p) ++ rest ≡ first ∷ others
  node : NodeOfShape e p first

fork_change : (r : Rule) (e : Env) (f : Fork) (a b : ℕ) (p q : Process) → shape_change r e (fork_at (length e) (fork_map (name_message []) 0 f) a b) ≡ form_change r e (fork f p q)
fork_change r e Pars a b p q = refl
fork_change r e (Branches m t u) a b p q = refl

front_of : (i : ℕ) (e : Env) (p : Process) (rest : List Shape) → FrontOfWalk i e p rest
front_of i e (leaf l) rest = record {
  first = leaf_at (length e) (leaf_map (name_message []) 0 l);
  others = rest;
  are = refl;
  node = record { scope = refl; change = λ r. refl };
}
front_of i e (prefix s p) rest =
    let t = prefix_map (name_message []) 0 s in
    let q = numbered (under (binds s) (length e) []) (length e + binds s) p in
    record {
      first = prefix_at (length e) t (suc i);
      others = flat (suc i) (length e + binds t) q ++ rest;
      are = refl;
      node = record { scope = refl; change = λ r. ap (λ s. prefix_change r e s) (name_none_prefix s) };
    }
front_of i e (fork f p q) rest =
    let g = fork_map (name_message []) 0 f in
    let a = numbered (under (fork_binds f) (length e) []) (length e + fork_binds f) p in
    let b = numbered (under (fork_binds f) (length e) []) (length e + fork_binds f) q in
    record {
      first = fork_at (length e) g (suc i) (suc i + process_size a);
      others = (flat (suc i) (length e + fork_binds g) a ++ flat (suc i + process_size a) (length e + fork_binds g) b) ++ rest;
      are = refl;
      node = record { scope = refl; change = λ r. fork_change r e f (suc i) (suc i + process_size a) p q };
    }

module _ {ss : List Shape} {i : ℕ} {e : Env} {p : Process} (l : Located ss i e p) where
  front : FrontOfWalk i e p l.rest
  front = front_of i e p l.rest

  front_there : slice_get ss i ≡ Some front.first
  front_there = get_first ss i front.first front.others (l.is ∙ front.are)

  pub node_of : {x : Shape} → slice_get ss i ≡ Some x → NodeOfShape e p x
  node_of g = subst (λ x. NodeOfShape e p x) (some_is (sym front_there ∙ g)) front.node

  pub located_below : i < length ss
  located_below = slice_get_within ss i front.first front_there

  -- each node of few names in scope
  pub few_names : ((i : ℕ) (x : Shape) → slice_get ss i ≡ Some x → scope_of x ≤ 300000) → length e ≤ 300000
  few_names h = subst (λ n. n ≤ 300000) front.node.scope (h i front.first front_there)

-- a use that is asked of a message
written_misfits : {u : RuleUse} {fs : Effect} {e : Env} {m : Message} {t : Ty} {ps : List Subject} → u.taken ≡ Some fs → Fits u (of_message e m t) ps → ⊥
written_misfits q (fits_name a b) = cc
written_misfits q _ = cc

pub message_written : (old new : Numbered) (u : RuleUse) {fs : Effect} (id : MsgId) (t : TyId) → u.taken ≡ Some fs → FitsMessage old new u id t None
message_written old new u id t q = record { at = λ e m v s g w ps f. written_misfits q f }

pub message_misfits : (old new : Numbered) (u : RuleUse) (id : MsgId) (t : TyId) → u.taken ≡ None → AnswersMessage old new u.rule id t None → FitsMessage old new u id t None
message_misfits old new u id t q a = record { at = λ e m v s g w ps f. a.at e m v s g w ps (subst (λ u. Fits u (of_message e m v) ps) (sym (is_plain u q)) f) }

pub message_fits : (old new : Numbered) (u : RuleUse) (id : MsgId) (t : TyId) (q : Premises) → u.taken ≡ None → AnswersMessage old new u.rule id t (Some q) → FitsMessage old new u id t (Some (record { premises = q; note = N.Nothing }))
message_fits old new u id t q n a = record {
  at = λ e m v s g w.
      let z = a.at e m v s g w in
      (z.0, subst (λ u. Fits u (of_message e m v) z.0) (is_plain u n) z.1, z.2, refl);
}

-- what is asked stays as the store grows
begun_keeps : {s r : Store} {ss : List Shape} {env : Env} {qs : List Asked} {ts : List Subject} → Keeps s r → AreBegun s ss env qs ts → AreBegun r ss env qs ts
begun_keeps k begun_none = begun_none
begun_keeps k (begun_next a rest) = begun_next (record { node = a.node; names = a.names; types = a.types; is = a.is; bound = bound_later k a.bound; env_is = a.env_is; located = a.located }) (begun_keeps k rest)

open_keeps : {s r : Store} {ss : List Shape} {env : Env} {qs : List Asked} {ts : List Subject} → Keeps s r → AreOpen s ss env qs ts → AreOpen r ss env qs ts
open_keeps k (open_message a rest) = open_message (asked_later k a) (open_keeps k rest)
open_keeps k (open_processes w) = open_processes (begun_keeps k w)

-- a use of ProcSub
good_taken : {e : Env} {fs : Effect} {p : Process} {ps : List Subject} → Fits (subsumed fs) (of_process e p) ps → GoodEffect [] e fs
good_taken (fits_sub g) = g

pub sub_misfits : (old new : Numbered) (ks : Keys) (ss : List Shape) (fs : Effect) (i : ℕ) → ((e : Env) → Stands old e → GoodEffect [] e fs → ⊥) → FitsNode old new ks ss (subsumed fs) i None
sub_misfits old new ks ss fs i h = record { at = λ e p s l ps f. h e s (good_taken f) }

pub sub_fits : (old new : Numbered) (ks : Keys) (ss : List Shape) (fs : Effect) (i : ℕ) (ids : AtomVec) (next : Asked) → IsKept old new → TellsAll (SaysAtom new.store.messages) ids.items fs → HaveKeys new.store ks fs → ((e : Env) → Stands old e → GoodEffect [] e fs) → BeginsWalk new new i (λ e. []) next → FitsNode old new ks ss (subsumed fs) i (Some (record { premises = OnePremise next; note = N.Taken ids }))
sub_fits old new ks ss fs i ids next kept told keys good b = record {
  at = λ e p s l.
      let s' = stands_kept {j = old} {k = new} kept s in
      let begun : IsBegun new.store ss e next e p = record {
        node = i;
        names = b.names;
        types = [];
        is = b.is ∙ ap (λ n. A.Process i n b.names) (stand_length s');
        bound = b.bound e s';
        env_is = sym (append-nil e);
        located = l;
      } in
      (of_process e p ∷ [], fits_sub (good e s), open_processes (begun_next begun begun_none), noted_taken told keys);
}

-- any other use that is asked of a process
pub node_misfits : (old new : Numbered) (ks : Keys) (ss : List Shape) (r : Rule) (i : ℕ) (x : Shape) → slice_get ss i ≡ Some x → AnswersNode old new (plain r) x None → FitsNode old new ks ss (plain r) i None
node_misfits old new ks ss r i x g a = record { at = λ e p s l. a.at ss i e p s g l }

pub node_fits : (old mid new : Numbered) (ks : Keys) (ss : List Shape) (r : Rule) (i : ℕ) (x : Shape) (q : Premises) (o : Note) → slice_get ss i ≡ Some x → IsKept old mid → IsKept mid new → AnswersNode old mid (plain r) x (Some q) → NotesNode mid new ks r x o → FitsNode old new ks ss (plain r) i (Some (record { premises = q; note = o }))
node_fits old mid new ks ss r i x q o g k l a n = record {
  at = λ e p s w.
      let z = a.at ss i e p s g w in
      let c = n.at e (stands_kept {j = old} {k = mid} k s) in
      (z.0, z.1, open_keeps l.store z.2, subst (λ c. NotedAs new.store ks c o) ((node_of w g).change r) c);
}

-- a use, by what it writes
pub node_written : (old new : Numbered) (ks : Keys) (ss : List Shape) (u : RuleUse) (fs : Effect) (i : ℕ) → IsUse u → u.taken ≡ Some fs → (r : Option Fit) → FitsNode old new ks ss (subsumed fs) i r → FitsNode old new ks ss u i r
node_written old new ks ss u fs i w q r f = subst (λ u. FitsNode old new ks ss u i r) (is_subsumed w q) f

pub node_plain : (old new : Numbered) (ks : Keys) (ss : List Shape) (u : RuleUse) (i : ℕ) → u.taken ≡ None → (r : Option Fit) → FitsNode old new ks ss (plain u.rule) i r → FitsNode old new ks ss u i r
node_plain old new ks ss u i q r f = subst (λ u. FitsNode old new ks ss u i r) (is_plain u q) f
