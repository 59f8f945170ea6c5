-- A use that is held against what is asked next, and what is open behind it.
use Rattle.std.proofs.Common.{◌≡◌, refl, sym, ap, ◌∙◌, subst, ℕ, ◌<◌, ◌≤◌, List, [], ◌∷◌, ◌++◌, length, take, reverse, Option, Some, None, arith, length-append, length-take}
use Rattle.std.specs.Prelude.{slice_get}
use Rattle.std.proofs.lemmas.List.{take-append-le, take_all}
use Rattle.std.proofs.lemmas.Option.{slice_get_within}
use Rattle.spi_term.specs.Term.{Message, Effect, Ty, nonce, Prefix, Checks, Casts, Branches, Pars, Process, leaf, prefix, fork}
use Rattle.spi_term.specs.Spelling.{Shape}
use Rattle.spi_term.specs.Arena.{scope_of}
use Rattle.spi_rules.specs.Environment.{Env}
use Rattle.spi_rules.specs.Derivations.{RuleUse}
use Rattle.spi_rules.specs.declared.rule.Rule.{Rule}
use Rattle.spi_rules.specs.declared.rule.Rule.TheVariants.{ProcCheck, ProcCast}
use Rattle.spi_intern.specs.Given.{IsGiven}
use Rattle.spi_intern.specs.Meaning.{Means, Keeps}
use Rattle.spi_intern.specs.declared.store.Store.{Store}
use Rattle.spi_intern.specs.declared.messages.MsgId.{MsgId}
use Rattle.spi_intern.specs.declared.types.TyId.{TyId}
use Rattle.spi_message.specs.Judging.{Numbered, Stands, IsKept}
use Rattle.spi_message.specs.Tests.{nonce_of}
use Rattle.spi_count.specs.declared.keys.Keys.{Keys}
use Rattle.spi_audit.specs.declared.notes.Note.{Note}
use Rattle.spi_audit.specs.declared.asked.Binding.{Binding}
use Rattle.spi_audit.specs.declared.asked.Asked.{Asked}
use Rattle.spi_audit.specs.declared.asked.Asked.TheVariants as A
use Rattle.spi_audit.specs.declared.walking.Fit.{Fit}
use Rattle.spi_audit.specs.Fits.{Subject, of_message, of_process}
use Rattle.spi_audit.specs.Asked.{listed, Bound, Located}
use Rattle.spi_audit.specs.Changes.{Change, change_of, prefix_change, form_change, use_change, scope_in, check_change, cast_change}
use Rattle.spi_audit.specs.Notes.{NotedAs, noted_nothing, noted_one, noted_two, noted_serve, noted_branch, noted_cast, noted_make, IsSmallNote}
use Rattle.spi_audit.specs.Walking.{Later, later_none, later_next, Opens, opens_message, opens_later, IsWalkState, IsOpen, Settles, IsPlaced, FitsMessage, FitsMessageIn, FitsNode, UseFitsIn, StepsTo, FitsNext}
use Rattle.spi_message.proofs.Tested.{stands_kept}
use Rattle.spi_audit.proofs.Leading.{later_moved, opens_keeps, opens_asked, opens_open}
use Rattle.spi_audit.proofs.WalkUses.{few_names, located_below}

-- what is kept of a use has at most as many names in scope as the use
check_scope : (r : Rule) (k : ℕ) (m : Message) (o : Option Effect) → scope_in (check_change r k m o) ≡ k
check_scope ProcCheck k m (Some fs) = refl
check_scope _ k m o = refl

cast_scope : (r : Rule) (k : ℕ) (t : Ty) → scope_in (cast_change r k t) ≡ k
cast_scope ProcCast k (nonce fs) = refl
cast_scope _ k t = refl

prefix_scope : (r : Rule) (e : Env) (s : Prefix) → scope_in (prefix_change r e s) ≡ length e
prefix_scope r e (Checks m n) = check_scope r (length e) m (nonce_of e n)
prefix_scope r e (Casts m t) = cast_scope r (length e) t
prefix_scope r e _ = refl

form_scope : (r : Rule) (e : Env) (p : Process) → scope_in (form_change r e p) ≡ length e
form_scope r e (leaf l) = refl
form_scope r e (prefix s p) = prefix_scope r e s
form_scope r e (fork Pars p q) = refl
form_scope r e (fork (Branches m t u) p q) = refl

change_scope : (o : Option Effect) (r : Rule) (e : Env) (p : Process) → scope_in (use_change o r e p) ≡ length e
change_scope (Some fs) r e p = refl
change_scope None r e p = form_scope r e p

small_as : {s : Store} {ks : Keys} {c : Change} {o : Note} → NotedAs s ks c o → scope_in c ≤ 300000 → IsSmallNote o
small_as noted_one h = h
small_as noted_two h = h
small_as noted_serve h = h
small_as noted_branch h = h
small_as (noted_cast a b) h = h
small_as (noted_make a) h = h
small_as _ h = tt

small_note : (s : Store) (ks : Keys) (u : RuleUse) (e : Env) (p : Process) (o : Note) → length e ≤ 300000 → NotedAs s ks (change_of u (of_process e p)) o → IsSmallNote o
small_note s ks u e p o h n = small_as n (subst (λ k. k ≤ 300000) (sym (change_scope u.taken u.rule e p)) h)

-- a message that is asked next
record AtMessage (s : Store) (ss : List Shape) (base : ℕ) (id : MsgId) (t : TyId) (env : Env) (others : List Asked) (ts : List Subject) : Type 0 where
  message : Message
  type : Ty
  at : slice_get s.messages id.place ≡ Some message
  means : Means s t.place type
  rest : List Subject
  are : of_message env message type ∷ rest ≡ ts
  opens : Opens s ss base env others rest

at_message : {s : Store} {ss : List Shape} {base : ℕ} {id : MsgId} {t : TyId} {env : Env} {others : List Asked} {ts : List Subject} → Opens s ss base env (A.Message id t ∷ others) ts → AtMessage s ss base id t env others ts
at_message {s} {id = id} {t = t} (opens_message {m = m} {t = u} {ts = rest} a w) =
    let i : a.id ≡ id = cc (a.is) in
    let j : a.ty ≡ t = cc (a.is) in
    record {
      message = m;
      type = u;
      at = subst (λ (i : MsgId). slice_get s.messages i.place ≡ Some m) i a.at;
      means = subst (λ (t : TyId). Means s t.place u) j a.means;
      rest = rest;
      are = refl;
      opens = w;
    }
at_message (opens_later w) = elim w [ ]

pub message_within : (j : Numbered) (ss : List Shape) (id : MsgId) (t : TyId) → IsOpen j ss (A.Message id t) → id.place < length j.store.messages
message_within j ss id t w = let z = at_message w.opens in slice_get_within j.store.messages id.place z.message z.at

pub message_given : (j : Numbered) (ss : List Shape) (id : MsgId) (t : TyId) → IsOpen j ss (A.Message id t) → IsGiven j.store t.place
message_given j ss id t w = let z = at_message w.opens in record { type = z.type; means = z.means }

-- the next has this form
pub next_is : (j : Numbered) (ss : List Shape) {next next' : Asked} → next ≡ next' → IsOpen j ss next → IsOpen j ss next'
next_is j ss e w = subst (λ a. IsOpen j ss a) e w

pub fits_next_is : (old new : Numbered) (ks : Keys) (ss : List Shape) (u : RuleUse) {next next' : Asked} (r : Option Fit) → next ≡ next' → FitsNext old new ks ss u next' r → FitsNext old new ks ss u next r
fits_next_is old new ks ss u r e w = subst (λ a. FitsNext old new ks ss u a r) (sym e) w

pub next_message : (old new : Numbered) (ks : Keys) (ss : List Shape) (u : RuleUse) (id : MsgId) (t : TyId) → IsKept old new → (r : Option Fit) → FitsMessage old new u id t r → FitsNext old new ks ss u (A.Message id t) r
next_message old new ks ss u id t kept r f = record {
  at = λ e others ts s le w.
      let z = at_message w in
      subst (λ ts. StepsTo new ks ss u others ts r) z.are (go r e others z.message z.type z.rest s le z.opens (f.at e z.message z.type s z.at z.means));
}
  where
    go : (r : Option Fit) (e : Env) (others : List Asked) (m : Message) (v : Ty) (ts : List Subject) → Stands old e → old.free ≤ length e → Opens old.store ss old.free e others ts → FitsMessageIn new.store e u m v r → StepsTo new ks ss u others (of_message e m v ∷ ts) r
    go None e others m v ts s le w h = h
    go (Some f) e others m v ts s le w h = (
      e,
      h.0,
      h.1,
      stands_kept {j = old} {k = new} kept s,
      omega (arith, kept.free, le),
      subst (λ base. Opens new.store ss base e (listed f.premises ++ others) (h.0 ++ ts)) (sym kept.free) (opens_asked h.2 (opens_keeps kept.store w)),
      subst (λ o. NotedAs new.store ks (change_of u (of_message e m v)) o) (sym h.3) noted_nothing,
      subst IsSmallNote (sym h.3) tt,
    )

-- a process that is asked next
record AtProcess (s : Store) (ss : List Shape) (base node scope : ℕ) (names : Binding) (env : Env) (others : List Asked) (ts : List Subject) : Type 0 where
  low : base ≤ scope
  within : scope ≤ length env
  few : scope ≤ 300000
  types : Env
  process : Process
  bound : Bound s names types
  located : Located ss node (take scope env ++ types) process
  rest : List Subject
  are : of_process (take scope env ++ types) process ∷ rest ≡ ts
  later : Later s ss base scope env others rest

at_process : {s : Store} {ss : List Shape} {base node scope : ℕ} {names : Binding} {env : Env} {others : List Asked} {ts : List Subject} → Opens s ss base env (A.Process node scope names ∷ others) ts → AtProcess s ss base node scope names env others ts
at_process (opens_message a w) = absurd (cc (a.is))
at_process {ss = ss} {node = node} (opens_later (later_next {types = types} {p = p} {ts = rest} low within few bound is located later)) = record {
  low = low;
  within = within;
  few = few;
  types = types;
  process = p;
  bound = bound;
  located = subst (λ e. Located ss node e p) is located;
  rest = rest;
  are = ap (λ e. of_process e p ∷ rest) (sym is);
  later = later;
}

module _ (j : Numbered) (ss : List Shape) (node scope : ℕ) (names : Binding) (w : IsOpen j ss (A.Process node scope names)) where
  pub process_low : j.free ≤ scope
  process_low = (at_process w.opens).low

  pub process_few : scope ≤ 300000
  process_few = (at_process w.opens).few

  pub process_bound : (types : Env) × Bound j.store names types
  process_bound = let z = at_process w.opens in (z.types, z.bound)

  pub process_below : node < length ss
  process_below = located_below (at_process w.opens).located

  pub process_placed : (k : Numbered) → Settles j k names (λ e. take scope e) → IsPlaced k ss node
  process_placed k g = let z = at_process w.opens in record { env = take scope w.env ++ z.types; process = z.process; stands = g.at w.env z.types w.stands z.bound; located = z.located }

cut_length : (n : ℕ) (e types : Env) → n ≤ length e → n ≤ length (take n e ++ types)
cut_length n e types h = omega (arith, length-append (take n e) types, length-take n e)

cut_same : (n : ℕ) (e types : Env) → n ≤ length e → take n e ≡ take n (take n e ++ types)
cut_same n e types h = sym (take-append-le n (take n e) types (omega (arith, length-take n e)) ∙ take_all n (take n e) (omega (arith, length-take n e)))

pub next_process : (old mid new : Numbered) (ks : Keys) (ss : List Shape) (u : RuleUse) (node scope : ℕ) (names : Binding) → ((i : ℕ) (x : Shape) → slice_get ss i ≡ Some x → scope_of x ≤ 300000) → Settles old mid names (λ e. take scope e) → mid.store ≡ old.store → mid.free ≡ old.free → IsKept mid new → (r : Option Fit) → FitsNode mid new ks ss u node r → FitsNext old new ks ss u (A.Process node scope names) r
next_process old mid new ks ss u node scope names small turned same free kept r f = record {
  at = λ e others ts s le w.
      let z = at_process w in
      let d = take scope e ++ z.types in
      let stands = turned.at e z.types s z.bound in
      let high : scope ≤ length d = cut_length scope e z.types z.within in
      let later : Later new.store ss old.free (length d) d others z.rest = later_moved (length d) d (subst (λ s. Keeps s new.store) same kept.store) high (cut_same scope e z.types z.within) z.later in
      let low : old.free ≤ length d = omega (arith, z.low, high) in
      subst (λ ts. StepsTo new ks ss u others ts r) z.are (go r d others z.process z.rest stands low (few_names z.located small) later (f.at d z.process stands z.located));
}
  where
    base : new.free ≡ old.free
    base = kept.free ∙ free

    go : (r : Option Fit) (e : Env) (others : List Asked) (p : Process) (ts : List Subject) → Stands mid e → old.free ≤ length e → length e ≤ 300000 → Later new.store ss old.free (length e) e others ts → UseFitsIn new.store ks ss e u (of_process e p) r → StepsTo new ks ss u others (of_process e p ∷ ts) r
    go None e others p ts s le few w h = h
    go (Some f) e others p ts s le few w h = (
      e,
      h.0,
      h.1,
      stands_kept {j = mid} {k = new} kept s,
      omega (arith, base, le),
      subst (λ base. Opens new.store ss base e (listed f.premises ++ others) (h.0 ++ ts)) (sym base) (opens_open le few h.2 w),
      h.3,
      small_note new.store ks u e p f.note few h.3,
    )

-- something is asked while something is open
pub state_some : (j : Numbered) (ss : List Shape) (asked : List Asked) (ts : List Subject) → asked ≡ [] → IsWalkState j ss asked ts → 0 < length ts → ⊥
state_some j ss asked ts e w l = go (subst (λ qs. Opens j.store ss j.free w.env qs ts) (ap reverse e) w.opens) l
  where
    go : {ts : List Subject} → Opens j.store ss j.free w.env [] ts → 0 < length ts → ⊥
    go (opens_later later_none) l = absurd (omega (arith, l))
