-- What one use does to the accounts of the open processes.
use Rattle.std.proofs.Common.{◌≡◌, refl, sym, ap, ◌∙◌, subst, ℕ, suc, ◌≤◌, Bool, true, not, ◌&&◌, List, [], ◌∷◌, ◌++◌, reverse, length, ◌<◌, Result, Ok, Err, IfOk, arith}
use Rattle.std.specs.Prelude.{Vec, vec_len}
use Rattle.std.specs.declared.alloc.Global.{Global}
use Rattle.std.proofs.lemmas.List.{reverse-append, nil_from_length}
use Rattle.std.proofs.lemmas.Option.{slice_get_within}
use Rattle.spi_term.specs.Term.{name, Atom, ends, checks, many, Effect, nonce}
use Rattle.spi_effect.specs.Made.{minus, greater, mentions, is_within}
use Rattle.spi_intern.specs.declared.store.Store.{Store}
use Rattle.spi_intern.specs.declared.messages.MsgId.{MsgId}
use Rattle.spi_intern.specs.declared.types.TyId.{TyId}
use Rattle.spi_intern.specs.declared.atoms.AtomId.{AtomId}
use Rattle.spi_intern.specs.declared.atoms.AtomId.TheVariants.{End, Check, Many}
use Rattle.spi_intern.specs.Atoms.{SaysAtom, says_end, says_check, says_many, AtomVec}
use Rattle.spi_intern.specs.Meaning.{Means}
use Rattle.spi_intern.specs.Table.{TellsAll}
use Rattle.spi_count.specs.Sums.{name_bound, Below}
use Rattle.spi_count.specs.declared.keys.Keys.{Keys}
use Rattle.spi_audit.specs.declared.accounts.Account.{Account}
use Rattle.spi_audit.specs.declared.notes.Note.{Note}
use Rattle.spi_audit.specs.declared.notes.Note.TheVariants as N
use Rattle.spi_count.specs.Keeping.{IsKeyed, HasKey, HaveKeys}
use Rattle.spi_audit.specs.Accounts.{Held, IsHeld, HoldsEffects, holds_next, LeavesOne, LeavesTwo, HoldsMore, HoldsLess}
use Rattle.spi_audit.specs.Changes.{Change, served, chosen, summed, IsScoped, before, own, scope_in, effects_after, pays, top_effect}
use Rattle.spi_audit.specs.Notes.{NotedAs, noted_nothing, noted_empty, noted_same, noted_one, noted_two, noted_serve, noted_branch, noted_check, noted_begin, noted_end, noted_many, noted_cast, noted_make, noted_both, noted_taken, ChangesOne, ChangesAll, IsBeforeChange, IsBeforeOne, IsUnaryNote}
use Rattle.spi_intern.specs.Parts.{message_of}

abbrev first_number : List ℕ → ℕ
first_number [] = 0
first_number (n ∷ ns) = n

-- what is held in the scope before is held in the one that is named there
named_held : {s : Store} {keys : Keys} (acc : Account) {es : Effect} (k n : ℕ) → (k ∷ []) ≡ (n ∷ []) → Held s keys n acc es → Held s keys k acc es
named_held {s} {keys} acc {es} k n e h = subst (λ n. Held s keys n acc es) (sym (ap first_number e)) h

pub same_one : (s : Store) (keys : Keys) (acc : Account) → ChangesOne s keys N.Same acc true acc
same_one s keys acc = record { at = at }
  where
    at : (c : Change) (n : ℕ) (es : Effect) → NotedAs s keys c N.Same → IsScoped c → before c ≡ n ∷ [] → Held s keys n acc es → Held s keys (scope_in c) acc (top_effect (effects_after c (es ∷ []))) × (true ≡ pays c (es ∷ []))
    at _ n es (noted_same {k}) w e h = (named_held acc k n e h, refl)

pub nothing_one : (s : Store) (keys : Keys) (acc : Account) → ChangesOne s keys N.Nothing acc true acc
nothing_one s keys acc = record { at = at }
  where
    at : (c : Change) (n : ℕ) (es : Effect) → NotedAs s keys c N.Nothing → IsScoped c → before c ≡ n ∷ [] → Held s keys n acc es → Held s keys (scope_in c) acc (top_effect (effects_after c (es ∷ []))) × (true ≡ pays c (es ∷ []))
    at _ n es noted_nothing w e h = absurd (cc)

pub empty_one : (s : Store) (keys : Keys) (acc : Account) → ChangesOne s keys N.Empty acc true acc
empty_one s keys acc = record { at = at }
  where
    at : (c : Change) (n : ℕ) (es : Effect) → NotedAs s keys c N.Empty → IsScoped c → before c ≡ n ∷ [] → Held s keys n acc es → Held s keys (scope_in c) acc (top_effect (effects_after c (es ∷ []))) × (true ≡ pays c (es ∷ []))
    at _ n es (noted_empty {k}) w e h = absurd (cc)

pub case_one : (s : Store) (keys : Keys) (i : ℕ) (acc : Account) → ChangesOne s keys (N.Case i) acc true acc
case_one s keys i acc = record { at = at }
  where
    at : (c : Change) (n : ℕ) (es : Effect) → NotedAs s keys c (N.Case i) → IsScoped c → before c ≡ n ∷ [] → Held s keys n acc es → Held s keys (scope_in c) acc (top_effect (effects_after c (es ∷ []))) × (true ≡ pays c (es ∷ []))
    at _ n es (noted_branch {k}) w e h = absurd (cc)

pub both_one : (s : Store) (keys : Keys) (acc : Account) → ChangesOne s keys N.Both acc true acc
both_one s keys acc = record { at = at }
  where
    at : (c : Change) (n : ℕ) (es : Effect) → NotedAs s keys c N.Both → IsScoped c → before c ≡ n ∷ [] → Held s keys n acc es → Held s keys (scope_in c) acc (top_effect (effects_after c (es ∷ []))) × (true ≡ pays c (es ∷ []))
    at _ n es (noted_both {k}) w e h = absurd (cc)

pub leave_one_changes : (s : Store) (keys : Keys) (i : ℕ) (old new : Account) (b : Bool) → LeavesOne s keys i old b new → ChangesOne s keys (N.LeaveOne i) old b new
leave_one_changes s keys i old new b l = record { at = at }
  where
    at : (c : Change) (n : ℕ) (es : Effect) → NotedAs s keys c (N.LeaveOne i) → IsScoped c → before c ≡ n ∷ [] → Held s keys n old es → Held s keys (scope_in c) new (top_effect (effects_after c (es ∷ []))) × (b ≡ pays c (es ∷ []))
    at _ n es noted_one w e h = l es (named_held old (suc i) n e h)

pub leave_two_changes : (s : Store) (keys : Keys) (i : ℕ) (old new : Account) (b : Bool) → LeavesTwo s keys i old b new → ChangesOne s keys (N.LeaveTwo i) old b new
leave_two_changes s keys i old new b l = record { at = at }
  where
    at : (c : Change) (n : ℕ) (es : Effect) → NotedAs s keys c (N.LeaveTwo i) → IsScoped c → before c ≡ n ∷ [] → Held s keys n old es → Held s keys (scope_in c) new (top_effect (effects_after c (es ∷ []))) × (b ≡ pays c (es ∷ []))
    at _ n es noted_two w e h = l es (named_held old (suc (suc i)) n e h)

pub serve_changes : (s : Store) (keys : Keys) (i : ℕ) (old new : Account) (b : Bool) → ((es : Effect) → Held s keys (suc i) old es → Held s keys i new es × (b ≡ pays (served i) (es ∷ []))) → ChangesOne s keys (N.Serve i) old b new
serve_changes s keys i old new b l = record { at = at }
  where
    at : (c : Change) (n : ℕ) (es : Effect) → NotedAs s keys c (N.Serve i) → IsScoped c → before c ≡ n ∷ [] → Held s keys n old es → Held s keys (scope_in c) new (top_effect (effects_after c (es ∷ []))) × (b ≡ pays c (es ∷ []))
    at _ n es noted_serve w e h = l es (named_held old (suc i) n e h)

-- an atom by its number goes in or out, in any store
abbrev pub AtomIn : Keys → AtomId → Account → Account → Type 0
AtomIn keys a old new = (s : Store) (b : Atom) (k : ℕ) → IsKeyed s keys → SaysAtom s.messages a b → HasKey s keys (message_of b) → name_bound (message_of b) ≤ k → HoldsMore s keys k (b ∷ []) old new

abbrev pub AtomOut : Keys → AtomId → Account → Account → Type 0
AtomOut keys a old new = (s : Store) (b : Atom) (k : ℕ) → IsKeyed s keys → SaysAtom s.messages a b → name_bound (message_of b) ≤ k → HoldsLess s keys k (b ∷ []) old new

abbrev pub TypeTurns : Store → Keys → TyId → Account → Account → Type 0
TypeTurns s keys t old new = (fs : Effect) (k : ℕ) → IsKeyed s keys → Means s t.place (nonce fs) → HaveKeys s keys fs → Below k fs → HoldsMore s keys k fs old new

abbrev pub TypeOut : Store → Keys → TyId → Account → Account → Type 0
TypeOut s keys t old new = (fs : Effect) (k : ℕ) → IsKeyed s keys → Means s t.place (nonce fs) → Below k fs → HoldsLess s keys k fs old new

pub check_changes : (s : Store) (keys : Keys) (id : MsgId) (t : TyId) (old rest new : Account) → IsKeyed s keys → TypeOut s keys t old rest → AtomIn keys (Check id) rest new → ChangesOne s keys (N.Check id t) old true new
check_changes s keys id t old rest new kd out more = record { at = at }
  where
    at : (c : Change) (n : ℕ) (es : Effect) → NotedAs s keys c (N.Check id t) → IsScoped c → before c ≡ n ∷ [] → Held s keys n old es → Held s keys (scope_in c) new (top_effect (effects_after c (es ∷ []))) × (true ≡ pays c (es ∷ []))
    at _ n es (noted_check {k} {m} {fs} g means) w e h =
        (more s (checks m) k kd (says_check g.at) (id.place, g) w.0 (minus es fs) (out fs k kd means w.1 es (named_held old k n e h)), refl)

pub begin_changes : (s : Store) (keys : Keys) (id : MsgId) (old rest new : Account) → IsKeyed s keys → AtomOut keys (End id) old rest → AtomOut keys (Many id) rest new → ChangesOne s keys (N.Begin id) old true new
begin_changes s keys id old rest new kd out all = record { at = at }
  where
    at : (c : Change) (n : ℕ) (es : Effect) → NotedAs s keys c (N.Begin id) → IsScoped c → before c ≡ n ∷ [] → Held s keys n old es → Held s keys (scope_in c) new (top_effect (effects_after c (es ∷ []))) × (true ≡ pays c (es ∷ []))
    at _ n es (noted_begin {k} {m} g) w e h =
        (all s (many m) k kd (says_many g) w (minus es (ends m ∷ [])) (out s (ends m) k kd (says_end g) w es (named_held old k n e h)), refl)

pub end_changes : (s : Store) (keys : Keys) (id : MsgId) (old new : Account) → IsKeyed s keys → AtomIn keys (End id) old new → ChangesOne s keys (N.End id) old true new
end_changes s keys id old new kd more = record { at = at }
  where
    at : (c : Change) (n : ℕ) (es : Effect) → NotedAs s keys c (N.End id) → IsScoped c → before c ≡ n ∷ [] → Held s keys n old es → Held s keys (scope_in c) new (top_effect (effects_after c (es ∷ []))) × (true ≡ pays c (es ∷ []))
    at _ n es (noted_end {k} {m} g) w e h = (more s (ends m) k kd (says_end g.at) (id.place, g) w es (named_held old k n e h), refl)

pub many_changes : (s : Store) (keys : Keys) (id : MsgId) (old new : Account) → IsKeyed s keys → AtomIn keys (Many id) old new → ChangesOne s keys (N.EndMany id) old true new
many_changes s keys id old new kd more = record { at = at }
  where
    at : (c : Change) (n : ℕ) (es : Effect) → NotedAs s keys c (N.EndMany id) → IsScoped c → before c ≡ n ∷ [] → Held s keys n old es → Held s keys (scope_in c) new (top_effect (effects_after c (es ∷ []))) × (true ≡ pays c (es ∷ []))
    at _ n es (noted_many {k} {m} g) w e h = (more s (many m) k kd (says_many g.at) (id.place, g) w es (named_held old k n e h), refl)

pub cast_changes : (s : Store) (keys : Keys) (i : ℕ) (t : TyId) (old rest new : Account) (b : Bool) → IsKeyed s keys → LeavesOne s keys i old b rest → TypeTurns s keys t rest new → ChangesOne s keys (N.Cast i t) old b new
cast_changes s keys i t old rest new b kd l more = record { at = at }
  where
    at : (c : Change) (n : ℕ) (es : Effect) → NotedAs s keys c (N.Cast i t) → IsScoped c → before c ≡ n ∷ [] → Held s keys n old es → Held s keys (scope_in c) new (top_effect (effects_after c (es ∷ []))) × (b ≡ pays c (es ∷ []))
    at _ n es (noted_cast {fs = fs} means key) w e h =
        let r = l es (named_held old (suc i) n e h) in
        (more fs i kd means key w es r.0, r.1)

pub make_changes : (s : Store) (keys : Keys) (i : ℕ) (id : MsgId) (old rest new : Account) (b : Bool) → IsKeyed s keys → AtomOut keys (Check id) old rest → LeavesOne s keys i rest b new → ChangesOne s keys (N.Make i id) old b new
make_changes s keys i id old rest new b kd out l = record { at = at }
  where
    at : (c : Change) (n : ℕ) (es : Effect) → NotedAs s keys c (N.Make i id) → IsScoped c → before c ≡ n ∷ [] → Held s keys n old es → Held s keys (scope_in c) new (top_effect (effects_after c (es ∷ []))) × (b ≡ pays c (es ∷ []))
    at _ n es (noted_make g) w e h = l (minus es (checks (name i) ∷ [])) (out s (checks (name i)) (suc i) kd (says_check g) (omega arith) es (named_held old (suc i) n e h))

-- changes of one process
pub record IsUnary (c : Change) : Type 0 where
  pub names : ℕ
  pub before_is : before c ≡ names ∷ []
  pub own_is : own c ≡ scope_in c ∷ []
  pub after_is : (es : Effect) (st : List Effect) → effects_after c (es ∷ st) ≡ top_effect (effects_after c (es ∷ [])) ∷ st
  pub pays_is : (es : Effect) (st : List Effect) → pays c (es ∷ st) ≡ pays c (es ∷ [])

unary : {s : Store} {keys : Keys} {c : Change} {o : Note} → NotedAs s keys c o → IsUnaryNote o → IsUnary c
unary noted_nothing i = absurd i
unary noted_empty i = absurd i
unary (noted_same {k}) i = record { names = k; before_is = refl; own_is = refl; after_is = λ es st. refl; pays_is = λ es st. refl }
unary (noted_one {k}) i = record { names = suc k; before_is = refl; own_is = refl; after_is = λ es st. refl; pays_is = λ es st. refl }
unary (noted_two {k}) i = record { names = suc (suc k); before_is = refl; own_is = refl; after_is = λ es st. refl; pays_is = λ es st. refl }
unary (noted_serve {k}) i = record { names = suc k; before_is = refl; own_is = refl; after_is = λ es st. refl; pays_is = λ es st. refl }
unary noted_branch i = absurd i
unary (noted_check {k} g m) i = record { names = k; before_is = refl; own_is = refl; after_is = λ es st. refl; pays_is = λ es st. refl }
unary (noted_begin {k} g) i = record { names = k; before_is = refl; own_is = refl; after_is = λ es st. refl; pays_is = λ es st. refl }
unary (noted_end {k} g) i = record { names = k; before_is = refl; own_is = refl; after_is = λ es st. refl; pays_is = λ es st. refl }
unary (noted_many {k} g) i = record { names = k; before_is = refl; own_is = refl; after_is = λ es st. refl; pays_is = λ es st. refl }
unary (noted_cast {k} m g) i = record { names = suc k; before_is = refl; own_is = refl; after_is = λ es st. refl; pays_is = λ es st. refl }
unary (noted_make {k} g) i = record { names = suc k; before_is = refl; own_is = refl; after_is = λ es st. refl; pays_is = λ es st. refl }
unary noted_both i = absurd i
unary (noted_taken {k} t g) i = record { names = k; before_is = refl; own_is = refl; after_is = λ es st. refl; pays_is = λ es st. refl }

-- the stack grows at its end
pub holds_push : {s : Store} {keys : Keys} (old new : List Account) (acc : Account) {n : ℕ} {ns : List ℕ} {es : Effect} {st : List Effect} → new ≡ old ++ acc ∷ [] → Held s keys n acc es → HoldsEffects s keys ns (reverse old) st → HoldsEffects s keys (n ∷ ns) (reverse new) (es ∷ st)
holds_push {s} {keys} old new acc {n} {ns} {es} {st} e h t = subst (λ l. HoldsEffects s keys (n ∷ ns) l (es ∷ st)) (sym (ap reverse e ∙ reverse-append old (acc ∷ []))) (holds_next h t)

pub holds_top : {s : Store} {keys : Keys} (old rest : List Account) (acc : Account) {ns : List ℕ} {st : List Effect} → old ≡ rest ++ acc ∷ [] → HoldsEffects s keys ns (reverse old) st → HoldsEffects s keys ns (acc ∷ reverse rest) st
holds_top {s} {keys} old rest acc {ns} {st} e t = subst (λ l. HoldsEffects s keys ns l st) (ap reverse e ∙ reverse-append rest (acc ∷ [])) t

pub holds_empty : {s : Store} {keys : Keys} (old : List Account) {ns : List ℕ} {st : List Effect} → old ≡ [] → HoldsEffects s keys ns (reverse old) st → HoldsEffects s keys ns [] st
holds_empty {s} {keys} old {ns} {st} e t = subst (λ l. HoldsEffects s keys ns (reverse l) st) e t

pub holds_names : {s : Store} {keys : Keys} {ns ms : List ℕ} {accs : List Account} {st : List Effect} → ns ≡ ms → HoldsEffects s keys ns accs st → HoldsEffects s keys ms accs st
holds_names {s} {keys} {accs = accs} {st = st} e t = subst (λ ns. HoldsEffects s keys ns accs st) e t

pub some_held : {s : Store} {keys : Keys} {n : ℕ} {ns : List ℕ} {st : List Effect} → HoldsEffects s keys (n ∷ ns) [] st → ⊥
some_held t = elim t [ ]

module _ {s : Store} {keys : Keys} {o : Note} (one : IsUnaryNote o) where
  pub changes_none : (old new : List Account) (b : Bool) → old ≡ [] → ChangesAll s keys o old b new
  changes_none old new b e = record {
    at = λ c ns st w sc h. let u = unary w one in absurd (some_held (holds_names (ap (λ xs. xs ++ ns) u.before_is) (holds_empty old e h)));
  }

  pub before_one : (old rest : List Account) (acc : Account) → old ≡ rest ++ acc ∷ [] → IsBeforeChange s keys o old → IsBeforeOne s keys o acc
  before_one old rest acc e b = go (holds_names (ap (λ xs. xs ++ b.scopes) (unary b.noted one).before_is) (holds_top old rest acc e b.holds))
    where
      go : {st : List Effect} → HoldsEffects s keys ((unary b.noted one).names ∷ b.scopes) (acc ∷ reverse rest) st → IsBeforeOne s keys o acc
      go (holds_next {es = es} h t) = record {
        keyed = b.keyed;
        change = b.change;
        names = (unary b.noted one).names;
        effect = es;
        noted = b.noted;
        scoped = b.scoped;
        one = (unary b.noted one).before_is;
        held = h;
      }

  pub changes_top : (old rest new : List Account) (acc next : Account) (b : Bool) → old ≡ rest ++ acc ∷ [] → new ≡ rest ++ next ∷ [] → ChangesOne s keys o acc b next → ChangesAll s keys o old b new
  changes_top old rest new acc next b e f one_change = record {
    at = λ c ns st w sc h. go c ns st w sc (holds_names (ap (λ xs. xs ++ ns) (unary w one).before_is) (holds_top old rest acc e h));
  }
    where
      go : (c : Change) (ns : List ℕ) (st : List Effect) (w : NotedAs s keys c o) → IsScoped c → HoldsEffects s keys ((unary w one).names ∷ ns) (acc ∷ reverse rest) st → HoldsEffects s keys (own c ++ ns) (reverse new) (effects_after c st) × (b ≡ pays c st)
      go c ns _ w sc (holds_next {es = es} {st = st} h t) =
          let u = unary w one in
          let r = one_change.at c u.names es w sc u.before_is h in
          (subst (λ l. HoldsEffects s keys (own c ++ ns) (reverse new) l) (sym (u.after_is es st)) (holds_names (sym (ap (λ xs. xs ++ ns) u.own_is)) (holds_push rest new next f r.0 t)), r.1 ∙ sym (u.pays_is es st))

pub changes_empty : (s : Store) (keys : Keys) (old new : List Account) (acc : Account) → new ≡ old ++ acc ∷ [] → ((n : ℕ) → Held s keys n acc []) → ChangesAll s keys N.Empty old true new
changes_empty s keys old new acc e h = record { at = at }
  where
    at : (c : Change) (ns : List ℕ) (st : List Effect) → NotedAs s keys c N.Empty → IsScoped c → HoldsEffects s keys (before c ++ ns) (reverse old) st → HoldsEffects s keys (own c ++ ns) (reverse new) (effects_after c st) × (true ≡ pays c st)
    at _ ns st (noted_empty {k}) w t = (holds_push old new acc e (h k) t, refl)

pub changes_nothing : (s : Store) (keys : Keys) (old : List Account) → ChangesAll s keys N.Nothing old true old
changes_nothing s keys old = record { at = at }
  where
    at : (c : Change) (ns : List ℕ) (st : List Effect) → NotedAs s keys c N.Nothing → IsScoped c → HoldsEffects s keys (before c ++ ns) (reverse old) st → HoldsEffects s keys (own c ++ ns) (reverse old) (effects_after c st) × (true ≡ pays c st)
    at _ ns st noted_nothing w t = (t, refl)

-- two processes
module _ {s : Store} {keys : Keys} {o : Note} (two : (c : Change) → NotedAs s keys c o → (n : ℕ) × (before c ≡ n ∷ (n ∷ []))) where
  pub two_none : (old new : List Account) (b : Bool) → old ≡ [] → ChangesAll s keys o old b new
  two_none old new b e = record {
    at = λ c ns st w sc h. let u = two c w in absurd (some_held (holds_names (ap (λ xs. xs ++ ns) u.1) (holds_empty old e h)));
  }

  pub two_first : (old mid new : List Account) (a : Account) (b : Bool) → old ≡ mid ++ a ∷ [] → mid ≡ [] → ChangesAll s keys o old b new
  two_first old mid new a b e f = record {
    at = λ c ns st w sc h. let u = two c w in absurd (go (holds_names (ap (λ xs. xs ++ ns) u.1) (holds_top old mid a e h)));
  }
    where
      go : {n : ℕ} {ns : List ℕ} {st : List Effect} → HoldsEffects s keys (n ∷ (n ∷ ns)) (a ∷ reverse mid) st → ⊥
      go (holds_next h t) = some_held (holds_empty mid f t)

pub both_two : {s : Store} {keys : Keys} (c : Change) → NotedAs s keys c N.Both → (n : ℕ) × (before c ≡ n ∷ (n ∷ []))
both_two _ (noted_both {k}) = (k, refl)

pub branch_two : {s : Store} {keys : Keys} (i : ℕ) (c : Change) → NotedAs s keys c (N.Case i) → (n : ℕ) × (before c ≡ n ∷ (n ∷ []))
branch_two i _ noted_branch = (suc i, refl)

pub both_changes : (s : Store) (keys : Keys) (old mid rest new : List Account) (a b sum : Account) → old ≡ mid ++ a ∷ [] → mid ≡ rest ++ b ∷ [] → new ≡ rest ++ sum ∷ [] → ((n : ℕ) (es fs : Effect) → Held s keys n a es → Held s keys n b fs → Held s keys n sum (es ++ fs)) → ChangesAll s keys N.Both old true new
both_changes s keys old mid rest new a b sum e f g add = record { at = at }
  where
    second : {k : ℕ} {ns : List ℕ} {es : Effect} {st : List Effect} → Held s keys k a es → HoldsEffects s keys (k ∷ ns) (b ∷ reverse rest) st → HoldsEffects s keys (k ∷ ns) (reverse new) (effects_after (summed k) (es ∷ st))
    second {k} {es = es} h (holds_next {es = fs} i t) = holds_push rest new sum g (add k es fs h i) t

    first : {k : ℕ} {ns : List ℕ} {st : List Effect} → HoldsEffects s keys (k ∷ (k ∷ ns)) (a ∷ reverse mid) st → HoldsEffects s keys (k ∷ ns) (reverse new) (effects_after (summed k) st)
    first (holds_next h t) = second h (holds_top mid rest b f t)

    at : (c : Change) (ns : List ℕ) (st : List Effect) → NotedAs s keys c N.Both → IsScoped c → HoldsEffects s keys (before c ++ ns) (reverse old) st → HoldsEffects s keys (own c ++ ns) (reverse new) (effects_after c st) × (true ≡ pays c st)
    at _ ns st (noted_both {k}) w t = (first (holds_top old mid a e t), refl)

abbrev pub TwoSides : Store → Keys → ℕ → Account → Account → Bool → Account → Type 0
TwoSides s keys i a b t most = (es fs : Effect) → Held s keys (suc i) a es → Held s keys (suc i) b fs → Held s keys i most (greater es fs) × (t ≡ not (mentions i es) && not (mentions i fs))

pub branch_changes : (s : Store) (keys : Keys) (i : ℕ) (old mid rest new : List Account) (a b most : Account) (pay : Bool) → old ≡ mid ++ a ∷ [] → mid ≡ rest ++ b ∷ [] → new ≡ rest ++ most ∷ [] → TwoSides s keys i a b pay most → ChangesAll s keys (N.Case i) old pay new
branch_changes s keys i old mid rest new a b most pay e f g sides = record { at = at }
  where
    second : {ns : List ℕ} {es : Effect} {st : List Effect} → Held s keys (suc i) a es → HoldsEffects s keys (suc i ∷ ns) (b ∷ reverse rest) st → HoldsEffects s keys (i ∷ ns) (reverse new) (effects_after (chosen i) (es ∷ st)) × (pay ≡ pays (chosen i) (es ∷ st))
    second {es = es} h (holds_next {es = fs} j t) = let r = sides es fs h j in (holds_push rest new most g r.0 t, r.1)

    first : {ns : List ℕ} {st : List Effect} → HoldsEffects s keys (suc i ∷ (suc i ∷ ns)) (a ∷ reverse mid) st → HoldsEffects s keys (i ∷ ns) (reverse new) (effects_after (chosen i) st) × (pay ≡ pays (chosen i) st)
    first (holds_next h t) = second h (holds_top mid rest b f t)

    at : (c : Change) (ns : List ℕ) (st : List Effect) → NotedAs s keys c (N.Case i) → IsScoped c → HoldsEffects s keys (before c ++ ns) (reverse old) st → HoldsEffects s keys (own c ++ ns) (reverse new) (effects_after c st) × (pay ≡ pays c st)
    at _ ns st noted_branch w t = first (holds_top old mid a e t)

-- both processes of a case are held before
pub branch_held : (s : Store) (keys : Keys) (i : ℕ) (old mid rest : List Account) (a b : Account) → old ≡ mid ++ a ∷ [] → mid ≡ rest ++ b ∷ [] → IsBeforeChange s keys (N.Case i) old → IsHeld s keys a × IsHeld s keys b
branch_held s keys i old mid rest a b e f w = first (holds_names (ap (λ xs. xs ++ w.scopes) (branch_two i w.change w.noted).1) (holds_top old mid a e w.holds))
  where
    second : {n : ℕ} {ns : List ℕ} {st : List Effect} → HoldsEffects s keys (n ∷ ns) (b ∷ reverse rest) st → IsHeld s keys b
    second {n} (holds_next {es = fs} j t) = (w.keyed, n, fs, j)

    first : {n : ℕ} {ns : List ℕ} {st : List Effect} → HoldsEffects s keys (n ∷ (n ∷ ns)) (a ∷ reverse mid) st → IsHeld s keys a × IsHeld s keys b
    first {n} (holds_next {es = es} h t) = ((w.keyed, n, es, h), second (holds_top mid rest b f t))

-- what is before a change holds its account
pub one_held : {s : Store} {keys : Keys} {o : Note} {acc : Account} → IsBeforeOne s keys o acc → IsHeld s keys acc
one_held b = (b.keyed, b.names, b.effect, b.held)

pub check_place : {s : Store} {keys : Keys} {id : MsgId} {t : TyId} {acc : Account} → IsBeforeOne s keys (N.Check id t) acc → t.place < length s.types
check_place {s} {keys} {id} {t} {acc} b = go b.noted
  where
    go : {c : Change} → NotedAs s keys c (N.Check id t) → t.place < length s.types
    go (noted_check g m) = slice_get_within s.types t.place m.kind m.at

pub cast_place : {s : Store} {keys : Keys} {i : ℕ} {t : TyId} {acc : Account} → IsBeforeOne s keys (N.Cast i t) acc → t.place < length s.types
cast_place {s} {keys} {i} {t} {acc} b = go b.noted
  where
    go : {c : Change} → NotedAs s keys c (N.Cast i t) → t.place < length s.types
    go (noted_cast m h) = slice_get_within s.types t.place m.kind m.at

pub make_held : {s : Store} {keys : Keys} {i : ℕ} {id : MsgId} {acc : Account} (rest : Account) → IsBeforeOne s keys (N.Make i id) acc → AtomOut keys (Check id) acc rest → IsHeld s keys rest
make_held {s} {keys} {i} {id} {acc} rest b out = go b.noted b.one
  where
    go : {c : Change} → NotedAs s keys c (N.Make i id) → before c ≡ b.names ∷ [] → IsHeld s keys rest
    go (noted_make g) e = (b.keyed, suc i, minus b.effect (checks (name i) ∷ []), out s (checks (name i)) (suc i) b.keyed (says_check g) (omega arith) b.effect (named_held acc (suc i) b.names e b.held))

pub if_ok : {A E : Type 0} {P Q : A → Type 0} (r : Result A E) → ((a : A) → P a → Q a) → IfOk r P → IfOk r Q
if_ok (Ok a) f h = f a h
if_ok (Err e) f h = tt

-- an effect that is written takes the place
pub taken_changes : (s : Store) (keys : Keys) (ids : AtomVec) (old new : Account) (b : Bool) → IsKeyed s keys → ((fs es : Effect) (k : ℕ) → TellsAll (SaysAtom s.messages) ids.items fs → HaveKeys s keys fs → Below k fs → Held s keys k old es → Held s keys k new fs × (b ≡ is_within es fs)) → ChangesOne s keys (N.Taken ids) old b new
taken_changes s keys ids old new b kd f = record { at = at }
  where
    at : (c : Change) (n : ℕ) (es : Effect) → NotedAs s keys c (N.Taken ids) → IsScoped c → before c ≡ n ∷ [] → Held s keys n old es → Held s keys (scope_in c) new (top_effect (effects_after c (es ∷ []))) × (b ≡ pays c (es ∷ []))
    at _ n es (noted_taken {k} {fs} t g) w e h = f fs es k t g w (named_held old k n e h)

pub no_items : {A : Type 0} (v : Vec A Global) → vec_len v ≡ 0 → v.items ≡ []
no_items v e = nil_from_length v.items (omega (arith, v.ok.0, e))
