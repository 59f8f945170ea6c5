-- What uses do to the effects of processes: the effects that stand behind a use, of each process that is still open there,
-- and where a use pays. Computed, for uses that fit.
use Rattle.std.specs.Prelude.{◌≡◌, ℕ, suc, ◌≤◌, Bool, true, not, ◌&&◌, ◌||◌, List, [], ◌∷◌, ◌++◌, length, Option, Some, None, if◌then◌else◌, ⊤}
use Rattle.spi_term.specs.Term.{Message, name, ends, checks, many, Effect, Ty, nonce, Prefix, Recvs, Serves, Splits, Selects, Decrypts, Checks, Begins, Ends, EndManys, Casts, Freshes, Branches, Pars, Process, leaf, prefix, fork}
use Rattle.spi_term.specs.Spelling.{Shape, leaf_at, prefix_at, fork_at}
use Rattle.spi_effect.specs.Made.{are_many, minus, greater, mentions, is_within}
use Rattle.spi_count.specs.Sums.{name_bound, Below}
use Rattle.spi_rules.specs.Environment.{Env}
use Rattle.spi_rules.specs.Derivations.{RuleUse}
use Rattle.spi_rules.specs.declared.rule.Rule.{Rule}
use Rattle.spi_rules.specs.declared.rule.Rule.TheVariants.{ProcCheck, ProcCast}
use Rattle.spi_message.specs.Tests.{nonce_of}
use Rattle.spi_audit.specs.Fits.{Subject, of_message, of_process}

-- what a use does where k names are in scope: a message's use does nothing
pub data Change : Type 0 where
  nothing_done : Change
  no_effect : (k : ℕ) → Change
  same_effect : (k : ℕ) → Change
  one_left : (k : ℕ) → Change
  two_left : (k : ℕ) → Change
  served : (k : ℕ) → Change
  chosen : (k : ℕ) → Change
  checked : (k : ℕ) (m : Message) (fs : Effect) → Change
  begun : (k : ℕ) (m : Message) → Change
  ended : (k : ℕ) (m : Message) → Change
  ended_many : (k : ℕ) (m : Message) → Change
  casted : (k : ℕ) (fs : Effect) → Change
  made : (k : ℕ) → Change
  summed : (k : ℕ) → Change
  subsumed_to : (k : ℕ) (fs : Effect) → Change

abbrev pub check_change : Rule → ℕ → Message → Option Effect → Change
check_change ProcCheck k m (Some fs) = checked k m fs
check_change _ k m o = same_effect k

abbrev pub cast_change : Rule → ℕ → Ty → Change
cast_change ProcCast k (nonce fs) = casted k fs
cast_change _ k t = one_left k

abbrev pub prefix_change : Rule → Env → Prefix → Change
prefix_change r e (Recvs m t) = one_left (length e)
prefix_change r e (Serves m t) = served (length e)
prefix_change r e (Splits m t u) = two_left (length e)
prefix_change r e (Selects m t n u) = one_left (length e)
prefix_change r e (Decrypts m t n) = one_left (length e)
prefix_change r e (Checks m n) = check_change r (length e) m (nonce_of e n)
prefix_change r e (Begins m) = begun (length e) m
prefix_change r e (Ends m) = ended (length e) m
prefix_change r e (EndManys m) = ended_many (length e) m
prefix_change r e (Casts m t) = cast_change r (length e) t
prefix_change r e (Freshes t) = made (length e)

abbrev pub form_change : Rule → Env → Process → Change
form_change r e (leaf l) = no_effect (length e)
form_change r e (prefix s p) = prefix_change r e s
form_change r e (fork Pars p q) = summed (length e)
form_change r e (fork (Branches m t u) p q) = chosen (length e)

abbrev pub shape_change : Rule → Env → Shape → Change
shape_change r e (leaf_at k l) = no_effect (length e)
shape_change r e (prefix_at k s b) = prefix_change r e s
shape_change r e (fork_at k Pars a b) = summed (length e)
shape_change r e (fork_at k (Branches m t u) a b) = chosen (length e)

abbrev pub use_change : Option Effect → Rule → Env → Process → Change
use_change (Some fs) r e p = subsumed_to (length e) fs
use_change None r e p = form_change r e p

abbrev pub change_of : RuleUse → Subject → Change
change_of u (of_message e m t) = nothing_done
change_of u (of_process e p) = use_change u.taken u.rule e p

-- the first effect, the others
abbrev pub top_effect : List Effect → Effect
top_effect [] = []
top_effect (e ∷ st) = e

abbrev pub below_top : List Effect → List Effect
below_top [] = []
below_top (e ∷ st) = st

abbrev pub on_top : (Effect → Effect) → List Effect → List Effect
on_top f st = f (top_effect st) ∷ below_top st

abbrev pub on_two_effects : (Effect → Effect → Effect) → List Effect → List Effect
on_two_effects f st = f (top_effect st) (top_effect (below_top st)) ∷ below_top (below_top st)

-- the effects of the open processes before a use, from those behind it
abbrev pub effects_after : Change → List Effect → List Effect
effects_after nothing_done st = st
effects_after (no_effect k) st = [] ∷ st
effects_after (same_effect k) st = st
effects_after (one_left k) st = st
effects_after (two_left k) st = st
effects_after (served k) st = st
effects_after (chosen k) st = on_two_effects greater st
effects_after (checked k m fs) st = on_top (λ es. minus es fs ++ checks m ∷ []) st
effects_after (begun k m) st = on_top (λ es. minus es (ends m ∷ (many m ∷ []))) st
effects_after (ended k m) st = on_top (λ es. es ++ ends m ∷ []) st
effects_after (ended_many k m) st = on_top (λ es. es ++ many m ∷ []) st
effects_after (casted k fs) st = on_top (λ es. es ++ fs) st
effects_after (made k) st = on_top (λ es. minus es (checks (name k) ∷ [])) st
effects_after (summed k) st = on_two_effects (λ es fs. es ++ fs) st
effects_after (subsumed_to k fs) st = on_top (λ es. fs) st

abbrev pub pays : Change → List Effect → Bool
pays nothing_done st = true
pays (no_effect k) st = true
pays (same_effect k) st = true
pays (one_left k) st = not (mentions k (top_effect st))
pays (two_left k) st = not (mentions k (top_effect st) || mentions (suc k) (top_effect st))
pays (served k) st = are_many (top_effect st) && not (mentions k (top_effect st))
pays (chosen k) st = not (mentions k (top_effect st)) && not (mentions k (top_effect (below_top st)))
pays (checked k m fs) st = true
pays (begun k m) st = true
pays (ended k m) st = true
pays (ended_many k m) st = true
pays (casted k fs) st = not (mentions k (top_effect st))
pays (made k) st = not (mentions k (minus (top_effect st) (checks (name k) ∷ [])))
pays (summed k) st = true
pays (subsumed_to k fs) st = is_within (top_effect st) fs

abbrev pub run_changes : List Change → List Effect
run_changes [] = []
run_changes (c ∷ cs) = effects_after c (run_changes cs)

-- the first from number i on that doesn't pay
abbrev pub first_unpaid_change : ℕ → List Change → Option ℕ
first_unpaid_change i [] = None
first_unpaid_change i (c ∷ cs) = if pays c (run_changes cs) then first_unpaid_change (suc i) cs else Some i

-- how many names are in scope at the processes that a change takes the effects of, and at its own
abbrev pub before : Change → List ℕ
before nothing_done = []
before (no_effect k) = []
before (same_effect k) = k ∷ []
before (one_left k) = suc k ∷ []
before (two_left k) = suc (suc k) ∷ []
before (served k) = suc k ∷ []
before (chosen k) = suc k ∷ (suc k ∷ [])
before (checked k m fs) = k ∷ []
before (begun k m) = k ∷ []
before (ended k m) = k ∷ []
before (ended_many k m) = k ∷ []
before (casted k fs) = suc k ∷ []
before (made k) = suc k ∷ []
before (summed k) = k ∷ (k ∷ [])
before (subsumed_to k fs) = k ∷ []

abbrev pub scope_in : Change → ℕ
scope_in nothing_done = 0
scope_in (no_effect k) = k
scope_in (same_effect k) = k
scope_in (one_left k) = k
scope_in (two_left k) = k
scope_in (served k) = k
scope_in (chosen k) = k
scope_in (checked k m fs) = k
scope_in (begun k m) = k
scope_in (ended k m) = k
scope_in (ended_many k m) = k
scope_in (casted k fs) = k
scope_in (made k) = k
scope_in (summed k) = k
scope_in (subsumed_to k fs) = k

abbrev pub own : Change → List ℕ
own nothing_done = []
own (no_effect k) = k ∷ []
own (same_effect k) = k ∷ []
own (one_left k) = k ∷ []
own (two_left k) = k ∷ []
own (served k) = k ∷ []
own (chosen k) = k ∷ []
own (checked k m fs) = k ∷ []
own (begun k m) = k ∷ []
own (ended k m) = k ∷ []
own (ended_many k m) = k ∷ []
own (casted k fs) = k ∷ []
own (made k) = k ∷ []
own (summed k) = k ∷ []
own (subsumed_to k fs) = k ∷ []

-- what a change says is in its scope
abbrev pub IsScoped : Change → Type 0
IsScoped nothing_done = ⊤
IsScoped (no_effect k) = ⊤
IsScoped (same_effect k) = ⊤
IsScoped (one_left k) = ⊤
IsScoped (two_left k) = ⊤
IsScoped (served k) = ⊤
IsScoped (chosen k) = ⊤
IsScoped (checked k m fs) = (name_bound m ≤ k) × Below k fs
IsScoped (begun k m) = name_bound m ≤ k
IsScoped (ended k m) = name_bound m ≤ k
IsScoped (ended_many k m) = name_bound m ≤ k
IsScoped (casted k fs) = Below k fs
IsScoped (made k) = ⊤
IsScoped (summed k) = ⊤
IsScoped (subsumed_to k fs) = Below k fs

-- the open processes have these numbers of names in scope
pub data AreScoped : List ℕ → List Change → Type 0 where
  scoped_none : AreScoped [] []
  scoped_next : {c : Change} {ms : List ℕ} {cs : List Change} (ns : List ℕ) → IsScoped c → ms ≡ own c ++ ns
      → AreScoped (before c ++ ns) cs → AreScoped ms (c ∷ cs)
