-- What forms do to effects by counts, and the effects that stand behind a node.
use Rattle.std.specs.Prelude.{◌≡◌, ℕ, Bool, suc, ◌+◌, ◌<◌, ◌||◌, length, slice_get, reverse, List, [], ◌∷◌, ◌++◌, Option, Some, None, true, false, ⊤}
use Rattle.spi_term.specs.declared.term.Effect as Declared
use Rattle.spi_term.specs.View as View
use Rattle.spi_term.specs.Counts.{SameEffect}
use Rattle.spi_term.specs.Term.{Message, name, ends, checks, many, Effect, Ty, Prefix, Recvs, Serves, Splits, Selects, Decrypts, Checks, Begins, Ends, EndManys, Casts, Freshes, Process, binds, fork_binds}
use Rattle.spi_term.specs.Spelling.{Shape, leaf_at, prefix_at, fork_at, spelled}
use Rattle.spi_rules.specs.Environment.{Env}
use Rattle.spi_intern.specs.declared.store.Store.{Store}
use Rattle.spi_intern.specs.declared.messages.MsgId.{MsgId}
use Rattle.spi_intern.specs.declared.types.TyId.{TyId}
use Rattle.spi_intern.specs.Meaning.{Means}
use Rattle.spi_effect.specs.Made.{are_many, mentions, minus, greater}
use Rattle.spi_count.specs.Sums.{Below}
use Rattle.spi_count.specs.Piles.{StandsForPile}
use Rattle.spi_count.specs.declared.pile.Pile.{Pile}
use Rattle.spi_count.specs.declared.keys.Keys.{Keys}
use Rattle.spi_infer.specs.declared.own.Own.{Own}
use Rattle.spi_infer.specs.declared.own.Own.TheVariants.{Label, Checked, Cast, Made}
use Rattle.spi_infer.specs.declared.own.OwnNote.{OwnNote}
use Rattle.spi_infer.specs.declared.own.Noted.{Noted}
use Rattle.spi_count.specs.Keeping.{with_keys, IsKeyed, HaveKeys, AreKept}
use Rattle.spi_infer.specs.Own.{PaidFits, IsOwnOf, PileFor, FormNotedAs, AreFormsNoted, TopsStand}
use Rattle.spi_message.specs.Forms.{cast_effect_of}
use Rattle.spi_infer.specs.Forms.{unless_blocked, keep, checked}
use Rattle.spi_infer.specs.Passes.{Note, scan, after_shape, both_shape}
use Rattle.spi_count.specs.Adding.{PileOf}

-- the pile, where it is told that there is an effect
abbrev pub kept_if : Bool → Pile → Option Pile
kept_if true p = Some p
kept_if false p = None

-- what a form that binds the name k, or two names from k on, does to an effect
abbrev pub AfterOne : ℕ → Pile → Option Pile → Type 0
AfterOne k pile r =
    (s : Store) (keys : Keys) (es : Effect) → IsKeyed s keys → PileOf s keys pile es → Below (k + 1) es
    → PileFor (with_keys s keys) r (unless_blocked (mentions k es) es)

abbrev pub AfterTwo : ℕ → Pile → Option Pile → Type 0
AfterTwo k pile r =
    (s : Store) (keys : Keys) (es : Effect) → IsKeyed s keys → PileOf s keys pile es → Below (k + 2) es
    → PileFor (with_keys s keys) r (unless_blocked (mentions k es || mentions (suc k) es) es)

abbrev pub AfterServe : ℕ → Pile → Option Pile → Type 0
AfterServe k pile r =
    (s : Store) (keys : Keys) (es : Effect) → IsKeyed s keys → PileOf s keys pile es → Below (k + 1) es
    → PileFor (with_keys s keys) r (keep (are_many es) (unless_blocked (mentions k es) es))

abbrev pub AfterMake : ℕ → Store → Keys → Pile → Option Pile → Type 0
AfterMake k s keys pile r =
    (es : Effect) → IsKeyed s keys → PileOf s keys pile es → Below (k + 1) es
    → PileFor (with_keys s keys) r
    (unless_blocked (mentions k (minus es (checks (name k) ∷ []))) (minus es (checks (name k) ∷ [])))

abbrev pub AfterCast : ℕ → Store → Keys → TyId → Pile → Option Pile → Type 0
AfterCast k s keys t pile r =
    (u : Ty) (es : Effect) → IsKeyed s keys → Means s t.place u → HaveKeys s keys (cast_effect_of u)
    → PileOf s keys pile es → Below (k + 1) es
    → PileFor (with_keys s keys) r (unless_blocked (mentions k es) (es ++ cast_effect_of u))

abbrev pub AfterCheck : Store → Keys → MsgId → Option TyId → Pile → Option Pile → Type 0
AfterCheck s keys id t pile r =
    (m : Message) (paid : Option Effect) (es : Effect) → IsKeyed s keys → with_keys s keys id.place m
    → PaidFits s t paid → PileOf s keys pile es → PileFor (with_keys s keys) r (checked paid m es)

-- the type of a nonce is one of the store
abbrev pub MayBeType : Store → Option TyId → Type 0
MayBeType s None = ⊤
MayBeType s (Some t) = t.place < length s.types

-- what a form with one process does to its effect
abbrev pub BelowIn : Shape → Effect → Type 0
BelowIn (leaf_at k l) es = ⊤
BelowIn (prefix_at k s b) es = Below (k + binds s) es
BelowIn (fork_at k f a r) es = Below (k + fork_binds f) es

abbrev pub AfterForm : Store → Keys → Shape → Own → Pile → Option Pile → Type 0
AfterForm s keys x own pile r =
    (paid : Option Effect) (es : Effect) → IsKeyed s keys → IsOwnOf s (with_keys s keys) x paid own
    → PileOf s keys pile es → BelowIn x es → PileFor (with_keys s keys) r (after_shape x paid es)

-- what a form with two processes does to theirs
abbrev pub BothForm : Shape → Pile → Pile → Option Pile → Type 0
BothForm x a b r =
    (s : Store) (keys : Keys) (es fs : Effect) → IsKeyed s keys → StandsForPile (with_keys s keys) a es
    → StandsForPile (with_keys s keys) b fs → BelowIn x es → BelowIn x fs
    → PileFor (with_keys s keys) r (both_shape x es fs)

abbrev pub BothPiles : ℕ → Pile → Pile → Option Pile → Type 0
BothPiles k a b r =
    (s : Store) (keys : Keys) (es fs : Effect) → IsKeyed s keys → StandsForPile (with_keys s keys) a es
    → StandsForPile (with_keys s keys) b fs → Below (k + 1) es → Below (k + 1) fs
    → PileFor (with_keys s keys) r (unless_blocked (mentions k es || mentions k fs) (greater es fs))

-- by what is kept of the form
abbrev pub OwnCheck : Store → Keys → Own → Pile → Option Pile → Type 0
OwnCheck s keys own pile r = (id : MsgId) (t : Option TyId) → own ≡ Checked id t → AfterCheck s keys id t pile r

abbrev pub OwnCast : ℕ → Store → Keys → Own → Pile → Option Pile → Type 0
OwnCast k s keys own pile r = (t : TyId) → own ≡ Cast t → AfterCast k s keys t pile r

abbrev pub OwnMake : ℕ → Keys → Own → Pile → Option Pile → Type 0
OwnMake k keys own pile r = (s : Store) (id : MsgId) → own ≡ Made id
    → slice_get s.messages id.place ≡ Some (name k) → AfterMake k s keys pile r

abbrev pub OwnBegin : Keys → Own → Pile → Option Pile → Type 0
OwnBegin keys own pile r =
    (s : Store) (id : MsgId) (m : Message) (es : Effect) → own ≡ Label id → IsKeyed s keys
    → slice_get s.messages id.place ≡ Some m → PileOf s keys pile es
    → PileFor (with_keys s keys) r (Some (minus es (ends m ∷ (many m ∷ []))))

abbrev pub OwnEnd : Keys → Own → Pile → Option Pile → Type 0
OwnEnd keys own pile r =
    (s : Store) (id : MsgId) (m : Message) (es : Effect) → own ≡ Label id → IsKeyed s keys
    → with_keys s keys id.place m → PileOf s keys pile es
    → PileFor (with_keys s keys) r (Some (es ++ ends m ∷ []))

abbrev pub OwnMany : Keys → Own → Pile → Option Pile → Type 0
OwnMany keys own pile r =
    (s : Store) (id : MsgId) (m : Message) (es : Effect) → own ≡ Label id → IsKeyed s keys
    → with_keys s keys id.place m → PileOf s keys pile es
    → PileFor (with_keys s keys) r (Some (es ++ many m ∷ []))

-- the types that are kept are of the store
abbrev pub CheckGiven : Store → Own → Type 0
CheckGiven s own = (id : MsgId) (t : TyId) → own ≡ Checked id (Some t) → t.place < length s.types

abbrev pub CastGiven : Store → Own → Type 0
CastGiven s own = (t : TyId) → own ≡ Cast t → t.place < length s.types

abbrev pub FormGiven : Store → Prefix → Own → Type 0
FormGiven s (Recvs m t) own = ⊤
FormGiven s (Serves m t) own = ⊤
FormGiven s (Splits m t u) own = ⊤
FormGiven s (Selects m t n u) own = ⊤
FormGiven s (Decrypts m t n) own = ⊤
FormGiven s (Checks m n) own = CheckGiven s own
FormGiven s (Begins m) own = ⊤
FormGiven s (Ends m) own = ⊤
FormGiven s (EndManys m) own = ⊤
FormGiven s (Casts m t) own = CastGiven s own
FormGiven s (Freshes t) own = ⊤

abbrev pub OwnGiven : Store → Shape → Own → Type 0
OwnGiven s (leaf_at k l) own = ⊤
OwnGiven s (prefix_at k p b) own = FormGiven s p own
OwnGiven s (fork_at k f a r) own = ⊤

-- the effects behind a form, where there are some, have the names in scope there alone
abbrev pub MayBelowIn : Shape → Option Effect → Type 0
MayBelowIn x None = ⊤
MayBelowIn x (Some es) = BelowIn x es

abbrev pub TopBelowIn : Shape → List (Option Effect) → Type 0
TopBelowIn x [] = ⊤
TopBelowIn x (o ∷ st) = MayBelowIn x o

abbrev pub BothBelowIn : Shape → List (Option Effect) → Type 0
BothBelowIn x [] = ⊤
BothBelowIn x (o ∷ []) = MayBelowIn x o
BothBelowIn x (o ∷ (o' ∷ st)) = MayBelowIn x o × MayBelowIn x o'

abbrev pub Behind : Shape → List (Option Effect) → Type 0
Behind (leaf_at k l) st = ⊤
Behind (prefix_at k s b) st = TopBelowIn (prefix_at k s b) st
Behind (fork_at k f a r) st = BothBelowIn (fork_at k f a r) st

-- a stack that grows at its end
abbrev pub Tops : Store → Keys → List (Option Pile) → List (Option Effect) → Type 0
Tops s keys os st = TopsStand (with_keys s keys) (reverse os) st

-- before a node is acted on
pub record IsBeforeNode (s : Store) (keys : Keys) (x : Shape) (o : OwnNote) (os : List (Option Pile))
    (n : Note)
    (st : List (Option Effect)) : Type 0 where
  pub keyed : IsKeyed s keys
  pub noted : FormNotedAs s (with_keys s keys) x n o
  pub behind : Behind x st
  pub tops : Tops s keys os st

-- where the form's own premises hold, the types that are kept are of the store
abbrev pub NoteGiven : Store → Shape → OwnNote → Type 0
NoteGiven s x o = o.fine ≡ true → OwnGiven s x o.own

-- what is kept of the nodes of a process stands for what is noted of them where its free names have these types
pub record IsNoted (s : Store) (noted : Noted) (k : ℕ) (p : Process) (env : Env) : Type 0 where
  pub names : k ≡ length env
  pub keyed : AreKept s noted.keys
  pub each : AreFormsNoted s (with_keys s noted.keys) (spelled k p) (scan 0 env [] (spelled k p))
      noted.notes.items

-- an effect with these counts, where there is one
abbrev pub IsReadAs : Option Declared.Effect → Option Effect → Type 0
IsReadAs None None = ⊤
IsReadAs None (Some es) = ⊥
IsReadAs (Some f) None = ⊥
IsReadAs (Some f) (Some es) = SameEffect (View.effect f) es
