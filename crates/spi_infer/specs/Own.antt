-- What the passes keep of a node by numbers, and what that stands for.
use Rattle.std.specs.Prelude.{◌≡◌, ℕ, List, [], ◌∷◌, Option, Some, None, true, slice_get, ⊤}
use Rattle.spi_term.specs.Term.{Message, name, Atom, Effect, nonce, Prefix, Recvs, Serves, Splits, Selects, Decrypts, Checks, Begins, Ends, EndManys, Casts, Freshes}
use Rattle.spi_term.specs.Lists.{In}
use Rattle.spi_term.specs.Spelling.{Shape, leaf_at, prefix_at, fork_at}
use Rattle.spi_intern.specs.declared.store.Store.{Store}
use Rattle.spi_intern.specs.declared.messages.MsgId.{MsgId}
use Rattle.spi_intern.specs.declared.types.TyId.{TyId}
use Rattle.spi_intern.specs.Meaning.{Means}
use Rattle.spi_count.specs.Piles.{StandsForPile}
use Rattle.spi_count.specs.declared.pile.Pile.{Pile}
use Rattle.spi_infer.specs.declared.own.Own.{Own}
use Rattle.spi_infer.specs.declared.own.Own.TheVariants.{Label, Checked, Cast, Made}
use Rattle.spi_infer.specs.declared.own.OwnNote.{OwnNote}
use Rattle.spi_infer.specs.Passes.{Note}
use Rattle.spi_message.specs.Forms.{cast_effect_of}
use Rattle.spi_intern.specs.Parts.{message_of}

-- the type of a nonce, where a check takes its effect off
abbrev pub PaidFits : Store → Option TyId → Option Effect → Type 0
PaidFits s None None = ⊤
PaidFits s None (Some es) = ⊥
PaidFits s (Some t) None = ⊥
PaidFits s (Some t) (Some es) = Means s t.place (nonce es)

-- what is kept of a form with k names in scope
abbrev pub FormFits : Store → (ℕ → Message → Type 0) → ℕ → Prefix → Option Effect → Own → Type 0
FormFits s At k (Recvs m t) paid own = ⊤
FormFits s At k (Serves m t) paid own = ⊤
FormFits s At k (Splits m t u) paid own = ⊤
FormFits s At k (Selects m t n u) paid own = ⊤
FormFits s At k (Decrypts m t n) paid own = ⊤
FormFits s At k (Checks m n) paid own = (id : MsgId) × (t : Option TyId) × (own ≡ Checked id t)
    × At id.place m × PaidFits s t paid
FormFits s At k (Begins m) paid own = (id : MsgId) × (own ≡ Label id)
    × (slice_get s.messages id.place ≡ Some m)
FormFits s At k (Ends m) paid own = (id : MsgId) × (own ≡ Label id) × At id.place m
FormFits s At k (EndManys m) paid own = (id : MsgId) × (own ≡ Label id) × At id.place m
FormFits s At k (Casts m t) paid own = (id : TyId) × (own ≡ Cast id) × Means s id.place t
    × ((a : Atom) → In a (cast_effect_of t) → (i : ℕ) × At i (message_of a))
FormFits s At k (Freshes t) paid own = (id : MsgId) × (own ≡ Made id)
    × (slice_get s.messages id.place ≡ Some (name k))

abbrev pub IsOwnOf : Store → (ℕ → Message → Type 0) → Shape → Option Effect → Own → Type 0
IsOwnOf s At (leaf_at k l) paid own = ⊤
IsOwnOf s At (prefix_at k p b) paid own = FormFits s At k p paid own
IsOwnOf s At (fork_at k f a r) paid own = ⊤

-- What is kept of a node: whether the form's own premises hold, and where they do what it adds and takes off.
abbrev pub FormNotedAs : Store → (ℕ → Message → Type 0) → Shape → Note → OwnNote → Type 0
FormNotedAs s At x n o = (o.fine ≡ n.fine) × (n.fine ≡ true → IsOwnOf s At x n.paid o.own)

pub data AreFormsNoted (s : Store) (At : ℕ → Message → Type 0) : List Shape → List Note → List OwnNote
    → Type 0 where
  noted_none : AreFormsNoted s At [] [] []
  noted_next : {x : Shape} {n : Note} {o : OwnNote} {ss : List Shape} {ns : List Note} {os : List OwnNote}
      → FormNotedAs s At x n o → AreFormsNoted s At ss ns os → AreFormsNoted s At (x ∷ ss) (n ∷ ns) (o ∷ os)

-- counts for an effect and atoms that wait to be counted, where there is one
abbrev pub PileFor : (ℕ → Message → Type 0) → Option Pile → Option Effect → Type 0
PileFor At None None = ⊤
PileFor At None (Some es) = ⊥
PileFor At (Some p) None = ⊥
PileFor At (Some p) (Some es) = StandsForPile At p es

-- a stack that grows at its end, read from its top
abbrev pub TopsStand : (ℕ → Message → Type 0) → List (Option Pile) → List (Option Effect) → Type 0
TopsStand At [] st = st ≡ []
TopsStand At (o ∷ os) [] = ⊥
TopsStand At (o ∷ os) (e ∷ st) = PileFor At o e × TopsStand At os st
