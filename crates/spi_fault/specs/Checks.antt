-- What is asked of a node, form by form, and the reason that each check gives where it fails.
use Rattle.std.specs.Prelude.{ℕ, suc, ◌-◌, List, [], ◌∷◌, Option, Some, None}
use Rattle.spi_term.specs.Term.{Message, Ty, pair_ty, sum_ty, Leaf, Sends, Stops, Prefix, Recvs, Serves, Splits, Selects, Decrypts, Checks, Begins, Ends, EndManys, Casts, Freshes, Fork, Branches, Pars, Process, leaf, prefix, fork, process_size}
use Rattle.spi_term.specs.Spelling.{Shape, leaf_at, prefix_at, fork_at}
use Rattle.spi_fault.specs.declared.fault.Reason.{Reason}
use Rattle.spi_fault.specs.declared.fault.Reason.TheVariants.{ChannelNotUn, DatumNotUn, BadType, WrongScrutinee, WrongKey, NotANonce, NotALabel, NotGenerative, BodyHasEffect, EffectEscapes, WrongFirst, BadCast}

-- A check. A process that follows in the node is told by how many nodes stand before it.
pub data Check : Type 0 where
  channel : (m : Message) → Check
  datum : (m : Message) → Check
  untrusted : (t : Ty) → Check
  good : (t : Ty) → Check
  scrutinee : (m : Message) (whole first second : Ty) → Check
  sealed : (m : Message) → Check
  first : (m : Message) (t : Ty) → Check
  key_of : (m : Message) (t : Ty) → Check
  nonce_of : (m : Message) → Check
  label : (m : Message) → Check
  generative : (t : Ty) → Check
  castable : (t : Ty) → Check
  -- the process there has an effect of `many` atoms alone
  served : (at : ℕ) → Check
  -- so many names that the node binds stay out of the effect of the process there
  stays : (names at : ℕ) → Check
  -- the name that `new` makes stays out, once it is checked
  made : (at : ℕ) → Check

-- the checks of a form in their order
abbrev pub leaf_checks : Leaf → List Check
leaf_checks (Sends m n) = channel m ∷ datum n ∷ []
leaf_checks Stops = []

abbrev pub prefix_checks : Prefix → List Check
prefix_checks (Recvs m t) = channel m ∷ untrusted t ∷ stays 1 1 ∷ []
prefix_checks (Serves m t) = channel m ∷ untrusted t ∷ served 1 ∷ stays 1 1 ∷ []
prefix_checks (Splits m t u) = good (pair_ty t u) ∷ scrutinee m (pair_ty t u) t u ∷ stays 2 1 ∷ []
prefix_checks (Selects m t n u) =
    good (pair_ty t u) ∷ scrutinee m (pair_ty t u) t u ∷ first n t ∷ stays 1 1 ∷ []
prefix_checks (Decrypts m t n) = good t ∷ sealed m ∷ key_of n t ∷ stays 1 1 ∷ []
prefix_checks (Checks m n) = sealed m ∷ nonce_of n ∷ []
prefix_checks (Begins m) = label m ∷ []
prefix_checks (Ends m) = label m ∷ []
prefix_checks (EndManys m) = label m ∷ []
prefix_checks (Casts m t) = castable t ∷ good t ∷ sealed m ∷ stays 1 1 ∷ []
prefix_checks (Freshes t) = generative t ∷ good t ∷ made 1 ∷ []

-- the second process has so many nodes before it
abbrev pub fork_checks : Fork → ℕ → List Check
fork_checks (Branches m t u) rest =
    good t ∷ good u ∷ scrutinee m (sum_ty t u) t u ∷ stays 1 1 ∷ stays 1 rest ∷ []
fork_checks Pars rest = []

abbrev pub checks : Process → List Check
checks (leaf l) = leaf_checks l
checks (prefix s p) = prefix_checks s
checks (fork f p q) = fork_checks f (suc (process_size p))

-- why a node blocks where the check fails
abbrev pub reason_of : Check → Reason
reason_of (channel m) = ChannelNotUn
reason_of (datum m) = DatumNotUn
reason_of (untrusted t) = BadType
reason_of (good t) = BadType
reason_of (scrutinee m s t u) = WrongScrutinee
reason_of (sealed m) = WrongScrutinee
reason_of (first m t) = WrongFirst
reason_of (key_of m t) = WrongKey
reason_of (nonce_of m) = NotANonce
reason_of (label m) = NotALabel
reason_of (generative t) = NotGenerative
reason_of (castable t) = BadCast
reason_of (served i) = BodyHasEffect
reason_of (stays k i) = EffectEscapes
reason_of (made i) = EffectEscapes

-- the process whose effect a check asks about, where it asks about one
abbrev pub process_of : Check → Option ℕ
process_of (channel m) = None
process_of (datum m) = None
process_of (untrusted t) = None
process_of (good t) = None
process_of (scrutinee m s t u) = None
process_of (sealed m) = None
process_of (first m t) = None
process_of (key_of m t) = None
process_of (nonce_of m) = None
process_of (label m) = None
process_of (generative t) = None
process_of (castable t) = None
process_of (served i) = Some i
process_of (stays k i) = Some i
process_of (made i) = Some i

-- the checks of the node with this number, by the shape that it has
abbrev pub shape_checks : ℕ → Shape → List Check
shape_checks id (leaf_at k l) = leaf_checks l
shape_checks id (prefix_at k s b) = prefix_checks s
shape_checks id (fork_at k f a r) = fork_checks f (r - id)
