-- What a file has that a formed tree within the nesting limits stands for: all that its canonical text needs to be read.
use Rattle.std.proofs.Common.{◌≡◌, ◌≢◌, ◌⊎◌, ℕ, ◌+◌, ◌≤◌, ◌==◌, Bool, true, MatchBool, List, [], ◌∷◌, length, Option, Some, None}
use Rattle.std.specs.Prelude.{⊤}
use Rattle.std.specs.List.{AllByRecursion}
use Rattle.spi_lex.specs.declared.token.Kind.TheVariants as kinds
use Rattle.spi_lex.specs.Words.{words_of}
use Rattle.spi_lex.specs.Writing.{IsKind}
use Rattle.spi_tree.specs.Trees as t
use Rattle.spi_tree.specs.Pieces.{Place, in_seq, at_level, nesting_of, below, process_limit, derivation_pieces, kinds_in}
use Rattle.spi_tree.specs.Formed.{IsDerivation}
use Rattle.spi_parse.specs.Exact.{IsWithin}
use Rattle.spi_parse.specs.Formed.{IsFormedDerived}
use Rattle.spi_term.specs.Term.{Message, bound, name, unit, pair, in_left, in_right, enc, hash, Atom, ends, checks, many, Effect, Ty, un, unit_ty, pair_ty, sum_ty, key, nonce, Leaf, Sends, Stops, Prefix, Recvs, Serves, Splits, Selects, Decrypts, Checks, Begins, Ends, EndManys, Casts, Freshes, Fork, Branches, Pars, Process, leaf, prefix, fork, message_size}
use Rattle.spi_term.specs.Names.{ProcessOver}
use Rattle.spi_term.specs.Spelling.{Spelling, ty_nodes}
use Rattle.spi_run.specs.Reduction.{Step}
use Rattle.spi_rules.specs.Derivations.{RuleUse}
use Rattle.spi_scope.specs.Points.{in_order, derivation_points}
use Rattle.spi_scope.specs.First.{Clean}
use Rattle.spi_scope.specs.StandsFor.{Meant, derivation_in}
use Rattle.spi_show.specs.Processes.{is_output}
use Rattle.spi_spell.specs.Joined.{HasLowPlaces}

-- no hash in version 1
abbrev pub HasVersion : Bool → Message → Type 0
HasVersion later (bound i) = ⊤
HasVersion later (name x) = ⊤
HasVersion later unit = ⊤
HasVersion later (pair a b) = HasVersion later a × HasVersion later b
HasVersion later (in_left a) = HasVersion later a
HasVersion later (in_right a) = HasVersion later a
HasVersion later (enc a b) = HasVersion later a × HasVersion later b
HasVersion later (hash a) = (later ≡ true) × HasVersion later a

abbrev pub MessageFits : Bool → Message → Type 0
MessageFits later m = (message_size m ≤ 200) × HasVersion later m

-- each message is one of these, and no `many` stands in version 1
abbrev pub IsAtomOf : Bool → (Message → Type 0) → Atom → Type 0
IsAtomOf later Is (ends m) = Is m
IsAtomOf later Is (checks m) = Is m
IsAtomOf later Is (many m) = (later ≡ true) × Is m

abbrev pub IsEffectOf : Bool → (Message → Type 0) → Effect → Type 0
IsEffectOf later Is [] = ⊤
IsEffectOf later Is (a ∷ es) = IsAtomOf later Is a × IsEffectOf later Is es

abbrev pub AtomFits : Bool → Atom → Type 0
AtomFits later a = IsAtomOf later (MessageFits later) a

abbrev pub EffectFits : Bool → Effect → Type 0
EffectFits later es = IsEffectOf later (MessageFits later) es

abbrev pub PartsFit : Bool → Ty → Type 0
PartsFit later un = ⊤
PartsFit later unit_ty = ⊤
PartsFit later (pair_ty a b) = PartsFit later a × PartsFit later b
PartsFit later (sum_ty a b) = PartsFit later a × PartsFit later b
PartsFit later (key a) = PartsFit later a
PartsFit later (nonce es) = EffectFits later es

abbrev pub TyFits : Bool → Ty → Type 0
TyFits later a = (ty_nodes a ≤ 1000) × PartsFit later a

abbrev pub LeafFits : Bool → Leaf → Type 0
LeafFits later (Sends a b) = MessageFits later a × MessageFits later b
LeafFits later Stops = ⊤

abbrev pub PrefixFits : Bool → Prefix → Type 0
PrefixFits later (Recvs m a) = MessageFits later m × TyFits later a
PrefixFits later (Serves m a) = MessageFits later m × TyFits later a
PrefixFits later (Splits m a b) = MessageFits later m × TyFits later a × TyFits later b
PrefixFits later (Selects m a k b) = MessageFits later m × TyFits later a × MessageFits later k × TyFits later b
PrefixFits later (Decrypts m a k) = MessageFits later m × TyFits later a × MessageFits later k
PrefixFits later (Checks m k) = MessageFits later m × MessageFits later k
PrefixFits later (Begins m) = MessageFits later m
PrefixFits later (Ends m) = MessageFits later m
PrefixFits later (EndManys m) = (later ≡ true) × MessageFits later m
PrefixFits later (Casts m a) = MessageFits later m × TyFits later a
PrefixFits later (Freshes a) = TyFits later a

abbrev pub ForkFits : Bool → Fork → Type 0
ForkFits later (Branches m a b) = MessageFits later m × TyFits later a × TyFits later b
ForkFits later Pars = ⊤

abbrev pub ProcessFits : Bool → Process → Type 0
ProcessFits later (leaf l) = LeafFits later l
ProcessFits later (prefix s p) = PrefixFits later s × ProcessFits later p
ProcessFits later (fork f p q) = ForkFits later f × ProcessFits later p × ProcessFits later q

-- a process at this place, as it is printed, has no node above the nesting limit
abbrev pub Nests : Place → Process → Type 0
Nests a (leaf l) = nesting_of a ≤ process_limit
Nests a (prefix s p) = (nesting_of a ≤ process_limit) × Nests (below a) p
Nests a (fork (Branches m t u) p q) = (nesting_of a ≤ process_limit) × Nests (below a) p × Nests (below a) q
Nests (at_level n) (fork Pars p q) = Nests (in_seq (n + 1)) p × Nests (at_level (n + 1)) q
Nests (in_seq n) (fork Pars p q) =
    (n ≤ process_limit) × MatchBool (is_output p) (Nests (in_seq (n + 1)) q) (Nests (in_seq (n + 1)) p × Nests (at_level (n + 1)) q)

-- what a process adds to the count of the file
abbrev pub leaf_nodes : Leaf → ℕ
leaf_nodes (Sends a b) = 1 + (message_size a + message_size b)
leaf_nodes Stops = 1

abbrev pub prefix_nodes : Prefix → ℕ
prefix_nodes (Recvs m a) = 1 + (message_size m + ty_nodes a)
prefix_nodes (Serves m a) = 1 + (message_size m + ty_nodes a)
prefix_nodes (Splits m a b) = 1 + (message_size m + (ty_nodes a + ty_nodes b))
prefix_nodes (Selects m a k b) = 1 + (message_size m + (ty_nodes a + (message_size k + ty_nodes b)))
prefix_nodes (Decrypts m a k) = 1 + (message_size m + (ty_nodes a + message_size k))
prefix_nodes (Checks m k) = 1 + (message_size m + message_size k)
prefix_nodes (Begins m) = 1 + message_size m
prefix_nodes (Ends m) = 1 + message_size m
prefix_nodes (EndManys m) = 1 + message_size m
prefix_nodes (Casts m a) = 1 + (message_size m + ty_nodes a)
prefix_nodes (Freshes a) = 1 + ty_nodes a

abbrev pub fork_nodes : Fork → ℕ
fork_nodes (Branches m a b) = 1 + (message_size m + (ty_nodes a + ty_nodes b))
fork_nodes Pars = 1

abbrev pub process_nodes : Process → ℕ
process_nodes (leaf l) = leaf_nodes l
process_nodes (prefix s p) = prefix_nodes s + process_nodes p
process_nodes (fork f p q) = fork_nodes f + (process_nodes p + process_nodes q)

abbrev pub opponent_nodes : Option Spelling → ℕ
opponent_nodes None = 0
opponent_nodes (Some o) = process_nodes o.process

-- a part over so many free names
pub record IsPrintablePart (later : Bool) (k : ℕ) (p : Spelling) : Type 0 where
  pub names : p.names ≡ k
  pub over : ProcessOver k p.process
  pub fits : ProcessFits later p.process
  pub nests : Nests (at_level 0) p.process

abbrev pub IsOpponentPart : Bool → ℕ → Option Spelling → Type 0
IsOpponentPart later k None = ⊤
IsOpponentPart later k (Some o) = IsPrintablePart later k o

abbrev pub AreDistinct : List (List ℕ) → Type 0
AreDistinct [] = ⊤
AreDistinct (w ∷ ws) = AllByRecursion (λ v. w ≢ v) ws × AreDistinct ws

abbrev pub AreSteps : Option (List Step) → Type 0
AreSteps None = ⊤
AreSteps (Some steps) = (length steps ≤ 10000) × AllByRecursion HasLowPlaces steps

-- the uses of a derivation in a tree, whose messages are small and whose tokens are those of the version
pub record IsDerivationOf (later : Bool) (us : Option (List RuleUse)) (d : Option t.Deriv) : Type 0 where
  pub uses : us ≡ derivation_in d
  pub formed : IsDerivation later d
  pub rules : IsFormedDerived later d
  pub within : IsWithin (derivation_pieces d [])
  pub kinds : AllByRecursion (IsKind (words_of later)) (kinds_in (derivation_pieces d []))
  pub small : Clean 0 (in_order (derivation_points d))

abbrev pub is_later_file : Meant → Bool
is_later_file f = f.version == 2

-- such a file, with the tree of its derivation
pub record IsPrintable (f : Meant) (d : Option t.Deriv) : Type 0 where
  pub version : (f.version ≡ 1) ⊎ (f.version ≡ 2)
  pub words : AllByRecursion (λ w. IsKind (words_of (is_later_file f)) (kinds.Word w)) f.names
  pub distinct : AreDistinct f.names
  pub process : IsPrintablePart (is_later_file f) (length f.names) f.process
  pub opponent : IsOpponentPart (is_later_file f) (length f.names) f.opponent
  pub few : length f.names + (process_nodes f.process.process + opponent_nodes f.opponent) ≤ 100000
  pub schedule : AreSteps f.schedule
  pub derivation : IsDerivationOf (is_later_file f) f.derivation d
