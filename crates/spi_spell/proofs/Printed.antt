-- The tree of a canonical text, without spans: the tree that is read from it. A name with number i is spelled `spell i`, and
-- n names are in scope.
use Rattle.std.proofs.Common.{ℕ, suc, ◌+◌, ◌-◌, if◌then◌else◌, List, [], ◌∷◌, map, Option}
use Rattle.std.specs.Option.{option_map}
use Rattle.spi_tree.specs.declared.tree.SWord.{SWord}
use Rattle.spi_tree.specs.Trees as t
use Rattle.spi_term.specs.Term.{Message, bound, name, unit, pair, in_left, in_right, enc, hash, Atom, ends, checks, many, Effect, Ty, un, unit_ty, pair_ty, sum_ty, key, nonce, Leaf, Sends, Stops, Prefix, Recvs, Serves, Splits, Selects, Decrypts, Checks, Begins, Ends, EndManys, Casts, Freshes, Branches, Pars, Process, leaf, prefix, fork, binds}
use Rattle.spi_term.specs.Spelling.{Spelling}
use Rattle.spi_gen.specs.Handshake.{word}
use Rattle.spi_run.specs.Reduction.{Step, act, talk}
use Rattle.spi_scope.specs.Parts.{numbered_effect}
use Rattle.spi_scope.specs.StandsFor.{Meant}
use Rattle.spi_show.specs.Spelled.{name_text}
use Rattle.spi_show.specs.Processes.{Standing, alone, sequel, is_output}
use Rattle.spi_tree.specs.Trees.{nowhere}

abbrev pub spelled_name : (ℕ → List ℕ) → ℕ → t.Msg
spelled_name spell i = t.name nowhere (word (spell i))

abbrev pub numbered_name : ℕ → t.Msg
numbered_name i = t.num nowhere i

-- a message, where the name with number i is `of i`
abbrev mutual
  pub message_tree : (ℕ → t.Msg) → ℕ → Message → t.Msg
  message_tree of n (bound i) = of (n - suc i)
  message_tree of n (name x) = of x
  message_tree of n unit = t.unit nowhere
  message_tree of n (pair a b) = t.tuple nowhere (message_tree of n a) (second_tree of n b) (rest_trees of n b)
  message_tree of n (in_left a) = t.inl nowhere (message_tree of n a)
  message_tree of n (in_right a) = t.inr nowhere (message_tree of n a)
  message_tree of n (enc a b) = t.enc nowhere (message_tree of n a) (message_tree of n b)
  message_tree of n (hash a) = t.hash nowhere (message_tree of n a)

  -- the first component that stands in the second part of a pair, and those behind it
  pub second_tree : (ℕ → t.Msg) → ℕ → Message → t.Msg
  second_tree of n (bound i) = of (n - suc i)
  second_tree of n (name x) = of x
  second_tree of n unit = t.unit nowhere
  second_tree of n (pair a b) = message_tree of n a
  second_tree of n (in_left a) = t.inl nowhere (message_tree of n a)
  second_tree of n (in_right a) = t.inr nowhere (message_tree of n a)
  second_tree of n (enc a b) = t.enc nowhere (message_tree of n a) (message_tree of n b)
  second_tree of n (hash a) = t.hash nowhere (message_tree of n a)

  pub rest_trees : (ℕ → t.Msg) → ℕ → Message → t.Msgs
  rest_trees of n (bound i) = t.no_msgs
  rest_trees of n (name x) = t.no_msgs
  rest_trees of n unit = t.no_msgs
  rest_trees of n (pair a b) = t.more_msgs (second_tree of n b) (rest_trees of n b)
  rest_trees of n (in_left a) = t.no_msgs
  rest_trees of n (in_right a) = t.no_msgs
  rest_trees of n (enc a b) = t.no_msgs
  rest_trees of n (hash a) = t.no_msgs

-- a fact of the whole and of its parts, where they are one
pub twice : {A : Type 0} → A → A × A
twice x = (x, x)

-- the parts are the whole, or those of a tuple behind its first
pub second_part : (of : ℕ → t.Msg) (n : ℕ) (P : t.Msg → t.Msgs → t.Msg → Type 0) → ((x : t.Msg) → P x t.no_msgs x)
    → ((a b : t.Msg) (ms : t.Msgs) → P a (t.more_msgs b ms) (t.tuple nowhere a b ms))
    → (m : Message) → P (second_tree of n m) (rest_trees of n m) (message_tree of n m)
second_part of n P whole tuple (bound i) = whole _
second_part of n P whole tuple (name x) = whole _
second_part of n P whole tuple unit = whole _
second_part of n P whole tuple (pair a b) = tuple _ _ _
second_part of n P whole tuple (in_left a) = whole _
second_part of n P whole tuple (in_right a) = whole _
second_part of n P whole tuple (enc a b) = whole _
second_part of n P whole tuple (hash a) = whole _

abbrev pub atom_tree : (ℕ → t.Msg) → ℕ → Atom → t.Atom
atom_tree of n (ends m) = t.ends nowhere (message_tree of n m)
atom_tree of n (checks m) = t.checks nowhere (message_tree of n m)
atom_tree of n (many m) = t.many nowhere (message_tree of n m)

abbrev pub atom_trees : (ℕ → t.Msg) → ℕ → Effect → List t.Atom
atom_trees of n [] = []
atom_trees of n (a ∷ es) = atom_tree of n a ∷ atom_trees of n es

abbrev mutual
  pub type_tree : (ℕ → List ℕ) → ℕ → Ty → t.Ty
  type_tree spell n un = t.un nowhere
  type_tree spell n unit_ty = t.unit_ty nowhere
  type_tree spell n (pair_ty a b) = t.tuple_ty nowhere (word (spell n)) (type_tree spell n a) (field_trees spell (suc n) b) (last_tree spell (suc n) b)
  type_tree spell n (sum_ty a b) = t.sum nowhere (type_tree spell n a) (type_tree spell n b)
  type_tree spell n (key a) = t.key nowhere (type_tree spell n a)
  type_tree spell n (nonce es) = t.nonce nowhere (atom_trees (spelled_name spell) n es)

  -- the components in the second part of a pair type but the last, and the last
  pub field_trees : (ℕ → List ℕ) → ℕ → Ty → t.Fields
  field_trees spell n un = t.no_fields
  field_trees spell n unit_ty = t.no_fields
  field_trees spell n (pair_ty a b) = t.more_fields (word (spell n)) (type_tree spell n a) (field_trees spell (suc n) b)
  field_trees spell n (sum_ty a b) = t.no_fields
  field_trees spell n (key a) = t.no_fields
  field_trees spell n (nonce es) = t.no_fields

  pub last_tree : (ℕ → List ℕ) → ℕ → Ty → t.Last
  last_tree spell n un = t.bare (t.un nowhere)
  last_tree spell n unit_ty = t.bare (t.unit_ty nowhere)
  last_tree spell n (pair_ty a b) = last_tree spell (suc n) b
  last_tree spell n (sum_ty a b) = t.bare (t.sum nowhere (type_tree spell n a) (type_tree spell n b))
  last_tree spell n (key a) = t.bare (t.key nowhere (type_tree spell n a))
  last_tree spell n (nonce es) = t.bare (t.nonce nowhere (atom_trees (spelled_name spell) n es))

-- the parts are the whole, or those of a tuple
pub parts_of_type : (spell : ℕ → List ℕ) (n : ℕ) (P : t.Fields → t.Last → t.Ty → Type 0) → ((x : t.Ty) → P t.no_fields (t.bare x) x)
    → ((w : SWord) (a : t.Ty) (fs : t.Fields) (l : t.Last) → P (t.more_fields w a fs) l (t.tuple_ty nowhere w a fs l))
    → (a : Ty) → P (field_trees spell n a) (last_tree spell n a) (type_tree spell n a)
parts_of_type spell n P whole tuple un = whole _
parts_of_type spell n P whole tuple unit_ty = whole _
parts_of_type spell n P whole tuple (pair_ty a b) = tuple _ _ _ _
parts_of_type spell n P whole tuple (sum_ty a b) = whole _
parts_of_type spell n P whole tuple (key a) = whole _
parts_of_type spell n P whole tuple (nonce es) = whole _

abbrev pub leaf_tree : (ℕ → List ℕ) → ℕ → Leaf → t.Proc
leaf_tree spell n (Sends a b) = t.out nowhere (message_tree (spelled_name spell) n a) (message_tree (spelled_name spell) n b)
leaf_tree spell n Stops = t.stop nowhere

abbrev pub prefix_tree : (ℕ → List ℕ) → ℕ → Prefix → t.Proc → t.Proc
prefix_tree spell n (Recvs m a) p = t.inp nowhere (message_tree (spelled_name spell) n m) (word (spell n)) (type_tree spell n a) p
prefix_tree spell n (Serves m a) p = t.repeat nowhere (message_tree (spelled_name spell) n m) (word (spell n)) (type_tree spell n a) p
prefix_tree spell n (Splits m a b) p =
    t.split nowhere (message_tree (spelled_name spell) n m) (word (spell n)) (type_tree spell n a) (word (spell (suc n))) (type_tree spell (suc n) b) p
prefix_tree spell n (Selects m a k b) p =
    t.match nowhere (message_tree (spelled_name spell) n m) (word (spell n)) (type_tree spell n a) (message_tree (spelled_name spell) n k)
    (word (spell n)) (type_tree spell (suc n) b) p
prefix_tree spell n (Decrypts m a k) p =
    t.decrypt nowhere (message_tree (spelled_name spell) n m) (word (spell n)) (type_tree spell n a) (message_tree (spelled_name spell) n k) p
prefix_tree spell n (Checks m k) p = t.check nowhere (message_tree (spelled_name spell) n m) (message_tree (spelled_name spell) n k) p
prefix_tree spell n (Begins m) p = t.begin nowhere (message_tree (spelled_name spell) n m) p
prefix_tree spell n (Ends m) p = t.end nowhere (message_tree (spelled_name spell) n m) p
prefix_tree spell n (EndManys m) p = t.end_many nowhere (message_tree (spelled_name spell) n m) p
prefix_tree spell n (Casts m a) p = t.cast nowhere (message_tree (spelled_name spell) n m) (word (spell n)) (type_tree spell n a) p
prefix_tree spell n (Freshes a) p = t.new nowhere (word (spell n)) (type_tree spell n a) p

-- an output and its sequel
abbrev pub then_tree : t.Proc → t.Proc → t.Proc
then_tree (t.out s m n) q = t.out_then nowhere m n q
then_tree p q = t.stop nowhere

abbrev pub process_tree : (ℕ → List ℕ) → Standing → ℕ → Process → t.Proc
process_tree spell at n (leaf l) = leaf_tree spell n l
process_tree spell at n (prefix s p) = prefix_tree spell n s (process_tree spell sequel (n + binds s) p)
process_tree spell at n (fork (Branches m a b) p q) =
    t.case nowhere (message_tree (spelled_name spell) n m) (word (spell n)) (type_tree spell n a) (process_tree spell sequel (n + 1) p)
    (word (spell n)) (type_tree spell n b) (process_tree spell sequel (n + 1) q)
process_tree spell alone n (fork Pars p q) = t.par nowhere (process_tree spell sequel n p) (process_tree spell alone n q)
process_tree spell sequel n (fork Pars p q) =
    if is_output p then then_tree (process_tree spell sequel n p) (process_tree spell sequel n q)
    else t.group nowhere (process_tree spell sequel n p) (process_tree spell alone n q)

abbrev pub free_trees : List (List ℕ) → List t.Declared
free_trees [] = []
free_trees (w ∷ ws) = t.free nowhere (word w) (map word ws) ∷ []

abbrev pub part_tree : (ℕ → List ℕ) → Spelling → t.Proc
part_tree spell p = process_tree spell alone p.names p.process

abbrev pub opponent_tree : (ℕ → List ℕ) → Option Spelling → Option t.Proc
opponent_tree spell o = option_map (part_tree spell) o

abbrev pub step_tree : Step → t.Step
step_tree (act i) = t.act nowhere i
step_tree (talk i j) = t.talk nowhere i j

abbrev pub schedule_tree : Option (List Step) → Option (List t.Step)
schedule_tree o = option_map (map step_tree) o

abbrev pub written_tree : Option Effect → Option (List t.Atom)
written_tree o = option_map (atom_trees numbered_name 0) o

-- a derivation's tree, with the effects as they are written
abbrev mutual
  pub deriv_tree : t.Deriv → t.Deriv
  deriv_tree (t.rule s w es ds) = t.rule nowhere (word w.word) (written_tree (numbered_effect es)) (deriv_trees ds)

  pub deriv_trees : t.Derivs → t.Derivs
  deriv_trees t.no_derivs = t.no_derivs
  deriv_trees (t.more_derivs d ds) = t.more_derivs (deriv_tree d) (deriv_trees ds)

abbrev pub derivation_tree : Option t.Deriv → Option t.Deriv
derivation_tree o = option_map deriv_tree o

-- the tree of a file, whose derivation has this tree
abbrev pub file_tree : ℕ → Meant → Option t.Deriv → t.File
file_tree s f d = record {
  span = nowhere;
  version = f.version;
  decls = free_trees f.names;
  process = part_tree (name_text s f.names) f.process;
  opponent = opponent_tree (name_text s f.names) f.opponent;
  schedule = schedule_tree f.schedule;
  derivation = derivation_tree d;
}
