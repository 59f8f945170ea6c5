-- What version 1 allows, version 2 allows as well.
use Rattle.std.proofs.Common.{◌≡◌, ℕ, ◌+◌, Bool, true, false, cond, List, [], ◌∷◌, ◌++◌, codes, inl, inr, refl, sym, ap, ◌∙◌, Option, Some, None}
use Rattle.std.proofs.lemmas.Bool.{cases_Bool, cond-false}
use Rattle.std.proofs.lemmas.Slice.Eq.{bytes_eq-Decides}
use Rattle.std.specs.List.{AllByRecursion}
use Rattle.std.specs.Str.{bytes_eq}
use Rattle.spi_lex.specs.declared.token.Kind.{Kind}
use Rattle.spi_lex.specs.declared.token.Kind.TheVariants as kinds
use Rattle.spi_lex.specs.declared.token.Reserved.{Reserved}
use Rattle.spi_lex.specs.declared.token.Reserved.TheVariants.{Hash, EndMany, Many}
use Rattle.spi_lex.specs.Words.{version_1, version_2, word_bytes, word_of}
use Rattle.spi_lex.specs.Writing.{IsKind}
use Rattle.spi_tree.specs.Trees as t
use Rattle.spi_tree.specs.Pieces.{Piece, msg_pieces, msgs_pieces, atom_pieces, atoms_pieces, effect_pieces, written_pieces, deriv_pieces, derivs_pieces, derivation_pieces, kinds_in}
use Rattle.spi_tree.specs.Formed.{IsMsg, AreMsgs, IsAtom, AreAtoms, IsWritten, IsDeriv, AreDerivs, IsDerivation}
use Rattle.spi_parse.specs.Formed.{HasRules, HaveRules, IsFormedDerived}
use Rattle.spi_parse.specs.Rules.{first_rules, later_rules, arity_by, arity_of}
use Rattle.spi_rules.specs.declared.rule.Rule.{Rule}
use Rattle.spi_rules.specs.Rule.{rule_spelled, named}
use Rattle.spi_term.specs.Term.{Message, bound, name, unit, pair, in_left, in_right, enc, hash, Atom, ends, checks, many, Effect, Ty, un, unit_ty, pair_ty, sum_ty, key, nonce, Leaf, Sends, Stops, Prefix, Recvs, Serves, Splits, Selects, Decrypts, Checks, Begins, Ends, EndManys, Casts, Freshes, Fork, Branches, Pars, Process, leaf, prefix, fork}
use Rattle.spi_spell.proofs.Printable.{HasVersion, MessageFits, AtomFits, EffectFits, PartsFit, TyFits, LeafFits, PrefixFits, ForkFits, ProcessFits}
use Rattle.spi_spell.proofs.Together.{found_on}
use Rattle.spi_commands.specs.Upgrading.{IsNewWord}

-- ---- processes

later_message : (m : Message) → HasVersion false m → HasVersion true m
later_message (bound i) h = tt
later_message (name x) h = tt
later_message unit h = tt
later_message (pair a b) h = (later_message a h.0, later_message b h.1)
later_message (in_left a) h = later_message a h
later_message (in_right a) h = later_message a h
later_message (enc a b) h = (later_message a h.0, later_message b h.1)
later_message (hash a) h = (refl, later_message a h.1)

message_later : (m : Message) → MessageFits false m → MessageFits true m
message_later m h = (h.0, later_message m h.1)

atom_later : (a : Atom) → AtomFits false a → AtomFits true a
atom_later (ends m) h = message_later m h
atom_later (checks m) h = message_later m h
atom_later (many m) h = (refl, message_later m h.1)

effect_later : (es : Effect) → EffectFits false es → EffectFits true es
effect_later [] h = tt
effect_later (a ∷ es) h = (atom_later a h.0, effect_later es h.1)

parts_later : (a : Ty) → PartsFit false a → PartsFit true a
parts_later un h = tt
parts_later unit_ty h = tt
parts_later (pair_ty a b) h = (parts_later a h.0, parts_later b h.1)
parts_later (sum_ty a b) h = (parts_later a h.0, parts_later b h.1)
parts_later (key a) h = parts_later a h
parts_later (nonce es) h = effect_later es h

type_later : (a : Ty) → TyFits false a → TyFits true a
type_later a h = (h.0, parts_later a h.1)

leaf_later : (l : Leaf) → LeafFits false l → LeafFits true l
leaf_later (Sends a b) h = (message_later a h.0, message_later b h.1)
leaf_later Stops h = tt

prefix_later : (s : Prefix) → PrefixFits false s → PrefixFits true s
prefix_later (Recvs m a) h = (message_later m h.0, type_later a h.1)
prefix_later (Serves m a) h = (message_later m h.0, type_later a h.1)
prefix_later (Splits m a b) h = (message_later m h.0, type_later a h.1, type_later b h.2)
prefix_later (Selects m a k b) h = (message_later m h.0, type_later a h.1, message_later k h.2, type_later b h.3)
prefix_later (Decrypts m a k) h = (message_later m h.0, type_later a h.1, message_later k h.2)
prefix_later (Checks m k) h = (message_later m h.0, message_later k h.1)
prefix_later (Begins m) h = message_later m h
prefix_later (Ends m) h = message_later m h
prefix_later (EndManys m) h = (refl, message_later m h.1)
prefix_later (Casts m a) h = (message_later m h.0, type_later a h.1)
prefix_later (Freshes a) h = type_later a h

fork_later : (f : Fork) → ForkFits false f → ForkFits true f
fork_later (Branches m a b) h = (message_later m h.0, type_later a h.1, type_later b h.2)
fork_later Pars h = tt

pub process_later : (p : Process) → ProcessFits false p → ProcessFits true p
process_later (leaf l) h = leaf_later l h
process_later (prefix s p) h = (prefix_later s h.0, process_later p h.1)
process_later (fork f p q) h = (fork_later f h.0, process_later p h.1, process_later q h.2)

-- ---- the trees of derivations

mutual
  later_msg : (numbered : Bool) (m : t.Msg) → IsMsg false numbered m → IsMsg true numbered m
  later_msg numbered (t.name s w) h = h
  later_msg numbered (t.unit s) h = tt
  later_msg numbered (t.tuple s a b ms) h = (later_msg numbered a h.0, later_msg numbered b h.1, later_msgs numbered ms h.2)
  later_msg numbered (t.inl s a) h = later_msg numbered a h
  later_msg numbered (t.inr s a) h = later_msg numbered a h
  later_msg numbered (t.enc s a b) h = (later_msg numbered a h.0, later_msg numbered b h.1)
  later_msg numbered (t.hash s a) h = (refl, later_msg numbered a h.1)
  later_msg numbered (t.num s i) h = h

  later_msgs : (numbered : Bool) (ms : t.Msgs) → AreMsgs false numbered ms → AreMsgs true numbered ms
  later_msgs numbered t.no_msgs h = tt
  later_msgs numbered (t.more_msgs m ms) h = (later_msg numbered m h.0, later_msgs numbered ms h.1)

later_atom : (numbered : Bool) (e : t.Atom) → IsAtom false numbered e → IsAtom true numbered e
later_atom numbered (t.ends s m) h = later_msg numbered m h
later_atom numbered (t.checks s m) h = later_msg numbered m h
later_atom numbered (t.many s m) h = (refl, later_msg numbered m h.1)

later_atoms : (numbered : Bool) (es : List t.Atom) → AreAtoms false numbered es → AreAtoms true numbered es
later_atoms numbered [] h = tt
later_atoms numbered (e ∷ es) h = (later_atom numbered e h.0, later_atoms numbered es h.1)

later_written : (es : Option (List t.Atom)) → IsWritten false es → IsWritten true es
later_written None h = tt
later_written (Some es) h = later_atoms true es h

-- a rule of version 1 has the same arity in version 2
named_on : (rs more : List Rule) (w : List ℕ) (k : ℕ) → arity_by (named rs w) ≡ Some k → arity_by (named (rs ++ more) w) ≡ Some k
named_on [] more w k e = absurd cc
named_on (r ∷ rs) more w k e = by (bytes_eq (rule_spelled r) w) e (named_on rs more w k)
  where
    by : (b : Bool) → arity_by (cond b (Some r) (named rs w)) ≡ Some k → (arity_by (named rs w) ≡ Some k → arity_by (named (rs ++ more) w) ≡ Some k) → arity_by (cond b (Some r) (named (rs ++ more) w)) ≡ Some k
    by true h f = h
    by false h f = f h

mutual
  later_deriv : (d : t.Deriv) → (IsDeriv false d → IsDeriv true d) × (HasRules false d → HasRules true d)
  later_deriv (t.rule s w es ds) =
      let (f, g) = later_derivs ds in
      (λ h. (later_written es h.0, f h.1), λ h. (named_on first_rules later_rules w.word _ h.0, h.1, g h.2))

  later_derivs : (ds : t.Derivs) → (AreDerivs false ds → AreDerivs true ds) × (HaveRules false ds → HaveRules true ds)
  later_derivs t.no_derivs = (λ h. tt, λ h. tt)
  later_derivs (t.more_derivs d ds) =
      let (f, g) = later_deriv d in
      let (fs, gs) = later_derivs ds in
      (λ h. (f h.0, fs h.1), λ h. (g h.0, gs h.1))

pub derivation_later : (d : Option t.Deriv) → IsDerivation false d → IsDerivation true d
derivation_later None h = tt
derivation_later (Some d) h = (later_deriv d).0 h

pub rules_later : (d : Option t.Deriv) → IsFormedDerived false d → IsFormedDerived true d
rules_later None h = tt
rules_later (Some d) h = (later_deriv d).1 h

-- ---- tokens

-- a word that isn't a new one
abbrev pub IsOld : Kind → Type 0
IsOld (kinds.Word w) = ¬ IsNewWord w
IsOld (kinds.Reserved word) = Unit {0}
IsOld (kinds.Number value) = Unit {0}
IsOld (kinds.Mark m) = Unit {0}

differs : (x w : List ℕ) → (w ≡ x → ⊥) → bytes_eq x w ≡ false
differs x w n = elim (cases_Bool (bytes_eq x w)) [
  | inl same ↦ absurd (n (sym ((bytes_eq-Decides x w).0 same)))
  | inr other ↦ other
]

none_on : (l more : List Reserved) (w : List ℕ) → word_of l w ≡ None → word_of more w ≡ None → word_of (l ++ more) w ≡ None
none_on [] more w e f = f
none_on (x ∷ l) more w e f = by (bytes_eq (word_bytes x) w) e (λ k. none_on l more w k f)
  where
    by : (b : Bool) → cond b (Some x) (word_of l w) ≡ None → (word_of l w ≡ None → word_of (l ++ more) w ≡ None) → cond b (Some x) (word_of (l ++ more) w) ≡ None
    by true h g = absurd cc
    by false h g = g h

no_new : (w : List ℕ) → ¬ IsNewWord w → word_of (Hash ∷ EndMany ∷ Many ∷ []) w ≡ None
no_new w n =
    cond-false _ (Some Hash) (word_of (EndMany ∷ Many ∷ []) w) (differs (codes "hash") w (λ e. n (inl e)))
    ∙ cond-false _ (Some EndMany) (word_of (Many ∷ []) w) (differs (codes "endmany") w (λ e. n (inr (inl e))))
    ∙ cond-false _ (Some Many) None (differs (codes "many") w (λ e. n (inr (inr e))))

pub kind_later : (k : Kind) → IsOld k → IsKind version_1 k → IsKind version_2 k
kind_later (kinds.Word w) n h = (h.0, h.1, none_on version_1 (Hash ∷ EndMany ∷ Many ∷ []) w h.2 (no_new w n))
kind_later (kinds.Reserved word) n h = found_on version_1 (Hash ∷ EndMany ∷ Many ∷ []) (word_bytes word) word h
kind_later (kinds.Number value) n h = h
kind_later (kinds.Mark m) n h = tt

kinds_later : (ks : List Kind) → AllByRecursion IsOld ks → AllByRecursion (IsKind version_1) ks → AllByRecursion (IsKind version_2) ks
kinds_later [] n h = tt
kinds_later (k ∷ ks) n h = (kind_later k n.0 h.0, kinds_later ks n.1 h.1)

-- the words of a derivation are rules, none of which is a new word
abbrev AreOld : List Piece → Type 0
AreOld r = AllByRecursion IsOld (kinds_in r)

mutual
  msg_old : (n : ℕ) (m : t.Msg) (r : List Piece) → IsMsg false true m → AreOld r → AreOld (msg_pieces n m r)
  msg_old n (t.name s w) r f h = absurd cc
  msg_old n (t.unit s) r f h = (tt, (tt, h))
  msg_old n (t.tuple s a b ms) r f h = (tt, msg_old (n + 1) a _ f.0 (tt, msg_old (n + 1) b _ f.1 (msgs_old (n + 1) ms _ f.2 (tt, h))))
  msg_old n (t.inl s a) r f h = (tt, msg_old (n + 1) a _ f h)
  msg_old n (t.inr s a) r f h = (tt, msg_old (n + 1) a _ f h)
  msg_old n (t.enc s a b) r f h = (tt, msg_old (n + 1) a _ f.0 (tt, msg_old (n + 1) b _ f.1 h))
  msg_old n (t.hash s a) r f h = (tt, (tt, msg_old (n + 1) a _ f.1 (tt, h)))
  msg_old n (t.num s i) r f h = (tt, (tt, h))

  msgs_old : (n : ℕ) (ms : t.Msgs) (r : List Piece) → AreMsgs false true ms → AreOld r → AreOld (msgs_pieces n ms r)
  msgs_old n t.no_msgs r f h = h
  msgs_old n (t.more_msgs m ms) r f h = (tt, msg_old n m _ f.0 (msgs_old n ms r f.1 h))

atom_old : (n : ℕ) (e : t.Atom) (r : List Piece) → IsAtom false true e → AreOld r → AreOld (atom_pieces n e r)
atom_old n (t.ends s m) r f h = (tt, msg_old (n + 1) m _ f h)
atom_old n (t.checks s m) r f h = (tt, msg_old (n + 1) m _ f h)
atom_old n (t.many s m) r f h = (tt, msg_old (n + 1) m _ f.1 h)

atoms_old : (n : ℕ) (es : List t.Atom) (r : List Piece) → AreAtoms false true es → AreOld r → AreOld (atoms_pieces n es r)
atoms_old n [] r f h = h
atoms_old n (e ∷ es) r f h = (tt, atom_old n e _ f.0 (atoms_old n es r f.1 h))

effect_old : (n : ℕ) (es : List t.Atom) (r : List Piece) → AreAtoms false true es → AreOld r → AreOld (effect_pieces n es r)
effect_old n [] r f h = (tt, (tt, h))
effect_old n (e ∷ es) r f h = (tt, atom_old n e _ f.0 (atoms_old n es _ f.1 (tt, h)))

written_old : (es : Option (List t.Atom)) (r : List Piece) → IsWritten false es → AreOld r → AreOld (written_pieces es r)
written_old None r f h = h
written_old (Some es) r f h = effect_old 0 es r f h

rule_old : (w : List ℕ) (k : ℕ) → arity_of false w ≡ Some k → ¬ IsNewWord w
rule_old w k h (inl e) = let z : None ≡ Some k = sym (ap (arity_of false) e) ∙ h in absurd cc
rule_old w k h (inr (inl e)) = let z : None ≡ Some k = sym (ap (arity_of false) e) ∙ h in absurd cc
rule_old w k h (inr (inr e)) = let z : None ≡ Some k = sym (ap (arity_of false) e) ∙ h in absurd cc

mutual
  deriv_old : (n : ℕ) (d : t.Deriv) (r : List Piece) → IsDeriv false d → HasRules false d → AreOld r → AreOld (deriv_pieces n d r)
  deriv_old n (t.rule s w es ds) r f g h = (rule_old w.word _ g.0, written_old es _ f.0 (derivs_old (n + 1) ds _ f.1 g.2 h))

  derivs_old : (n : ℕ) (ds : t.Derivs) (r : List Piece) → AreDerivs false ds → HaveRules false ds → AreOld r → AreOld (derivs_pieces n ds r)
  derivs_old n t.no_derivs r f g h = h
  derivs_old n (t.more_derivs d ds) r f g h = deriv_old n d _ f.0 g.0 (derivs_old n ds r f.1 g.1 h)

derivation_old : (d : Option t.Deriv) → IsDerivation false d → IsFormedDerived false d → AreOld (derivation_pieces d [])
derivation_old None f g = tt
derivation_old (Some d) f g = (tt, deriv_old 1 d [] f g tt)

pub derivation_kinds_later : (d : Option t.Deriv) → IsDerivation false d → IsFormedDerived false d → AllByRecursion (IsKind version_1) (kinds_in (derivation_pieces d [])) → AllByRecursion (IsKind version_2) (kinds_in (derivation_pieces d []))
derivation_kinds_later d f g h = kinds_later (kinds_in (derivation_pieces d [])) (derivation_old d f g) h
