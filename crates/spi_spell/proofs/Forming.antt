-- The tree of a canonical text is formed.
use Rattle.std.proofs.Common.{◌≡◌, ℕ, suc, ◌+◌, ◌-◌, Bool, true, false, List, [], ◌∷◌, map, length, Option, Some, None, refl, sym, ap, ◌∙◌}
use Rattle.std.specs.Prelude.{⊤}
use Rattle.spi_tree.specs.Trees as t
use Rattle.spi_tree.specs.Pieces.{Place, in_seq, at_level, nesting_of, tokens_of}
use Rattle.spi_tree.specs.Formed.{AreWordsFit, IsMsg, AreMsgs, IsAtom, AreAtoms, IsTy, AreFields, IsLast, IsProc, AreDeclared, IsWritten, IsDeriv, AreDerivs, IsFormedOpponent, IsDerivation}
use Rattle.spi_parse.specs.Formed.{count_derivs, is_written, HasRules, HaveRules, IsFormedDerived, IsFile}
use Rattle.spi_parse.proofs.TableLaws.{seq_is_proc}
use Rattle.spi_term.specs.Term.{Message, bound, name, unit, pair, in_left, in_right, enc, hash, Atom, ends, checks, many, Effect, Ty, un, unit_ty, pair_ty, sum_ty, key, nonce, Leaf, Sends, Stops, Prefix, Recvs, Serves, Splits, Selects, Decrypts, Checks, Begins, Ends, EndManys, Casts, Freshes, Branches, Pars, Process, leaf, prefix, fork, binds}
use Rattle.spi_term.specs.Spelling.{Spelling}
use Rattle.spi_scope.specs.Meaning.{nested}
use Rattle.spi_scope.specs.Parts.{numbered_message, numbered_messages, numbered_atom, numbered_effect}
use Rattle.spi_scope.specs.StandsFor.{Meant}
use Rattle.spi_show.specs.Spelled.{name_text}
use Rattle.spi_show.specs.Processes.{Standing, alone, sequel}
use Rattle.spi_spell.proofs.Printed.{spelled_name, numbered_name, message_tree, second_tree, rest_trees, second_part, parts_of_type, atom_tree, atom_trees, type_tree, field_trees, last_tree, leaf_tree, prefix_tree, process_tree, free_trees, part_tree, opponent_tree, written_tree, deriv_tree, deriv_trees, derivation_tree, file_tree}
use Rattle.spi_spell.proofs.Printable.{HasVersion, MessageFits, AtomFits, EffectFits, PartsFit, TyFits, LeafFits, PrefixFits, ProcessFits, IsPrintablePart, IsOpponentPart, is_later_file, IsPrintable}

-- ---- messages and types

module _ (later numbered : Bool) (of : ℕ → t.Msg) (names : (i : ℕ) → IsMsg later numbered (of i)) where
  -- the parts of a tuple behind its first
  parts_formed : (n : ℕ) (m : Message) → IsMsg later numbered (message_tree of n m) → IsMsg later numbered (second_tree of n m) × AreMsgs later numbered (rest_trees of n m)
  parts_formed n =
      second_part of n (λ (a : t.Msg) (ms : t.Msgs) (x : t.Msg). IsMsg later numbered x → IsMsg later numbered a × AreMsgs later numbered ms) (λ x h. (h, tt)) (λ a b ms h. (h.0, (h.1, h.2)))

  pub message_formed : (n : ℕ) (m : Message) → HasVersion later m → IsMsg later numbered (message_tree of n m)
  message_formed n (bound i) h = names (n - suc i)
  message_formed n (name x) h = names x
  message_formed n unit h = tt
  message_formed n (pair a b) h = (let k = parts_formed n b (message_formed n b h.1) in (message_formed n a h.0, k.0, k.1))
  message_formed n (in_left a) h = message_formed n a h
  message_formed n (in_right a) h = message_formed n a h
  message_formed n (enc a b) h = (message_formed n a h.0, message_formed n b h.1)
  message_formed n (hash a) h = (h.0, message_formed n a h.1)

  atom_formed : (n : ℕ) (a : Atom) → AtomFits later a → IsAtom later numbered (atom_tree of n a)
  atom_formed n (ends m) h = message_formed n m h.1
  atom_formed n (checks m) h = message_formed n m h.1
  atom_formed n (many m) h = (h.0, message_formed n m h.1.1)

  pub atoms_formed : (n : ℕ) (es : Effect) → EffectFits later es → AreAtoms later numbered (atom_trees of n es)
  atoms_formed n [] h = tt
  atoms_formed n (a ∷ es) h = (atom_formed n a h.0, atoms_formed n es h.1)

module _ (later : Bool) (spell : ℕ → List ℕ) where
  spelled_formed : (n : ℕ) (m : Message) → MessageFits later m → IsMsg later false (message_tree (spelled_name spell) n m)
  spelled_formed n m h = message_formed later false (spelled_name spell) (λ i. refl) n m h.1

  effect_formed : (n : ℕ) (es : Effect) → EffectFits later es → AreAtoms later false (atom_trees (spelled_name spell) n es)
  effect_formed n es h = atoms_formed later false (spelled_name spell) (λ i. refl) n es h

  -- the parts of a tuple type behind its first
  fields_formed : (n : ℕ) (a : Ty) → IsTy later (type_tree spell n a) → AreFields later (field_trees spell n a) × IsLast later (last_tree spell n a)
  fields_formed n =
      parts_of_type spell n (λ (fs : t.Fields) (l : t.Last) (x : t.Ty). IsTy later x → AreFields later fs × IsLast later l) (λ x h. (tt, h)) (λ w a fs l h. ((h.0, h.1), h.2))

  type_formed : (n : ℕ) (a : Ty) → PartsFit later a → IsTy later (type_tree spell n a)
  type_formed n un h = tt
  type_formed n unit_ty h = tt
  type_formed n (pair_ty a b) h = (let k = fields_formed (suc n) b (type_formed (suc n) b h.1) in (type_formed n a h.0, k.0, k.1))
  type_formed n (sum_ty a b) h = (type_formed n a h.0, type_formed n b h.1)
  type_formed n (key a) h = type_formed n a h
  type_formed n (nonce es) h = effect_formed n es h

  -- ---- processes

  abbrev place_of : Standing → ℕ → Place
  place_of alone k = at_level k
  place_of sequel k = in_seq k

  bounded_formed : (n : ℕ) (a : Ty) → TyFits later a → IsTy later (type_tree spell n a)
  bounded_formed n a h = type_formed n a h.1

  -- what may stand in a sequence may stand at a level
  placed : (at : Standing) (k : ℕ) (q : t.Proc) → IsProc later (in_seq (nesting_of (place_of at k))) q → IsProc later (place_of at k) q
  placed sequel k q h = h
  placed alone k q h = seq_is_proc later k q h

  leaf_formed : (k n : ℕ) (l : Leaf) → LeafFits later l → IsProc later (in_seq k) (leaf_tree spell n l)
  leaf_formed k n (Sends a b) h = (spelled_formed n a h.0, spelled_formed n b h.1)
  leaf_formed k n Stops h = tt

  prefix_formed : (k n : ℕ) (s : Prefix) (p : t.Proc) → PrefixFits later s → IsProc later (in_seq (k + 1)) p → IsProc later (in_seq k) (prefix_tree spell n s p)
  prefix_formed k n (Recvs m a) p h g = (spelled_formed n m h.0, bounded_formed n a h.1, g)
  prefix_formed k n (Serves m a) p h g = (spelled_formed n m h.0, bounded_formed n a h.1, g)
  prefix_formed k n (Splits m a b) p h g = (spelled_formed n m h.0, bounded_formed n a h.1, bounded_formed (suc n) b h.2, g)
  prefix_formed k n (Selects m a j b) p h g = (spelled_formed n m h.0, bounded_formed n a h.1, spelled_formed n j h.2, bounded_formed (suc n) b h.3, g)
  prefix_formed k n (Decrypts m a j) p h g = (spelled_formed n m h.0, bounded_formed n a h.1, spelled_formed n j h.2, g)
  prefix_formed k n (Checks m j) p h g = (spelled_formed n m h.0, spelled_formed n j h.1, g)
  prefix_formed k n (Begins m) p h g = (spelled_formed n m h, g)
  prefix_formed k n (Ends m) p h g = (spelled_formed n m h, g)
  prefix_formed k n (EndManys m) p h g = (h.0, spelled_formed n m h.1, g)
  prefix_formed k n (Casts m a) p h g = (spelled_formed n m h.0, bounded_formed n a h.1, g)
  prefix_formed k n (Freshes a) p h g = (bounded_formed n a h, g)

  process_formed : (at : Standing) (k n : ℕ) (p : Process) → ProcessFits later p → IsProc later (place_of at k) (process_tree spell at n p)
  process_formed at k n (leaf l) h = placed at k (leaf_tree spell n l) (leaf_formed _ n l h)
  process_formed at k n (prefix s p) h =
      let behind = process_tree spell sequel (n + binds s) p in
      placed at k (prefix_tree spell n s behind) (prefix_formed _ n s behind h.0 (process_formed sequel _ (n + binds s) p h.1))
  process_formed at k n (fork (Branches m a b) p q) h =
      placed at k (process_tree spell at n (fork (Branches m a b) p q))
      (spelled_formed n m h.0.0, bounded_formed n a h.0.1, process_formed sequel _ (n + 1) p h.1, bounded_formed n b h.0.2, process_formed sequel _ (n + 1) q h.2)
  process_formed alone k n (fork Pars p q) h = (process_formed sequel (k + 1) n p h.1, process_formed alone (k + 1) n q h.2)
  process_formed sequel k n (fork Pars (leaf (Sends a b)) q) h = (spelled_formed n a h.1.0, spelled_formed n b h.1.1, process_formed sequel (k + 1) n q h.2)
  process_formed sequel k n (fork Pars (leaf Stops) q) h = (tt, process_formed alone (k + 1) n q h.2)
  process_formed sequel k n (fork Pars (prefix s p) q) h = (process_formed sequel (k + 1) n (prefix s p) h.1, process_formed alone (k + 1) n q h.2)
  process_formed sequel k n (fork Pars (fork f p r) q) h = (process_formed sequel (k + 1) n (fork f p r) h.1, process_formed alone (k + 1) n q h.2)

  pub part_formed : (i : ℕ) (p : Spelling) → IsPrintablePart later i p → IsProc later (at_level 0) (part_tree spell p)
  part_formed i p h = process_formed alone 0 p.names p.process h.fits

  opponent_formed : (i : ℕ) (o : Option Spelling) → IsOpponentPart later i o → IsFormedOpponent later (opponent_tree spell o)
  opponent_formed i None h = tt
  opponent_formed i (Some p) h = part_formed i p h

-- ---- derivations

abbrev HaveVersion : Bool → List Message → Type 0
HaveVersion later [] = ⊤
HaveVersion later (m ∷ ms) = HasVersion later m × HaveVersion later ms

nested_version : (later : Bool) (m : Message) (ms : List Message) → HasVersion later m → HaveVersion later ms → HasVersion later (nested m ms)
nested_version later m [] h g = h
nested_version later m (k ∷ ms) h g = (h, nested_version later k ms g.0 g.1)

module _ (later numbered : Bool) where
  mutual
    numbered_version : (m : t.Msg) → IsMsg later numbered m → HasVersion later (numbered_message m)
    numbered_version (t.name s w) h = tt
    numbered_version (t.unit s) h = tt
    numbered_version (t.tuple s a b ms) h =
        nested_version later (numbered_message a) (numbered_message b ∷ numbered_messages ms) (numbered_version a h.0) (numbered_version b h.1, all_numbered_version ms h.2)
    numbered_version (t.inl s a) h = numbered_version a h
    numbered_version (t.inr s a) h = numbered_version a h
    numbered_version (t.enc s a b) h = (numbered_version a h.0, numbered_version b h.1)
    numbered_version (t.hash s a) h = (h.0, numbered_version a h.1)
    numbered_version (t.num s i) h = tt

    all_numbered_version : (ms : t.Msgs) → AreMsgs later numbered ms → HaveVersion later (numbered_messages ms)
    all_numbered_version t.no_msgs h = tt
    all_numbered_version (t.more_msgs m ms) h = (numbered_version m h.0, all_numbered_version ms h.1)

module _ (later : Bool) where
  numbered_formed : (m : t.Msg) → IsMsg later true m → IsMsg later true (message_tree numbered_name 0 (numbered_message m))
  numbered_formed m h = message_formed later true numbered_name (λ i. refl) 0 (numbered_message m) (numbered_version later true m h)

  numbered_atom_formed : (e : t.Atom) → IsAtom later true e → IsAtom later true (atom_tree numbered_name 0 (numbered_atom e))
  numbered_atom_formed (t.ends s m) h = numbered_formed m h
  numbered_atom_formed (t.checks s m) h = numbered_formed m h
  numbered_atom_formed (t.many s m) h = (h.0, numbered_formed m h.1)

  numbered_atoms_formed : (es : List t.Atom) → AreAtoms later true es → AreAtoms later true (atom_trees numbered_name 0 (map numbered_atom es))
  numbered_atoms_formed [] h = tt
  numbered_atoms_formed (e ∷ es) h = (numbered_atom_formed e h.0, numbered_atoms_formed es h.1)

  written_formed : (o : Option (List t.Atom)) → IsWritten later o → IsWritten later (written_tree (numbered_effect o))
  written_formed None h = tt
  written_formed (Some es) h = numbered_atoms_formed es h

  same_number : (ds : t.Derivs) → count_derivs (deriv_trees ds) ≡ count_derivs ds
  same_number t.no_derivs = refl
  same_number (t.more_derivs d ds) = ap suc (same_number ds)

  same_written : (o : Option (List t.Atom)) → is_written (written_tree (numbered_effect o)) ≡ is_written o
  same_written None = refl
  same_written (Some es) = refl

  mutual
    deriv_kept : (d : t.Deriv) → IsDeriv later d × HasRules later d → IsDeriv later (deriv_tree d) × HasRules later (deriv_tree d)
    deriv_kept (t.rule s w es ds) h =
        let k = derivs_kept ds (h.0.1, h.1.2) in
        ((written_formed es h.0.0, k.0), (h.1.0 ∙ ap Some (sym (same_number ds)), h.1.1 ∙ sym (same_written es), k.1))

    derivs_kept : (ds : t.Derivs) → AreDerivs later ds × HaveRules later ds → AreDerivs later (deriv_trees ds) × HaveRules later (deriv_trees ds)
    derivs_kept t.no_derivs h = (tt, tt)
    derivs_kept (t.more_derivs d ds) h =
        let k = deriv_kept d (h.0.0, h.1.0) in
        let ks = derivs_kept ds (h.0.1, h.1.1) in
        ((k.0, ks.0), (k.1, ks.1))

  derivation_kept : (d : Option t.Deriv) → IsDerivation later d × IsFormedDerived later d → IsDerivation later (derivation_tree d) × IsFormedDerived later (derivation_tree d)
  derivation_kept None h = (tt, tt)
  derivation_kept (Some d) h = deriv_kept d h

-- ---- files

free_formed : (later : Bool) (ws : List (List ℕ)) → AreDeclared later (free_trees ws)
free_formed later [] = tt
free_formed later (w ∷ ws) = (tt, tt)

pub tree_formed : (s : ℕ) (f : Meant) (d : Option t.Deriv) → IsPrintable f d → AreWordsFit (is_later_file f) (tokens_of (file_tree s f d)) → IsFile (file_tree s f d)
tree_formed s f d h words = record {
  formed = record {
    version = h.version;
    decls = free_formed (is_later_file f) f.names;
    process = part_formed (is_later_file f) (name_text s f.names) (length f.names) f.process h.process;
    opponent = opponent_formed (is_later_file f) (name_text s f.names) (length f.names) f.opponent h.opponent;
    derivation = (derivation_kept (is_later_file f) d (h.derivation.formed, h.derivation.rules)).0;
    words = words;
  };
  rules = (derivation_kept (is_later_file f) d (h.derivation.formed, h.derivation.rules)).1;
}
