-- No node in the tree of a canonical text is above a nesting limit.
use Rattle.std.proofs.Common.{◌≡◌, ℕ, suc, ◌+◌, ◌-◌, ◌≤◌, ◌==◌, Bool, true, false, if◌then◌else◌, List, [], ◌∷◌, map, length, codes, Option, Some, None, refl, arith}
use Rattle.std.specs.Prelude.{⊤, nat_lt}
use Rattle.std.proofs.lemmas.Bool.{le-ltb}
use Rattle.spi_lex.specs.declared.token.Kind.TheVariants as kinds
use Rattle.spi_lex.specs.declared.token.Mark.TheVariants as mark
use Rattle.spi_tree.specs.Trees as t
use Rattle.spi_tree.specs.Pieces.{Piece, closes, a_mark, a_number, a_token, Place, in_seq, at_level, nesting_of, below, message_limit, process_limit, msg_pieces, msgs_pieces, atom_pieces, atoms_pieces, effect_pieces, ty_pieces, fields_pieces, last_pieces, named_pieces, binder_pieces, proc_pieces, words_pieces, decls_pieces, step_pieces, steps_pieces, written_pieces, deriv_pieces, derivs_pieces, version_pieces, opponent_pieces, schedule_pieces, derivation_pieces}
use Rattle.spi_parse.specs.Exact.{IsWithin}
use Rattle.spi_parse.specs.Formed.{whole_file}
use Rattle.spi_term.specs.Term.{Message, bound, name, unit, pair, in_left, in_right, enc, hash, Atom, ends, checks, many, Effect, Ty, un, unit_ty, pair_ty, sum_ty, key, nonce, Leaf, Sends, Stops, Prefix, Recvs, Serves, Splits, Selects, Decrypts, Checks, Begins, Ends, EndManys, Casts, Freshes, Branches, Pars, Process, leaf, prefix, fork, binds, message_size}
use Rattle.spi_term.specs.Spelling.{Spelling, atom_nodes, effect_nodes, ty_nodes}
use Rattle.spi_run.specs.Reduction.{Step, act, talk}
use Rattle.spi_scope.specs.Parts.{numbered_atom, numbered_effect}
use Rattle.spi_scope.specs.Points.{in_order, numbered_atoms_points, written_points, deriv_points, derivs_points, derivation_points}
use Rattle.spi_scope.specs.First.{Clean}
use Rattle.spi_scope.specs.StandsFor.{Meant}
use Rattle.spi_show.specs.Spelled.{name_text}
use Rattle.spi_show.specs.Processes.{Standing, alone, sequel}
use Rattle.spi_tree.proofs.Same.{same_effect}
use Rattle.spi_gen.specs.Handshake.{word}
use Rattle.spi_spell.proofs.Past.{skip_one}
use Rattle.spi_spell.proofs.Shallow.{ArePointsSmall, small}
use Rattle.spi_spell.proofs.Printed.{twice, spelled_name, numbered_name, message_tree, second_tree, rest_trees, atom_tree, atom_trees, type_tree, field_trees, last_tree, leaf_tree, prefix_tree, process_tree, free_trees, part_tree, opponent_tree, step_tree, schedule_tree, written_tree, deriv_tree, deriv_trees, derivation_tree, file_tree}
use Rattle.spi_spell.proofs.Printable.{MessageFits, TyFits, LeafFits, PrefixFits, ForkFits, ProcessFits, Nests, IsPrintablePart, IsOpponentPart, is_later_file, IsPrintable}
use Rattle.spi_tree.specs.Trees.{nowhere}

-- the first token of a message, a type or an atom, and of a process
shallow : (k : ℕ) → k ≤ 1000 → nat_lt message_limit k ≡ false
shallow k h = le-ltb 1000 k h

-- ---- messages

module _ (of : ℕ → t.Msg) (names : (i k : ℕ) (r : List Piece) → k ≤ 1000 → IsWithin r → IsWithin (msg_pieces k (of i) r)) where
  -- the message, and its parts behind the first component of a tuple
  both_within : (m : Message) (n k : ℕ) (r : List Piece) → k + message_size m ≤ 1001 → IsWithin r
      → IsWithin (msg_pieces k (message_tree of n m) r) × IsWithin (msg_pieces k (second_tree of n m) (msgs_pieces k (rest_trees of n m) r))
  both_within (bound i) n k r low h = twice (names (n - suc i) k r (omega arith) h)
  both_within (name x) n k r low h = twice (names x k r (omega arith) h)
  both_within unit n k r low h = twice (shallow k (omega arith), (refl, h))
  both_within (pair a b) n k r low h = (
    (shallow k (omega arith), (both_within a n (k + 1) _ (omega arith) (refl, (both_within b n (k + 1) _ (omega arith) (refl, h)).1)).0),
    (both_within a n k _ (omega arith) (refl, (both_within b n k r (omega arith) h).1)).0,
  )
  both_within (in_left a) n k r low h = twice (shallow k (omega arith), (both_within a n (k + 1) _ (omega arith) h).0)
  both_within (in_right a) n k r low h = twice (shallow k (omega arith), (both_within a n (k + 1) _ (omega arith) h).0)
  both_within (enc a b) n k r low h = twice (shallow k (omega arith), (both_within a n (k + 1) _ (omega arith) (refl, (both_within b n (k + 1) _ (omega arith) h).0)).0)
  both_within (hash a) n k r low h = twice (shallow k (omega arith), (refl, (both_within a n (k + 1) _ (omega arith) (refl, h)).0))

  pub message_within : (m : Message) (n k : ℕ) (r : List Piece) → k + message_size m ≤ 1001 → IsWithin r → IsWithin (msg_pieces k (message_tree of n m) r)
  message_within m n k r low h = (both_within m n k r low h).0

  atom_within : (a : Atom) (n k : ℕ) (r : List Piece) → k + atom_nodes a ≤ 1001 → IsWithin r → IsWithin (atom_pieces k (atom_tree of n a) r)
  atom_within (ends m) n k r low h = (shallow k (omega arith), message_within m n (k + 1) _ (omega arith) h)
  atom_within (checks m) n k r low h = (shallow k (omega arith), message_within m n (k + 1) _ (omega arith) h)
  atom_within (many m) n k r low h = (shallow k (omega arith), message_within m n (k + 1) _ (omega arith) h)

  -- the nodes of each atom, on top of a nesting
  abbrev pub AreLow : ℕ → Effect → Type 0
  AreLow k [] = ⊤
  AreLow k (a ∷ es) = (k + atom_nodes a ≤ 1001) × AreLow k es

  pub are_low : (k : ℕ) (es : Effect) → k + effect_nodes es ≤ 1001 → AreLow k es
  are_low k [] low = tt
  are_low k (a ∷ es) low = (omega arith, are_low k es (omega arith))

  atoms_within : (es : Effect) (n k : ℕ) (r : List Piece) → AreLow k es → IsWithin r → IsWithin (atoms_pieces k (atom_trees of n es) r)
  atoms_within [] n k r low h = h
  atoms_within (a ∷ es) n k r low h = (refl, atom_within a n k _ low.0 (atoms_within es n k r low.1 h))

  pub effect_within : (es : Effect) (n k : ℕ) (r : List Piece) → AreLow k es → IsWithin r → IsWithin (effect_pieces k (atom_trees of n es) r)
  effect_within [] n k r low h = (refl, (refl, h))
  effect_within (a ∷ es) n k r low h = (refl, atom_within a n k _ low.0 (atoms_within es n k _ low.1 (refl, h)))

-- ---- types

module _ (spell : ℕ → List ℕ) where
  name_within : (i k : ℕ) (r : List Piece) → k ≤ 1000 → IsWithin r → IsWithin (msg_pieces k (spelled_name spell i) r)
  name_within i k r low h = (shallow k low, h)

  spelled_within : (m : Message) (n k : ℕ) (r : List Piece) → k + message_size m ≤ 1001 → IsWithin r → IsWithin (msg_pieces k (message_tree (spelled_name spell) n m) r)
  spelled_within m n k r low h = message_within (spelled_name spell) name_within m n k r low h

  nonce_within : (es : Effect) (n k : ℕ) (r : List Piece) → k + effect_nodes es ≤ 1001 → IsWithin r → IsWithin (effect_pieces k (atom_trees (spelled_name spell) n es) r)
  nonce_within es n k r low h = effect_within (spelled_name spell) name_within es n k r (are_low (spelled_name spell) name_within k es low) h

  -- the type, and its parts behind the first component of a tuple
  type_both_within : (a : Ty) (n k : ℕ) (r : List Piece) → k + ty_nodes a ≤ 1001 → IsWithin r
      → IsWithin (ty_pieces k (type_tree spell n a) r) × IsWithin (fields_pieces k (field_trees spell n a) (last_pieces k (last_tree spell n a) r))
  type_both_within un n k r low h = twice (shallow k (omega arith), h)
  type_both_within unit_ty n k r low h = twice (shallow k (omega arith), (refl, h))
  type_both_within (pair_ty a b) n k r low h = (
    (shallow k (omega arith), (refl, (refl, (type_both_within a n (k + 1) _ (omega arith) (refl, (type_both_within b (suc n) (k + 1) _ (omega arith) (refl, h)).1)).0))),
    (refl, (refl, (type_both_within a n k _ (omega arith) (refl, (type_both_within b (suc n) k r (omega arith) h).1)).0)),
  )
  type_both_within (sum_ty a b) n k r low h =
      twice (shallow k (omega arith), (type_both_within a n (k + 1) _ (omega arith) (refl, (type_both_within b n (k + 1) _ (omega arith) (refl, h)).0)).0)
  type_both_within (key a) n k r low h = twice (shallow k (omega arith), (refl, (type_both_within a n (k + 1) _ (omega arith) (refl, h)).0))
  type_both_within (nonce es) n k r low h = twice (shallow k (omega arith), nonce_within es n (k + 1) _ (omega arith) h)

  type_within : (a : Ty) (n k : ℕ) (r : List Piece) → k + ty_nodes a ≤ 1001 → IsWithin r → IsWithin (ty_pieces k (type_tree spell n a) r)
  type_within a n k r low h = (type_both_within a n k r low h).0

-- ---- processes

module _ (later : Bool) (spell : ℕ → List ℕ) where
  part_message : (n : ℕ) (m : Message) (r : List Piece) → MessageFits later m → IsWithin r → IsWithin (msg_pieces 1 (message_tree (spelled_name spell) n m) r)
  part_message n m r fits h = let few = fits.0 in spelled_within spell m n 1 r (omega arith) h

  named_within : (i n : ℕ) (a : Ty) (r : List Piece) → TyFits later a → IsWithin r → IsWithin (named_pieces (word (spell i)) (type_tree spell n a) r)
  named_within i n a r fits h = let few = fits.0 in (refl, (refl, type_within spell a n 1 r (omega arith) h))

  binder_within : (n : ℕ) (a : Ty) (r : List Piece) → TyFits later a → IsWithin r → IsWithin (binder_pieces (word (spell n)) (type_tree spell n a) r)
  binder_within n a r fits h = (refl, named_within n n a _ fits (refl, (refl, h)))

  low_place : (a : Place) → nesting_of a ≤ process_limit → nat_lt process_limit (nesting_of a) ≡ false
  low_place a h = le-ltb 500 (nesting_of a) h

  leaf_within : (a : Place) (n : ℕ) (l : Leaf) (r : List Piece) → nesting_of a ≤ process_limit → LeafFits later l → IsWithin r → IsWithin (proc_pieces a (leaf_tree spell n l) r)
  leaf_within a n (Sends m k) r low f h = (low_place a low, part_message n m _ f.0 (part_message n k _ f.1 h))
  leaf_within a n Stops r low f h = (low_place a low, h)

  -- what follows a form
  abbrev GoesOn : Place → t.Proc → Type 0
  GoesOn a p = (r : List Piece) → IsWithin r → IsWithin (proc_pieces a p r)

  prefix_within : (a : Place) (n : ℕ) (s : Prefix) (p : t.Proc) (r : List Piece) → nesting_of a ≤ process_limit → PrefixFits later s → GoesOn (below a) p → IsWithin r → IsWithin (proc_pieces a (prefix_tree spell n s p) r)
  prefix_within a n (Recvs m t) p r low f go h = (low_place a low, part_message n m _ f.0 (binder_within n t _ f.1 (go _ h)))
  prefix_within a n (Serves m t) p r low f go h = (low_place a low, (refl, part_message n m _ f.0 (binder_within n t _ f.1 (go _ h))))
  prefix_within a n (Splits m t u) p r low f go h =
      (low_place a low, part_message n m _ f.0 (refl, (refl, named_within n n t _ f.1 (refl, named_within (suc n) (suc n) u _ f.2 (refl, (refl, go _ h))))))
  prefix_within a n (Selects m t k u) p r low f go h =
      (low_place a low, part_message n m _ f.0 (refl, (refl, named_within n n t _ f.1 (refl, part_message n k _ f.2 (refl, named_within n (suc n) u _ f.3 (refl, (refl, go _ h)))))))
  prefix_within a n (Decrypts m t k) p r low f go h =
      (low_place a low, part_message n m _ f.0 (refl, (refl, named_within n n t _ f.1 (refl, part_message n k _ f.2 (refl, go _ h)))))
  prefix_within a n (Checks m k) p r low f go h = (low_place a low, part_message n m _ f.0 (refl, part_message n k _ f.1 (refl, go _ h)))
  prefix_within a n (Begins m) p r low f go h = (low_place a low, part_message n m _ f (refl, go _ h))
  prefix_within a n (Ends m) p r low f go h = (low_place a low, part_message n m _ f (refl, go _ h))
  prefix_within a n (EndManys m) p r low f go h = (low_place a low, part_message n m _ f.1 (refl, go _ h))
  prefix_within a n (Casts m t) p r low f go h = (low_place a low, part_message n m _ f.0 (refl, binder_within n t _ f.1 (go _ h)))
  prefix_within a n (Freshes t) p r low f go h = (low_place a low, binder_within n t _ f (go _ h))

  case_within : (a : Place) (n : ℕ) (m : Message) (x y : Ty) (p q : t.Proc) (r : List Piece) → nesting_of a ≤ process_limit → ForkFits later (Branches m x y) → GoesOn (below a) p → GoesOn (below a) q → IsWithin r
      → IsWithin (proc_pieces a (t.case nowhere (message_tree (spelled_name spell) n m) (word (spell n)) (type_tree spell n x) p (word (spell n)) (type_tree spell n y) q) r)
  case_within a n m x y p q r low f go on h =
      (low_place a low, part_message n m _ f.0 (refl, (refl, binder_within n x _ f.1 (go _ (refl, (refl, binder_within n y _ f.2 (on _ h)))))))

  abbrev place_of : Standing → ℕ → Place
  place_of alone k = at_level k
  place_of sequel k = in_seq k

  process_within : (at : Standing) (k n : ℕ) (p : Process) → ProcessFits later p → Nests (place_of at k) p → GoesOn (place_of at k) (process_tree spell at n p)
  process_within at k n (leaf l) f low r h = leaf_within (place_of at k) n l r low f h
  process_within at k n (prefix s p) f low r h =
      prefix_within (place_of at k) n s (process_tree spell sequel (n + binds s) p) r low.0 f.0 (process_within sequel (nesting_of (place_of at k) + 1) (n + binds s) p f.1 low.1) h
  process_within at k n (fork (Branches m t u) p q) f low r h =
      case_within (place_of at k) n m t u (process_tree spell sequel (n + 1) p) (process_tree spell sequel (n + 1) q) r low.0 f.0
      (process_within sequel (nesting_of (place_of at k) + 1) (n + 1) p f.1 low.1) (process_within sequel (nesting_of (place_of at k) + 1) (n + 1) q f.2 low.2) h
  process_within alone k n (fork Pars p q) f low r h = process_within sequel (k + 1) n p f.1 low.0 _ (refl, process_within alone (k + 1) n q f.2 low.1 _ h)
  process_within sequel k n (fork Pars (leaf (Sends a b)) q) f low r h =
      (low_place (in_seq k) low.0, part_message n a _ f.1.0 (part_message n b _ f.1.1 (refl, process_within sequel (k + 1) n q f.2 low.1 _ h)))
  process_within sequel k n (fork Pars (leaf Stops) q) f low r h =
      (low_place (in_seq k) low.0, (low_place (in_seq (k + 1)) low.1.0, (refl, process_within alone (k + 1) n q f.2 low.1.1 _ (refl, h))))
  process_within sequel k n (fork Pars (prefix s p) q) f low r h =
      (low_place (in_seq k) low.0, process_within sequel (k + 1) n (prefix s p) f.1 low.1.0 _ (refl, process_within alone (k + 1) n q f.2 low.1.1 _ (refl, h)))
  process_within sequel k n (fork Pars (fork g p o) q) f low r h =
      (low_place (in_seq k) low.0, process_within sequel (k + 1) n (fork g p o) f.1 low.1.0 _ (refl, process_within alone (k + 1) n q f.2 low.1.1 _ (refl, h)))

  part_within : (i : ℕ) (p : Spelling) → IsPrintablePart later i p → GoesOn (at_level 0) (part_tree spell p)
  part_within i p h = process_within alone 0 p.names p.process h.fits h.nests

  opponent_within : (i : ℕ) (o : Option Spelling) (r : List Piece) → IsOpponentPart later i o → IsWithin r → IsWithin (opponent_pieces (opponent_tree spell o) r)
  opponent_within i None r f h = h
  opponent_within i (Some p) r f h = (refl, part_within i p f r h)

-- ---- derivations

number_within : (i k : ℕ) (r : List Piece) → k ≤ 1000 → IsWithin r → IsWithin (msg_pieces k (numbered_name i) r)
number_within i k r low h = (shallow k low, (refl, h))

abbrev AreLowAtoms : Effect → Type 0
AreLowAtoms es = AreLow numbered_name number_within 0 es

low_atoms : (es : List t.Atom) → ArePointsSmall (numbered_atoms_points es) → AreLowAtoms (map numbered_atom es)
low_atoms [] f = tt
low_atoms (t.ends s m ∷ es) f = (let few = f.0 in omega arith, low_atoms es f.1)
low_atoms (t.checks s m ∷ es) f = (let few = f.0 in omega arith, low_atoms es f.1)
low_atoms (t.many s m ∷ es) f = (let few = f.0 in omega arith, low_atoms es f.1)

written_within : (o : Option (List t.Atom)) (r : List Piece) → ArePointsSmall (written_points o) → IsWithin r → IsWithin (written_pieces (written_tree (numbered_effect o)) r)
written_within None r f h = h
written_within (Some es) r f h = effect_within numbered_name number_within (map numbered_atom es) 0 0 r (low_atoms es f) h

behind_written : (o : Option (List t.Atom)) (r : List Piece) → IsWithin (written_pieces o r) → IsWithin r
behind_written None r h = h
behind_written (Some es) r h = same_effect (λ x y. IsWithin x → IsWithin r) (skip_one r) 0 es {x = r} {y = r} (λ k. k) h

mutual
  deriv_within : (d : t.Deriv) (n : ℕ) (r : List Piece) → IsWithin (deriv_pieces n d r) → ArePointsSmall (deriv_points d) → IsWithin r × ((q : List Piece) → IsWithin q → IsWithin (deriv_pieces n (deriv_tree d) q))
  deriv_within (t.rule s w es ds) n r h f =
      let on = derivs_within ds (n + 1) (closes s.to ∷ r) (behind_written es _ h.1) f.1 in
      (on.0, λ q k. (h.0, written_within es _ f.0 (on.1 _ k)))

  derivs_within : (ds : t.Derivs) (n : ℕ) (r : List Piece) → IsWithin (derivs_pieces n ds r) → ArePointsSmall (derivs_points ds) → IsWithin r × ((q : List Piece) → IsWithin q → IsWithin (derivs_pieces n (deriv_trees ds) q))
  derivs_within t.no_derivs n r h f = (h, λ q k. k)
  derivs_within (t.more_derivs d ds) n r h f =
      let one = deriv_within d n (derivs_pieces n ds r) h f.0 in
      let on = derivs_within ds n r one.0 f.1 in
      (on.0, λ q k. one.1 _ (on.1 q k))

derivation_within : (d : Option t.Deriv) (r : List Piece) → IsWithin (derivation_pieces d []) → Clean 0 (in_order (derivation_points d)) → IsWithin r → IsWithin (derivation_pieces (derivation_tree d) r)
derivation_within None r h f k = k
derivation_within (Some d) r h f k = (refl, (deriv_within d 1 [] h.1 (small (deriv_points d) 0 f)).1 r k)

-- ---- files

words_within : (ws : List (List ℕ)) (r : List Piece) → IsWithin r → IsWithin (words_pieces (map word ws) r)
words_within [] r h = h
words_within (w ∷ ws) r h = (refl, (refl, words_within ws r h))

free_within : (ws : List (List ℕ)) (r : List Piece) → IsWithin r → IsWithin (decls_pieces (free_trees ws) r)
free_within [] r h = h
free_within (w ∷ ws) r h = (refl, (refl, words_within ws _ (refl, h)))

step_within : (s : Step) (r : List Piece) → IsWithin r → IsWithin (step_pieces (step_tree s) r)
step_within (act i) r h = (refl, (refl, (refl, h)))
step_within (talk i j) r h = (refl, (refl, (refl, (refl, h))))

steps_within : (ss : List Step) (r : List Piece) → IsWithin r → IsWithin (steps_pieces (map step_tree ss) r)
steps_within [] r h = h
steps_within (s ∷ ss) r h = step_within s _ (steps_within ss r h)

schedule_within : (o : Option (List Step)) (r : List Piece) → IsWithin r → IsWithin (schedule_pieces (schedule_tree o) r)
schedule_within None r h = h
schedule_within (Some ss) r h = (refl, steps_within ss r h)

version_by : (b : Bool) (r : List Piece) → IsWithin r → IsWithin (if b then a_token (kinds.Word (codes "version")) (a_number 2 (a_mark mark.Semicolon r)) else r)
version_by true r h = (refl, (refl, (refl, h)))
version_by false r h = h

version_within : (v : ℕ) (r : List Piece) → IsWithin r → IsWithin (version_pieces v r)
version_within v r h = version_by (v == 2) r h

pub tree_within : (s : ℕ) (f : Meant) (d : Option t.Deriv) → IsPrintable f d → IsWithin (whole_file (file_tree s f d))
tree_within s f d h =
    let spell : ℕ → List ℕ = name_text s f.names in
    version_within f.version _ (free_within f.names _ (
      refl,
      part_within (is_later_file f) spell (length f.names) f.process h.process _
          (opponent_within (is_later_file f) spell (length f.names) f.opponent _ h.opponent (schedule_within f.schedule _ (derivation_within d _ h.derivation.within h.derivation.small tt))),
    ))
