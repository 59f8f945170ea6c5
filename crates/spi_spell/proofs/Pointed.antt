-- Nothing is wrong at the points of a canonical text's tree, and what they add to the count.
use Rattle.std.proofs.Common.{◌≡◌, ℕ, suc, ◌+◌, ◌-◌, ◌≤◌, Bool, if◌then◌else◌, List, [], ◌∷◌, is_some, refl, sym, ◌∙◌, ap, subst, arith, add-zero, add-one}
use Rattle.spi_tree.specs.Trees as t
use Rattle.spi_term.specs.Term.{Message, bound, name, unit, pair, in_left, in_right, enc, hash, Atom, ends, checks, many, Effect, Ty, un, unit_ty, pair_ty, sum_ty, key, nonce, Leaf, Sends, Stops, Prefix, Recvs, Serves, Splits, Selects, Decrypts, Checks, Begins, Ends, EndManys, Casts, Freshes, Branches, Pars, Process, leaf, prefix, fork, binds, message_size}
use Rattle.spi_term.specs.Names.{MessageOver, OfAtom, OfEffect, OfTy, OfLeaf, OfPrefix, OfProcess}
use Rattle.spi_term.specs.Spelling.{ty_nodes}
use Rattle.spi_gen.specs.Handshake.{word}
use Rattle.spi_scope.specs.Scope.{Abbreviations}
use Rattle.spi_scope.specs.Meaning.{behind}
use Rattle.spi_scope.specs.Points.{◌⨾◌, msg_nodes, message_points, messages_points, message_points_whole, atom_points, atoms_points, type_points, fields_points, last_points, part, whole_type, process_points}
use Rattle.spi_scope.proofs.Sizes.{message_sized, type_sized}
use Rattle.spi_show.specs.Processes.{Standing, alone, sequel, is_output}
use Rattle.spi_spell.proofs.Printed.{second_part, parts_of_type, spelled_name, message_tree, second_tree, rest_trees, atom_tree, atom_trees, type_tree, field_trees, last_tree, leaf_tree, prefix_tree, then_tree, process_tree}
use Rattle.spi_spell.proofs.Printable.{MessageFits, AtomFits, EffectFits, PartsFit, TyFits, LeafFits, PrefixFits, ProcessFits, leaf_nodes, prefix_nodes, process_nodes}
use Rattle.spi_spell.proofs.Scopes.{in_scope, NamesAreApart, found}
use Rattle.spi_spell.proofs.Means.{message_means, type_means}
use Rattle.spi_spell.proofs.Counts.{binds_few}
use Rattle.spi_spell.proofs.Clear.{regrouped, AddsPoints, next, in_all, no_point, counted, message_adds, type_adds, message_head_adds, messages_head_adds, typed_head_adds, tested_head_adds, split_head_adds, match_head_adds, new_head_adds}
use Rattle.spi_tree.specs.Trees.{nowhere}

module _ (most : ℕ) (spell : ℕ → List ℕ) (apart : NamesAreApart most spell) (k : ℕ) where
  -- ---- messages and effects, where n names are in scope, d of them bound

  module _ (n d : ℕ) (is : n ≡ k + d) (few : n ≤ most) where
    known : (i : ℕ) → suc i ≤ n → AddsPoints 0 (message_points (in_scope spell n) (spelled_name spell i))
    known i low = record { clear = ap is_some (found most spell apart n i low few); weighs = refl }

    -- the parts of a tuple behind its first
    parts_clear : (m : Message) → AddsPoints 0 (message_points (in_scope spell n) (message_tree (spelled_name spell) n m))
        → AddsPoints 0 (message_points (in_scope spell n) (second_tree (spelled_name spell) n m) ⨾ messages_points (in_scope spell n) (rest_trees (spelled_name spell) n m))
    parts_clear =
        second_part (spelled_name spell) n (λ (a : t.Msg) (ms : t.Msgs) (x : t.Msg). AddsPoints 0 (message_points (in_scope spell n) x) → AddsPoints 0 (message_points (in_scope spell n) a ⨾ messages_points (in_scope spell n) ms))
        (λ x h. next h no_point) (λ a b ms h. h)

    message_clear : (m : Message) → MessageOver k d m → AddsPoints 0 (message_points (in_scope spell n) (message_tree (spelled_name spell) n m))
    message_clear (bound i) h = known (n - suc i) (omega (arith, is, h))
    message_clear (name x) h = known x (omega (arith, is, h))
    message_clear unit h = no_point
    message_clear (pair a b) h = next (message_clear a h.0) (parts_clear b (message_clear b h.1))
    message_clear (in_left a) h = message_clear a h
    message_clear (in_right a) h = message_clear a h
    message_clear (enc a b) h = next (message_clear a h.0) (message_clear b h.1)
    message_clear (hash a) h = message_clear a h

    same_nodes : (m : Message) → MessageOver k d m → msg_nodes (in_scope spell n) (message_tree (spelled_name spell) n m) ≡ message_size m
    same_nodes m h = sym (message_sized k (in_scope spell n) (message_tree (spelled_name spell) n m)) ∙ ap message_size (message_means most spell apart k n d is few m h)

    part_clear : (later : Bool) (m : Message) → MessageOver k d m → MessageFits later m → AddsPoints (message_size m) (part (in_scope spell n) (message_tree (spelled_name spell) n m))
    part_clear later m h fits = message_adds (message_size m) (in_scope spell n) (message_tree (spelled_name spell) n m) (message_clear m h) (same_nodes m h) fits.0

    whole_clear : (later : Bool) (m : Message) → MessageOver k d m → MessageFits later m → AddsPoints 0 (message_points_whole (in_scope spell n) (message_tree (spelled_name spell) n m))
    whole_clear later m h fits = (let f = message_clear m h in record { clear = (f.clear, omega (arith, same_nodes m h, fits.0)); weighs = omega (arith, f.weighs) })

    atom_clear : (later : Bool) (a : Atom) → OfAtom (MessageOver k d) a → AtomFits later a → AddsPoints 0 (atom_points (in_scope spell n) (atom_tree (spelled_name spell) n a))
    atom_clear later (ends m) h fits = whole_clear later m h fits
    atom_clear later (checks m) h fits = whole_clear later m h fits
    atom_clear later (many m) h fits = whole_clear later m h fits.1

    effect_clear : (later : Bool) (es : Effect) → OfEffect (MessageOver k d) es → EffectFits later es → AddsPoints 0 (atoms_points (in_scope spell n) (atom_trees (spelled_name spell) n es))
    effect_clear later [] h fits = no_point
    effect_clear later (a ∷ es) h fits = next (atom_clear later a h.0 fits.0) (effect_clear later es h.1 fits.1)

  -- ---- types

  module _ (later : Bool) (ts : Abbreviations) where
    -- the parts of a tuple type behind its first
    fields_clear : (n : ℕ) (a : Ty) → AddsPoints 0 (type_points ts (in_scope spell n) (type_tree spell n a))
        → AddsPoints 0 (fields_points ts (in_scope spell n) (field_trees spell n a) ⨾ last_points ts (behind (in_scope spell n) (field_trees spell n a)) (last_tree spell n a))
    fields_clear n =
        parts_of_type spell n (λ (fs : t.Fields) (l : t.Last) (x : t.Ty). AddsPoints 0 (type_points ts (in_scope spell n) x)
        → AddsPoints 0 (fields_points ts (in_scope spell n) fs ⨾ last_points ts (behind (in_scope spell n) fs) l))
        (λ x h. next no_point h) (λ w a fs l h. regrouped h)

    parts_of_type_clear : (n d : ℕ) (a : Ty) → n ≡ k + d → n + ty_nodes a ≤ most → OfTy (MessageOver k) d a → PartsFit later a → AddsPoints 0 (type_points ts (in_scope spell n) (type_tree spell n a))
    parts_of_type_clear n d un is few h fits = no_point
    parts_of_type_clear n d unit_ty is few h fits = no_point
    parts_of_type_clear n d (pair_ty a b) is few h fits =
        next (parts_of_type_clear n d a is (omega (arith, few)) h.0 fits.0)
        (fields_clear (suc n) b (parts_of_type_clear (suc n) (suc d) b (omega (arith, is)) (omega (arith, few)) h.1 fits.1))
    parts_of_type_clear n d (sum_ty a b) is few h fits =
        next (parts_of_type_clear n d a is (omega (arith, few)) h.0 fits.0) (parts_of_type_clear n d b is (omega (arith, few)) h.1 fits.1)
    parts_of_type_clear n d (key a) is few h fits = parts_of_type_clear n d a is (omega (arith, few)) h fits
    parts_of_type_clear n d (nonce es) is few h fits = effect_clear n d is (omega (arith, few)) later es h fits

    type_clear : (n d : ℕ) (a : Ty) → n ≡ k + d → n + ty_nodes a ≤ most → OfTy (MessageOver k) d a → TyFits later a → AddsPoints (ty_nodes a) (whole_type ts (in_scope spell n) (type_tree spell n a))
    type_clear n d a is few h fits =
        type_adds (ty_nodes a) ts (in_scope spell n) (type_tree spell n a) (parts_of_type_clear n d a is few h fits.1)
        (sym (type_sized k ts (in_scope spell n) (type_tree spell n a)) ∙ ap ty_nodes (type_means most spell apart k ts n d a is few h)) fits.0

    -- ---- processes

    moved : {m n i : ℕ} → m ≡ n → (tree : t.Proc) → AddsPoints i (process_points ts (in_scope spell m) tree) → AddsPoints i (process_points ts (in_scope spell n) tree)
    moved {i = i} same tree h = subst (λ (j : ℕ). AddsPoints i (process_points ts (in_scope spell j) tree)) same h

    leaf_clear : (n d : ℕ) (l : Leaf) → n ≡ k + d → n ≤ most → OfLeaf (MessageOver k) d l → LeafFits later l → AddsPoints (leaf_nodes l) (process_points ts (in_scope spell n) (leaf_tree spell n l))
    leaf_clear n d (Sends a b) is few h fits =
        messages_head_adds (in_scope spell n) nowhere (message_tree (spelled_name spell) n a) (part_clear n d is few later a h.0 fits.0)
        (message_tree (spelled_name spell) n b) (part_clear n d is few later b h.1 fits.1)
    leaf_clear n d Stops is few h fits = counted 1 nowhere

    module _ (n d : ℕ) (is : n ≡ k + d) (body : t.Proc) (i : ℕ) where
      prefix_clear : (s : Prefix) → n + prefix_nodes s ≤ most → OfPrefix (MessageOver k) d s → PrefixFits later s → AddsPoints i (process_points ts (in_scope spell (n + binds s)) body)
          → AddsPoints (prefix_nodes s + i) (process_points ts (in_scope spell n) (prefix_tree spell n s body))
      prefix_clear (Recvs m a) few h fits g =
          next (typed_head_adds (in_scope spell n) nowhere _ (part_clear n d is (omega (arith, few)) later m h.0 fits.0) ts _ (type_clear n d a is (omega (arith, few)) h.1 fits.1)) (moved (add-one n) body g)
      prefix_clear (Serves m a) few h fits g =
          next (typed_head_adds (in_scope spell n) nowhere _ (part_clear n d is (omega (arith, few)) later m h.0 fits.0) ts _ (type_clear n d a is (omega (arith, few)) h.1 fits.1)) (moved (add-one n) body g)
      prefix_clear (Splits m a b) few h fits g =
          next (split_head_adds (in_scope spell n) nowhere _ (part_clear n d is (omega (arith, few)) later m h.0 fits.0) ts (word (spell n)) _ _
          (type_clear n d a is (omega (arith, few)) h.1 fits.1) (type_clear (suc n) (suc d) b (omega (arith, is)) (omega (arith, few)) h.2 fits.2)) (moved (two n) body g)
        where
          two : (j : ℕ) → j + 2 ≡ suc (suc j)
          two j = omega arith
      prefix_clear (Selects m a c b) few h fits g =
          next (match_head_adds (in_scope spell n) nowhere _ (part_clear n d is (omega (arith, few)) later m h.0 fits.0) ts (word (spell n)) _ _ _
          (type_clear n d a is (omega (arith, few)) h.1 fits.1) (part_clear n d is (omega (arith, few)) later c h.2 fits.2)
          (type_clear (suc n) (suc d) b (omega (arith, is)) (omega (arith, few)) h.3 fits.3)) (moved (add-one n) body g)
      prefix_clear (Decrypts m a c) few h fits g =
          next (tested_head_adds (in_scope spell n) nowhere _ (part_clear n d is (omega (arith, few)) later m h.0 fits.0) ts _ _
          (type_clear n d a is (omega (arith, few)) h.1 fits.1) (part_clear n d is (omega (arith, few)) later c h.2 fits.2)) (moved (add-one n) body g)
      prefix_clear (Checks m c) few h fits g =
          next (messages_head_adds (in_scope spell n) nowhere _ (part_clear n d is (omega (arith, few)) later m h.0 fits.0) _ (part_clear n d is (omega (arith, few)) later c h.1 fits.1)) (moved (add-zero n) body g)
      prefix_clear (Begins m) few h fits g = next (message_head_adds (in_scope spell n) nowhere _ (part_clear n d is (omega (arith, few)) later m h fits)) (moved (add-zero n) body g)
      prefix_clear (Ends m) few h fits g = next (message_head_adds (in_scope spell n) nowhere _ (part_clear n d is (omega (arith, few)) later m h fits)) (moved (add-zero n) body g)
      prefix_clear (EndManys m) few h fits g = next (message_head_adds (in_scope spell n) nowhere _ (part_clear n d is (omega (arith, few)) later m h fits.1)) (moved (add-zero n) body g)
      prefix_clear (Casts m a) few h fits g =
          next (typed_head_adds (in_scope spell n) nowhere _ (part_clear n d is (omega (arith, few)) later m h.0 fits.0) ts _ (type_clear n d a is (omega (arith, few)) h.1 fits.1)) (moved (add-one n) body g)
      prefix_clear (Freshes a) few h fits g = next (new_head_adds ts (in_scope spell n) nowhere _ (type_clear n d a is (omega (arith, few)) h fits)) (moved (add-one n) body g)

    -- an output and its sequel, or a group
    sequel_clear : (n : ℕ) (p : Process) (behind beside : t.Proc) (i j : ℕ) → AddsPoints i (process_points ts (in_scope spell n) (process_tree spell sequel n p))
        → AddsPoints j (process_points ts (in_scope spell n) behind) → AddsPoints j (process_points ts (in_scope spell n) beside)
        → AddsPoints (i + (1 + j)) (process_points ts (in_scope spell n) (if is_output p then then_tree (process_tree spell sequel n p) behind else t.group nowhere (process_tree spell sequel n p) beside))
    sequel_clear n (leaf (Sends a b)) behind beside i j f g h = next f (next (counted 1 nowhere) g)
    sequel_clear n (leaf Stops) behind beside i j f g h = next f (next (counted 1 nowhere) h)
    sequel_clear n (prefix s p) behind beside i j f g h = next f (next (counted 1 nowhere) h)
    sequel_clear n (fork s p r) behind beside i j f g h = next f (next (counted 1 nowhere) h)

    pub process_clear : (p : Process) (at : Standing) (n d : ℕ) → n ≡ k + d → n + process_nodes p ≤ most → OfProcess (MessageOver k) d p → ProcessFits later p
        → AddsPoints (process_nodes p) (process_points ts (in_scope spell n) (process_tree spell at n p))
    process_clear (leaf l) at n d is few h fits = leaf_clear n d l is (omega (arith, few)) h fits
    process_clear (prefix s p) at n d is few h fits =
        let room = binds_few s in
        prefix_clear n d is (process_tree spell sequel (n + binds s) p) (process_nodes p) s (omega (arith, few)) h.0 fits.0
        (process_clear p sequel (n + binds s) (d + binds s) (omega (arith, is)) (omega (arith, few, room)) h.1 fits.1)
    process_clear (fork (Branches m a b) p q) at n d is few h fits =
        let f = process_clear p sequel (n + 1) (d + 1) (omega (arith, is)) (omega (arith, few)) h.1 fits.1 in
        let g = process_clear q sequel (n + 1) (d + 1) (omega (arith, is)) (omega (arith, few)) h.2 fits.2 in
        let head = typed_head_adds (in_scope spell n) nowhere _ (part_clear n d is (omega (arith, few)) later m h.0.0 fits.0.0) ts _ (type_clear n d a is (omega (arith, few)) h.0.1 fits.0.1) in
        let second = type_clear n d b is (omega (arith, few)) h.0.2 fits.0.2 in
        in_all (omega arith) (next head (next (moved (add-one n) (process_tree spell sequel (n + 1) p) f) (next second (moved (add-one n) (process_tree spell sequel (n + 1) q) g))))
    process_clear (fork Pars p q) alone n d is few h fits =
        let f = process_clear p sequel n (d + 0) (omega (arith, is)) (omega (arith, few)) h.1 fits.1 in
        let g = process_clear q alone n (d + 0) (omega (arith, is)) (omega (arith, few)) h.2 fits.2 in
        in_all (omega arith) (next f (next (counted 1 nowhere) g))
    process_clear (fork Pars p q) sequel n d is few h fits =
        let low : n + process_nodes q ≤ most = omega (arith, few) in
        let f = process_clear p sequel n (d + 0) (omega (arith, is)) (omega (arith, few)) h.1 fits.1 in
        let g = process_clear q sequel n (d + 0) (omega (arith, is)) low h.2 fits.2 in
        let b = process_clear q alone n (d + 0) (omega (arith, is)) low h.2 fits.2 in
        in_all (omega arith) (sequel_clear n p (process_tree spell sequel n q) (process_tree spell alone n q) (process_nodes p) (process_nodes q) f g b)
