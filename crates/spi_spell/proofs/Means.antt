-- The tree of a canonical text stands for what was printed: its messages, effects, types and processes, where k names are
-- free and no two of the names in scope are spelled alike.
use Rattle.std.proofs.Common.{◌≡◌, ℕ, suc, ◌+◌, ◌-◌, ◌<◌, ◌≤◌, if◌then◌else◌, List, [], ◌∷◌, length, refl, ◌∙◌, ap, subst, arith, add-zero, add-one}
use Rattle.std.proofs.lemmas.Bool.{lt-ltb, le-ltb}
use Rattle.spi_tree.specs.Trees as t
use Rattle.spi_term.specs.Term.{Message, bound, name, unit, pair, in_left, in_right, enc, hash, Atom, ends, checks, many, Effect, Ty, un, unit_ty, pair_ty, sum_ty, key, nonce, Leaf, Sends, Stops, Prefix, Recvs, Serves, Splits, Selects, Decrypts, Checks, Begins, Ends, EndManys, Casts, Freshes, Branches, Pars, Process, leaf, prefix, fork, binds}
use Rattle.spi_term.specs.Names.{MessageOver, OfAtom, OfEffect, OfTy, OfLeaf, OfPrefix, OfProcess}
use Rattle.spi_term.specs.Spelling.{ty_nodes}
use Rattle.spi_scope.specs.Scope.{Abbreviations, number_of}
use Rattle.spi_scope.specs.Meaning.{name_meant, nested, message_in, messages_in, atom_in, effect_in, nested_types, behind, type_in, fields_in, last_in, process_in}
use Rattle.spi_show.specs.Processes.{Standing, alone, sequel, is_output}
use Rattle.spi_spell.proofs.Printed.{spelled_name, message_tree, second_tree, rest_trees, second_part, parts_of_type, atom_tree, atom_trees, type_tree, field_trees, last_tree, leaf_tree, prefix_tree, then_tree, process_tree}
use Rattle.spi_spell.proofs.Printable.{prefix_nodes, process_nodes}
use Rattle.spi_spell.proofs.Counts.{binds_few}
use Rattle.spi_spell.proofs.Scopes.{in_scope, scope_length, NamesAreApart, found}
use Rattle.spi_tree.specs.Trees.{nowhere}

module _ (most : ℕ) (spell : ℕ → List ℕ) (apart : NamesAreApart most spell) (k : ℕ) where
  -- ---- messages and effects, where n names are in scope, d of them bound

  free_name : (n x : ℕ) → x < k → x < n → n ≤ most → name_meant k (length (in_scope spell n)) (number_of (in_scope spell n) (spell x)) ≡ name x
  free_name n x h low few =
      ap (name_meant k (length (in_scope spell n))) (found most spell apart n x low few)
      ∙ ap (λ b. if b then name x else bound (length (in_scope spell n) - suc x)) (lt-ltb x k h)

  bound_name : (n d i : ℕ) → n ≡ k + d → i < d → n ≤ most → name_meant k (length (in_scope spell n)) (number_of (in_scope spell n) (spell (n - suc i))) ≡ bound i
  bound_name n d i is h few =
      let x : ℕ = n - suc i in
      let index : length (in_scope spell n) - suc x ≡ i = omega (arith, scope_length spell n, is, h) in
      ap (name_meant k (length (in_scope spell n))) (found most spell apart n x (omega (arith, is, h)) few)
      ∙ ap (λ b. if b then name x else bound (length (in_scope spell n) - suc x)) (le-ltb x k (omega (arith, is, h)))
      ∙ ap bound index

  module _ (n d : ℕ) (is : n ≡ k + d) (few : n ≤ most) where
    -- the parts of a tuple behind its first
    parts_mean : (m : Message)
        → nested (message_in k (in_scope spell n) (second_tree (spelled_name spell) n m)) (messages_in k (in_scope spell n) (rest_trees (spelled_name spell) n m))
        ≡ message_in k (in_scope spell n) (message_tree (spelled_name spell) n m)
    parts_mean =
        second_part (spelled_name spell) n (λ (a : t.Msg) (ms : t.Msgs) (x : t.Msg). nested (message_in k (in_scope spell n) a) (messages_in k (in_scope spell n) ms) ≡ message_in k (in_scope spell n) x)
        (λ x. refl) (λ a b ms. refl)

    pub message_means : (m : Message) → MessageOver k d m → message_in k (in_scope spell n) (message_tree (spelled_name spell) n m) ≡ m
    message_means (bound i) h = bound_name n d i is h few
    message_means (name x) h = free_name n x h (omega (arith, h, is)) few
    message_means unit h = refl
    message_means (pair a b) h = λ i. pair (message_means a h.0 i) ((parts_mean b ∙ message_means b h.1) i)
    message_means (in_left a) h = ap in_left (message_means a h)
    message_means (in_right a) h = ap in_right (message_means a h)
    message_means (enc a b) h = λ i. enc (message_means a h.0 i) (message_means b h.1 i)
    message_means (hash a) h = ap hash (message_means a h)

    atom_means : (a : Atom) → OfAtom (MessageOver k d) a → atom_in k (in_scope spell n) (atom_tree (spelled_name spell) n a) ≡ a
    atom_means (ends m) h = ap ends (message_means m h)
    atom_means (checks m) h = ap checks (message_means m h)
    atom_means (many m) h = ap many (message_means m h)

    effect_means : (es : Effect) → OfEffect (MessageOver k d) es → effect_in k (in_scope spell n) (atom_trees (spelled_name spell) n es) ≡ es
    effect_means [] h = refl
    effect_means (a ∷ es) h = λ i. atom_means a h.0 i ∷ effect_means es h.1 i

  -- ---- types

  module _ (ts : Abbreviations) where
    -- the parts of a tuple type behind its first
    fields_mean : (n : ℕ) (a : Ty)
        → nested_types (fields_in k ts (in_scope spell n) (field_trees spell n a)) (last_in k ts (behind (in_scope spell n) (field_trees spell n a)) (last_tree spell n a))
        ≡ type_in k ts (in_scope spell n) (type_tree spell n a)
    fields_mean n =
        parts_of_type spell n (λ (fs : t.Fields) (l : t.Last) (x : t.Ty). nested_types (fields_in k ts (in_scope spell n) fs) (last_in k ts (behind (in_scope spell n) fs) l) ≡ type_in k ts (in_scope spell n) x)
        (λ x. refl) (λ w a fs l. refl)

    pub type_means : (n d : ℕ) (a : Ty) → n ≡ k + d → n + ty_nodes a ≤ most → OfTy (MessageOver k) d a → type_in k ts (in_scope spell n) (type_tree spell n a) ≡ a
    type_means n d un is few h = refl
    type_means n d unit_ty is few h = refl
    type_means n d (pair_ty a b) is few h =
        λ i. pair_ty (type_means n d a is (omega (arith, few)) h.0 i)
        ((fields_mean (suc n) b ∙ type_means (suc n) (suc d) b (omega (arith, is)) (omega (arith, few)) h.1) i)
    type_means n d (sum_ty a b) is few h = λ i. sum_ty (type_means n d a is (omega (arith, few)) h.0 i) (type_means n d b is (omega (arith, few)) h.1 i)
    type_means n d (key a) is few h = ap key (type_means n d a is (omega (arith, few)) h)
    type_means n d (nonce es) is few h = ap nonce (effect_means n d is (omega (arith, few)) es h)

    -- ---- processes

    abbrev Means : ℕ → t.Proc → Process → Type 0
    Means n tree p = process_in (λ (s : ℕ). k) ts (in_scope spell n) tree ≡ p

    moved : {m n : ℕ} → m ≡ n → (tree : t.Proc) (p : Process) → Means m tree p → Means n tree p
    moved same tree p h = subst (λ (i : ℕ). Means i tree p) same h

    leaf_means : (n d : ℕ) (l : Leaf) → n ≡ k + d → n ≤ most → OfLeaf (MessageOver k) d l → Means n (leaf_tree spell n l) (leaf l)
    leaf_means n d (Sends a b) is few h = λ i. leaf (Sends (message_means n d is few a h.0 i) (message_means n d is few b h.1 i))
    leaf_means n d Stops is few h = refl

    module _ (n d : ℕ) (is : n ≡ k + d) (body : t.Proc) (p : Process) where
      prefix_means : (s : Prefix) → n + prefix_nodes s ≤ most → OfPrefix (MessageOver k) d s → Means (n + binds s) body p → Means n (prefix_tree spell n s body) (prefix s p)
      prefix_means (Recvs m a) few h g =
          λ i. prefix (Recvs (message_means n d is (omega (arith, few)) m h.0 i) (type_means n d a is (omega (arith, few)) h.1 i)) (moved (add-one n) body p g i)
      prefix_means (Serves m a) few h g =
          λ i. prefix (Serves (message_means n d is (omega (arith, few)) m h.0 i) (type_means n d a is (omega (arith, few)) h.1 i)) (moved (add-one n) body p g i)
      prefix_means (Splits m a b) few h g =
          λ i. prefix (Splits (message_means n d is (omega (arith, few)) m h.0 i) (type_means n d a is (omega (arith, few)) h.1 i) (type_means (suc n) (suc d) b (omega (arith, is)) (omega (arith, few)) h.2 i))
          (moved (two n) body p g i)
        where
          two : (j : ℕ) → j + 2 ≡ suc (suc j)
          two j = omega arith
      prefix_means (Selects m a c b) few h g =
          λ i. prefix (Selects (message_means n d is (omega (arith, few)) m h.0 i) (type_means n d a is (omega (arith, few)) h.1 i)
          (message_means n d is (omega (arith, few)) c h.2 i) (type_means (suc n) (suc d) b (omega (arith, is)) (omega (arith, few)) h.3 i)) (moved (add-one n) body p g i)
      prefix_means (Decrypts m a c) few h g =
          λ i. prefix (Decrypts (message_means n d is (omega (arith, few)) m h.0 i) (type_means n d a is (omega (arith, few)) h.1 i) (message_means n d is (omega (arith, few)) c h.2 i)) (moved (add-one n) body p g i)
      prefix_means (Checks m c) few h g =
          λ i. prefix (Checks (message_means n d is (omega (arith, few)) m h.0 i) (message_means n d is (omega (arith, few)) c h.1 i)) (moved (add-zero n) body p g i)
      prefix_means (Begins m) few h g = λ i. prefix (Begins (message_means n d is (omega (arith, few)) m h i)) (moved (add-zero n) body p g i)
      prefix_means (Ends m) few h g = λ i. prefix (Ends (message_means n d is (omega (arith, few)) m h i)) (moved (add-zero n) body p g i)
      prefix_means (EndManys m) few h g = λ i. prefix (EndManys (message_means n d is (omega (arith, few)) m h i)) (moved (add-zero n) body p g i)
      prefix_means (Casts m a) few h g =
          λ i. prefix (Casts (message_means n d is (omega (arith, few)) m h.0 i) (type_means n d a is (omega (arith, few)) h.1 i)) (moved (add-one n) body p g i)
      prefix_means (Freshes a) few h g = λ i. prefix (Freshes (type_means n d a is (omega (arith, few)) h i)) (moved (add-one n) body p g i)

    -- an output and its sequel, or a group
    sequel_means : (n : ℕ) (p q : Process) (behind beside : t.Proc) → Means n (process_tree spell sequel n p) p → Means n behind q → Means n beside q
        → Means n (if is_output p then then_tree (process_tree spell sequel n p) behind else t.group nowhere (process_tree spell sequel n p) beside) (fork Pars p q)
    sequel_means n (leaf (Sends a b)) q behind beside f g h = λ i. fork Pars (f i) (g i)
    sequel_means n (leaf Stops) q behind beside f g h = λ i. fork Pars (f i) (h i)
    sequel_means n (prefix s p) q behind beside f g h = λ i. fork Pars (f i) (h i)
    sequel_means n (fork s p r) q behind beside f g h = λ i. fork Pars (f i) (h i)

    pub process_means : (p : Process) (at : Standing) (n d : ℕ) → n ≡ k + d → n + process_nodes p ≤ most → OfProcess (MessageOver k) d p → Means n (process_tree spell at n p) p
    process_means (leaf l) at n d is few h = leaf_means n d l is (omega (arith, few)) h
    process_means (prefix s p) at n d is few h =
        let room = binds_few s in
        prefix_means n d is (process_tree spell sequel (n + binds s) p) p s (omega (arith, few)) h.0
        (process_means p sequel (n + binds s) (d + binds s) (omega (arith, is)) (omega (arith, few, room)) h.1)
    process_means (fork (Branches m a b) p q) at n d is few h =
        let f = process_means p sequel (n + 1) (d + 1) (omega (arith, is)) (omega (arith, few)) h.1 in
        let g = process_means q sequel (n + 1) (d + 1) (omega (arith, is)) (omega (arith, few)) h.2 in
        let low : n + ty_nodes a ≤ most = omega (arith, few) in
        let lower : n + ty_nodes b ≤ most = omega (arith, few) in
        λ i. fork (Branches (message_means n d is (omega (arith, few)) m h.0.0 i) (type_means n d a is low h.0.1 i) (type_means n d b is lower h.0.2 i))
        (moved (add-one n) (process_tree spell sequel (n + 1) p) p f i) (moved (add-one n) (process_tree spell sequel (n + 1) q) q g i)
    process_means (fork Pars p q) alone n d is few h =
        let f = process_means p sequel n (d + 0) (omega (arith, is)) (omega (arith, few)) h.1 in
        let g = process_means q alone n (d + 0) (omega (arith, is)) (omega (arith, few)) h.2 in
        λ i. fork Pars (f i) (g i)
    process_means (fork Pars p q) sequel n d is few h =
        let low : n + process_nodes q ≤ most = omega (arith, few) in
        let f = process_means p sequel n (d + 0) (omega (arith, is)) (omega (arith, few)) h.1 in
        let g = process_means q sequel n (d + 0) (omega (arith, is)) low h.2 in
        let b = process_means q alone n (d + 0) (omega (arith, is)) low h.2 in
        sequel_means n p q (process_tree spell sequel n q) (process_tree spell alone n q) f g b
