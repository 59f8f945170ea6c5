-- A tuple is read by its components.
use Rattle.std.proofs.Common.{◌≡◌, ℕ, suc, ◌+◌, ◌-◌, ◌≤◌, List, [], ◌∷◌, ◌++◌, length, drop, refl, sym, ap, ◌∙◌, subst, arith}
use Rattle.std.specs.Prelude.{Ok}
use Rattle.spi_text.specs.declared.lines.Span.{Span}
use Rattle.spi_tree.specs.Trees as t
use Rattle.spi_term.specs.Term.{Message, message_size, pair, Ty}
use Rattle.spi_term.specs.Spelling.{ty_nodes, stopped}
use Rattle.spi_scope.specs.Scope.{Names}
use Rattle.spi_scope.specs.Meaning.{nested, nested_types, message_in, messages_in, type_in, fields_in, last_in, behind}
use Rattle.spi_scope.specs.Points.{message_points, messages_points, type_points, fields_points, last_points, ◌⨾◌}
use Rattle.spi_scope.specs.Gives.{Ran, after, run}
use Rattle.spi_scope.specs.State.{abbreviations, row_nodes, type_row_nodes}
use Rattle.spi_scope.specs.Table.{Naming, with_names}
use Rattle.spi_scope.specs.declared.scope.Scope.{Scope}
use Rattle.spi_tree.specs.declared.tree.SWord.{SWord}
use Rattle.std.proofs.lemmas.List.{length-append, append_assoc}

-- what `Counts` says at a value
abbrev pub Counted : {Y : Type 0} → (Y → ℕ) → Y → ℕ → Ran → ℕ → ℕ → Y → Type 0
Counted nodes v n ran c spent meant = (ran ≡ Ok c) × (n ≡ stopped (spent + nodes meant)) × (n ≤ 1000 → v ≡ meant)

pub nested_nodes : (a : Message) (ms : List Message) → message_size (nested a ms) ≡ message_size a + row_nodes ms
nested_nodes a [] = omega arith
nested_nodes a (m ∷ ms) = omega (arith, nested_nodes m ms)

pub message_tuple : (base spent c : ℕ) (xs : Names) (s : Span) (a b : t.Msg) (ms : t.Msgs) (n0 n1 n2 n3 : ℕ) (x y rest whole : Message)
    → Counted message_size x n1 (run (message_points xs a) c) c spent (message_in base xs a)
    → n0 ≡ stopped (n1 + 1)
    → Counted message_size y n2 (run (message_points xs b) c) c n0 (message_in base xs b)
    → Counted (λ (_ : Message). row_nodes (messages_in base xs ms)) rest n3 (run (messages_points xs ms) c) c n2 (nested y (messages_in base xs ms))
    → (n3 ≤ 1000 → whole ≡ pair x rest)
    → Counted message_size whole n3 (run (message_points xs (t.tuple s a b ms)) c) c spent (message_in base xs (t.tuple s a b ms))
message_tuple base spent c xs s a b ms n0 n1 n2 n3 x y rest whole h1 e h2 h3 w = (
  ap (λ r. after r (run (message_points xs b ⨾ messages_points xs ms))) h1.0 ∙ ap (λ r. after r (run (messages_points xs ms))) h2.0 ∙ h3.0,
  omega (arith, h1.1, e, h2.1, h3.1, nested_nodes (message_in base xs a) (message_in base xs b ∷ messages_in base xs ms)),
  λ few.
      let l2 : n2 ≤ 1000 = omega (arith, few, h3.1) in
      let l1 : n1 ≤ 1000 = omega (arith, l2, h2.1, e) in
      w few ∙ ap (λ r. pair r rest) (h1.2 l1) ∙ ap (pair (message_in base xs a)) (h3.2 few ∙ ap (λ r. nested r (messages_in base xs ms)) (h2.2 l2)),
)

pub nested_types_nodes : (bs : List Ty) (z : Ty) → ty_nodes (nested_types bs z) ≡ type_row_nodes bs + ty_nodes z
nested_types_nodes [] z = omega arith
nested_types_nodes (a ∷ bs) z = omega (arith, nested_types_nodes bs z)

abbrev pub CountedType : ℕ → ℕ → ℕ → Ty → t.Ty → Scope → Type 0
CountedType base spent n k a s = Counted ty_nodes k n (run (type_points (abbreviations s.types) s.held.names a) s.count) s.count spent (type_in base (abbreviations s.types) s.held.names a)

abbrev pub CountedFields : ℕ → ℕ → ℕ → List Ty → t.Fields → Scope → Type 0
CountedFields base spent n ks fs s = Counted type_row_nodes ks n (run (fields_points (abbreviations s.types) s.held.names fs) s.count) s.count spent (fields_in base (abbreviations s.types) s.held.names fs)

abbrev pub CountedLast : ℕ → ℕ → ℕ → Ty → t.Last → Scope → Type 0
CountedLast base spent n k l s = Counted ty_nodes k n (run (last_points (abbreviations s.types) s.held.names l) s.count) s.count spent (last_in base (abbreviations s.types) s.held.names l)

-- the scope with other names
abbrev pub naming : Scope → Naming → Scope
naming s h = record s { held = h }

abbrev pub in_names : Scope → Names → Scope
in_names s xs = record s { held = with_names s.held xs }

pub bound : (s s1 : Scope) (h : Naming) (w : List ℕ) → s1 ≡ s → h ≡ with_names s1.held (w ∷ s1.held.names) → naming s1 h ≡ in_names s (w ∷ s.held.names)
bound s s1 h w e f = ap (naming s1) f ∙ ap (λ (r : Scope). in_names r (w ∷ r.held.names)) e

-- the names that components bound go out of scope again
drop_all : (ws xs : Names) → drop (length (ws ++ xs) - length xs) (ws ++ xs) ≡ xs
drop_all [] xs = let e : length xs - length xs ≡ 0 = omega arith in ap (λ n. drop n xs) e
drop_all (w ∷ ws) xs =
    let e : length (w ∷ ws ++ xs) - length xs ≡ suc (length (ws ++ xs) - length xs) = omega (arith, length-append ws xs) in
    ap (λ n. drop n (w ∷ ws ++ xs)) e ∙ drop_all ws xs

behind_is : (xs : Names) (fs : t.Fields) → (ws : Names) × (behind xs fs ≡ ws ++ xs)
behind_is xs t.no_fields = ([], refl)
behind_is xs (t.more_fields w a fs) =
    let r = behind_is (w.word ∷ xs) fs in
    (r.0 ++ w.word ∷ [], r.1 ∙ sym (append_assoc r.0 (w.word ∷ []) xs))

pub behind_cut : (xs : Names) (fs : t.Fields) (w : List ℕ) → drop (length (behind (w ∷ xs) fs) - length xs) (behind (w ∷ xs) fs) ≡ xs
behind_cut xs fs w =
    let r = behind_is (w ∷ xs) fs in
    let e : behind (w ∷ xs) fs ≡ (r.0 ++ w ∷ []) ++ xs = r.1 ∙ sym (append_assoc r.0 (w ∷ []) xs) in
    ap (λ l. drop (length l - length xs) l) e ∙ drop_all (r.0 ++ w ∷ []) xs

tuple_counts : (spent n1 n2 n3 : ℕ) (a : Ty) (bs : List Ty) (z : Ty) → n1 ≡ stopped (stopped (spent + 1) + ty_nodes a) → n2 ≡ stopped (n1 + type_row_nodes bs) → n3 ≡ stopped (n2 + ty_nodes z) → n3 ≡ stopped (spent + ty_nodes (nested_types (a ∷ bs) z))
tuple_counts spent n1 n2 n3 a bs z e f g = omega (arith, e, f, g, nested_types_nodes (a ∷ bs) z)

module _ (base spent : ℕ) (p : Span) (w : SWord) (a : t.Ty) (fs : t.Fields) (l : t.Last) (s t1 s2 : Scope) (n1 n2 n3 : ℕ) (k1 : Ty) (ks : List Ty) (k3 k : Ty) where
  pub tuple_counted : CountedType base (stopped (spent + 1)) n1 k1 a s → t1 ≡ in_names s (w.word ∷ s.held.names) → CountedFields base n1 n2 ks fs t1 → s2 ≡ in_names t1 (behind t1.held.names fs) → CountedLast base n2 n3 k3 l s2 → (n3 ≤ 1000 → k ≡ nested_types (k1 ∷ ks) k3) → CountedType base spent n3 k (t.tuple_ty p w a fs l) s
  tuple_counted h1 e1 h2 e2 h3 f =
      let g2 : CountedFields base n1 n2 ks fs (in_names s (w.word ∷ s.held.names)) = subst (CountedFields base n1 n2 ks fs) e1 h2 in
      let e3 : s2 ≡ in_names s (behind (w.word ∷ s.held.names) fs) = e2 ∙ ap (λ (r : Scope). in_names r (behind r.held.names fs)) e1 in
      let g3 : CountedLast base n2 n3 k3 l (in_names s (behind (w.word ∷ s.held.names) fs)) = subst (CountedLast base n2 n3 k3 l) e3 h3 in
      let ts = abbreviations s.types in
      let c1 = h1.1 in let c2 = g2.1 in let c3 = g3.1 in (
        rw (h1.0, g2.0) g3.0,
        tuple_counts spent n1 n2 n3 (type_in base ts s.held.names a) (fields_in base ts (w.word ∷ s.held.names) fs) (last_in base ts (behind (w.word ∷ s.held.names) fs) l) c1 c2 c3,
        λ q. f q ∙ rw (h1.2 (omega arith), g2.2 (omega arith), g3.2 q) refl,
      )

  -- and behind it the names are as before
  pub tuple_left : t1 ≡ in_names s (w.word ∷ s.held.names) → s2 ≡ in_names t1 (behind t1.held.names fs) → (s3 : Scope) → s3 ≡ s2 → in_names s3 (drop (length s3.held.names - length s.held.names) s3.held.names) ≡ s
  tuple_left e1 e2 s3 e3 =
      let e : s3 ≡ in_names s (behind (w.word ∷ s.held.names) fs) = e3 ∙ e2 ∙ ap (λ (r : Scope). in_names r (behind r.held.names fs)) e1 in
      ap (λ (r : Scope). in_names r (drop (length r.held.names - length s.held.names) r.held.names)) e ∙ ap (in_names s) (behind_cut s.held.names fs w.word)
