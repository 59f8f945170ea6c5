-- At most one answer is right of one list of tokens.
use Rattle.std.proofs.Common.{◌≡◌, ℕ, ◌+◌, ◌<◌, List, [], ◌∷◌, ◌++◌, length, drop, Ok, Err, refl, sym, ap, subst, ◌∙◌, append_assoc, append-nil, inl, inr, arith}
use Rattle.std.proofs.lemmas.List.{length-append}
use Rattle.spi_lex.specs.declared.token.Kind.{Kind}
use Rattle.spi_lex.specs.declared.token.Token.{Token}
use Rattle.spi_lex.specs.Lexing.{kinds_of}
use Rattle.spi_tree.specs.Pieces.{Piece, kinds_in}
use Rattle.spi_parse.specs.declared.fault.ParseFault.TheVariants as faults
use Rattle.spi_parse.specs.Exact.{IsWithin, ItemStops, PiecesStartDeep, IsSyntaxAt, IsDeepAt, IsPartAt, IsNoPart}
use Rattle.spi_grammar.proofs.Cuts.{Cut, same, behind, before, cut, kinds_append}
use Rattle.spi_grammar.specs.Exactly.{kinds}
use Rattle.spi_parts.specs.Determined.{HasOneAnswer}
use Rattle.spi_parse.proofs.Spelled.{spelled_within}
use Rattle.spi_parts.proofs.Bridge.{kinds_cells, deep_from}

-- the tokens of a part that is deep at one of them
tokens_deep : (ps : List Piece) (pre : List Kind) (k : Kind) → PiecesStartDeep ps pre k → (c : List Kind) × (kinds_in ps ≡ pre ++ k ∷ c)
tokens_deep ps pre k s =
    let d = deep_from ps pre k s in
    (kinds d.after, sym (kinds_cells ps) ∙ ap kinds d.parts ∙ kinds_append d.before ((k, _) ∷ d.after) ∙ ap (λ (l : List Kind). l ++ k ∷ kinds d.after) d.begins)

module _ {X : Type 0} (pieces : X → List Piece) (P : X → Type 0) where
  -- no part goes on where one stops, nor behind
  past : (pre rest : List Kind) (k : Kind) (d more : List Kind) → ItemStops pieces P pre rest → rest ≡ k ∷ d → (x : X) → P x → (c : List Kind) → kinds_in (pieces x) ≡ (pre ++ k ∷ more) ++ c → ⊥
  past pre rest k d more stops is x px c e =
      subst (λ (l : List Kind). ItemStops pieces P pre l) is stops x px (more ++ c) (e ∙ append_assoc pre (k ∷ more) c)

  longer : (pre more : List Kind) (k : Kind) (i j : ℕ) (later : List Kind) → length pre ≡ i → length later ≡ j → later ≡ pre ++ k ∷ more → i < j
  longer pre more k i j later a b e = let l = ap length e ∙ length-append pre (k ∷ more) in omega arith

  pub one_syntax : (ks : List Kind) (i j : ℕ) → IsSyntaxAt pieces P ks i → IsSyntaxAt pieces P ks j → i ≡ j
  one_syntax ks i j a b = go (cut a.pre a.rest b.pre b.rest (sym a.split ∙ b.split))
    where
      go : Cut a.pre a.rest b.pre b.rest → i ≡ j
      go (same p q) = sym a.place ∙ ap length p ∙ b.place
      go (behind k e p q) = absurd (past b.pre b.rest k (e ++ a.rest) e b.stops q a.begins.0 a.begins.1 a.begins.2 (a.begins.3 ∙ ap (λ (l : List Kind). l ++ a.begins.2) p))
      go (before k e p q) = absurd (past a.pre a.rest k (e ++ b.rest) e a.stops q b.begins.0 b.begins.1 b.begins.2 (b.begins.3 ∙ ap (λ (l : List Kind). l ++ b.begins.2) p))

  pub not_both : (ks : List Kind) (i j : ℕ) → IsSyntaxAt pieces P ks i → IsDeepAt pieces P ks j → ⊥
  not_both ks i j a b = go (cut a.pre a.rest b.pre (b.token ∷ b.rest) (sym a.split ∙ b.split))
    where
      deep : (c : List Kind) × (kinds_in (pieces b.part.0) ≡ b.pre ++ b.token ∷ c)
      deep = tokens_deep (pieces b.part.0) b.pre b.token b.part.2

      go : Cut a.pre a.rest b.pre (b.token ∷ b.rest) → ⊥
      go (same p q) = subst (λ (l : List Kind). ItemStops pieces P a.pre l) q a.stops b.part.0 b.part.1 deep.0 (deep.1 ∙ ap (λ (l : List Kind). l ++ b.token ∷ deep.0) (sym p))
      go (behind k e p q) = a.first b.pre b.token b.rest b.split (subst (λ (l : ℕ). l < i) refl (longer b.pre e k (length b.pre) i a.pre refl a.place p)) b.part.0 b.part.1 b.part.2
      go (before k e p q) = past a.pre a.rest k (e ++ b.token ∷ b.rest) e a.stops q b.part.0 b.part.1 (b.token ∷ deep.0) (deep.1 ∙ ap (λ (l : List Kind). l ++ b.token ∷ deep.0) p)

  pub one_deep : (ks : List Kind) (i j : ℕ) → IsDeepAt pieces P ks i → IsDeepAt pieces P ks j → i ≡ j
  one_deep ks i j a b = go (cut a.pre (a.token ∷ a.rest) b.pre (b.token ∷ b.rest) (sym a.split ∙ b.split))
    where
      go : Cut a.pre (a.token ∷ a.rest) b.pre (b.token ∷ b.rest) → i ≡ j
      go (same p q) = sym a.place ∙ ap length p ∙ b.place
      go (behind k e p q) = absurd (a.first b.pre b.token b.rest b.split (longer b.pre e k (length b.pre) i a.pre refl a.place p) b.part.0 b.part.1 b.part.2)
      go (before k e p q) = absurd (b.first a.pre a.token a.rest a.split (longer a.pre e k (length a.pre) j b.pre refl b.place p) a.part.0 a.part.1 a.part.2)

  -- all the tokens are those of a part
  module _ (x : X) (px : P x) (ks : List Kind) (are : kinds_in (pieces x) ≡ ks) where
    pub no_syntax : (i : ℕ) → IsSyntaxAt pieces P ks i → ⊥
    no_syntax i s = go s.rest refl
      where
        go : (rest : List Kind) → s.rest ≡ rest → ⊥
        go [] e = subst (λ (l : List Kind). ItemStops pieces P s.pre l) e s.stops x px (are ∙ s.split ∙ ap (λ (l : List Kind). s.pre ++ l) e ∙ append-nil s.pre)
        go (k ∷ rest) e = subst (λ (l : List Kind). ItemStops pieces P s.pre l) e s.stops x px rest (are ∙ s.split ∙ ap (λ (l : List Kind). s.pre ++ l) e)

    pub no_deep : (i : ℕ) → IsWithin (pieces x) → IsDeepAt pieces P ks i → ⊥
    no_deep i within d = d.every x px d.rest (are ∙ d.split) within

  -- a part at the front excludes that there is none
  part_there : (x : X) (ts : List Token) (n : ℕ) → IsPartAt pieces P x ts n → IsNoPart pieces P (kinds_of ts) → ⊥
  part_there x ts n r none = none x (kinds_of r.pre) (kinds_of r.rest) (ap kinds_of r.split ∙ kinds_both r.pre r.rest) r.part (spelled_within r.rest 0 (pieces x) ts r.spells) r.tokens r.ends
    where
      kinds_both : (a b : List Token) → kinds_of (a ++ b) ≡ kinds_of a ++ kinds_of b
      kinds_both [] b = refl
      kinds_both (t ∷ a) b = ap (λ (l : List Kind). t.kind ∷ l) (kinds_both a b)

  module _ (unique : (x y : X) (ts : List Token) (n m : ℕ) → IsPartAt pieces P x ts n → IsPartAt pieces P y ts m → (x ≡ y) × (n ≡ m)) where
    pub one_answer_by : HasOneAnswer pieces P
    one_answer_by (Ok a) (Ok b) ts from ha hb =
        let u = unique a.0 b.0 (drop from ts) ha.0 hb.0 ha.2 hb.2 in
        inl (rw (u.0, ha.1 ∙ ap (λ (n : ℕ). from + n) u.1 ∙ sym hb.1) refl)
    one_answer_by (Ok a) (Err (faults.Syntax j)) ts from ha hb = absurd (part_there a.0 (drop from ts) ha.0 ha.2 hb.3)
    one_answer_by (Ok a) (Err (faults.TooDeep j)) ts from ha hb = absurd (part_there a.0 (drop from ts) ha.0 ha.2 hb.3)
    one_answer_by (Err (faults.Syntax i)) (Ok b) ts from ha hb = absurd (part_there b.0 (drop from ts) hb.0 hb.2 ha.3)
    one_answer_by (Err (faults.TooDeep i)) (Ok b) ts from ha hb = absurd (part_there b.0 (drop from ts) hb.0 hb.2 ha.3)
    one_answer_by (Err (faults.Syntax i)) (Err (faults.Syntax j)) ts from ha hb =
        inl (ap (λ (n : ℕ). Err (faults.Syntax n)) (ha.1 ∙ ap (λ (n : ℕ). from + n) (one_syntax (kinds_of (drop from ts)) ha.0 hb.0 ha.2 hb.2) ∙ sym hb.1))
    one_answer_by (Err (faults.Syntax i)) (Err (faults.TooDeep j)) ts from ha hb = absurd (not_both (kinds_of (drop from ts)) ha.0 hb.0 ha.2 hb.2)
    one_answer_by (Err (faults.TooDeep i)) (Err (faults.Syntax j)) ts from ha hb = absurd (not_both (kinds_of (drop from ts)) hb.0 ha.0 hb.2 ha.2)
    one_answer_by (Err (faults.TooDeep i)) (Err (faults.TooDeep j)) ts from ha hb =
        inl (ap (λ (n : ℕ). Err (faults.TooDeep n)) (ha.1 ∙ ap (λ (n : ℕ). from + n) (one_deep (kinds_of (drop from ts)) ha.0 hb.0 ha.2 hb.2) ∙ sym hb.1))
    one_answer_by (Err faults.NoMemory) b ts from ha hb = inr (inl refl)
    one_answer_by (Ok a) (Err faults.NoMemory) ts from ha hb = inr (inr refl)
    one_answer_by (Err (faults.Syntax i)) (Err faults.NoMemory) ts from ha hb = inr (inr refl)
    one_answer_by (Err (faults.TooDeep i)) (Err faults.NoMemory) ts from ha hb = inr (inr refl)
