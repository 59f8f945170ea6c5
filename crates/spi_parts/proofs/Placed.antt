-- A part that tokens begin with is the only one, with its places.
use Rattle.std.proofs.Common.{◌≡◌, ℕ, Bool, List, [], ◌++◌, length, sym, ap, subst, ◌∙◌}
use Rattle.std.proofs.lemmas.List.{map-append, length-map}
use Rattle.spi_lex.specs.declared.token.Kind.{Kind}
use Rattle.spi_lex.specs.declared.token.Token.{Token}
use Rattle.spi_lex.specs.Lexing.{kinds_of}
use Rattle.spi_tree.specs.Pieces.{Piece, at_level, kinds_in}
use Rattle.spi_parse.specs.Bare.{bare_ty, bare_msg, bare_decl, bare_proc}
use Rattle.spi_parse.specs.Exact.{Spells, ItemEnds, IsPartAt}
use Rattle.spi_parse.specs.Formed.{whole_decl, whole_type, whole_message, whole_process, IsWholeDecl, IsWholeType, IsWholeMessage, IsWholeProcess}
use Rattle.spi_parse.proofs.Filled.{FilledRest, fill_ty, fill_msg, fill_decl, fill_proc}
use Rattle.spi_parse.proofs.OneTree.{one_ty, one_msg, one_decl, one_proc}
use Rattle.spi_parts.specs.Determined.{HasOneAnswer, IsCutOnce, IsCutOnceAtEnds}
use Rattle.spi_parts.proofs.Answers.{one_answer_by}
use Rattle.spi_parts.proofs.Alone.{types_split, messages_split, declarations_split}
use Rattle.spi_parts.proofs.Processes.{processes_split}

module _ {X : Type 0} (bare : X → X) (pieces : X → List Piece) (P : X → Type 0) (fill : X → FilledRest → X)
    (filled : (x : X) (left ts : List Token) → Spells left 0 (pieces x) ts → fill (bare x) (record { end = 0; tokens = ts }) ≡ x)
    (split : IsCutOnceAtEnds bare pieces P) where
  kinds_split : (x : X) (ts : List Token) (n : ℕ) (r : IsPartAt pieces P x ts n) → kinds_of ts ≡ kinds_in (pieces x) ++ kinds_of r.rest
  kinds_split x ts n r = ap kinds_of r.split ∙ map-append (λ (k : Token). k.kind) r.pre r.rest ∙ ap (λ (l : List Kind). l ++ kinds_of r.rest) (sym r.tokens)

  ends_at : (x : X) (ts : List Token) (n : ℕ) (r : IsPartAt pieces P x ts n) → ItemEnds pieces P (kinds_in (pieces x)) (kinds_of r.rest)
  ends_at x ts n r = subst (λ (l : List Kind). ItemEnds pieces P l (kinds_of r.rest)) (sym r.tokens) r.ends

  tokens_at : (x : X) (ts : List Token) (n : ℕ) → IsPartAt pieces P x ts n → length (kinds_in (pieces x)) ≡ n
  tokens_at x ts n r = ap length r.tokens ∙ length-map r.pre (λ (k : Token). k.kind) ∙ r.place

  one_part : (x y : X) (ts : List Token) (n m : ℕ) → IsPartAt pieces P x ts n → IsPartAt pieces P y ts m → (x ≡ y) × (n ≡ m)
  one_part x y ts n m a b =
      let one = split x y (kinds_of a.rest) (kinds_of b.rest) a.part b.part (sym (kinds_split x ts n a) ∙ kinds_split y ts m b) (ends_at x ts n a) (ends_at y ts m b) in
      let tree : x ≡ y = sym (filled x a.rest ts a.spells) ∙ ap (λ (z : X). fill z (record { end = 0; tokens = ts })) one.0 ∙ filled y b.rest ts b.spells in
      (tree, sym (tokens_at x ts n a) ∙ ap (λ (z : X). length (kinds_in (pieces z))) tree ∙ tokens_at y ts m b)

  pub answer_of : HasOneAnswer pieces P
  answer_of = one_answer_by pieces P one_part

at_ends : {X : Type 0} (bare : X → X) (pieces : X → List Piece) (P : X → Type 0) → IsCutOnce bare pieces P → IsCutOnceAtEnds bare pieces P
at_ends bare pieces P h a b c d pa pb e u v = h a b c d pa pb e

module _ (later : Bool) where
  pub types_answer : HasOneAnswer whole_type (IsWholeType later)
  types_answer = answer_of bare_ty whole_type (IsWholeType later) fill_ty
      (λ x left ts h. (one_ty left x 1 (record { end = 0; tokens = ts }) [] (record { by = h })).0)
      (at_ends bare_ty whole_type (IsWholeType later) (types_split later))

  pub messages_answer : HasOneAnswer whole_message (IsWholeMessage later)
  messages_answer = answer_of bare_msg whole_message (IsWholeMessage later) fill_msg
      (λ x left ts h. (one_msg left x 1 (record { end = 0; tokens = ts }) [] (record { by = h })).0)
      (at_ends bare_msg whole_message (IsWholeMessage later) (messages_split later))

  pub declarations_answer : HasOneAnswer whole_decl (IsWholeDecl later)
  declarations_answer = answer_of bare_decl whole_decl (IsWholeDecl later) fill_decl
      (λ x left ts h. (one_decl left x (record { end = 0; tokens = ts }) [] (record { by = h })).0)
      (at_ends bare_decl whole_decl (IsWholeDecl later) (declarations_split later))

  pub processes_answer : HasOneAnswer whole_process (IsWholeProcess later)
  processes_answer = answer_of bare_proc whole_process (IsWholeProcess later) fill_proc
      (λ x left ts h. (one_proc left x (at_level 0) (record { end = 0; tokens = ts }) [] (record { by = h })).0)
      (processes_split later)
