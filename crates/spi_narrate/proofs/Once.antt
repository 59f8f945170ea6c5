-- Tokens are those of one narration at most, with the spans of its nodes and words: what stands at a place of a text.
use Rattle.std.proofs.Common.{◌≡◌, ℕ, suc, Bool, List, [], ◌∷◌, ◌++◌, drop, Result, Ok, refl, sym, ap, subst, ◌∙◌, codes, inl, inr}
use Rattle.std.specs.List.{AllByRecursion}
use Rattle.spi_lex.specs.declared.token.Kind.{Kind}
use Rattle.spi_lex.specs.declared.token.Kind.TheVariants as K
use Rattle.spi_lex.specs.declared.token.Mark.TheVariants as mark
use Rattle.spi_lex.specs.declared.token.Reserved.TheVariants as word
use Rattle.spi_lex.specs.declared.token.Token.{Token}
use Rattle.spi_lex.specs.Lexing.{kinds_of}
use Rattle.spi_text.specs.declared.lines.Span.{Span}
use Rattle.spi_tree.specs.declared.tree.SWord.{SWord}
use Rattle.spi_tree.specs.Trees as t
use Rattle.spi_tree.specs.Pieces.{Piece, decl_pieces}
use Rattle.spi_tree.specs.Formed.{AreWordsFit, IsDeclared}
use Rattle.spi_parse.specs.declared.fault.ParseFault.{ParseFault}
use Rattle.spi_parse.specs.Formed.{whole_decl, whole_type, whole_message, IsWholeDecl, IsWholeType, IsWholeMessage}
use Rattle.spi_grammar.specs.Exactly.{IsPrefixFree}
use Rattle.spi_parts.specs.Determined.{AreOne, HasOneAnswer}
use Rattle.spi_parts.proofs.Alone.{types_closed, messages_closed, declarations_closed}
use Rattle.spi_parts.proofs.Bridge.{OfPieces}
use Rattle.spi_parts.proofs.Placed.{types_answer, messages_answer, declarations_answer}
use Rattle.spi_heading.specs.Headings as h
use Rattle.spi_heading.specs.Each.{each_pieces}
use Rattle.spi_heading.specs.Grammar.{shared_pieces, IsShared}
use Rattle.spi_heading.specs.Repeated.{IsSolid}
use Rattle.spi_heading.proofs.Standing.{AreTokensOf, msg_solid, ty_solid, decl_solid}
use Rattle.spi_heading.proofs.Symbols.{HeadingSym, token, name, message, ty, braced, opening, closing, Value, item_pieces, IsItem, item_behind}
use Rattle.spi_heading.proofs.Rows.{Values, row_pieces, AreItems, fits_at}
use Rattle.spi_heading.proofs.Calls.{part_at}
use Rattle.spi_heading.proofs.Each.{stands_cut}
use Rattle.spi_heading.proofs.Names.{shared_row, shared_values}
use Rattle.spi_narrate.specs.Narrations as n
use Rattle.spi_narrate.specs.Grammar.{whole_prefix, IsPrefix, whole_line, IsLine, comma_pieces}
use Rattle.spi_narrate.proofs.Prefixes.{first_word, split_row, match_row, decrypt_row, check_row, label_row, cast_row, new_row}
use Rattle.spi_narrate.proofs.LineRows.{head_row, colon_row, tail_row, pass_row, head_values, tail_values, pass_values, local_are}
use Rattle.spi_narrate.proofs.RoleRows.{comma_row}

abbrev a_pair : {X : Type 0} → X → ℕ → X × ℕ
a_pair z m = (z, m)

-- a part and the number behind it
abbrev a_part : {X : Type 0} → X → ℕ → Result (X × ℕ) ParseFault
a_part z m = Ok (z, m)

part_same : {X : Type 0} (x y : X) (j k : ℕ) → a_part x j ≡ a_part y k → a_pair x j ≡ a_pair y k
part_same x y j k e = cc

abbrev word_once : List ℕ → ℕ → ℕ → SWord
word_once w from to = record { word = w; span = record { from = from; to = to } }

word_same : (a b : List ℕ) (f g u w : ℕ) → a ≡ b → f ≡ g → u ≡ w → word_once a f u ≡ word_once b g w
word_same a b f g u w e p q = ap (λ (x : List ℕ). word_once x f u) e ∙ ap (λ (x : ℕ). word_once b x u) p ∙ ap (λ (x : ℕ). word_once b g x) q

module _ (v : Bool) (ts : List Token) (fit : AreWordsFit v (kinds_of ts)) where
  -- one token stands at a place
  pub one_token : (i : ℕ) (a b : Token) (more other : List Token) → drop i ts ≡ a ∷ more → drop i ts ≡ b ∷ other → a ≡ b
  one_token i a b more other e f = let g : a ∷ more ≡ b ∷ other = sym e ∙ f in cc

  pub one_kind : (i : ℕ) (a b : Token) (more other : List Token) (k l : Kind) → drop i ts ≡ a ∷ more → drop i ts ≡ b ∷ other → a.kind ≡ k → b.kind ≡ l → k ≡ l
  one_kind i a b more other k l e f p q = sym p ∙ ap (λ (x : Token). x.kind) (one_token i a b more other e f) ∙ q

  -- ---- symbols, and rows of them

  abbrev IsPlain : HeadingSym → Type 0
  IsPlain (token x) = Unit {0}
  IsPlain name = Unit {0}
  IsPlain message = Unit {0}
  IsPlain ty = Unit {0}
  IsPlain braced = ⊥
  IsPlain opening = Unit {0}
  IsPlain closing = Unit {0}

  abbrev ArePlain : List HeadingSym → Type 0
  ArePlain [] = Unit {0}
  ArePlain (s ∷ ss) = IsPlain s × ArePlain ss

  -- a part that has one answer
  part_once : {X : Type 0} (pieces : X → List Piece) (P : X → Type 0) → HasOneAnswer pieces P → IsPrefixFree (OfPieces pieces P) → (i j k : ℕ) (x y : X) → P x → P y → IsSolid (pieces x) → IsSolid (pieces y)
      → AreTokensOf ts i (pieces x) j → AreTokensOf ts i (pieces y) k → (x ≡ y) × (j ≡ k)
  part_once {X} pieces P one closed i j k x y p q s u a b =
      go (one (Ok (x, j)) (Ok (y, k)) ts i (part_at pieces P x ts i j p s closed a) (part_at pieces P y ts i k q u closed b))
    where
      go : AreOne (a_part x j) (a_part y k) → (x ≡ y) × (j ≡ k)
      go (inl e) = let p = part_same x y j k e in (ap (λ (z : X × ℕ). z.0) p, ap (λ (z : X × ℕ). z.1) p)
      go (inr (inl e)) = absurd cc
      go (inr (inr e)) = absurd cc

  item_once : (s : HeadingSym) (i j k : ℕ) (x y : Value s) → IsPlain s → IsItem v s x → IsItem v s y → AreTokensOf ts i (item_pieces s x []) j → AreTokensOf ts i (item_pieces s y []) k → (x ≡ y) × (j ≡ k)
  item_once (token w) i j k x y p a b f g = (refl, sym f.5 ∙ g.5)
  item_once name i j k x y p a b f g =
      let e : K.Word x.word ≡ K.Word y.word = one_kind i f.2.0 g.2.0 f.2.1 g.2.1 (K.Word x.word) (K.Word y.word) f.2.2 g.2.2 f.2.3 g.2.3 in
      let w : x.word ≡ y.word = cc in
      (word_same x.word y.word x.span.from y.span.from x.span.to y.span.to w (sym f.1 ∙ g.1) (sym f.2.5.0 ∙ g.2.5.0), sym f.2.5.1 ∙ g.2.5.1)
  item_once message i j k x y p a b f g =
      part_once whole_message (IsWholeMessage v) (messages_answer v) (messages_closed v) i j k x y (a, fits_at v ts (whole_message x) i j fit f) (b, fits_at v ts (whole_message y) i k fit g) (msg_solid 1 x []) (msg_solid 1 y []) f g
  item_once ty i j k x y p a b f g =
      part_once whole_type (IsWholeType v) (types_answer v) (types_closed v) i j k x y (a, fits_at v ts (whole_type x) i j fit f) (b, fits_at v ts (whole_type y) i k fit g) (ty_solid 1 x []) (ty_solid 1 y []) f g
  item_once braced i j k x y p a b f g = absurd p
  item_once opening i j k x y p a b f g = (sym f.1 ∙ g.1, sym f.2 ∙ g.2)
  item_once closing i j k x y p a b f g = (sym f.0 ∙ g.0, sym f.1 ∙ g.1)

  pub row_once : (ss : List HeadingSym) (i j k : ℕ) (xs ys : Values ss) → ArePlain ss → AreItems v ss xs → AreItems v ss ys → AreTokensOf ts i (row_pieces ss xs []) j → AreTokensOf ts i (row_pieces ss ys []) k → (xs ≡ ys) × (j ≡ k)
  row_once [] i j k xs ys p a b f g = (refl, sym f ∙ g)
  row_once (s ∷ ss) i j k xs ys p a b f g =
      let c = stands_cut ts (item_pieces s xs.0 []) (row_pieces ss xs.1 []) i j (subst (λ (l : List Piece). AreTokensOf ts i l j) (item_behind s xs.0 (row_pieces ss xs.1 [])) f) in
      let d = stands_cut ts (item_pieces s ys.0 []) (row_pieces ss ys.1 []) i k (subst (λ (l : List Piece). AreTokensOf ts i l k) (item_behind s ys.0 (row_pieces ss ys.1 [])) g) in
      let one = item_once s i c.0 d.0 xs.0 ys.0 p.0 a.0 b.0 c.1 d.1 in
      let rest = row_once ss c.0 j k xs.1 ys.1 p.1 a.1 b.1 c.2 (subst (λ (m : ℕ). AreTokensOf ts m (row_pieces ss ys.1 []) k) (sym one.1) d.2) in
      let first : (z : Value s) → Values (s ∷ ss) = λ z. (z, xs.1) in
      let second : (z : Values ss) → Values (s ∷ ss) = λ z. (ys.0, z) in
      (ap first one.0 ∙ ap second rest.0, rest.1)

  -- ---- what a role does by itself

  first_stands : (x : n.Prefix) (i j : ℕ) → AreTokensOf ts i (whole_prefix x) j → (a : Token) × (more : List Token) × (drop i ts ≡ a ∷ more) × (a.kind ≡ K.Reserved (first_word x))
  first_stands (n.split s m x a y b) i j f = (f.2.0, f.2.1, f.2.2, f.2.3)
  first_stands (n.match s m x a k y b) i j f = (f.2.0, f.2.1, f.2.2, f.2.3)
  first_stands (n.decrypt s m x a k) i j f = (f.2.0, f.2.1, f.2.2, f.2.3)
  first_stands (n.check s m k) i j f = (f.2.0, f.2.1, f.2.2, f.2.3)
  first_stands (n.begin s m) i j f = (f.2.0, f.2.1, f.2.2, f.2.3)
  first_stands (n.end s m) i j f = (f.2.0, f.2.1, f.2.2, f.2.3)
  first_stands (n.end_many s m) i j f = (f.2.0, f.2.1, f.2.2, f.2.3)
  first_stands (n.cast s m x a) i j f = (f.2.0, f.2.1, f.2.2, f.2.3)
  first_stands (n.new s x a) i j f = (f.2.0, f.2.1, f.2.2, f.2.3)

  form_once : (i j k : ℕ) (x y : n.Prefix) → first_word x ≡ first_word y → IsPrefix v x → IsPrefix v y → AreTokensOf ts i (whole_prefix x) j → AreTokensOf ts i (whole_prefix y) k → (x ≡ y) × (j ≡ k)
  form_once i j k (n.split s m x a y b) (n.split s' m' x' a' y' b') e p q f g =
      let r = row_once split_row i j k (s.from, (tt, (m, (tt, (tt, (x, (tt, (a, (tt, (y, (tt, (b, (tt, (s.to, tt)))))))))))))) (s'.from, (tt, (m', (tt, (tt, (x', (tt, (a', (tt, (y', (tt, (b', (tt, (s'.to, tt))))))))))))))
      (tt, (tt, (tt, (tt, (tt, (tt, (tt, (tt, (tt, (tt, (tt, (tt, (tt, (tt, tt)))))))))))))) (tt, (tt, (p.0, (tt, (tt, (tt, (tt, (p.1, (tt, (tt, (tt, (p.2, (tt, (tt, tt)))))))))))))) (tt, (tt, (q.0, (tt, (tt, (tt, (tt, (q.1, (tt, (tt, (tt, (q.2, (tt, (tt, tt)))))))))))))) f g in
      (ap (λ (z : Values split_row). n.split (record { from = z.0; to = z.1.1.1.1.1.1.1.1.1.1.1.1.1.0 }) z.1.1.0 z.1.1.1.1.1.0 z.1.1.1.1.1.1.1.0 z.1.1.1.1.1.1.1.1.1.0 z.1.1.1.1.1.1.1.1.1.1.1.0) r.0, r.1)
  form_once i j k (n.match s m x a l y b) (n.match s' m' x' a' l' y' b') e p q f g =
      let r = row_once match_row i j k (s.from, (tt, (m, (tt, (tt, (x, (tt, (a, (tt, (l, (tt, (y, (tt, (b, (tt, (s.to, tt)))))))))))))))) (s'.from, (tt, (m', (tt, (tt, (x', (tt, (a', (tt, (l', (tt, (y', (tt, (b', (tt, (s'.to, tt))))))))))))))))
      (tt, (tt, (tt, (tt, (tt, (tt, (tt, (tt, (tt, (tt, (tt, (tt, (tt, (tt, (tt, (tt, tt)))))))))))))))) (tt, (tt, (p.0, (tt, (tt, (tt, (tt, (p.1, (tt, (p.2, (tt, (tt, (tt, (p.3, (tt, (tt, tt)))))))))))))))) (tt, (tt, (q.0, (tt, (tt, (tt, (tt, (q.1, (tt, (q.2, (tt, (tt, (tt, (q.3, (tt, (tt, tt)))))))))))))))) f g in
      (ap (λ (z : Values match_row). n.match (record { from = z.0; to = z.1.1.1.1.1.1.1.1.1.1.1.1.1.1.1.0 }) z.1.1.0 z.1.1.1.1.1.0 z.1.1.1.1.1.1.1.0 z.1.1.1.1.1.1.1.1.1.0 z.1.1.1.1.1.1.1.1.1.1.1.0 z.1.1.1.1.1.1.1.1.1.1.1.1.1.0) r.0, r.1)
  form_once i j k (n.decrypt s m x a l) (n.decrypt s' m' x' a' l') e p q f g =
      let r = row_once decrypt_row i j k (s.from, (tt, (m, (tt, (tt, (x, (tt, (a, (tt, (l, (s.to, tt))))))))))) (s'.from, (tt, (m', (tt, (tt, (x', (tt, (a', (tt, (l', (s'.to, tt)))))))))))
      (tt, (tt, (tt, (tt, (tt, (tt, (tt, (tt, (tt, (tt, (tt, tt))))))))))) (tt, (tt, (p.0, (tt, (tt, (tt, (tt, (p.1, (tt, (p.2, (tt, tt))))))))))) (tt, (tt, (q.0, (tt, (tt, (tt, (tt, (q.1, (tt, (q.2, (tt, tt))))))))))) f g in
      (ap (λ (z : Values decrypt_row). n.decrypt (record { from = z.0; to = z.1.1.1.1.1.1.1.1.1.1.0 }) z.1.1.0 z.1.1.1.1.1.0 z.1.1.1.1.1.1.1.0 z.1.1.1.1.1.1.1.1.1.0) r.0, r.1)
  form_once i j k (n.check s m l) (n.check s' m' l') e p q f g =
      let r = row_once check_row i j k (s.from, (tt, (m, (tt, (l, (s.to, tt)))))) (s'.from, (tt, (m', (tt, (l', (s'.to, tt)))))) (tt, (tt, (tt, (tt, (tt, (tt, tt)))))) (tt, (tt, (p.0, (tt, (p.1, (tt, tt)))))) (tt, (tt, (q.0, (tt, (q.1, (tt, tt)))))) f g in
      (ap (λ (z : Values check_row). n.check (record { from = z.0; to = z.1.1.1.1.1.0 }) z.1.1.0 z.1.1.1.1.0) r.0, r.1)
  form_once i j k (n.begin s m) (n.begin s' m') e p q f g =
      let r = row_once (label_row word.Begin) i j k (s.from, (tt, (m, (s.to, tt)))) (s'.from, (tt, (m', (s'.to, tt)))) (tt, (tt, (tt, (tt, tt)))) (tt, (tt, (p, (tt, tt)))) (tt, (tt, (q, (tt, tt)))) f g in
      (ap (λ (z : Values (label_row word.Begin)). n.begin (record { from = z.0; to = z.1.1.1.0 }) z.1.1.0) r.0, r.1)
  form_once i j k (n.end s m) (n.end s' m') e p q f g =
      let r = row_once (label_row word.End) i j k (s.from, (tt, (m, (s.to, tt)))) (s'.from, (tt, (m', (s'.to, tt)))) (tt, (tt, (tt, (tt, tt)))) (tt, (tt, (p, (tt, tt)))) (tt, (tt, (q, (tt, tt)))) f g in
      (ap (λ (z : Values (label_row word.End)). n.end (record { from = z.0; to = z.1.1.1.0 }) z.1.1.0) r.0, r.1)
  form_once i j k (n.end_many s m) (n.end_many s' m') e p q f g =
      let r = row_once (label_row word.EndMany) i j k (s.from, (tt, (m, (s.to, tt)))) (s'.from, (tt, (m', (s'.to, tt)))) (tt, (tt, (tt, (tt, tt)))) (tt, (tt, (p.1, (tt, tt)))) (tt, (tt, (q.1, (tt, tt)))) f g in
      (ap (λ (z : Values (label_row word.EndMany)). n.end_many (record { from = z.0; to = z.1.1.1.0 }) z.1.1.0) r.0, r.1)
  form_once i j k (n.cast s m x a) (n.cast s' m' x' a') e p q f g =
      let r = row_once cast_row i j k (s.from, (tt, (m, (tt, (tt, (x, (tt, (a, (tt, (s.to, tt)))))))))) (s'.from, (tt, (m', (tt, (tt, (x', (tt, (a', (tt, (s'.to, tt))))))))))
      (tt, (tt, (tt, (tt, (tt, (tt, (tt, (tt, (tt, (tt, tt)))))))))) (tt, (tt, (p.0, (tt, (tt, (tt, (tt, (p.1, (tt, (tt, tt)))))))))) (tt, (tt, (q.0, (tt, (tt, (tt, (tt, (q.1, (tt, (tt, tt)))))))))) f g in
      (ap (λ (z : Values cast_row). n.cast (record { from = z.0; to = z.1.1.1.1.1.1.1.1.1.0 }) z.1.1.0 z.1.1.1.1.1.0 z.1.1.1.1.1.1.1.0) r.0, r.1)
  form_once i j k (n.new s x a) (n.new s' x' a') e p q f g =
      let r = row_once new_row i j k (s.from, (tt, (tt, (x, (tt, (a, (tt, (s.to, tt)))))))) (s'.from, (tt, (tt, (x', (tt, (a', (tt, (s'.to, tt))))))))
      (tt, (tt, (tt, (tt, (tt, (tt, (tt, (tt, tt)))))))) (tt, (tt, (tt, (tt, (tt, (p, (tt, (tt, tt)))))))) (tt, (tt, (tt, (tt, (tt, (q, (tt, (tt, tt)))))))) f g in
      (ap (λ (z : Values new_row). n.new (record { from = z.0; to = z.1.1.1.1.1.1.1.0 }) z.1.1.1.0 z.1.1.1.1.1.0) r.0, r.1)
  form_once i j k x y e p q f g = absurd cc

  prefix_once : (i j k : ℕ) (x y : n.Prefix) → IsPrefix v x → IsPrefix v y → AreTokensOf ts i (whole_prefix x) j → AreTokensOf ts i (whole_prefix y) k → (x ≡ y) × (j ≡ k)
  prefix_once i j k x y p q f g =
      let a = first_stands x i j f in
      let b = first_stands y i k g in
      let e : K.Reserved (first_word x) ≡ K.Reserved (first_word y) = one_kind i a.0 b.0 a.1 b.1 (K.Reserved (first_word x)) (K.Reserved (first_word y)) a.2 b.2 a.3 b.3 in
      let w : first_word x ≡ first_word y = cc in
      form_once i j k x y w p q f g

  -- ---- lines

  abbrev rest_pieces : n.Prefix → ℕ → List Piece
  rest_pieces x to = whole_prefix x ++ row_pieces tail_row (tail_values to) []

  local_once : (i j k : ℕ) (s s' : Span) (w w' : SWord) (x x' : n.Prefix) → IsPrefix v x → IsPrefix v x' → AreTokensOf ts i (whole_line (n.local s w x)) j → AreTokensOf ts i (whole_line (n.local s' w' x')) k → (n.local s w x ≡ n.local s' w' x') × (j ≡ k)
  local_once i j k s s' w w' x x' p q f g =
      let c = stands_cut ts (row_pieces head_row (head_values s.from w) []) (row_pieces colon_row (tt, tt) [] ++ rest_pieces x s.to) i j (subst (λ (l : List Piece). AreTokensOf ts i l j) (local_are s w x) f) in
      let d = stands_cut ts (row_pieces head_row (head_values s'.from w') []) (row_pieces colon_row (tt, tt) [] ++ rest_pieces x' s'.to) i k (subst (λ (l : List Piece). AreTokensOf ts i l k) (local_are s' w' x') g) in
      let head = row_once head_row i c.0 d.0 (head_values s.from w) (head_values s'.from w') (tt, (tt, tt)) (tt, (tt, tt)) (tt, (tt, tt)) c.1 d.1 in
      let c2 = stands_cut ts (row_pieces colon_row (tt, tt) []) (rest_pieces x s.to) c.0 j c.2 in
      let d2 = stands_cut ts (row_pieces colon_row (tt, tt) []) (rest_pieces x' s'.to) c.0 k (subst (λ (m : ℕ). AreTokensOf ts m (row_pieces colon_row (tt, tt) [] ++ rest_pieces x' s'.to) k) (sym head.1) d.2) in
      let colon = row_once colon_row c.0 c2.0 d2.0 (tt, tt) (tt, tt) (tt, tt) (tt, tt) (tt, tt) c2.1 d2.1 in
      let c3 = stands_cut ts (whole_prefix x) (row_pieces tail_row (tail_values s.to) []) c2.0 j c2.2 in
      let d3 = stands_cut ts (whole_prefix x') (row_pieces tail_row (tail_values s'.to) []) c2.0 k (subst (λ (m : ℕ). AreTokensOf ts m (rest_pieces x' s'.to) k) (sym colon.1) d2.2) in
      let form = prefix_once c2.0 c3.0 d3.0 x x' p q c3.1 d3.1 in
      let tail = row_once tail_row c3.0 j k (tail_values s.to) (tail_values s'.to) (tt, (tt, tt)) (tt, (tt, tt)) (tt, (tt, tt)) c3.2 (subst (λ (m : ℕ). AreTokensOf ts m (row_pieces tail_row (tail_values s'.to) []) k) (sym form.1) d3.2) in
      let one : (z : Values head_row) → n.Line = λ z. n.local (record { from = z.0; to = s.to }) z.1.0 x in
      let two : (z : n.Prefix) → n.Line = λ z. n.local (record { from = s'.from; to = s.to }) w' z in
      let three : (z : Values tail_row) → n.Line = λ z. n.local (record { from = s'.from; to = z.1.0 }) w' x' in
      (ap one head.0 ∙ ap two form.0 ∙ ap three tail.0, tail.1)

  abbrev whole_row : List HeadingSym
  whole_row = opening ∷ name ∷ pass_row

  abbrev whole_values : Span → SWord → SWord → SWord → t.Msg → SWord → Values whole_row
  whole_values s a b c m x = (s.from, (a, pass_values b c m x s.to))

  pub line_once : (x y : n.Line) (i j k : ℕ) → IsLine v x → IsLine v y → AreTokensOf ts i (whole_line x) j → AreTokensOf ts i (whole_line y) k → (x ≡ y) × (j ≡ k)
  line_once (n.local s w x) (n.local s' w' x') i j k p q f g = local_once i j k s s' w w' x x' p q f g
  line_once (n.pass s a b c m x) (n.pass s' a' b' c' m' x') i j k p q f g =
      let r = row_once whole_row i j k (whole_values s a b c m x) (whole_values s' a' b' c' m' x') (tt, (tt, (tt, (tt, (tt, (tt, (tt, (tt, (tt, (tt, (tt, (tt, tt))))))))))))
      (tt, (tt, (tt, (tt, (tt, (tt, (tt, (p, (tt, (tt, (tt, (tt, tt)))))))))))) (tt, (tt, (tt, (tt, (tt, (tt, (tt, (q, (tt, (tt, (tt, (tt, tt)))))))))))) f g in
      (ap (λ (z : Values whole_row). n.pass (record { from = z.0; to = z.1.1.1.1.1.1.1.1.1.1.1.0 }) z.1.0 z.1.1.1.0 z.1.1.1.1.1.0 z.1.1.1.1.1.1.1.0 z.1.1.1.1.1.1.1.1.1.0) r.0, r.1)
  line_once (n.local s w x) (n.pass s' a b c m y) i j k p q f g =
      let u = f.2.2.5.1 in let z = g.2.2.5.1 in
      let e : K.Mark mark.Colon ≡ K.Word (codes "to") = one_kind (suc i) u.0 z.0 u.1 z.1 (K.Mark mark.Colon) (K.Word (codes "to")) u.2 z.2 u.3 z.3 in
      absurd cc
  line_once (n.pass s' a b c m y) (n.local s w x) i j k p q f g =
      let u = f.2.2.5.1 in let z = g.2.2.5.1 in
      let e : K.Word (codes "to") ≡ K.Mark mark.Colon = one_kind (suc i) u.0 z.0 u.1 z.1 (K.Word (codes "to")) (K.Mark mark.Colon) u.2 z.2 u.3 z.3 in
      absurd cc

  -- ---- declarations, shared names and roles

  pub decl_once : (x y : t.Declared) (i j k : ℕ) → IsDeclared v x → IsDeclared v y → AreTokensOf ts i (decl_pieces x []) j → AreTokensOf ts i (decl_pieces y []) k → (x ≡ y) × (j ≡ k)
  decl_once x y i j k p q f g =
      part_once whole_decl (IsWholeDecl v) (declarations_answer v) (declarations_closed v) i j k x y (p, fits_at v ts (whole_decl x) i j fit f) (q, fits_at v ts (whole_decl y) i k fit g) (decl_solid x []) (decl_solid y []) f g

  pub shared_once : (x y : h.Shared) (i j k : ℕ) → IsShared v x → IsShared v y → AreTokensOf ts i (shared_pieces x []) j → AreTokensOf ts i (shared_pieces y []) k → (x ≡ y) × (j ≡ k)
  shared_once x y i j k p q f g =
      let r = row_once shared_row i j k (shared_values x) (shared_values y) (tt, (tt, (tt, (tt, (tt, (tt, (tt, tt))))))) (tt, (tt, (tt, (tt, (p, (tt, (tt, tt))))))) (tt, (tt, (tt, (tt, (q, (tt, (tt, tt))))))) f g in
      (ap (λ (z : Values shared_row). record { span = record { from = z.0; to = z.1.1.1.1.1.1.0 }; name = z.1.1.0; ty = z.1.1.1.1.0 }) r.0, r.1)

  pub comma_once : (x y : SWord) (i j k : ℕ) → Unit {0} → Unit {0} → AreTokensOf ts i (comma_pieces x []) j → AreTokensOf ts i (comma_pieces y []) k → (x ≡ y) × (j ≡ k)
  comma_once x y i j k p q f g =
      let r = row_once comma_row i j k (tt, (x, tt)) (tt, (y, tt)) (tt, (tt, tt)) (tt, (tt, tt)) (tt, (tt, tt)) f g in
      (ap (λ (z : Values comma_row). z.1.0) r.0, r.1)

  -- ---- any number of parts, up to a token with which none begins

  module _ {X : Type 0} (piece : X → List Piece → List Piece) (behind : (x : X) (r : List Piece) → piece x r ≡ piece x [] ++ r) (Is : X → Type 0) (Begins : ℕ → Type 0)
      (starts : (x : X) (i j : ℕ) → AreTokensOf ts i (piece x []) j → Begins i)
      (once : (x y : X) (i j k : ℕ) → Is x → Is y → AreTokensOf ts i (piece x []) j → AreTokensOf ts i (piece y []) k → (x ≡ y) × (j ≡ k)) where
    cut : (x : X) (xs : List X) (i j : ℕ) → AreTokensOf ts i (each_pieces piece (x ∷ xs) []) j → (m : ℕ) × AreTokensOf ts i (piece x []) m × AreTokensOf ts m (each_pieces piece xs []) j
    cut x xs i j f = stands_cut ts (piece x []) (each_pieces piece xs []) i j (subst (λ (l : List Piece). AreTokensOf ts i l j) (behind x (each_pieces piece xs [])) f)

    pub each_once : (xs ys : List X) (i j k : ℕ) → AllByRecursion Is xs → AllByRecursion Is ys → AreTokensOf ts i (each_pieces piece xs []) j → AreTokensOf ts i (each_pieces piece ys []) k → (Begins j → ⊥) → (Begins k → ⊥) → (xs ≡ ys) × (j ≡ k)
    each_once [] [] i j k p q f g a b = (refl, sym f ∙ g)
    each_once [] (y ∷ ys) i j k p q f g a b = let c = cut y ys i k g in absurd (a (subst Begins f (starts y i c.0 c.1)))
    each_once (x ∷ xs) [] i j k p q f g a b = let c = cut x xs i j f in absurd (b (subst Begins g (starts x i c.0 c.1)))
    each_once (x ∷ xs) (y ∷ ys) i j k p q f g a b =
        let c = cut x xs i j f in
        let d = cut y ys i k g in
        let one = once x y i c.0 d.0 p.0 q.0 c.1 d.1 in
        let rest = each_once xs ys c.0 j k p.1 q.1 c.2 (subst (λ (m : ℕ). AreTokensOf ts m (each_pieces piece ys []) k) (sym one.1) d.2) a b in
        (ap (λ (z : X). z ∷ xs) one.0 ∙ ap (λ (l : List X). y ∷ l) rest.0, rest.1)
