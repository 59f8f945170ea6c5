-- Declarations, types and messages are closed, even and there.
use Rattle.std.proofs.Common.{◌≡◌, ℕ, suc, Bool, false, List, [], ◌∷◌, ◌++◌, length, Ok, Err, refl, sym, ap, subst, ◌∙◌, append-nil, arith}
use Rattle.spi_lex.specs.declared.token.Kind.{Kind}
use Rattle.spi_tree.specs.Trees as t
use Rattle.spi_tree.specs.Pieces.{Piece, opens, cell, closes, cells, kinds_in, msg_pieces, ty_pieces, decl_pieces}
use Rattle.spi_tree.specs.Formed.{AreWordsFit}
use Rattle.spi_parse.specs.Tokens.{Tok, State}
use Rattle.spi_parse.specs.Table.{Sym, Tree, msg, ty, decl}
use Rattle.spi_parse.specs.Reading.{Out, limited, any, told, read}
use Rattle.spi_parse.specs.Bare.{bare_msg, bare_ty, bare_decl}
use Rattle.spi_parse.specs.Formed.{whole_decl, whole_type, whole_message, IsWholeDecl, IsWholeType, IsWholeMessage}
use Rattle.spi_parse.specs.Exact as exact
use Rattle.spi_parse.proofs.Readers.{at, ok_is}
use Rattle.spi_parse.proofs.Spell.{spell, Formed}
use Rattle.spi_parse.proofs.Viable.{AreSpare}
use Rattle.spi_parse.proofs.Complete.{flat_pieces, any_fits, told_fits, msg_c, ty_c, decl_c}
use Rattle.spi_parse.proofs.ExactLaws as e
use Rattle.spi_parse.proofs.Words.{made_fit}
use Rattle.spi_parse.proofs.Unique.{all_false, flat_is}
use Rattle.spi_grammar.specs.Exactly.{kinds, IsWithinLimits, StartsDeep, IsPrefixFree, IsEven, IsLive}
use Rattle.spi_parts.specs.Determined.{IsCutOnce, BeginsNoOther, AgreesOnDepth}
use Rattle.spi_parts.proofs.Bridge.{kinds_cells, within_cells, deep_to, OfPieces, of_piece}
use Rattle.spi_parts.proofs.Behind.{msg_behind, ty_behind, decl_behind}
use Rattle.spi_tree.specs.Trees.{nowhere}

kinds_of_false : (ks : List Kind) → e.kinds_read (all_false ks) ≡ ks
kinds_of_false [] = refl
kinds_of_false (k ∷ ks) = ap (λ (l : List Kind). k ∷ l) (kinds_of_false ks)

abbrev pub as_pieces : List Kind → List Piece
as_pieces [] = []
as_pieces (k ∷ ks) = cell k false ∷ as_pieces ks

kinds_as : (ks : List Kind) → kinds_in (as_pieces ks) ≡ ks
kinds_as [] = refl
kinds_as (k ∷ ks) = ap (λ (l : List Kind). k ∷ l) (kinds_as ks)

pub kinds_in_append : (a b : List Piece) → kinds_in (a ++ b) ≡ kinds_in a ++ kinds_in b
kinds_in_append [] b = refl
kinds_in_append (opens from ∷ a) b = kinds_in_append a b
kinds_in_append (cell k deep ∷ a) b = ap (λ (l : List Kind). k ∷ l) (kinds_in_append a b)
kinds_in_append (closes to ∷ a) b = kinds_in_append a b

kinds_flat : (c : List Kind) → e.kinds_read (flat_pieces (λ d. false) (as_pieces c)) ≡ c
kinds_flat c = ap e.kinds_read (flat_is (as_pieces c)) ∙ kinds_of_false (kinds_in (as_pieces c)) ∙ kinds_as c

module _ (a : Sym) (p : Tree a → List Piece → List Piece) (bare : Tree a → Tree a) (behind : (y : Tree a) (r : List Piece) → p y r ≡ p y [] ++ r) where
  tokens_behind : (y : Tree a) (c : List Kind) → kinds_in (p y (as_pieces c)) ≡ kinds_in (p y []) ++ c
  tokens_behind y c = ap kinds_in (behind y (as_pieces c)) ∙ kinds_in_append (p y []) (as_pieces c) ∙ ap (λ (l : List Kind). kinds_in (p y []) ++ l) (kinds_as c)

  -- two parts with the same tokens, whatever is behind them, are one up to spans, with the same behind it, if each is read
  pub one_split_at : (y z : Tree a) (c d : List Kind)
      → read any a (at 0 (flat_pieces (λ d. false) (p y (as_pieces c)))) ≡ Ok (bare y, at 0 (flat_pieces (λ d. false) (as_pieces c)))
      → read any a (at 0 (flat_pieces (λ d. false) (p z (as_pieces d)))) ≡ Ok (bare z, at 0 (flat_pieces (λ d. false) (as_pieces d)))
      → kinds_in (p y []) ++ c ≡ kinds_in (p z []) ++ d → (bare y ≡ bare z) × (c ≡ d)
  one_split_at y z c d hy hz same =
      let all : kinds_in (p y (as_pieces c)) ≡ kinds_in (p z (as_pieces d)) = tokens_behind y c ∙ same ∙ sym (tokens_behind z d) in
      let lists : flat_pieces (λ d. false) (p y (as_pieces c)) ≡ flat_pieces (λ d. false) (p z (as_pieces d)) = flat_is (p y (as_pieces c)) ∙ ap all_false all ∙ sym (flat_is (p z (as_pieces d))) in
      let answers = sym hy ∙ ap (λ (l : List Tok). read any a (at 0 l)) lists ∙ hz in
      let left : Tree a × State = (bare y, at 0 (flat_pieces (λ d. false) (as_pieces c))) in
      let right : Tree a × State = (bare z, at 0 (flat_pieces (λ d. false) (as_pieces d))) in
      let one : left ≡ right = ok_is {X = Tree a × State} left right answers in
      (ap (λ (x : Tree a × State). x.0) one, sym (kinds_flat c) ∙ ap (λ (x : Tree a × State). e.kinds_read x.1.rest) one ∙ kinds_flat d)

module _ (a : Sym) (p : Tree a → List Piece → List Piece) (bare : Tree a → Tree a) (P : Tree a → Type 0)
    (behind : (y : Tree a) (r : List Piece) → p y r ≡ p y [] ++ r)
    (complete : (y : Tree a) → P y → (r : List Piece) → read any a (at 0 (flat_pieces (λ d. false) (p y r))) ≡ Ok (bare y, at 0 (flat_pieces (λ d. false) r))) where
  -- parts with the same tokens, whatever is behind them, are one part up to spans, with the same behind it
  pub one_split : (y z : Tree a) → P y → P z → (c d : List Kind) → kinds_in (p y []) ++ c ≡ kinds_in (p z []) ++ d → (bare y ≡ bare z) × (c ≡ d)
  one_split y z hy hz c d same = one_split_at a p bare behind y z c d (complete y hy (as_pieces c)) (complete z hz (as_pieces d)) same

  pub begins_no_other_by : BeginsNoOther (λ y. p y []) P
  begins_no_other_by y z k more hy hz e =
      let one = (one_split z y hz hy [] (k ∷ more) (append-nil (kinds_in (p z [])) ∙ e)).1 in
      cc

  pub closed_by : IsPrefixFree (OfPieces (λ y. p y []) P)
  closed_by b c lb lc k x g =
      begins_no_other_by lb.part lc.part k x lb.is lc.is
      (sym (kinds_cells (p lc.part [])) ∙ ap kinds lc.shows ∙ g ∙ ap (λ (l : List Kind). l ++ k ∷ x) (sym (ap kinds lb.shows) ∙ kinds_cells (p lb.part [])))

module _ (a : Sym) (bare : Tree a → Tree a) (P : Tree a → Type 0) (formed : (y : Tree a) → P y → Formed a y)
    (complete : (y : Tree a) → Formed a y → read told a (at 0 (e.tokens_told (spell a y []))) ≡ Ok (bare y, at 0 []))
    (Q : List Kind → Type 0)
    (make : (ks : List Kind) → Q ks → (y : Tree a) → Formed a y → (pre rest : List Kind) (c : List (Kind × Bool)) → ks ≡ pre ++ rest → kinds_in (spell a y []) ≡ pre ++ e.firsts c → AreSpare c → P y)
    (fit : (y : Tree a) → P y → Q (kinds_in (spell a y []))) where
  abbrev shown : Tree a → List Piece
  shown y = spell a y []

  -- a part that is within the limits is read, so that no node of another above one starts in its tokens
  no_deep : (y : Tree a) → P y → exact.IsWithin (shown y) → (i : ℕ) → exact.NoDeepBefore shown P (kinds_in (shown y)) i
  no_deep y py within i = subst (λ (l : List Kind). exact.NoDeepBefore shown P l i) (kinds_of_false (kinds_in (shown y))) (go (read limited a (at 0 ts)) refl)
    where
      ts : List Tok
      ts = all_false (kinds_in (shown y))

      go : (o : Out (Tree a)) → read limited a (at 0 ts) ≡ o → exact.NoDeepBefore shown P (e.kinds_read ts) i
      go (Ok r) is = e.first_ok a bare P formed complete ts making r.0 r.1 i is
        where
          making : (z : Tree a) → Formed a z → (pre rest : List Kind) (c : List (Kind × Bool)) → e.kinds_read ts ≡ pre ++ rest → kinds_in (spell a z []) ≡ pre ++ e.firsts c → AreSpare c → P z
          making z h pre rest c split = make (kinds_in (shown y)) (fit y py) z h pre rest c (sym (kinds_of_false (kinds_in (shown y))) ∙ split)
      go (Err d) is =
          absurd (e.no_part a bare P formed complete ts making d is y (kinds_in (shown y)) [] (kinds_of_false (kinds_in (shown y)) ∙ sym (append-nil (kinds_in (shown y)))) py within refl tt)
        where
          making : (z : Tree a) → Formed a z → (pre rest : List Kind) (c : List (Kind × Bool)) → e.kinds_read ts ≡ pre ++ rest → kinds_in (spell a z []) ≡ pre ++ e.firsts c → AreSpare c → P z
          making z h pre rest c split = make (kinds_in (shown y)) (fit y py) z h pre rest c (sym (kinds_of_false (kinds_in (shown y))) ∙ split)

  pub agree_by : AgreesOnDepth shown P
  agree_by y z py pz within pre k more e s = no_deep y py within (suc (length pre)) pre k more e (omega arith) z pz s

  pub even_by : IsEven (OfPieces shown P)
  even_by b c lb lc within p k x g s =
      agree_by lb.part lc.part lb.is lc.is (within_cells (shown lb.part) (subst (λ (l : List (Kind × Bool)). IsWithinLimits l) (sym lb.shows) within)) p k x
      (sym (kinds_cells (shown lb.part)) ∙ ap kinds lb.shows ∙ g) (deep_to (shown lc.part) p k (subst (λ (l : List (Kind × Bool)). StartsDeep l p k) (sym lc.shows) s))

module _ (v : Bool) where
  abbrev pub Types : List (Kind × Bool) → Type 0
  Types = OfPieces whole_type (IsWholeType v)

  abbrev pub Messages : List (Kind × Bool) → Type 0
  Messages = OfPieces whole_message (IsWholeMessage v)

  abbrev pub Decls : List (Kind × Bool) → Type 0
  Decls = OfPieces whole_decl (IsWholeDecl v)

  pub types_closed : IsPrefixFree Types
  types_closed = closed_by (ty v 1) (λ y r. ty_pieces 1 y r) bare_ty (IsWholeType v) (λ y r. ty_behind 1 y r) (λ y h r. ty_c any (λ d. false) any_fits y v 1 r h.0)

  pub messages_closed : IsPrefixFree Messages
  messages_closed = closed_by (msg v false 1) (λ y r. msg_pieces 1 y r) bare_msg (IsWholeMessage v) (λ y r. msg_behind 1 y r) (λ y h r. msg_c any (λ d. false) any_fits y v false 1 r h.0)

  pub declarations_closed : IsPrefixFree Decls
  declarations_closed = closed_by (decl v) (λ y r. decl_pieces y r) bare_decl (IsWholeDecl v) (λ y r. decl_behind y r) (λ y h r. decl_c any (λ d. false) any_fits y v r h.0)

  pub types_begin_no_other : BeginsNoOther whole_type (IsWholeType v)
  types_begin_no_other = begins_no_other_by (ty v 1) (λ y r. ty_pieces 1 y r) bare_ty (IsWholeType v) (λ y r. ty_behind 1 y r) (λ y h r. ty_c any (λ d. false) any_fits y v 1 r h.0)

  pub messages_begin_no_other : BeginsNoOther whole_message (IsWholeMessage v)
  messages_begin_no_other = begins_no_other_by (msg v false 1) (λ y r. msg_pieces 1 y r) bare_msg (IsWholeMessage v) (λ y r. msg_behind 1 y r) (λ y h r. msg_c any (λ d. false) any_fits y v false 1 r h.0)

  pub declarations_begin_no_other : BeginsNoOther whole_decl (IsWholeDecl v)
  declarations_begin_no_other = begins_no_other_by (decl v) (λ y r. decl_pieces y r) bare_decl (IsWholeDecl v) (λ y r. decl_behind y r) (λ y h r. decl_c any (λ d. false) any_fits y v r h.0)

  pub types_agree : AgreesOnDepth whole_type (IsWholeType v)
  types_agree = agree_by (ty v 1) bare_ty (IsWholeType v) (λ y h. h.0) (λ y h. ty_c told (λ d. d) told_fits y v 1 [] h) (AreWordsFit v)
      (λ ks fit y h pre rest c split is spare. (h, made_fit v ks pre rest c (kinds_in (whole_type y)) fit split is spare)) (λ y h. h.1)

  pub messages_agree : AgreesOnDepth whole_message (IsWholeMessage v)
  messages_agree = agree_by (msg v false 1) bare_msg (IsWholeMessage v) (λ y h. h.0) (λ y h. msg_c told (λ d. d) told_fits y v false 1 [] h) (AreWordsFit v)
      (λ ks fit y h pre rest c split is spare. (h, made_fit v ks pre rest c (kinds_in (whole_message y)) fit split is spare)) (λ y h. h.1)

  pub declarations_agree : AgreesOnDepth whole_decl (IsWholeDecl v)
  declarations_agree = agree_by (decl v) bare_decl (IsWholeDecl v) (λ y h. h.0) (λ y h. decl_c told (λ d. d) told_fits y v [] h) (AreWordsFit v)
      (λ ks fit y h pre rest c split is spare. (h, made_fit v ks pre rest c (kinds_in (whole_decl y)) fit split is spare)) (λ y h. h.1)

  pub types_even : IsEven Types
  types_even = even_by (ty v 1) bare_ty (IsWholeType v) (λ y h. h.0) (λ y h. ty_c told (λ d. d) told_fits y v 1 [] h) (AreWordsFit v)
      (λ ks fit y h pre rest c split is spare. (h, made_fit v ks pre rest c (kinds_in (whole_type y)) fit split is spare)) (λ y h. h.1)

  pub messages_even : IsEven Messages
  messages_even = even_by (msg v false 1) bare_msg (IsWholeMessage v) (λ y h. h.0) (λ y h. msg_c told (λ d. d) told_fits y v false 1 [] h) (AreWordsFit v)
      (λ ks fit y h pre rest c split is spare. (h, made_fit v ks pre rest c (kinds_in (whole_message y)) fit split is spare)) (λ y h. h.1)

  pub declarations_even : IsEven Decls
  declarations_even = even_by (decl v) bare_decl (IsWholeDecl v) (λ y h. h.0) (λ y h. decl_c told (λ d. d) told_fits y v [] h) (AreWordsFit v)
      (λ ks fit y h pre rest c split is spare. (h, made_fit v ks pre rest c (kinds_in (whole_decl y)) fit split is spare)) (λ y h. h.1)

  pub types_live : IsLive Types
  types_live = (cells (whole_type (t.un nowhere)), of_piece whole_type (IsWholeType v) (t.un nowhere) (tt, (tt, tt)))

  -- a text is cut in one way into a part and what is behind it
  pub types_split : IsCutOnce bare_ty whole_type (IsWholeType v)
  types_split y z c d hy hz same = one_split (ty v 1) (λ y r. ty_pieces 1 y r) bare_ty (IsWholeType v) (λ y r. ty_behind 1 y r) (λ y h r. ty_c any (λ d. false) any_fits y v 1 r h.0) y z hy hz c d same

  pub messages_split : IsCutOnce bare_msg whole_message (IsWholeMessage v)
  messages_split y z c d hy hz same = one_split (msg v false 1) (λ y r. msg_pieces 1 y r) bare_msg (IsWholeMessage v) (λ y r. msg_behind 1 y r) (λ y h r. msg_c any (λ d. false) any_fits y v false 1 r h.0) y z hy hz c d same

  pub declarations_split : IsCutOnce bare_decl whole_decl (IsWholeDecl v)
  declarations_split y z c d hy hz same = one_split (decl v) (λ y r. decl_pieces y r) bare_decl (IsWholeDecl v) (λ y r. decl_behind y r) (λ y h r. decl_c any (λ d. false) any_fits y v r h.0) y z hy hz c d same

  pub messages_live : IsLive Messages
  messages_live = (cells (whole_message (t.unit nowhere)), of_piece whole_message (IsWholeMessage v) (t.unit nowhere) (tt, (tt, (tt, tt))))
