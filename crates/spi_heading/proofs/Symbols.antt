-- What a row of the grammar is made of: a token that is asked for, a word, a message, a type, a process with the brace behind
-- it, and where a node begins and ends.
use Rattle.std.proofs.Common.{◌≡◌, ℕ, Bool, true, false, List, [], ◌∷◌, ◌++◌, codes, refl, sym, ap, subst, ◌∙◌, lit≤}
use Rattle.spi_lex.specs.declared.token.Kind.{Kind}
use Rattle.spi_lex.specs.declared.token.Kind.TheVariants as K
use Rattle.spi_lex.specs.declared.token.Reserved.{Reserved}
use Rattle.spi_lex.specs.declared.token.Mark.{Mark}
use Rattle.spi_lex.specs.declared.token.Mark.TheVariants as mark
use Rattle.spi_lex.proofs.Writing.{letters_identifier}
use Rattle.spi_tree.specs.declared.tree.SWord.{SWord}
use Rattle.spi_tree.specs.Trees as t
use Rattle.spi_tree.specs.Pieces.{Piece, opens, cell, closes, cells, kinds_in, at_level, a_token, a_word, a_mark, msg_pieces, ty_pieces, proc_pieces}
use Rattle.spi_tree.specs.Formed.{IsWordFit, AreWordsFit, IsMsg, IsTy, IsProc}
use Rattle.spi_parse.specs.Formed.{whole_type, whole_message, whole_process, IsWholeType, IsWholeMessage, IsWholeProcess}
use Rattle.spi_parse.proofs.Words.{fit_any, fits_append, fits_front}
use Rattle.spi_grammar.specs.Exactly.{kinds, IsPrefixFree, IsEven, IsGoodKind, Then, Nothing, One}
use Rattle.spi_grammar.proofs.Answers.{one_good}
use Rattle.spi_parts.proofs.Bridge.{of_piece}
use Rattle.spi_parts.proofs.Behind.{msg_behind, ty_behind, proc_behind}
use Rattle.spi_parts.proofs.Alone.{Types, types_closed, types_even, types_live, Messages, messages_closed, messages_even, messages_live, kinds_in_append}
use Rattle.spi_parts.proofs.Processes.{Processes, IsBraceClose, braced_good}
use Rattle.spi_tree.specs.Trees.{nowhere}

pub cells_append : (a b : List Piece) → cells (a ++ b) ≡ cells a ++ cells b
cells_append [] b = refl
cells_append (opens from ∷ a) b = cells_append a b
cells_append (cell k deep ∷ a) b = ap (λ (l : List (Kind × Bool)). (k, deep) ∷ l) (cells_append a b)
cells_append (closes to ∷ a) b = cells_append a b

-- ---- the tokens that are asked for

-- the words that are asked for by their spelling
pub data SymbolAsked : Type 0 where
  shared : SymbolAsked
  roles : SymbolAsked
  to : SymbolAsked
  on : SymbolAsked
  as_ : SymbolAsked
  put : SymbolAsked
  drop_ : SymbolAsked
  version : SymbolAsked

abbrev pub spelling_asked : SymbolAsked → List ℕ
spelling_asked shared = codes "shared"
spelling_asked roles = codes "roles"
spelling_asked to = codes "to"
spelling_asked on = codes "on"
spelling_asked as_ = codes "as"
spelling_asked put = codes "put"
spelling_asked drop_ = codes "drop"
spelling_asked version = codes "version"

pub asked_fits : (v : Bool) (a : SymbolAsked) → IsWordFit v (K.Word (spelling_asked a))
asked_fits v shared = fit_any v (K.Word (codes "shared")) (letters_identifier (codes "shared") refl (lit≤ tt), lit≤ tt, refl)
asked_fits v roles = fit_any v (K.Word (codes "roles")) (letters_identifier (codes "roles") refl (lit≤ tt), lit≤ tt, refl)
asked_fits v to = fit_any v (K.Word (codes "to")) (letters_identifier (codes "to") refl (lit≤ tt), lit≤ tt, refl)
asked_fits v on = fit_any v (K.Word (codes "on")) (letters_identifier (codes "on") refl (lit≤ tt), lit≤ tt, refl)
asked_fits v as_ = fit_any v (K.Word (codes "as")) (letters_identifier (codes "as") refl (lit≤ tt), lit≤ tt, refl)
asked_fits v put = fit_any v (K.Word (codes "put")) (letters_identifier (codes "put") refl (lit≤ tt), lit≤ tt, refl)
asked_fits v drop_ = fit_any v (K.Word (codes "drop")) (letters_identifier (codes "drop") refl (lit≤ tt), lit≤ tt, refl)
asked_fits v version = fit_any v (K.Word (codes "version")) (letters_identifier (codes "version") refl (lit≤ tt), lit≤ tt, refl)

pub data HeadingTok : Type 0 where
  the_mark : Mark → HeadingTok
  the_reserved : Reserved → HeadingTok
  the_word : SymbolAsked → HeadingTok
  the_two : HeadingTok

abbrev pub kind_of_token : HeadingTok → Kind
kind_of_token (the_mark m) = K.Mark m
kind_of_token (the_reserved w) = K.Reserved w
kind_of_token (the_word a) = K.Word (spelling_asked a)
kind_of_token the_two = K.Number 2

pub tok_fits : (v : Bool) (x : HeadingTok) → IsWordFit v (kind_of_token x)
tok_fits v (the_mark m) = tt
tok_fits v (the_reserved w) = tt
tok_fits v (the_word a) = asked_fits v a
tok_fits v the_two = tt

-- a word of the version
abbrev pub IsNameKind : Bool → Kind → Type 0
IsNameKind v (K.Word name) = IsWordFit v (K.Word name)
IsNameKind v (K.Reserved w) = ⊥
IsNameKind v (K.Number n) = ⊥
IsNameKind v (K.Mark m) = ⊥

pub name_token : (v : Bool) (k : Kind) → IsNameKind v k → (name : List ℕ) × (k ≡ K.Word name) × IsWordFit v k
name_token v (K.Word name) h = (name, refl, h)
name_token v (K.Reserved w) h = absurd h
name_token v (K.Number n) h = absurd h
name_token v (K.Mark m) h = absurd h

-- ---- the symbols

pub data HeadingSym : Type 0 where
  token : HeadingTok → HeadingSym
  name : HeadingSym
  message : HeadingSym
  ty : HeadingSym
  braced : HeadingSym
  opening : HeadingSym
  closing : HeadingSym

abbrev pub Value : HeadingSym → Type 0
Value (token x) = Unit {0}
Value name = SWord
Value message = t.Msg
Value ty = t.Ty
Value braced = t.Proc
Value opening = ℕ
Value closing = ℕ

abbrev pub item_pieces : (s : HeadingSym) → Value s → List Piece → List Piece
item_pieces (token x) y r = a_token (kind_of_token x) r
item_pieces name w r = a_word false w r
item_pieces message m r = msg_pieces 1 m r
item_pieces ty a r = ty_pieces 1 a r
item_pieces braced p r = proc_pieces (at_level 0) p (a_mark mark.BraceClose r)
item_pieces opening n r = opens n ∷ r
item_pieces closing n r = closes n ∷ r

abbrev pub IsItem : Bool → (s : HeadingSym) → Value s → Type 0
IsItem v (token x) y = Unit {0}
IsItem v name w = Unit {0}
IsItem v message m = IsMsg v false m
IsItem v ty a = IsTy v a
IsItem v braced p = IsProc v (at_level 0) p
IsItem v opening n = Unit {0}
IsItem v closing n = Unit {0}

pub item_behind : (s : HeadingSym) (x : Value s) (r : List Piece) → item_pieces s x r ≡ item_pieces s x [] ++ r
item_behind (token x) y r = refl
item_behind name w r = refl
item_behind message m r = msg_behind 1 m r
item_behind ty a r = ty_behind 1 a r
item_behind braced p r =
    let first : proc_pieces (at_level 0) p (a_mark mark.BraceClose r) ≡ whole_process p ++ a_mark mark.BraceClose r = proc_behind (at_level 0) p (a_mark mark.BraceClose r) in
    let second : proc_pieces (at_level 0) p (a_mark mark.BraceClose []) ≡ whole_process p ++ a_mark mark.BraceClose [] = proc_behind (at_level 0) p (a_mark mark.BraceClose []) in
    first ∙ sym (ap (λ (l : List Piece). l ++ r) second ∙ regroup (whole_process p))
  where
    regroup : (l : List Piece) → (l ++ a_mark mark.BraceClose []) ++ r ≡ l ++ a_mark mark.BraceClose r
    regroup [] = refl
    regroup (q ∷ l) = ap (λ (m : List Piece). q ∷ m) (regroup l)
item_behind opening n r = refl
item_behind closing n r = refl

-- ---- their kinds

pub nothing_good : IsGoodKind (Nothing {K = Kind})
nothing_good = record { live = ([], refl); closed = closed; even = even }
  where
    closed : IsPrefixFree (Nothing {K = Kind})
    closed a b la lb k x e =
        let left : kinds b ≡ [] = ap kinds lb in
        let right : kinds a ≡ [] = ap kinds la in
        let f : [] ≡ k ∷ x = sym left ∙ e ∙ ap (λ (l : List Kind). l ++ k ∷ x) right in
        cc

    even : IsEven (Nothing {K = Kind})
    even a b la lb within p k x e s = none s.before s.after (sym lb ∙ s.parts)
      where
        none : (before after : List (Kind × Bool)) → [] ≡ before ++ (k, true) ∷ after → ⊥
        none [] after g = cc
        none (c ∷ before) after g = cc

module _ (v : Bool) where
  abbrev pub SymbolItem : HeadingSym → List (Kind × Bool) → Type 0
  SymbolItem (token x) = One (λ k. k ≡ kind_of_token x)
  SymbolItem name = One (IsNameKind v)
  SymbolItem message = Messages v
  SymbolItem ty = Types v
  SymbolItem braced = Then (Processes v) (One IsBraceClose)
  SymbolItem opening = Nothing
  SymbolItem closing = Nothing

  pub item_good : (s : HeadingSym) → IsGoodKind (SymbolItem s)
  item_good (token x) = one_good (λ k. k ≡ kind_of_token x) (kind_of_token x) refl
  item_good name = one_good (IsNameKind v) (K.Word (spelling_asked shared)) (asked_fits v shared)
  item_good message = record { live = messages_live v; closed = messages_closed v; even = messages_even v }
  item_good ty = record { live = types_live v; closed = types_closed v; even = types_even v }
  item_good braced = braced_good v
  item_good opening = nothing_good
  item_good closing = nothing_good

  braced_cells : (p : t.Proc) → cells (item_pieces braced p []) ≡ cells (whole_process p) ++ (K.Mark mark.BraceClose, false) ∷ []
  braced_cells p = ap cells (proc_behind (at_level 0) p (a_mark mark.BraceClose [])) ∙ cells_append (whole_process p) (a_mark mark.BraceClose [])

  braced_kinds : (p : t.Proc) → kinds_in (item_pieces braced p []) ≡ kinds_in (whole_process p) ++ K.Mark mark.BraceClose ∷ []
  braced_kinds p = ap kinds_in (proc_behind (at_level 0) p (a_mark mark.BraceClose [])) ∙ kinds_in_append (whole_process p) (a_mark mark.BraceClose [])

  -- the cells of a value are of the kind
  pub item_into : (s : HeadingSym) (x : Value s) → IsItem v s x → AreWordsFit v (kinds_in (item_pieces s x [])) → SymbolItem s (cells (item_pieces s x []))
  item_into (token x) y h fit = record { token = kind_of_token x; is = refl; cells = refl }
  item_into name w h fit = record { token = K.Word w.word; is = fit.0; cells = refl }
  item_into message m h fit = of_piece whole_message (IsWholeMessage v) m (h, fit)
  item_into ty a h fit = of_piece whole_type (IsWholeType v) a (h, fit)
  item_into braced p h fit = record {
    left = cells (whole_process p);
    right = (K.Mark mark.BraceClose, false) ∷ [];
    one = of_piece whole_process (IsWholeProcess v) p (h, fits_front v (kinds_in (whole_process p)) (K.Mark mark.BraceClose ∷ []) (subst (AreWordsFit v) (braced_kinds p) fit));
    two = record { token = K.Mark mark.BraceClose; is = refl; cells = refl };
    cells = braced_cells p;
  }
  item_into opening n h fit = refl
  item_into closing n h fit = refl

  -- and those of the kind are of a value
  pub record FromItem (s : HeadingSym) (cs : List (Kind × Bool)) : Type 0 where
    pub value : Value s
    pub is : IsItem v s value
    pub fit : AreWordsFit v (kinds_in (item_pieces s value []))
    pub shows : cells (item_pieces s value []) ≡ cs

  pub item_from : (s : HeadingSym) (cs : List (Kind × Bool)) → SymbolItem s cs → FromItem s cs
  item_from (token x) cs h = record { value = tt; is = tt; fit = (tok_fits v x, tt); shows = sym (h.cells ∙ ap (λ (k : Kind). (k, false) ∷ []) h.is) }
  item_from name cs h =
      let n = name_token v h.token h.is in
      record { value = record { word = n.0; span = nowhere }; is = tt; fit = (subst (IsWordFit v) n.1 n.2, tt); shows = sym (h.cells ∙ ap (λ (k : Kind). (k, false) ∷ []) n.1) }
  item_from message cs h = record { value = h.part; is = h.is.0; fit = h.is.1; shows = h.shows }
  item_from ty cs h = record { value = h.part; is = h.is.0; fit = h.is.1; shows = h.shows }
  item_from braced cs h =
      let p = h.one.part in
      let last : h.right ≡ (K.Mark mark.BraceClose, false) ∷ [] = h.two.cells ∙ ap (λ (k : Kind). (k, false) ∷ []) h.two.is in
      record {
        value = p;
        is = h.one.is.0;
        fit = subst (AreWordsFit v) (sym (braced_kinds p)) (fits_append v (kinds_in (whole_process p)) (K.Mark mark.BraceClose ∷ []) h.one.is.1 (tt, tt));
        shows = braced_cells p ∙ ap (λ (l : List (Kind × Bool)). l ++ (K.Mark mark.BraceClose, false) ∷ []) h.one.shows ∙ ap (λ (l : List (Kind × Bool)). h.left ++ l) (sym last) ∙ sym h.cells;
      }
  item_from opening cs h = record { value = 0; is = tt; fit = tt; shows = sym h }
  item_from closing cs h = record { value = 0; is = tt; fit = tt; shows = sym h }
