-- The answers of calls as items and parts at a place, and back.
use Rattle.std.proofs.Common.{◌≡◌, ℕ, suc, ◌+◌, ◌≤◌, ◌<◌, Bool, List, [], ◌∷◌, ◌++◌, length, drop, Ok, Err, refl, sym, ap, subst, ◌∙◌, arith}
use Rattle.std.proofs.lemmas.List.{length-map}
use Rattle.spi_lex.specs.declared.token.Kind.{Kind}
use Rattle.spi_lex.specs.declared.token.Kind.TheVariants as K
use Rattle.spi_lex.specs.declared.token.Token.{Token}
use Rattle.spi_lex.specs.Lexing.{kinds_of}
use Rattle.spi_text.specs.declared.lines.Span.{Span}
use Rattle.spi_tree.specs.declared.tree.SWord.{SWord}
use Rattle.spi_tree.specs.Trees as t
use Rattle.spi_tree.specs.Pieces.{Piece, opens, cell, closes, cells, kinds_in}
use Rattle.spi_parse.specs.declared.fault.ParseFault.{ParseFault}
use Rattle.spi_parse.specs.declared.fault.ParseFault.TheVariants as faults
use Rattle.spi_parse.specs.Formed.{whole_type, whole_message, IsWholeType, IsWholeMessage}
use Rattle.spi_parse.specs.Exact as exact
use Rattle.spi_grammar.specs.Exactly.{kinds, IsPrefixFree, IsSame, IsEnd}
use Rattle.spi_grammar.proofs.Good.{end_closed}
use Rattle.spi_parts.proofs.Bridge.{kinds_cells, OfPieces, of_piece, end_to}
use Rattle.spi_heading.specs.Spans.{end_before, first_from, first_to}
use Rattle.spi_heading.specs.Taking.{IsThere, TakesOneToken, TakesWord}
use Rattle.spi_heading.specs.Repeated.{IsSolid}
use Rattle.spi_heading.proofs.Standing.{AreTokensOf, found, within_one, within_part, behind_one, behind_part, spelled, standing, solid, msg_solid, ty_solid}
use Rattle.spi_heading.proofs.Failing.{FailsAt, memory, one_fail}
use Rattle.spi_heading.proofs.Symbols.{HeadingTok, kind_of_token, IsNameKind, name_token, asked_fits, shared, spelling_asked, token, name, message, ty, SymbolItem}
use Rattle.spi_heading.proofs.Rows.{ItemAt}

-- ---- single tokens

pub took : (v : Bool) (ts : List Token) (i next : ℕ) (x : HeadingTok) → TakesOneToken (kind_of_token x) (Ok next) ts i → ItemAt v ts i (token x) tt next
took v ts i next x h =
    let f = found ts i h.0.0 h.0.1 in
    let e = h.1 in
    record { is = tt; stands = (h.0.0, f.0, f.1, h.0.2, refl, omega arith) }

pub untaken : (v : Bool) (ts : List Token) (i : ℕ) (x : HeadingTok) (f : ParseFault) → TakesOneToken (kind_of_token x) (Err f) ts i → FailsAt (SymbolItem v (token x)) ts i f
untaken v ts i x (faults.Syntax n) h = subst (λ (m : ℕ). FailsAt (SymbolItem v (token x)) ts i (faults.Syntax m)) (sym h.1)
    (one_fail (λ k. k ≡ kind_of_token x) (kind_of_token x, refl) ts i (λ k e there. h.0 (there.0, there.1, there.2 ∙ e)))
untaken v ts i x (faults.TooDeep n) h = absurd h
untaken v ts i x faults.NoMemory h = absurd h

pub took_word : (v : Bool) (ts : List Token) (i : ℕ) (r : SWord × ℕ) → TakesWord (Ok r) ts i → ItemAt v ts i name r.0 r.1
took_word v ts i r h =
    let f = found ts i h.0 h.1 in
    let e = h.4 in
    record {
      is = tt;
      stands = (within_one ts i h.0 f.0 f.1, ap first_from f.1 ∙ ap (λ (s : Span). s.from) h.3, (h.0, f.0, f.1, h.2, refl, (ap first_to f.1 ∙ ap (λ (s : Span). s.to) h.3, omega arith)));
    }

pub untaken_word : (v : Bool) (ts : List Token) (i : ℕ) (f : ParseFault) → TakesWord (Err f) ts i → FailsAt (SymbolItem v name) ts i f
untaken_word v ts i (faults.Syntax n) h = subst (λ (m : ℕ). FailsAt (SymbolItem v name) ts i (faults.Syntax m)) (sym h.1)
    (one_fail (IsNameKind v) (K.Word (spelling_asked shared), asked_fits v shared) ts i (λ k c there. let n = name_token v k c in h.0 n.0 (there.0, there.1, there.2 ∙ n.1)))
untaken_word v ts i (faults.TooDeep n) h = absurd h
untaken_word v ts i faults.NoMemory h = memory refl

-- ---- parts that are read

module _ {X : Type 0} (pieces : X → List Piece) (P : X → Type 0) (x : X) (ts : List Token) (i : ℕ) where
  pub part_stands : (n : ℕ) → i ≤ length ts → IsSolid (pieces x) → exact.IsPartAt pieces P x (drop i ts) n → AreTokensOf ts i (pieces x) (i + n)
  part_stands n w s r =
      standing ts (pieces x) i (i + n) w (within_part ts i n r.pre r.rest w r.split r.place)
      (solid (pieces x) s (drop (i + n) ts) 0 (end_before ts i) (drop i ts)
      (subst (λ (l : List Token). exact.Spells l 0 (pieces x) (drop i ts)) (sym (behind_part ts i n r.pre r.rest r.split r.place)) r.spells))

  front : (ps : List Piece) (i j : ℕ) → AreTokensOf ts i ps j → (pre : List Token) × (drop i ts ≡ pre ++ drop j ts) × (kinds_in ps ≡ kinds_of pre)
  front [] i j h = ([], ap (λ (n : ℕ). drop n ts) h, refl)
  front (opens from ∷ ps) i j h = front ps i j h.2
  front (cell k deep ∷ ps) i j h =
      let f = front ps (suc i) j h.5 in
      (h.0 ∷ f.0, h.2 ∙ ap (λ (l : List Token). h.0 ∷ l) (sym (behind_one ts i h.0 h.1 h.2) ∙ f.1), ap (λ (l : List Kind). k ∷ l) f.2 ∙ ap (λ (y : Kind). y ∷ kinds_of f.0) (sym h.3))
  front (closes to ∷ ps) i j h = front ps i j h.1

  pub part_at : (j : ℕ) → P x → IsSolid (pieces x) → IsPrefixFree (OfPieces pieces P) → AreTokensOf ts i (pieces x) j → (n : ℕ) × (j ≡ i + n) × exact.IsPartAt pieces P x (drop i ts) n
  part_at j px s no_more h =
      let f = front (pieces x) i j h in
      let cells_are : kinds (cells (pieces x)) ≡ kinds_of f.0 = kinds_cells (pieces x) ∙ f.2 in (
        length f.0,
        place (pieces x) i j h ∙ ap (λ (l : List Kind). i + length l) f.2 ∙ ap (λ (n : ℕ). i + n) (length-map f.0 (λ (k : Token). k.kind)),
        record {
          pre = f.0;
          rest = drop j ts;
          split = f.1;
          place = refl;
          part = px;
          tokens = f.2;
          spells = solid (pieces x) s (drop j ts) (end_before ts i) 0 (drop i ts) (spelled ts (pieces x) i j h);
          ends = end_to pieces P (kinds_of f.0) (kinds_of (drop j ts)) (subst (λ (l : List Kind). IsEnd (OfPieces pieces P) l (kinds_of (drop j ts))) cells_are (end_closed (OfPieces pieces P) no_more (cells (pieces x)) (of_piece pieces P x px) (kinds_of (drop j ts))));
        },
      )
    where
      place : (ps : List Piece) (i j : ℕ) → AreTokensOf ts i ps j → j ≡ i + length (kinds_in ps)
      place ps i j h = Rattle.spi_heading.proofs.Standing.stands_length ts ps i j h

pub same_closed : (L M : List (Kind × Bool) → Type 0) → IsSame L M → IsPrefixFree L → IsPrefixFree M
same_closed L M s h a b ma mb k x e = h a b (s.back a ma) (s.back b mb) k x e

module _ (v : Bool) (ts : List Token) (i : ℕ) where
  pub read_message : (m : t.Msg) (j : ℕ) → i ≤ length ts → (r : (n : ℕ) × (j ≡ i + n) × exact.IsPartAt whole_message (IsWholeMessage v) m (drop i ts) n) → ItemAt v ts i message m j
  read_message m j w r = record {
    is = r.2.part.0;
    stands = subst (λ (k : ℕ). AreTokensOf ts i (whole_message m) k) (sym r.1) (part_stands whole_message (IsWholeMessage v) m ts i r.0 w (msg_solid 1 m []) r.2);
  }

  pub read_type : (a : t.Ty) (j : ℕ) → i ≤ length ts → (r : (n : ℕ) × (j ≡ i + n) × exact.IsPartAt whole_type (IsWholeType v) a (drop i ts) n) → ItemAt v ts i ty a j
  read_type a j w r = record {
    is = r.2.part.0;
    stands = subst (λ (k : ℕ). AreTokensOf ts i (whole_type a) k) (sym r.1) (part_stands whole_type (IsWholeType v) a ts i r.0 w (ty_solid 1 a []) r.2);
  }

-- what is read ends within the text
pub part_within : {X : Type 0} (pieces : X → List Piece) (P : X → Type 0) (x : X) (ts : List Token) (i j : ℕ) → i ≤ length ts → (r : (n : ℕ) × (j ≡ i + n) × exact.IsPartAt pieces P x (drop i ts) n) → j ≤ length ts
part_within pieces P x ts i j w r = subst (λ (k : ℕ). k ≤ length ts) (sym r.1) (within_part ts i r.0 r.2.pre r.2.rest w r.2.split r.2.place)

pub type_within : (v : Bool) (ts : List Token) (i : ℕ) (a : t.Ty) (j : ℕ) → i ≤ length ts → (r : (n : ℕ) × (j ≡ i + n) × exact.IsPartAt whole_type (IsWholeType v) a (drop i ts) n) → j ≤ length ts
type_within v ts i a j w r = part_within whole_type (IsWholeType v) a ts i j w r

pub message_within : (v : Bool) (ts : List Token) (i : ℕ) (m : t.Msg) (j : ℕ) → i ≤ length ts → (r : (n : ℕ) × (j ≡ i + n) × exact.IsPartAt whole_message (IsWholeMessage v) m (drop i ts) n) → j ≤ length ts
message_within v ts i m j w r = part_within whole_message (IsWholeMessage v) m ts i j w r

-- a token that is there stands before the end
pub there_before : (ts : List Token) (i : ℕ) (k : Kind) → IsThere ts i k → i < length ts
there_before ts i k h = let f = found ts i h.0 h.1 in within_one ts i h.0 f.0 f.1

pub took_before : (ts : List Token) (i next : ℕ) (x : HeadingTok) → TakesOneToken (kind_of_token x) (Ok next) ts i → i < length ts
took_before ts i next x h = there_before ts i (kind_of_token x) h.0

pub there_within : (ts : List Token) (i : ℕ) (k : Kind) → IsThere ts i k → i + 1 ≤ length ts
there_within ts i k h = let b = there_before ts i k h in omega arith

-- what stands among tokens rises
pub rising : (ts : List Token) (ps : List Piece) (i j : ℕ) → AreTokensOf ts i ps j → i ≤ j
rising ts ps i j h = let l = Rattle.spi_heading.proofs.Standing.stands_length ts ps i j h in omega arith
