-- Edits as rows, each told by its first token, and a process in front of its right brace.
use Rattle.std.proofs.Common.{◌≡◌, ℕ, ◌+◌, ◌≤◌, Bool, false, List, [], ◌∷◌, ◌++◌, length, drop, Ok, Err, refl, sym, ap, subst, ◌∙◌, ◌⊎◌, inl, inr, arith}
use Rattle.spi_lex.specs.declared.token.Kind.{Kind}
use Rattle.spi_lex.specs.declared.token.Kind.TheVariants as K
use Rattle.spi_lex.specs.declared.token.Mark.{Mark}
use Rattle.spi_lex.specs.declared.token.Mark.TheVariants as mark
use Rattle.spi_lex.specs.declared.token.Token.{Token}
use Rattle.spi_lex.specs.Lexing.{kinds_of}
use Rattle.spi_text.specs.declared.lines.Span.{Span}
use Rattle.spi_tree.specs.declared.tree.SWord.{SWord}
use Rattle.spi_tree.specs.Trees as t
use Rattle.spi_tree.specs.Pieces.{Piece, cells, kinds_in, a_mark, a_word, at_level}
use Rattle.spi_tree.specs.Formed.{AreWordsFit}
use Rattle.spi_parse.specs.declared.fault.ParseFault.{ParseFault}
use Rattle.spi_parse.specs.declared.fault.ParseFault.TheVariants as faults
use Rattle.spi_parse.specs.Exact as exact
use Rattle.spi_parse.specs.Formed.{whole_process, IsWholeProcess}
use Rattle.spi_grammar.specs.Exactly.{kinds, IsGoodKind, IsEnd, One}
use Rattle.spi_grammar.proofs.Answers.{first_refuses, second_refuses, one_good}
use Rattle.spi_grammar.proofs.Good.{IsSome}
use Rattle.spi_parts.proofs.Behind.{proc_behind}
use Rattle.spi_parts.proofs.Bridge.{kinds_cells, OfPieces, of_piece, part_from}
use Rattle.spi_parts.proofs.Processes.{Processes, IsBraceClose, processes_apart, processes_even}
use Rattle.spi_heading.specs.Taking.{IsThere, TakesOneToken}
use Rattle.spi_heading.specs.Repeated.{IsSolid}
use Rattle.spi_heading.proofs.Standing.{AreTokensOf, proc_solid, stands_both, stands_kinds, stands_length, behind_part}
use Rattle.spi_heading.proofs.Failing.{FailsAt, memory, fault, tells_at, ReadAt, IsToldBy, fails_to}
use Rattle.spi_heading.proofs.Symbols.{HeadingSym, token, name, braced, closing, the_mark, the_word, put, drop_, SymbolItem}
use Rattle.spi_heading.proofs.Versions.{Cells}
use Rattle.spi_heading.proofs.Rows.{Values, Row, row_into, row_behind, ItemAt}
use Rattle.spi_heading.proofs.Calls.{part_stands, took}
use Rattle.spi_heading.proofs.Nodes.{node_row, node_told}
use Rattle.spi_heading.proofs.RowParts.{AreRows}
use Rattle.spi_heading.proofs.Told.{FormOf, forms_good}
use Rattle.spi_heading.proofs.Wholes.{none_fail}
use Rattle.spi_edits.specs.Edits.{Edit, puts, drops}
use Rattle.spi_edits.specs.Grammar.{put_word, drop_word, edit_pieces, whole_edit, IsWholeEdit}

-- a name and the mark behind it
abbrev pub marked_row : Mark → List HeadingSym
marked_row m = name ∷ token (the_mark m) ∷ []

abbrev marked_part : Mark → SWord → List Piece
marked_part m w = a_word false w (a_mark m [])

pub marked_are : (v : Bool) (m : Mark) → AreRows v (marked_part m) (λ w. AreWordsFit v (kinds_in (marked_part m w))) (marked_row m) (λ w. (w, (tt, tt)))
marked_are v m = record {
  part = λ xs. xs.0;
  values_of = λ xs. refl;
  formed = λ xs are fit. fit;
  are = λ w is. (tt, (tt, tt));
  fit = λ w is. is;
  pieces_of = λ w. refl;
  known = λ w are fit. fit;
  solid = λ w. tt;
}

abbrev pub put_tail : List HeadingSym
put_tail = braced ∷ closing ∷ []

abbrev pub put_rest : List HeadingSym
put_rest = name ∷ token (the_mark mark.BraceOpen) ∷ put_tail

abbrev pub put_row : List HeadingSym
put_row = node_row (the_word put) put_rest

abbrev pub drop_rest : List HeadingSym
drop_rest = name ∷ token (the_mark mark.Semicolon) ∷ closing ∷ []

abbrev pub drop_row : List HeadingSym
drop_row = node_row (the_word drop_) drop_rest

abbrev pub put_values : Span → SWord → t.Proc → Values put_row
put_values s w p = (s.from, (tt, (w, (tt, (p, (s.to, tt))))))

abbrev pub drop_values : Span → SWord → Values drop_row
drop_values s w = (s.from, (tt, (w, (tt, (s.to, tt)))))

pub edit_behind : (e : Edit) (r : List Piece) → edit_pieces e r ≡ edit_pieces e [] ++ r
edit_behind (puts s w p) r = row_behind put_row (put_values s w p) r
edit_behind (drops s w) r = row_behind drop_row (drop_values s w) r

pub edit_solid : (e : Edit) (r : List Piece) → IsSolid (edit_pieces e r)
edit_solid (puts s w p) r = tt
edit_solid (drops s w) r = tt

-- ---- the kind of edits

module _ (v : Bool) where
  abbrev pub Edits : Cells → Type 0
  Edits = OfPieces whole_edit (IsWholeEdit v)

  put_is : (s : Span) (w : SWord) (p : t.Proc) → IsWholeEdit v (puts s w p) → Row v put_row (cells (whole_edit (puts s w p)))
  put_is s w p is = row_into v put_row (put_values s w p) (tt, (tt, (tt, (tt, (is.0, (tt, tt)))))) is.1

  drop_is : (s : Span) (w : SWord) → IsWholeEdit v (drops s w) → Row v drop_row (cells (whole_edit (drops s w)))
  drop_is s w is = row_into v drop_row (drop_values s w) (tt, (tt, (tt, (tt, (tt, tt))))) is.1

  pub put_told : IsToldBy put_word (Row v put_row) Edits
  put_told = node_told v whole_edit (IsWholeEdit v) (the_word put) put_rest (λ x. puts (record { from = x.0; to = x.1.1.1.1.1.0 }) x.1.1.0 x.1.1.1.1.0) (λ x are fit. (are.1.1.1.1.0, fit)) (λ x. refl) either
    where
      either : (e : Edit) → IsWholeEdit v e → Row v put_row (cells (whole_edit e)) ⊎ ((y : List Kind) → kinds (cells (whole_edit e)) ≡ put_word ∷ y → ⊥)
      either (puts s w p) is = inl (put_is s w p is)
      either (drops s w) is = inr (λ y g. cc)

  pub drop_told : IsToldBy drop_word (Row v drop_row) Edits
  drop_told = node_told v whole_edit (IsWholeEdit v) (the_word drop_) drop_rest (λ x. drops (record { from = x.0; to = x.1.1.1.1.0 }) x.1.1.0) (λ x are fit. (tt, fit)) (λ x. refl) either
    where
      either : (e : Edit) → IsWholeEdit v e → Row v drop_row (cells (whole_edit e)) ⊎ ((y : List Kind) → kinds (cells (whole_edit e)) ≡ drop_word ∷ y → ⊥)
      either (puts s w p) is = inr (λ y g. cc)
      either (drops s w) is = inl (drop_is s w is)

  edit_form : (a : Cells) → Edits a → FormOf v Edits a
  edit_form a p = go p.part p.is p.shows
    where
      go : (e : Edit) → IsWholeEdit v e → cells (whole_edit e) ≡ a → FormOf v Edits a
      go (puts s w p) is e = record { first = put_word; row = put_row; told = put_told; is = subst (Row v put_row) e (put_is s w p is); begins = (_, ap kinds (sym e)) }
      go (drops s w) is e = record { first = drop_word; row = drop_row; told = drop_told; is = subst (Row v drop_row) e (drop_is s w is); begins = (_, ap kinds (sym e)) }

  pub edits_good : IsGoodKind Edits
  edits_good = forms_good v Edits edit_form (let r = put_told.starts in (r.0, put_told.into r.0 r.1))

  -- what an edit begins with
  pub edits_begin : (a : Cells) → Edits a → (k : Kind) (x : List Kind) → kinds a ≡ k ∷ x → (k ≡ put_word) ⊎ (k ≡ drop_word)
  edits_begin a p k x e = go p.part (ap kinds p.shows ∙ e)
    where
      go : (c : Edit) → kinds (cells (whole_edit c)) ≡ k ∷ x → (k ≡ put_word) ⊎ (k ≡ drop_word)
      go (puts s w q) g = inl (let j : k ≡ put_word = cc in j)
      go (drops s w) g = inr (let j : k ≡ drop_word = cc in j)

  pub edits_some : IsSome Edits
  edits_some a p e = go p.part (ap kinds p.shows ∙ e)
    where
      go : (c : Edit) → kinds (cells (whole_edit c)) ≡ [] → ⊥
      go (puts s w q) g = cc
      go (drops s w) g = cc

  -- ---- a process in front of its right brace

  module _ (ts : List Token) (i : ℕ) where
    abbrev ProcessAt : t.Proc → ℕ → Type 0
    ProcessAt p j = (n : ℕ) × (j ≡ i + n) × exact.IsPartAt whole_process (IsWholeProcess v) p (drop i ts) n

    pub process_fails : (f : ParseFault) → FailsAt (Processes v) ts i f → FailsAt (SymbolItem v braced) ts i f
    process_fails f (memory e) = memory e
    process_fails f (fault d n t r) = fault d n t (first_refuses (Processes v) (One IsBraceClose) (processes_apart v) (one_good IsBraceClose (K.Mark mark.BraceClose) refl).live d (kinds_of (drop i ts)) n r)

    process_stands : (p : t.Proc) (j : ℕ) → i ≤ length ts → ProcessAt p j → AreTokensOf ts i (whole_process p) j
    process_stands p j w r = subst (λ (k : ℕ). AreTokensOf ts i (whole_process p) k) (sym r.1) (part_stands whole_process (IsWholeProcess v) p ts i r.0 w (proc_solid p 0 []).0 r.2)

    process_read : (p : t.Proc) (j : ℕ) → i ≤ length ts → ProcessAt p j → ReadAt (Processes v) ts i j
    process_read p j w r =
        let ps = whole_process p in
        let stands = process_stands p j w r in
        let b = part_from whole_process (IsWholeProcess v) p (drop i ts) r.0 r.2 in
        let rest : drop j ts ≡ r.2.rest = ap (λ (n : ℕ). drop n ts) r.1 ∙ behind_part ts i r.0 r.2.pre r.2.rest r.2.split r.2.place in
        record {
          cells = cells ps;
          reads = record {
            is = of_piece whole_process (IsWholeProcess v) p r.2.part;
            clean = b.0;
            split = stands_kinds ts ps i j stands ∙ ap (λ (l : List Kind). l ++ kinds_of (drop j ts)) (sym (kinds_cells ps));
            ends = subst (λ (l : List Token). IsEnd (Processes v) (kinds (cells ps)) (kinds_of l)) (sym rest) b.1;
          };
          place = stands_length ts ps i j stands ∙ ap (λ (l : List Kind). i + length l) (sym (kinds_cells ps));
        }

    pub brace_fails : (p : t.Proc) (j : ℕ) → i ≤ length ts → ProcessAt p j → (f : ParseFault) → FailsAt (One IsBraceClose) ts j f → FailsAt (SymbolItem v braced) ts i f
    brace_fails p j w r f (memory e) = memory e
    brace_fails p j w r f (fault d n t g) =
        let h = process_read p j w r in
        let place = h.place in
        fault d (length (kinds h.cells) + n) (tells_at f d (j + n) (i + (length (kinds h.cells) + n)) (omega arith) t)
        (second_refuses (Processes v) (One IsBraceClose) (processes_apart v) (processes_even v) (kinds_of (drop i ts)) h.cells (kinds_of (drop j ts)) h.reads d n g)

    pub braced_read : (p : t.Proc) (j k : ℕ) → i ≤ length ts → ProcessAt p j → TakesOneToken (K.Mark mark.BraceClose) (Ok k) ts j → ItemAt v ts i braced p k
    braced_read p j k w r h = record {
      is = r.2.part.0;
      stands = subst (λ (l : List Piece). AreTokensOf ts i l k) (sym (proc_behind (at_level 0) p (a_mark mark.BraceClose [])))
          (stands_both ts (whole_process p) (a_mark mark.BraceClose []) i j k (process_stands p j w r) (took v ts j k (the_mark mark.BraceClose) h).stands);
    }

    -- ---- where none begins

    pub no_edit : {V : Type 0} (view : V → Edit) → (IsThere ts i put_word → ⊥) → (IsThere ts i drop_word → ⊥) → exact.Reads view whole_edit (IsWholeEdit v) (Err (faults.Syntax i)) ts i
    no_edit view no_put no_drop = fails_to view whole_edit (IsWholeEdit v) ts i (faults.Syntax i) (none_fail Edits edits_good.live edits_some ts i (λ a p k x e there. none k there (edits_begin a p k x e)))
      where
        none : (k : Kind) → IsThere ts i k → (k ≡ put_word) ⊎ (k ≡ drop_word) → ⊥
        none k there (inl e) = no_put (there.0, there.1, there.2 ∙ e)
        none k there (inr e) = no_drop (there.0, there.1, there.2 ∙ e)
