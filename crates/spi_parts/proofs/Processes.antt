-- A process in front of a right brace. A process may go on, but with no such token.
use Rattle.std.proofs.Common.{◌≡◌, Bool, false, List, [], ◌∷◌, ◌++◌, Ok, refl, sym, ap, subst, ◌∙◌, append-nil}
use Rattle.spi_lex.specs.declared.token.Kind.{Kind}
use Rattle.spi_lex.specs.declared.token.Kind.TheVariants as K
use Rattle.spi_lex.specs.declared.token.Mark.TheVariants as mark
use Rattle.spi_tree.specs.Trees as t
use Rattle.spi_tree.specs.Pieces.{Piece, cells, kinds_in, proc_pieces, at_level, a_mark}
use Rattle.spi_tree.specs.Formed.{AreWordsFit}
use Rattle.spi_parse.specs.Table.{sproc}
use Rattle.spi_parse.specs.Reading.{any, told, read}
use Rattle.spi_parse.specs.Bare.{bare_proc}
use Rattle.spi_parse.specs.Formed.{whole_process, IsWholeProcess}
use Rattle.spi_parse.proofs.Readers.{at, read_is_step}
use Rattle.spi_parse.proofs.Complete.{flat_pieces, any_fits, told_fits, proc_c, OutEnds, ParEnds, out_ends_nil, par_ends_nil}
use Rattle.spi_parse.proofs.Words.{made_fit}
use Rattle.spi_grammar.specs.Exactly.{kinds, Apart, IsEven, IsLive, Then, One, IsGoodKind}
use Rattle.spi_grammar.proofs.Answers.{one_good}
use Rattle.spi_grammar.proofs.Good.{IsSome, good_apart}
use Rattle.spi_parse.specs.Exact.{ItemEnds}
use Rattle.spi_grammar.proofs.Cuts.{Cut, same, behind, before, cut}
use Rattle.spi_parts.specs.Determined.{IsCutOnceAtEnds, AgreesOnDepth}
use Rattle.spi_parts.proofs.Bridge.{kinds_cells, OfPieces, of_piece}
use Rattle.spi_parts.proofs.Behind.{proc_behind}
use Rattle.spi_parse.proofs.Unique.{same_bare}
use Rattle.spi_parts.proofs.Alone.{even_by, agree_by, one_split_at, as_pieces}
use Rattle.spi_tree.specs.Trees.{nowhere}

abbrev pub IsBraceClose : Kind → Type 0
IsBraceClose k = k ≡ K.Mark mark.BraceClose

out_ends_brace : (r : List Piece) → OutEnds any (λ d. false) any_fits (flat_pieces (λ d. false) (a_mark mark.BraceClose r))
out_ends_brace r = record { by = λ v n. rw read_is_step refl }

par_ends_brace : (r : List Piece) → ParEnds any (λ d. false) any_fits (flat_pieces (λ d. false) (a_mark mark.BraceClose r))
par_ends_brace r = record { by = λ v n. rw read_is_step refl }

module _ (v : Bool) where
  abbrev pub Processes : List (Kind × Bool) → Type 0
  Processes = OfPieces whole_process (IsWholeProcess v)

  pub processes_apart : Apart Processes (One IsBraceClose)
  processes_apart a b c la lb mc k x y p q =
      let brace : k ≡ K.Mark mark.BraceClose = (let f : mc.token ∷ [] ≡ k ∷ y = sym (ap kinds mc.cells) ∙ q in let j : mc.token ≡ k = cc in sym j ∙ mc.is) in
      let e : kinds_in (whole_process lb.part) ++ [] ≡ kinds_in (whole_process la.part) ++ K.Mark mark.BraceClose ∷ x =
      append-nil (kinds_in (whole_process lb.part)) ∙ sym (kinds_cells (whole_process lb.part)) ∙ ap kinds lb.shows ∙ p ∙ ap (λ (l : List Kind). l ++ k ∷ x) (sym (ap kinds la.shows) ∙ kinds_cells (whole_process la.part)) ∙ ap (λ (z : Kind). kinds_in (whole_process la.part) ++ z ∷ x) brace in
      let one = (one_split_at (sproc v 0) (λ y r. proc_pieces (at_level 0) y r) bare_proc (λ y r. proc_behind (at_level 0) y r) lb.part la.part [] (K.Mark mark.BraceClose ∷ x)
      ((proc_c any (λ d. false) any_fits lb.part).1 v 0 [] lb.is.0 (out_ends_nil any (λ d. false) any_fits) (par_ends_nil any (λ d. false) any_fits))
      ((proc_c any (λ d. false) any_fits la.part).1 v 0 (a_mark mark.BraceClose (as_pieces x)) la.is.0 (out_ends_brace (as_pieces x)) (par_ends_brace (as_pieces x))) e).1 in
      cc

  pub processes_even : IsEven Processes
  processes_even = even_by (sproc v 0) bare_proc (IsWholeProcess v) (λ y h. h.0) (λ y h. (proc_c told (λ d. d) told_fits y).1 v 0 [] h (out_ends_nil told (λ d. d) told_fits) (par_ends_nil told (λ d. d) told_fits)) (AreWordsFit v)
      (λ ks fit y h pre rest c split is spare. (h, made_fit v ks pre rest c (kinds_in (whole_process y)) fit split is spare)) (λ y h. h.1)

  pub processes_agree : AgreesOnDepth whole_process (IsWholeProcess v)
  processes_agree = agree_by (sproc v 0) bare_proc (IsWholeProcess v) (λ y h. h.0) (λ y h. (proc_c told (λ d. d) told_fits y).1 v 0 [] h (out_ends_nil told (λ d. d) told_fits) (par_ends_nil told (λ d. d) told_fits)) (AreWordsFit v)
      (λ ks fit y h pre rest c split is spare. (h, made_fit v ks pre rest c (kinds_in (whole_process y)) fit split is spare)) (λ y h. h.1)

  pub processes_split : IsCutOnceAtEnds bare_proc whole_process (IsWholeProcess v)
  processes_split y z c d hy hz e ends_y ends_z = go (cut (kinds_in (whole_process y)) c (kinds_in (whole_process z)) d e)
    where
      read_alone : (x : t.Proc) → IsWholeProcess v x → read any (sproc v 0) (at 0 (flat_pieces (λ b. false) (whole_process x))) ≡ Ok (bare_proc x, at 0 [])
      read_alone x h = (proc_c any (λ b. false) any_fits x).1 v 0 [] h.0 (out_ends_nil any (λ b. false) any_fits) (par_ends_nil any (λ b. false) any_fits)

      go : Cut (kinds_in (whole_process y)) c (kinds_in (whole_process z)) d → (bare_proc y ≡ bare_proc z) × (c ≡ d)
      go (same p q) = (same_bare (sproc v 0) whole_process bare_proc y z (read_alone y hy) (read_alone z hz) p, q)
      go (behind k x p q) = absurd (subst (λ (l : List Kind). ItemEnds whole_process (IsWholeProcess v) (kinds_in (whole_process z)) l) q ends_z y hy x p)
      go (before k x p q) = absurd (subst (λ (l : List Kind). ItemEnds whole_process (IsWholeProcess v) (kinds_in (whole_process y)) l) q ends_y z hz x p)

  pub processes_live : IsLive Processes
  processes_live = (cells (whole_process (t.stop nowhere)), of_piece whole_process (IsWholeProcess v) (t.stop nowhere) (tt, (tt, tt)))

  brace_some : IsSome (One IsBraceClose)
  brace_some a h e = let f : h.token ∷ [] ≡ [] = sym (ap kinds h.cells) ∙ e in cc

  -- a process and the right brace behind it
  pub braced_good : IsGoodKind (Then Processes (One IsBraceClose))
  braced_good = good_apart Processes (One IsBraceClose) processes_apart brace_some processes_live processes_even (one_good IsBraceClose (K.Mark mark.BraceClose) refl)
