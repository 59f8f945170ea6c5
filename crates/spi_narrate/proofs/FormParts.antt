-- The parts that forms share, as rows: `M is`, `M is (x: T` and `(x: T)`, with any mark before the name.
use Rattle.std.proofs.Common.{Bool, false, List, [], ◌∷◌, ◌++◌, refl}
use Rattle.spi_lex.specs.declared.token.Mark.{Mark}
use Rattle.spi_lex.specs.declared.token.Mark.TheVariants as mark
use Rattle.spi_lex.specs.declared.token.Reserved.TheVariants as word
use Rattle.spi_tree.specs.Trees as t
use Rattle.spi_tree.specs.Pieces.{Piece, a_mark, a_reserved, msg_pieces, named_pieces, kinds_in}
use Rattle.spi_tree.specs.Formed.{AreWordsFit, IsMsg, IsTy}
use Rattle.spi_heading.specs.Headings as h
use Rattle.spi_heading.proofs.Standing.{msg_solid}
use Rattle.spi_heading.proofs.Symbols.{HeadingSym, token, message, the_mark, the_reserved}
use Rattle.spi_heading.proofs.RowParts.{AreRows}
use Rattle.spi_heading.proofs.Names.{named_row, named_values}

abbrev pub whole_row : List HeadingSym
whole_row = message ∷ token (the_reserved word.Is) ∷ []

abbrev pub bound_row : Mark → List HeadingSym
bound_row m = whole_row ++ token (the_mark m) ∷ named_row

abbrev pub closing_row : List HeadingSym
closing_row = token (the_mark mark.ParenClose) ∷ []

abbrev pub closed_row : Mark → List HeadingSym
closed_row m = token (the_mark m) ∷ (named_row ++ closing_row)

module _ (v : Bool) where
  abbrev whole_part : t.Msg → List Piece
  whole_part x = msg_pieces 1 x (a_reserved word.Is [])

  pub whole_are : AreRows v whole_part (λ x. IsMsg v false x × AreWordsFit v (kinds_in (whole_part x))) whole_row (λ x. (x, (tt, tt)))
  whole_are = record {
    part = λ xs. xs.0;
    values_of = λ xs. refl;
    formed = λ xs are fit. (are.0, fit);
    are = λ x is. (is.0, (tt, tt));
    fit = λ x is. is.1;
    pieces_of = λ x. refl;
    known = λ x are fit. (are.0, fit);
    solid = λ x. msg_solid 1 x (a_reserved word.Is []);
  }

  module _ (m : Mark) where
    abbrev bound_part : t.Msg × h.Named → List Piece
    bound_part x = msg_pieces 1 x.0 (a_reserved word.Is (a_mark m (named_pieces x.1.name x.1.ty [])))

    pub bound_are : AreRows v bound_part (λ x. IsMsg v false x.0 × IsTy v x.1.ty × AreWordsFit v (kinds_in (bound_part x))) (bound_row m) (λ x. (x.0, (tt, (tt, named_values x.1))))
    bound_are = record {
      part = λ xs. (xs.0, record { name = xs.1.1.1.0; ty = xs.1.1.1.1.1.0 });
      values_of = λ xs. refl;
      formed = λ xs are fit. (are.0, are.1.1.1.1.1.0, fit);
      are = λ x is. (is.0, (tt, (tt, (tt, (tt, (is.1, tt))))));
      fit = λ x is. is.2;
      pieces_of = λ x. refl;
      known = λ x are fit. (are.0, are.1.1.1.1.1.0, fit);
      solid = λ x. msg_solid 1 x.0 (a_reserved word.Is (a_mark m (named_pieces x.1.name x.1.ty [])));
    }

    abbrev closed_part : h.Named → List Piece
    closed_part x = a_mark m (named_pieces x.name x.ty (a_mark mark.ParenClose []))

    pub closed_are : AreRows v closed_part (λ x. IsTy v x.ty × AreWordsFit v (kinds_in (closed_part x))) (closed_row m) (λ x. (tt, (x.name, (tt, (x.ty, (tt, tt))))))
    closed_are = record {
      part = λ xs. record { name = xs.1.0; ty = xs.1.1.1.0 };
      values_of = λ xs. refl;
      formed = λ xs are fit. (are.1.1.1.0, fit);
      are = λ x is. (tt, (tt, (tt, (is.0, (tt, tt)))));
      fit = λ x is. is.1;
      pieces_of = λ x. refl;
      known = λ x are fit. (are.1.1.1.0, fit);
      solid = λ x. tt;
    }
