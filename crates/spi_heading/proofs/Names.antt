-- Names with their types, and shared names, as rows.
use Rattle.std.proofs.Common.{◌≡◌, Bool, List, [], ◌∷◌, ◌++◌, refl}
use Rattle.spi_lex.specs.declared.token.Kind.{Kind}
use Rattle.spi_lex.specs.declared.token.Mark.TheVariants as mark
use Rattle.spi_tree.specs.Pieces.{Piece}
use Rattle.spi_parts.proofs.Bridge.{OfPieces}
use Rattle.spi_heading.specs.Headings as h
use Rattle.spi_heading.specs.Grammar.{shared_pieces, whole_named, whole_shared, IsWholeNamed, IsWholeShared}
use Rattle.spi_heading.specs.Repeated.{IsSolid}
use Rattle.spi_heading.proofs.Symbols.{HeadingSym, token, name, ty, opening, closing, the_mark, the_word, shared}
use Rattle.spi_heading.proofs.Rows.{Values, row_behind}
use Rattle.spi_heading.proofs.RowParts.{AreRows}

abbrev pub named_row : List HeadingSym
named_row = name ∷ token (the_mark mark.Colon) ∷ ty ∷ []

abbrev pub shared_row : List HeadingSym
shared_row = opening ∷ token (the_word shared) ∷ name ∷ token (the_mark mark.Colon) ∷ ty ∷ token (the_mark mark.Semicolon) ∷ closing ∷ []

abbrev pub named_values : h.Named → Values named_row
named_values x = (x.name, (tt, (x.ty, tt)))

abbrev pub shared_values : h.Shared → Values shared_row
shared_values s = (s.span.from, (tt, (s.name, (tt, (s.ty, (tt, (s.span.to, tt)))))))

module _ (v : Bool) where
  abbrev pub Nameds : List (Kind × Bool) → Type 0
  Nameds = OfPieces whole_named (IsWholeNamed v)

  abbrev pub Shareds : List (Kind × Bool) → Type 0
  Shareds = OfPieces whole_shared (IsWholeShared v)

  pub named_are : AreRows v whole_named (IsWholeNamed v) named_row named_values
  named_are = record {
    part = λ xs. record { name = xs.0; ty = xs.1.1.0 };
    values_of = λ xs. refl;
    formed = λ xs are fit. (are.1.1.0, fit);
    are = λ x is. (tt, (tt, (is.0, tt)));
    fit = λ x is. is.1;
    pieces_of = λ x. refl;
    known = λ x are fit. (are.1.1.0, fit);
    solid = λ x. tt;
  }

  pub shared_are : AreRows v whole_shared (IsWholeShared v) shared_row shared_values
  shared_are = record {
    part = λ xs. record { span = record { from = xs.0; to = xs.1.1.1.1.1.1.0 }; name = xs.1.1.0; ty = xs.1.1.1.1.0 };
    values_of = λ xs. refl;
    formed = λ xs are fit. (are.1.1.1.1.0, fit);
    are = λ s is. (tt, (tt, (tt, (tt, (is.0, (tt, (tt, tt)))))));
    fit = λ s is. is.1;
    pieces_of = λ s. refl;
    known = λ s are fit. (are.1.1.1.1.0, fit);
    solid = λ s. tt;
  }

-- ---- shared names in front of others

pub shared_behind : (s : h.Shared) (r : List Piece) → shared_pieces s r ≡ shared_pieces s [] ++ r
shared_behind s r = row_behind shared_row (shared_values s) r

pub shared_solid : (s : h.Shared) (r : List Piece) → IsSolid (shared_pieces s r)
shared_solid s r = tt
