-- What a declared narration is without where it lies in memory.
use Rattle.std.specs.Prelude.{◌<◌, ◌∷◌, length, map}
use Rattle.spi_lex.specs.declared.token.Kind.TheVariants as kinds
use Rattle.spi_lex.specs.declared.token.Mark.TheVariants as mark
use Rattle.spi_tree.specs.declared.tree.SWord.{SWord}
use Rattle.spi_tree.specs.Views.{msg_of, ty_of, decl_of}
use Rattle.spi_heading.specs.Repeated.{RepeatedKind}
use Rattle.spi_heading.specs.Taking.{IsThere}
use Rattle.spi_heading.specs.Views.{shared_of}
use Rattle.spi_narrate.specs.declared.tree.Prefix.{Prefix}
use Rattle.spi_narrate.specs.declared.tree.Prefix.TheVariants as prefix
use Rattle.spi_narrate.specs.declared.tree.Line.{Line}
use Rattle.spi_narrate.specs.declared.tree.Line.TheVariants as line
use Rattle.spi_narrate.specs.declared.tree.Narration.{Narration}
use Rattle.spi_narrate.specs.Narrations as n
use Rattle.spi_narrate.specs.Grammar.{comma_pieces, line_pieces, IsAnyWord, IsLine}

abbrev pub prefix_of : Prefix → n.Prefix
prefix_of (prefix.Split m x y s) =
    n.split s (msg_of m) x.name (ty_of x.ty.value) y.value.name (ty_of y.value.ty.value)
prefix_of (prefix.Match m x k y s) =
    n.match s (msg_of m) x.name (ty_of x.ty.value) (msg_of k.value) y.value.name (ty_of y.value.ty.value)
prefix_of (prefix.Decrypt m x k s) = n.decrypt s (msg_of m) x.name (ty_of x.ty.value) (msg_of k)
prefix_of (prefix.Check m k s) = n.check s (msg_of m) (msg_of k)
prefix_of (prefix.Begin m s) = n.begin s (msg_of m)
prefix_of (prefix.End m s) = n.end s (msg_of m)
prefix_of (prefix.EndMany m s) = n.end_many s (msg_of m)
prefix_of (prefix.Cast m x s) = n.cast s (msg_of m) x.name (ty_of x.ty.value)
prefix_of (prefix.New x s) = n.new s x.name (ty_of x.ty.value)

abbrev pub line_of : Line → n.Line
line_of (line.Local role x s) = n.local s role (prefix_of x)
line_of (line.Pass from to channel m x s) = n.pass s from to channel (msg_of m) x

-- lines stand up to the end
abbrev pub line_kind : RepeatedKind Line
line_kind =
    record {
      Part = n.Line;
      view = line_of;
      pieces = line_pieces;
      Is = IsLine;
      Begins = λ ts i. i < length ts;
    }

-- the roles behind the first stand behind commas
abbrev pub further_kind : RepeatedKind SWord
further_kind = record {
  Part = SWord;
  view = λ w. w;
  pieces = comma_pieces;
  Is = λ later. IsAnyWord;
  Begins = λ ts i. IsThere ts i (kinds.Mark mark.Comma);
}

abbrev pub narration_of : Narration → n.Narration
narration_of x = record {
  span = x.span;
  version = x.version;
  decls = map decl_of x.decls.items;
  shared = map shared_of x.shared.items;
  roles = x.first ∷ x.more.items;
  lines = map line_of x.lines.items;
}
