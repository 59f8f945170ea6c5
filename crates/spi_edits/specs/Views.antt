-- What a declared bench is without where it lies in memory.
use Rattle.std.specs.Prelude.{◌<◌, length, map}
use Rattle.spi_tree.specs.Views.{decl_of, proc_of}
use Rattle.spi_heading.specs.Repeated.{RepeatedKind}
use Rattle.spi_heading.specs.Views.{shared_of}
use Rattle.spi_edits.specs.declared.text.BenchText.{BenchText}
use Rattle.spi_edits.specs.declared.text.Edit.{Edit}
use Rattle.spi_edits.specs.declared.text.Edit.TheVariants as edits
use Rattle.spi_edits.specs.Edits as e
use Rattle.spi_edits.specs.Grammar.{edit_pieces, IsEdit}

abbrev pub edit_of : Edit → e.Edit
edit_of (edits.Put w p s) = e.puts s w (proc_of p)
edit_of (edits.Drop w s) = e.drops s w

-- edits stand up to the end
abbrev pub edit_kind : RepeatedKind Edit
edit_kind =
    record {
      Part = e.Edit;
      view = edit_of;
      pieces = edit_pieces;
      Is = IsEdit;
      Begins = λ ts i. i < length ts;
    }

abbrev pub bench_of : BenchText → e.Bench
bench_of b = record {
  span = b.span;
  version = b.version;
  decls = map decl_of b.decls.items;
  shared = map shared_of b.shared.items;
  edits = map edit_of b.edits.items;
}
