use Rattle.std.proofs.Common.{◌≡◌, ◌≤◌, drop, map}
use Rattle.spi_tree.specs.Views.{decl_of}
use Rattle.spi_scope.specs.Points.{decls_points, all_names, all_types}
use Rattle.spi_scope.specs.Gives.{run}
use Rattle.spi_scope.specs.State.{abbreviations}
use Rattle.spi_scope.proofs.declarations.declare_all.Given as goal

abbrev pub invariant-loop-decl : goal.invariant-loop-decl
invariant-loop-decl l =
    let rest = map decl_of (drop l.decl-index l.decls) in
    let all = map decl_of l.decls in
    record {
      ran : run (decls_points (abbreviations l.scope.types) l.scope.held.names rest) l.scope.count ≡ run (decls_points (abbreviations l.fn.scope.types) l.fn.scope.held.names all) l.fn.scope.count;
      names : all_names l.scope.held.names rest ≡ all_names l.fn.scope.held.names all;
      noted : l.scope.held.noted ≡ l.fn.scope.held.noted;
      types : all_types (abbreviations l.scope.types) l.scope.held.names rest ≡ all_types (abbreviations l.fn.scope.types) l.fn.scope.held.names all;
      few : l.scope.count ≤ 100000;
    }
