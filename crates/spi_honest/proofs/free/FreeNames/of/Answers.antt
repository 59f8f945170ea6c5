use Rattle.std.proofs.Common.{[], map, take, refl, ap, subst}
use Rattle.std.specs.Map.{lookup}
use Rattle.std.specs.Str.{bytes_eq}
use Rattle.spi_tree.specs.Views.{decl_of}
use Rattle.spi_scope.specs.Points.{all_names}
use Rattle.spi_honest.specs.Free.{NumbersSpellings}
use Rattle.spi_honest.proofs.Named.{names_next}
use Rattle.spi_honest.proofs.free.FreeNames.of.Goals as goal

pub loop-decl-init : goal.loop-decl-init
loop-decl-init c = record { count = refl; finds = λ w. ap (lookup (λ j. bytes_eq w j.now)) c.new.ensures.empty }

pub loop-decl-preserved : goal.loop-decl-preserved
loop-decl-preserved c =
    subst (NumbersSpellings c.bind_declared.new.names) (names_next c.args.decls.now c.loop-decl.decl-index c.decl-item.result c.loop-decl-test.true c.decl-item.is)
    (c.in_ok-bind_declared.ensures (all_names [] (map decl_of (take c.loop-decl.decl-index c.args.decls.now))) c.loop-decl.invariant)
