use Rattle.std.proofs.Common.{ap, subst, IfOk, arith}
use Rattle.spi_tree.specs.Views.{proc_of, file_of}
use Rattle.spi_term.specs.Spelling.{Spelling}
use Rattle.spi_scope.specs.StandsFor.{StandsFor}
use Rattle.spi_scope.specs.Files.{meant}
use Rattle.spi_edits.specs.Edits.{Bench}
use Rattle.spi_workbench.specs.Reading.{file_with, part_meant}
use Rattle.spi_workbench.specs.Behind.{StandsBehind}
use Rattle.spi_workbench.specs.Work.{IsHeaded}
use Rattle.spi_workbench.proofs.Heading.{clean_nodes, names_counted, part_stands, put_tree}
use Rattle.spi_workbench.proofs.PartNodes.{one_behind}
use Rattle.spi_workbench.proofs.judging.read_part.Goals.{In-Ok}
use Rattle.spi_workbench.proofs.judging.read_part.Goals as goal

stands : (c : In-Ok) (b : Bench) → IsHeaded b c.args.news (file_of c.args.tree.now) → StandsFor (file_with b (proc_of c.args.part)) (meant c.in-Ok.file)
stands c b h =
    let e = put_tree b c.args.news c.args.tree.now c.put_behind.new.place c.args.part c.put_behind.ensures h in
    let s = subst (λ r. IfOk r (λ f. StandsFor (file_of (record c.args.tree.now { process = c.put_behind.new.place })) (meant f))) c.in-Ok.is c.in_ok-file.ensures.ok in
    subst (λ f. StandsFor f (meant c.in-Ok.file)) e s

behind : (c : In-Ok) (b : Bench) → IsHeaded b c.args.news (file_of c.args.tree.now) → StandsBehind c.args.news c.in-Ok.file.process (part_meant b (proc_of c.args.part))
behind c b h = subst (λ n. StandsBehind n c.in-Ok.file.process (part_meant b (proc_of c.args.part))) h.0 (part_stands b (proc_of c.args.part) (meant c.in-Ok.file) (stands c b h))

pub part_behind-requires-clause-stands : goal.part_behind-requires-clause-stands
part_behind-requires-clause-stands c =
    let b = c.requires.0 in
    (part_meant b (proc_of c.args.part), behind (goal.at.part_behind-requires-clause-stands c).In-Ok b c.requires.1)

pub part_behind-requires-clause-few : goal.part_behind-requires-clause-few
part_behind-requires-clause-few c =
    let b = c.requires.0 in
    let s = stands (goal.at.part_behind-requires-clause-few c).In-Ok b c.requires.1 in
    let n = ap (λ (w : Spelling). w.names) s.process in
    omega (arith, n, c.requires.1.0, names_counted b, clean_nodes b (proc_of c.args.part) s.clean)

pub returns-in_ok-part_behind-in-Ok-clause-ok : goal.returns-in_ok-part_behind-in-Ok-clause-ok
returns-in_ok-part_behind-in-Ok-clause-ok c b h =
    let a = (goal.at.returns-in_ok-part_behind-in-Ok-clause-ok c).In-Ok in
    (one_behind c.args.news c.in-Ok.file.process _ _ c.in_ok-part_behind-in-Ok.ensures (behind a b h), (stands a b h).clean)
