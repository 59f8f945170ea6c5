use Rattle.std.proofs.Common.{◌≡◌, length, ap, subst, IfOk, IfErr, arith}
use Rattle.std.proofs.lemmas.List.{length-map}
use Rattle.spi_tree.specs.Trees as t
use Rattle.spi_tree.specs.Views.{file_of}
use Rattle.spi_heading.specs.Views.{shared_of}
use Rattle.spi_scope.specs.First.{HasFirst}
use Rattle.spi_scope.specs.StandsFor.{StandsFor}
use Rattle.spi_scope.specs.Files.{meant}
use Rattle.spi_edits.specs.Views.{bench_of}
use Rattle.spi_workbench.specs.Reading.{heading_file}
use Rattle.spi_workbench.specs.Answers.{wrong_heading}
use Rattle.spi_workbench.proofs.Heading.{clean_nodes}
use Rattle.spi_workbench.proofs.bench.start.Goals.{In-Ok, In_ok-file}
use Rattle.spi_workbench.proofs.bench.start.Goals as goal

many : (c : In_ok-file) → length (bench_of c.args.text.now).shared ≡ c.len-news.result
many c = omega (arith, length-map c.args.text.now.shared.items shared_of, c.len-news.ensures, c.args.text.now.shared.ok.0)

stands : (c : In-Ok) → StandsFor (heading_file (bench_of c.args.text.now) c.args.end) (meant c.in-Ok.file)
stands c =
    let s = subst (λ r. IfOk r (λ f. StandsFor (file_of c.in_ok-tree.tree) (meant f))) c.in-Ok.is c.in_ok-file.ensures.ok in
    subst (λ f. StandsFor f (meant c.in-Ok.file)) c.in_ok-tree.ensures.tree s

pub first_bench-requires-clause-stands : goal.first_bench-requires-clause-stands
first_bench-requires-clause-stands c =
    (bench_of c.args.text.now, t.stop (record { from = c.args.end; to = c.args.end }), stands (goal.at.first_bench-requires-clause-stands c).In-Ok, many (goal.at.first_bench-requires-clause-stands c).In_ok-file)

pub returns-in-Ok-clause-ok : goal.returns-in-Ok-clause-ok
returns-in-Ok-clause-ok c =
    let b = bench_of c.args.text.now in
    let p = t.stop (record { from = c.args.end; to = c.args.end }) in
    let s = stands (goal.at.returns-in-Ok-clause-ok c).In-Ok in
    let n = many (goal.at.returns-in-Ok-clause-ok c).In_ok-file in
    let e = c.in_ok-bench-in-Ok.ensures b p s n in
    let few = clean_nodes b p s.clean in (
      record {
        tree = (n, (p, c.in_ok-tree.ensures.tree));
        bench = e;
        count = omega (arith, c.requires.count, few);
        few = omega (arith, c.requires.count, few);
        held = omega (arith, ap (λ (q : Rattle.spi_bench.specs.Parts.Benched). Rattle.spi_bench.specs.Parts.nodes_in_parts q.parts) e);
      },
      s.clean,
    )

pub returns-clause-err : goal.returns-clause-err
returns-clause-err c =
    let h = subst (λ r. IfErr r (λ e. HasFirst (file_of c.in_ok-tree.tree) e)) c.in-Err.is c.in_ok-file.ensures.err in
    let n = many (goal.at.returns-clause-err c).In_ok-file in
    wrong_heading (omega (arith, n, c.len-news.ensures, c.requires.few, c.args.text.now.shared.ok.0)) (subst (λ f. HasFirst f c.in-Err.fault) c.in_ok-tree.ensures.tree h)
