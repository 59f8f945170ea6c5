use Rattle.std.proofs.Common.{◌≡◌, ◌+◌, ◌≤◌, ap, ◌∙◌, subst, IfOk, IfErr, arith}
use Rattle.spi_tree.specs.Views.{proc_of, file_of}
use Rattle.spi_term.specs.Spelling.{Spelling}
use Rattle.spi_term.specs.Term.{process_size}
use Rattle.spi_scope.specs.First.{IsClean, HasFirst}
use Rattle.spi_bench.specs.Parts.{with_part}
use Rattle.spi_edits.specs.Edits.{Bench}
use Rattle.spi_workbench.specs.Reading.{file_with, part_meant}
use Rattle.spi_workbench.specs.Counting.{part_nodes}
use Rattle.spi_workbench.specs.Answers.{wrong_part}
use Rattle.spi_workbench.specs.Work.{IsHeaded}
use Rattle.spi_workbench.proofs.Heading.{clean_nodes}
use Rattle.spi_workbench.proofs.Stepping.{names_fit, room, too_many, put_next}
use Rattle.spi_workbench.proofs.judging.put_part.Given.{Over}
use Rattle.spi_workbench.proofs.judging.put_part.Goals.{In-Ok}
use Rattle.spi_workbench.proofs.judging.put_part.Goals as goal

-- the part's process, of which nothing is wrong
read : (g : Over) (c : In-Ok g) (b : Bench) → IsHeaded b c.args.work.now.news (file_of c.args.work.now.tree) → (c.in-Ok.process ≡ part_meant b (proc_of c.args.part)) × IsClean (file_with b (proc_of c.args.part))
read g c b h =
    subst (λ r. IfOk r (λ q. (b : Bench) → IsHeaded b c.args.work.now.news (file_of c.args.work.now.tree) → (q ≡ part_meant b (proc_of c.args.part)) × IsClean (file_with b (proc_of c.args.part)))) c.in-Ok.is c.in_ok-process.ensures.ok b h

pub returns-in-Err : goal.returns-in-Err
returns-in-Err g c b before s at n =
    wrong_part (subst (λ r. IfErr r (λ e. (b : Bench) → IsHeaded b c.args.work.now.news (file_of c.args.work.now.tree) → HasFirst (file_with b (proc_of c.args.part)) e)) c.in-Err.is c.in_ok-process.ensures.err b at.tree)

pub returns-then-count-gt100000 : goal.returns-then-count-gt100000
returns-then-count-gt100000 g c b before s at n =
    let r = read g (goal.at.returns-then-count-gt100000 g c).In-Ok b at.tree in
    let few = clean_nodes b (proc_of c.args.part) r.1 in
    too_many b before c.args.work.now at s c.args.name.now (proc_of c.args.part) c.saturating_add-count.result r.1 (omega (arith, few, n, c.saturating_add-count.ensures, at.few)) (omega (arith, c.if-count-gt100000.true))

pub put-requires-clause-names : goal.put-requires-clause-names
put-requires-clause-names g c =
    let b = c.requires.0 in
    let at = c.requires.2 in
    let r = read g (goal.at.put-requires-clause-names g c).In-Ok b at.tree in
    ap (λ (q : Spelling). q.names) r.0 ∙ names_fit b c.requires.1 c.args.work.now at (proc_of c.args.part)

pub put-requires-clause-nodes : goal.put-requires-clause-nodes
put-requires-clause-nodes g c =
    let b = c.requires.0 in
    let at = c.requires.2 in
    let r = read g (goal.at.put-requires-clause-nodes g c).In-Ok b at.tree in
    let few = clean_nodes b (proc_of c.args.part) r.1 in
    let e = ap (λ (q : Spelling). process_size q.process) r.0 in
    let h : c.args.work.now.count + part_nodes b (proc_of c.args.part) ≤ 100000 = omega (arith, few, c.requires.3, c.saturating_add-count.ensures, at.few, c.if-count-gt100000.false) in
    omega (arith, e, room b c.requires.1 c.args.work.now at (proc_of c.args.part) h)

pub returns-in-Ok-put : goal.returns-in-Ok-put
returns-in-Ok-put g c b before s at n =
    let w = c.args.work.now in
    let p = proc_of c.args.part in
    let r = read g (goal.at.returns-in-Ok-put g c).In-Ok b at.tree in
    let few = clean_nodes b p r.1 in
    let bench = c.in-Ok-put.ensures.parts ∙ ap (λ (q : Spelling). record w.bench { parts = with_part c.args.name.now.word q w.bench.parts }) r.0 in
    put_next b before w at s c.args.name.now p (record { tree = c.read_part.new.tree; news = w.news; bench = c.put.new.self; count = c.saturating_add-count.result }) r.1 (at.tree.0, (p, c.in_ok-process.ensures.tree b at.tree)) bench (omega (arith, few, n, c.saturating_add-count.ensures, at.few)) c.if-count-gt100000.false
