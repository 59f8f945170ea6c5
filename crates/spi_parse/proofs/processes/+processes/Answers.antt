use Rattle.std.proofs.Common.{arith, ◌+◌, subst, ap, ◌∙◌}
use Rattle.std.proofs.lemmas.Grind.{common_steps}
use Rattle.spi_tree.specs.Trees as trees
use Rattle.spi_tree.specs.Views.{proc_of}
use Rattle.spi_tree.specs.declared.tree.SProc.{SProc}
use Rattle.spi_parse.specs.Seen.{tok_of}
use Rattle.spi_parse.specs.declared.forms.Form.{Form}
use Rattle.spi_parse.specs.FormMoves.{by_form}
use Rattle.spi_parse.specs.Tokens.{State}
use Rattle.spi_parse.specs.Reading.{Out, Gives}
use Rattle.spi_parse.proofs.FormLaws.{form_is_first}
use Rattle.spi_parse.specs.Places.{state_of, behind}
use Rattle.spi_parse.proofs.Readers.{read_is_step}
use Rattle.spi_parse.proofs.Lists.{seq_fits}
use Rattle.spi_parse.proofs.processes.+processes.Goals as goal

pub out_rest-returns-in_default : goal.out_rest-returns-in_default
out_rest-returns-in_default t c = rw read_is_step (grind (arith, common_steps))

pub par_rest-returns-in_default : goal.par_rest-returns-in_default
par_rest-returns-in_default t c = rw read_is_step (grind (arith, common_steps))

pub parallel-par_rest-requires : goal.parallel-par_rest-requires
parallel-par_rest-requires t c =
    let k = seq_fits c.args.later (c.args.level + 1) (state_of c.args.at.now) _ c.in_ok-first.ensures in
    (omega arith, omega arith)

pub read_group-parallel-requires : goal.read_group-parallel-requires
read_group-parallel-requires t c =
    let k = seq_fits c.args.later (c.args.nesting + 1) _ _ c.in_ok-first.ensures in
    (omega arith, omega arith)

pub sequence-returns : goal.sequence-returns
sequence-returns t c =
    let first = form_is_first c.args.later c.args.nesting c.args.at.now.end (state_of c.args.at.now).rest (behind c.args.at.now) (tok_of c.in_ok-first.first) c.in_ok-first.ensures in
    rw read_is_step
    (subst (λ (o : Out trees.Proc). Gives {X = SProc} {Y = trees.Proc × State} (λ x. (proc_of x, state_of c.read_form.new.at)) c.read_form.result o)
    (ap (λ (f : Form). by_form c.args.later c.args.nesting f (state_of c.args.at.now)) c.form_of-form.ensures ∙ first) c.read_form.ensures)
