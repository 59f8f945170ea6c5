use Rattle.std.proofs.Common.{◌-◌, ap, ◌∙◌, sym, arith}
use Rattle.spi_tree.specs.declared.tree.NewParts.{NewParts}
use Rattle.spi_tree.specs.Trees as t
use Rattle.spi_tree.specs.Views.{ty_of, proc_of}
use Rattle.spi_workbench.proofs.Placed.{placed_behind, not_behind}
use Rattle.spi_workbench.proofs.placing.+put_behind.Goals as goal

pub returns-in-New : goal.returns-in-New
returns-in-New n c ss p l e =
    let s = c.in-New.span in
    let q = c.deref_mut.result.now in
    placed_behind s q.name (ty_of q.ty) (proc_of q.then) (proc_of c.put_behind.new.place) (proc_of c.args.part) c.args.news (c.args.news - 1) (omega (arith, c.if-news-eq0.false)) c.put_behind.ensures ss p l
    (ap (λ (v : NewParts). t.new s v.name (ty_of v.ty) (proc_of v.then)) c.deref_mut.ensures.value ∙ sym (ap proc_of c.in-New.is) ∙ e)

pub returns-in_default : goal.returns-in_default
returns-in_default n c ss p l e = absurd (not_behind c.args.place.now c.args.news c.if-news-eq0.false c.in_default.not-New ss p l e)
