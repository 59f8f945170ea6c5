use Rattle.std.proofs.Common.{ap, ◌∙◌, map, ◌++◌}
use Rattle.std.proofs.lemmas.Result.{on_ok_weaker}
use Rattle.spi_term.specs.View.{shape_of}
use Rattle.spi_rules.specs.Deriv.{rule_use}
use Rattle.spi_deriv.specs.Agenda.{types_of, top_types, node_uses}
use Rattle.spi_deriv.proofs.Stacked.{passed}
use Rattle.spi_deriv.proofs.derivation.visit.Goals as goal

pub returns : goal.returns
returns c =
    let x = shape_of c.args.node.now in
    let us = map rule_use c.args.out.now.items in
    on_ok_weaker c.put_off.result (passed c.args.node.now.scope x (types_of c.args.types.now.items) (types_of c.settle.new.types.items) (top_types c.args.pending.now.items) (top_types c.settle.new.pending.items) (top_types c.put_off.new.pending.items) us (map rule_use c.push_uses.new.out.items) c.in_ok-settle.ensures (c.in_ok-push_uses.ensures ∙ ap (λ l. us ++ node_uses (types_of l) x) c.deref.ensures.value)) c.put_off.ensures
