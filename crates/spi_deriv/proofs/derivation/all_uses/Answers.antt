use Rattle.std.proofs.Common.{sym, ap, ◌∙◌, map, ◌++◌, ◌∷◌, [], arith}
use Rattle.spi_term.specs.View.{shape_of, ty as type_of}
use Rattle.spi_term.proofs.Numbers.{length_spelled}
use Rattle.spi_term.proofs.Places.{scope_of_shape}
use Rattle.spi_rules.specs.Deriv.{rule_use}
use Rattle.spi_deriv.specs.declared.agenda.Binding.TheVariants.{None}
use Rattle.spi_deriv.specs.Agenda.{types_of, top_types}
use Rattle.spi_deriv.proofs.Passing.{passes_from, passes_next, passes_end}
use Rattle.spi_deriv.proofs.derivation.all_uses.Goals as goal

pub loop-id-init : goal.loop-id-init
loop-id-init c =
    passes_from c.args.process.now.names c.names.result c.args.process.now.process (type_of c.args.t.now) (types_of c.in_ok-types.types.items) (top_types c.push.new.self.items) (map rule_use c.new-out.result.items) c.names.ensures c.requires c.in_ok-types.ensures (ap top_types (c.in_ok-push.ensures.items ∙ ap (λ l. l ++ None ∷ []) c.new-pending.ensures.items)) (ap (map rule_use) c.new-out.ensures.items)

pub loop-id-preserved : goal.loop-id-preserved
loop-id-preserved c = passes_next (shape_of c.node.result.now) c.node.result.now.scope c.loop-id.invariant c.node.ensures (sym (scope_of_shape c.node.result.now)) c.in_ok-visit.ensures

pub returns : goal.returns
returns c = passes_end c.loop-id.invariant (omega (arith, length_spelled c.args.process.now.names c.args.process.now.process))
