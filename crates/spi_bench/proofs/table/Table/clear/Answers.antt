use Rattle.std.proofs.Common.{sym, ap, ◌∙◌, subst, Some}
use Rattle.std.specs.Prelude.{slice_set}
use Rattle.std.proofs.lemmas.Option.{slice_get-get_or}
use Rattle.spi_bench.specs.Sums.{AreSums}
use Rattle.spi_bench.proofs.Totals.{slot_within, sums_taken}
use Rattle.spi_bench.proofs.table.Table.clear.Goals as goal

pub take-requires : goal.take-requires
take-requires c =
    slot_within c.args.self.now.sums c.args.self.now.slots.items c.args.at c.index_mut.result.now c.replace-before.result c.args.self.now.summed c.requires (c.replace-before.ensures.value ∙ c.index_mut.ensures.value)

pub invariant_of-self : goal.invariant_of-self
invariant_of-self c =
    let t = sums_taken c.args.self.now.sums c.take.new.self c.args.self.now.slots.items c.args.at c.index_mut.result.now c.replace-before.result c.args.self.now.summed c.requires (c.replace-before.ensures.value ∙ c.index_mut.ensures.value) c.take.ensures in
    record { summed = subst (λ e. AreSums c.take.new.self (slice_set c.args.self.now.slots.items c.args.at e)) (sym c.replace-before.ensures.after) t }

pub returns-clause-before : goal.returns-clause-before
returns-clause-before c =
    slice_get-get_or c.args.self.now.slots.items c.args.at c.index_mut.result.now c.requires ∙ ap Some (sym (c.replace-before.ensures.value ∙ c.index_mut.ensures.value))

pub returns-clause-after : goal.returns-clause-after
returns-clause-after c = ap (slice_set c.args.self.now.slots.items c.args.at) c.replace-before.ensures.after
