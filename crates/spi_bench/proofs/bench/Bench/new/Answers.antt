use Rattle.std.proofs.Common.{◌≡◌, ◌↔◌, ◌++◌, ◌∙◌, sym, subst, map, true}
use Rattle.std.proofs.lemmas.List.{length-map}
use Rattle.spi_term.specs.View.{ty}
use Rattle.spi_rules.specs.Environment.{untrusted}
use Rattle.spi_message.specs.Judging.{Stands}
use Rattle.spi_bench.specs.Whole.{AreShared}
use Rattle.spi_bench.proofs.Placing.{nothing_named, nothing_inferred}
use Rattle.spi_bench.proofs.bench.Bench.new.Goals as goal

pub invariant_of-result : goal.invariant_of-result
invariant_of-result c =
    let k = c.args.free in
    record {
      stands = subst (λ xs. Stands c.bind_all.new.judge (untrusted k ++ map ty xs)) c.deref.ensures.value (c.in_ok-fine.ensures.stands (untrusted k) c.in_ok-judge.ensures.names);
      shared = subst (λ xs. (c.in_ok-fine.fine ≡ true) ↔ AreShared (untrusted k) (map ty xs)) c.deref.ensures.value (c.in_ok-fine.ensures.answer (untrusted k) c.in_ok-judge.ensures.names);
      over = c.requires.over;
      free_is = c.in_ok-table.ensures.free;
      shared_is = c.in_ok-table.ensures.shared ∙ c.len.ensures ∙ c.args.shared.ok.0 ∙ sym (length-map c.args.shared.items ty);
      places = nothing_named c.in_ok-table.table.slots.items c.new-3.result c.in_ok-table.ensures.slots c.new-3.ensures.empty;
      inferred = nothing_inferred _ _ c.in_ok-table.table.slots.items c.in_ok-table.ensures.slots;
    }
