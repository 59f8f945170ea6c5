use Rattle.std.proofs.Common.{refl, sym, inl, inr, map}
use Rattle.spi_run.specs.View.{event}
use Rattle.spi_report.proofs.Lines.{each_paired}
use Rattle.spi_commands.proofs.ReplayPaid.{paid_by_none, unpaid_by_one}
use Rattle.spi_advice.proofs.tracing.judged.Goals as goal

pub first_unpaid-requires : goal.first_unpaid-requires
first_unpaid-requires c = rw c.deref.ensures.value (each_paired c.args.happened.now c.in_ok-pairing.pairing.from.items c.in_ok-pairing.ensures)

pub returns-in-None : goal.returns-in-None
returns-in-None c =
    let none = sym (rw c.deref.ensures.value at c.in-None.ensures.first) in
    inl (refl, paid_by_none (map event c.args.happened.now) c.in_ok-pairing.pairing.from.items c.paired_is_paid.ensures.ends c.paired_is_paid.ensures.manys c.in_ok-pairing.ensures none)

pub returns : goal.returns
returns c =
    let some = sym (rw c.deref.ensures.value at c.in-Some.ensures.first) in
    inr (refl, unpaid_by_one _ (map event c.args.happened.now) c.in_ok-pairing.pairing.from.items c.paired_is_paid.ensures.ends c.paired_is_paid.ensures.manys c.in_ok-pairing.ensures some)
