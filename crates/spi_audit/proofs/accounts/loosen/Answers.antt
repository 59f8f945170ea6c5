use Rattle.spi_audit.proofs.Loosening.{loosened_next, loosened_key, loosened_end}
use Rattle.spi_audit.specs.Accounts.{outer}
use Rattle.spi_audit.proofs.accounts.loosen.Goals as goal

pub mark_key-requires : goal.mark_key-requires
mark_key-requires c =
    let (kd, n, es, h) = c.requires.held in
    loosened_key (c.loop-kind.invariant (outer n) es h) c.in-Some.kind c.in-Some.key c.in-Some.field-0-2 c.in-Some.ensures.some.1 c.in-Some.ensures.some.2

pub loop-kind-preserved : goal.loop-kind-preserved
loop-kind-preserved c from es h =
    loosened_next c.requires.held.0 c.args.scope (c.loop-kind.invariant from es h) c.in-Some.kind c.in-Some.key c.in-Some.field-0-2 c.in-Some.ensures.some.0 c.in-Some.ensures.some.1 c.in-Some.ensures.some.2 c.in-Some.ensures.some.3 c.in_ok-mark_key.ensures c.is_lasting-account.result c.is_lasting-account.ensures

pub returns : goal.returns
returns c n es le h =
    loosened_end c.requires.held.0 c.args.scope n le (c.loop-kind.invariant (outer n) es h) c.in_default.ensures.same c.in_default.ensures.none
