use Rattle.std.proofs.Common.{refl, sym, subst}
use Rattle.spi_count.specs.Keeping.{GrowsTo}
use Rattle.spi_infer.proofs.Descending.{some_node}
use Rattle.spi_infer.proofs.Joining.{over_at}
use Rattle.spi_origin.specs.Listing.{AreAll}
use Rattle.spi_origin.specs.Origins.{IsOriginIn}
use Rattle.spi_rules.specs.Environment.{untrusted}
use Rattle.spi_rules.proofs.Typing.{length_untrusted}
use Rattle.spi_term.specs.View.{atom}
use Rattle.spi_term.proofs.Choices.{if_ok}
use Rattle.spi_origin.proofs.Listed.{origins_listed, noted_grows}
use Rattle.spi_origin.proofs.finding.origins.Goals as goal

pub gathered_from-requires-clause-noted : goal.gathered_from-requires-clause-noted
gathered_from-requires-clause-noted c =
    let p = c.args.process.now in
    (untrusted p.names, noted_grows c.in_ok-judge.judge.store c.store.result.now c.in_ok-judge.noted (record { notes = c.in_ok-judge.noted.notes; keys = c.key_of_message.new.keys }) p.names p.process (untrusted p.names) refl (subst (λ s. GrowsTo c.in_ok-judge.judge.store c.in_ok-judge.noted.keys s c.key_of_message.new.keys) (sym c.store.ensures) c.in_ok-key.ensures.grows) c.in_ok-judge.ensures)

pub returns : goal.returns
returns c =
    let p = c.args.process.now in
    let noted = noted_grows c.in_ok-judge.judge.store c.store.result.now c.in_ok-judge.noted (record { notes = c.in_ok-judge.noted.notes; keys = c.key_of_message.new.keys }) p.names p.process (untrusted p.names) refl (subst (λ s. GrowsTo c.in_ok-judge.judge.store c.in_ok-judge.noted.keys s c.key_of_message.new.keys) (sym c.store.ensures) c.in_ok-key.ensures.grows) c.in_ok-judge.ensures in
    let w = some_node p.process (untrusted p.names) c.args.node c.requires in
    let over = over_at p.names p.process (untrusted p.names) w.0 w.1 c.args.node (sym (length_untrusted p.names)) w.2 c.len.ensures.over in
    if_ok c.gathered_from.result (λ v h. subst (λ a. AreAll (IsOriginIn p.names p.process c.args.node a) v.items) c.in_ok-copy.ensures (origins_listed p.names p.process c.args.node (atom c.in_ok-copy.field-0) w.0 w.1 v.items w.2 over (h (untrusted p.names) w.0 w.1 noted w.2))) c.gathered_from.ensures
