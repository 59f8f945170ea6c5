use Rattle.std.proofs.Common.{ap, sym, ◌∙◌}
use Rattle.std.proofs.lemmas.Option.{slice_get_within}
use Rattle.spi_replay.proofs.acting.take_showing.Goals as goal
use Rattle.spi_replay.specs.Moves.{event_of}
use Rattle.spi_replay.proofs.Does.{acts_showing}
use Rattle.spi_intern.proofs.Sized.{at_message}
use Rattle.spi_replay.proofs.Takings.{taken_alone, leads_event}

pub message_of-requires : goal.message_of-requires
message_of-requires c = let a = acts_showing c.args.place.now c.requires.is c.requires.waits in slice_get_within c.args.store.now.messages c.args.label.place a.message a.number

pub entered-requires : goal.entered-requires
entered-requires c = let a = acts_showing c.args.place.now c.requires.is c.requires.waits in record { values = a.values; enters = a.enters }

pub returns-clause-taken : goal.returns-clause-taken
returns-clause-taken c =
    let a = acts_showing c.args.place.now c.requires.is c.requires.waits in
    let e = ap (event_of c.args.kind) (sym (c.in_ok-shown.ensures ∙ at_message c.args.store.now.messages c.args.label a.number)) ∙ sym c.event_with.ensures in
    taken_alone c.args.store.now.messages c.entered.new.store.messages c.args.links.now c.args.links.now c.args.names c.args.place.now _ c.args.place.now.source.now c.args.body _ _ _ _ _ c.act_alone.ensures (c.in_ok-now.ensures.at.at a.values a.enters) (leads_event e (a.leads c.args.names))
