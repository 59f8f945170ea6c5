use Rattle.spi_replay.proofs.acting.take_two.Goals as goal
use Rattle.spi_replay.proofs.Does.{acts_two}
use Rattle.spi_replay.proofs.Takings.{taken_alone}

pub entered_with_two-requires : goal.entered_with_two-requires
entered_with_two-requires c = let a = acts_two c.args.place.now c.requires.is c.requires.waits in record { values = a.values; message = a.message; other = a.other; number = a.number; other_number = a.other_number; binds = a.binds }

pub returns-clause-taken : goal.returns-clause-taken
returns-clause-taken c =
    let a = acts_two c.args.place.now c.requires.is c.requires.waits in
    taken_alone c.args.store.now.messages c.entered_with_two.new.store.messages c.args.links.now.items c.entered_with_two.new.links.items c.args.names c.args.place.now _ c.args.place.now.source.now c.args.body _ _ _ _ _ c.act_alone.ensures (c.in_ok-now.ensures.at.at a.values a.message a.other a.number a.other_number a.binds) (a.leads c.args.names)
