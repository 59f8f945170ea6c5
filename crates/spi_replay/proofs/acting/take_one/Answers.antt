use Rattle.spi_replay.proofs.acting.take_one.Goals as goal
use Rattle.spi_replay.proofs.Does.{acts_one}
use Rattle.spi_replay.proofs.Takings.{taken_alone}

pub entered_with-requires : goal.entered_with-requires
entered_with-requires c = let a = acts_one c.args.place.now c.requires.is c.requires.waits in record { values = a.values; message = a.message; number = a.number; binds = a.binds }

pub returns-clause-taken : goal.returns-clause-taken
returns-clause-taken c =
    let a = acts_one c.args.place.now c.requires.is c.requires.waits in
    taken_alone c.args.store.now.messages c.entered_with.new.store.messages c.args.links.now.items c.entered_with.new.links.items c.args.names c.args.place.now _ c.args.place.now.source.now c.args.body _ _ _ _ _ c.act_alone.ensures (c.in_ok-now.ensures.at.at a.values a.message a.number a.binds) (a.leads c.args.names)
