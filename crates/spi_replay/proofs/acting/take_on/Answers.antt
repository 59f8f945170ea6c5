use Rattle.spi_replay.proofs.acting.take_on.Goals as goal
use Rattle.spi_replay.proofs.Does.{acts_on}
use Rattle.spi_replay.proofs.Takings.{taken_alone}

pub entered-requires : goal.entered-requires
entered-requires c = let a = acts_on c.args.place.now c.requires.is c.requires.waits in record { values = a.values; enters = a.enters }

pub returns-clause-taken : goal.returns-clause-taken
returns-clause-taken c =
    let a = acts_on c.args.place.now c.requires.is c.requires.waits in
    taken_alone c.args.store.now.messages c.entered.new.store.messages c.args.links.now c.args.links.now c.args.names c.args.place.now _ c.args.place.now.source.now c.args.body _ _ _ _ _ c.act_alone.ensures (c.in_ok-now.ensures.at.at a.values a.enters) (a.leads c.args.names)
