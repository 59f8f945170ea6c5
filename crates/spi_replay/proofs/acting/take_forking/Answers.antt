use Rattle.std.proofs.Common.{refl}
use Rattle.spi_replay.proofs.acting.take_forking.Goals as goal
use Rattle.spi_replay.proofs.Does.{acts_forking, stands_kept}
use Rattle.spi_replay.proofs.Takings.{taken_both}
use Rattle.spi_replay.proofs.Chains.{enters_kept}
use Rattle.spi_intern.proofs.Tables.{keeps_same}

pub entered-requires : goal.entered-requires
entered-requires c = let a = acts_forking c.args.place.now c.requires.is c.requires.waits in record { values = a.values; enters = a.enters }

pub entered-requires-2 : goal.entered-requires-2
entered-requires-2 c = let a = acts_forking c.args.place.now c.requires.is c.requires.waits in record { values = a.values; enters = enters_kept c.in_ok-now.ensures.kept.messages (keeps_same refl) a.rest }

pub returns-clause-taken : goal.returns-clause-taken
returns-clause-taken c =
    let a = acts_forking c.args.place.now c.requires.is c.requires.waits in
    taken_both c.args.store.now.messages c.entered-2.new.store.messages c.args.links.now c.args.links.now c.args.names c.args.place.now _ _ c.args.place.now.source.now c.args.first c.args.rest _ _ refl (stands_kept c.in_ok-other.ensures.kept.messages (keeps_same refl) (c.in_ok-now.ensures.at.at a.values a.enters)) (c.in_ok-other.ensures.at.at a.values (enters_kept c.in_ok-now.ensures.kept.messages (keeps_same refl) a.rest)) (a.leads c.args.names)
