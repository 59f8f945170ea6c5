use Rattle.std.proofs.Common.{◌≡◌, ◌+◌, suc, refl, arith}
use Rattle.spi_replay.proofs.acting.take_making.Goals as goal
use Rattle.spi_term.specs.Term as Term
use Rattle.spi_intern.specs.Messages.{says_name}
use Rattle.spi_replay.proofs.Does.{acts_making}
use Rattle.spi_replay.proofs.Takings.{taken_alone, leads_names}
use Rattle.spi_replay.proofs.Chains.{binds_kept}
use Rattle.spi_intern.proofs.Tables.{keeps_same}

pub message_over-requires : goal.message_over-requires
message_over-requires c = record { message = Term.name c.args.names; says = says_name }

pub entered_with-requires : goal.entered_with-requires
entered_with-requires c =
    let a = acts_making c.args.place.now c.requires.is c.requires.waits in
    record { values = a.values; message = Term.name c.args.names; number = c.in_ok-fresh.ensures.at (Term.name c.args.names) says_name; binds = binds_kept c.in_ok-fresh.ensures.kept.messages (keeps_same refl) (a.binds c.args.names) }

pub returns-clause-taken : goal.returns-clause-taken
returns-clause-taken c =
    let a = acts_making c.args.place.now c.requires.is c.requires.waits in
    let e : suc c.args.names ≡ c.args.names + 1 = omega arith in
    taken_alone c.args.store.now.messages c.entered_with.new.store.messages c.args.links.now.items c.entered_with.new.links.items c.args.names c.args.place.now _ c.args.place.now.source.now c.args.body _ _ _ _ _ c.act_alone.ensures (c.in_ok-now.ensures.at.at a.values (Term.name c.args.names) (c.in_ok-fresh.ensures.at (Term.name c.args.names) says_name) (binds_kept c.in_ok-fresh.ensures.kept.messages (keeps_same refl) (a.binds c.args.names))) (leads_names e (a.leads c.args.names))
