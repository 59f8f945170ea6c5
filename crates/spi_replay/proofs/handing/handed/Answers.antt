use Rattle.std.proofs.Common.{sym, ap, ◌∙◌, ◌∷◌, [], arith}
use Rattle.spi_replay.proofs.Stepped.{datum_below}
use Rattle.spi_replay.proofs.Handed.{out_inside, apart_not_ready, met_ready, met_shown}
use Rattle.spi_replay.proofs.handing.handed.Goals as goal

pub returns-then-out-len : goal.returns-then-out-len
returns-then-out-len c = λ (e, d, t). let (a, b) = out_inside c.args.state.now.store.messages c.args.state.now.links.items c.args.state.now.index.places.items t in absurd (omega (arith, a))

pub returns-then-inp-len : goal.returns-then-inp-len
returns-then-inp-len c = λ (e, d, t). let (a, b) = out_inside c.args.state.now.store.messages c.args.state.now.links.items c.args.state.now.index.places.items t in absurd (omega (arith, b))

pub returns-in-None : goal.returns-in-None
returns-in-None c =
    apart_not_ready c.args.state.now.store.messages c.args.state.now.links.items c.args.state.now.index.places.items c.args.state.now.names c.args.out c.args.inp c.at.ensures c.at-2.ensures c.requires.places c.distinct.ensures.differ.messages (sym c.in-None.ensures)

pub message_of-requires : goal.message_of-requires
message_of-requires c = datum_below c.args.out c.args.inp c.in-Some.meeting c.at.ensures c.at-2.ensures c.requires.places (sym c.in-Some.ensures)

pub returns-in_ok-datum-in-Some : goal.returns-in_ok-datum-in-Some
returns-in_ok-datum-in-Some c =
    let e = sym c.in-Some.ensures in (
      met_ready c.args.state.now.store.messages c.args.state.now.links.items c.args.state.now.index.places.items c.args.state.now.names c.args.out c.args.inp c.at.ensures c.at-2.ensures c.requires.places c.in-Some.meeting e,
      met_shown c.args.state.now.store.messages c.args.state.now.links.items c.args.state.now.index.places.items c.args.state.now.names c.args.out c.args.inp c.at.ensures c.at-2.ensures c.requires.places c.in-Some.meeting e
          ∙ ap (λ m. m ∷ []) (sym c.in_ok-datum-in-Some.ensures),
    )
