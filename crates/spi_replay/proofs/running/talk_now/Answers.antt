use Rattle.std.proofs.Common.{refl}
use Rattle.std.proofs.lemmas.Option.{slice_get_within}
use Rattle.spi_replay.proofs.Stepped.{on_err}
use Rattle.spi_replay.proofs.States.{pool_stays, state_stays, can_bind, talk_done, state_met}
use Rattle.spi_replay.proofs.running.talk_now.Goals as goal

pub entered_with-requires : goal.entered_with-requires
entered_with-requires c = can_bind c.args.state.now c.args.out c.args.inp c.args.meeting c.requires.is c.requires.may c.at-receiver.ensures

pub met-requires-clause-out : goal.met-requires-clause-out
met-requires-clause-out c = slice_get_within c.args.state.now.index.places.items c.args.out c.requires.may.out c.requires.may.out_there

pub met-requires-clause-inp : goal.met-requires-clause-inp
met-requires-clause-inp c = slice_get_within c.args.state.now.index.places.items c.args.inp c.requires.may.inp c.requires.may.inp_there

pub returns-in_err-now-clause-unchanged : goal.returns-in_err-now-clause-unchanged
returns-in_err-now-clause-unchanged c = on_err c.from_residual.result (pool_stays c.args.state.now.names c.args.state.now.most c.entered_with.ensures.kept.messages c.entered_with.ensures.links c.requires.is.places refl)

pub returns-in_err-now-clause-is : goal.returns-in_err-now-clause-is
returns-in_err-now-clause-is c = state_stays c.entered_with.ensures.kept.messages c.entered_with.ensures.links refl refl c.requires.is

pub returns-in_err-met-clause-unchanged : goal.returns-in_err-met-clause-unchanged
returns-in_err-met-clause-unchanged c = on_err c.from_residual-in_err-met.result (pool_stays c.args.state.now.names c.args.state.now.most c.entered_with.ensures.kept.messages c.entered_with.ensures.links c.requires.is.places c.in_err-met.ensures.same)

pub returns-in_err-met-clause-is : goal.returns-in_err-met-clause-is
returns-in_err-met-clause-is c = state_stays c.entered_with.ensures.kept.messages c.entered_with.ensures.links c.in_err-met.ensures.same refl c.requires.is

pub returns-clause-taken : goal.returns-clause-taken
returns-clause-taken c = talk_done c.args.state.now c.args.out c.args.inp c.args.meeting c.requires.is c.requires.may c.at-receiver.ensures c.entered_with.ensures.kept.messages c.entered_with.ensures.links c.in_ok-now.ensures.at c.in_ok-met.ensures.settled

pub returns-clause-is : goal.returns-clause-is
returns-clause-is c = state_met c.args.state.now c.args.out c.args.inp c.args.meeting c.requires.is c.requires.may c.at-receiver.ensures _ c.entered_with.ensures.kept.messages c.entered_with.ensures.links c.in_ok-now.ensures.at c.in_ok-met.ensures.settled refl

pub at-receiver-requires : goal.at-receiver-requires
at-receiver-requires c = slice_get_within c.args.state.now.index.places.items c.args.inp c.requires.may.inp c.requires.may.inp_there
