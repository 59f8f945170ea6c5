use Rattle.std.proofs.Common.{refl}
use Rattle.std.proofs.lemmas.Option.{slice_get_within}
use Rattle.spi_replay.proofs.Stepped.{on_err}
use Rattle.spi_replay.proofs.States.{pool_stays, state_stays, acts_here, act_done, state_acted}
use Rattle.spi_replay.proofs.running.act_now.Goals as goal

pub take-requires-clause-is : goal.take-requires-clause-is
take-requires-clause-is c = c.requires.is.places.each c.args.place c.at-here.result c.at-here.ensures

pub take-requires-clause-acts : goal.take-requires-clause-acts
take-requires-clause-acts c = acts_here c.args.state.now c.args.place c.requires.is c.requires.may c.at-here.ensures

pub moved-requires-clause-at : goal.moved-requires-clause-at
moved-requires-clause-at c = slice_get_within c.args.state.now.index.places.items c.args.place c.requires.may.place c.requires.may.there

pub returns-in_err-now-clause-unchanged : goal.returns-in_err-now-clause-unchanged
returns-in_err-now-clause-unchanged c = on_err c.from_residual.result (pool_stays c.args.state.now.names c.args.state.now.most c.take.ensures.kept.messages c.take.ensures.links c.requires.is.places refl)

pub returns-in_err-now-clause-is : goal.returns-in_err-now-clause-is
returns-in_err-now-clause-is c = state_stays c.take.ensures.kept.messages c.take.ensures.links refl refl c.requires.is

pub returns-in_err-moved-clause-unchanged : goal.returns-in_err-moved-clause-unchanged
returns-in_err-moved-clause-unchanged c = on_err c.from_residual-in_err-moved.result (pool_stays c.args.state.now.names c.args.state.now.most c.take.ensures.kept.messages c.take.ensures.links c.requires.is.places c.in_err-moved.ensures.same)

pub returns-in_err-moved-clause-is : goal.returns-in_err-moved-clause-is
returns-in_err-moved-clause-is c = state_stays c.take.ensures.kept.messages c.take.ensures.links c.in_err-moved.ensures.same refl c.requires.is

pub returns-clause-taken : goal.returns-clause-taken
returns-clause-taken c = act_done c.args.state.now c.args.place c.requires.is c.requires.may c.at-here.ensures c.in_ok-now.field-0 c.take.ensures.kept.messages c.take.ensures.links c.in_ok-now.ensures.taken c.in_ok-moved.ensures.moved

pub returns-clause-is : goal.returns-clause-is
returns-clause-is c = state_acted c.args.state.now c.args.place c.requires.is c.requires.may c.at-here.ensures _ c.in_ok-now.field-0 c.take.ensures.kept.messages c.take.ensures.links c.in_ok-now.ensures.taken c.in_ok-moved.ensures.moved refl

pub at-here-requires : goal.at-here-requires
at-here-requires c = slice_get_within c.args.state.now.index.places.items c.args.place c.requires.may.place c.requires.may.there
