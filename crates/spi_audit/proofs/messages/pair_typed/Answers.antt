use Rattle.spi_audit.proofs.MessageParts.{pair_given, pair_fits, pair_not}
use Rattle.spi_audit.proofs.Parts.{given_place, pair_told, no_pair_told}
use Rattle.spi_audit.proofs.messages.pair_typed.Goals as goal

pub ty_part-requires : goal.ty_part-requires
ty_part-requires c = given_place c.store.ensures c.requires.ty

pub opened-requires-clause-ty : goal.opened-requires-clause-ty
opened-requires-clause-ty c = pair_given (pair_told c.store.ensures c.args.t c.in-Pair.first c.in-Pair.second c.in-Pair.ensures) c.requires.ty

pub returns-in_ok-rest-in-Pair-clause-answer : goal.returns-in_ok-rest-in-Pair-clause-answer
returns-in_ok-rest-in-Pair-clause-answer c =
    pair_fits c.args.judge.now c.opened.new.self c.args.t c.in-Pair.first c.in-Pair.second c.in_ok-rest-in-Pair.rest c.args.a c.args.b c.in_ok-rest-in-Pair.ensures.kept (pair_told c.store.ensures c.args.t c.in-Pair.first c.in-Pair.second c.in-Pair.ensures) c.in_ok-rest-in-Pair.ensures.at

pub returns-in_default-clause-answer : goal.returns-in_default-clause-answer
returns-in_default-clause-answer c = pair_not c.args.judge.now c.args.t c.args.a c.args.b (no_pair_told c.store.ensures c.args.t c.ty_part.result c.in_default.not-Pair c.ty_part.ensures)
