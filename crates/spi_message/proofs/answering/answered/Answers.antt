use Rattle.std.proofs.Common.{refl, ◌≡◌, arith, length}
use Rattle.spi_message.proofs.Kept.{still_kept, one_more, answer_held}
use Rattle.spi_message.proofs.Examining.{kept_answer}
use Rattle.spi_message.proofs.answering.answered.Goals as goal

pub returns-in-Some-clause-answer : goal.returns-in-Some-clause-answer
returns-in-Some-clause-answer c =
    let n : c.len-names.result ≡ length c.args.types.now.items = omega arith in
    answer_held c.len-names.result c.args.asked c.in-Some.answer n c.requires.answers c.in-Some.ensures.some

pub returns-in_err-answer-in-None-clause-answers : goal.returns-in_err-answer-in-None-clause-answers
returns-in_err-answer-in-None-clause-answers c = still_kept c.ask.ensures.kept c.requires.names c.ask.ensures.types refl c.requires.answers

pub returns-in_err-keep-in-None-clause-answers : goal.returns-in_err-keep-in-None-clause-answers
returns-in_err-keep-in-None-clause-answers c = still_kept c.ask.ensures.kept c.requires.names c.ask.ensures.types c.in_err-keep-in-None.ensures.err c.requires.answers

pub returns-in_ok-keep-in-None-clause-answers : goal.returns-in_ok-keep-in-None-clause-answers
returns-in_ok-keep-in-None-clause-answers c =
    let n : c.len-names.result ≡ length c.args.types.now.items = omega arith in
    one_more c.len-names.result c.args.asked c.in_ok-answer-in-None.answer c.ask.ensures.kept c.requires.names c.ask.ensures.types n c.in_ok-keep-in-None.ensures.ok c.requires.asked c.in_ok-answer-in-None.ensures.answer c.requires.answers

pub returns-in-Some-clause-adds : goal.returns-in-Some-clause-adds
returns-in-Some-clause-adds c = kept_answer c.args.store.now c.args.types.now.items c.args.asked

pub returns-in_ok-keep-in-None-clause-adds : goal.returns-in_ok-keep-in-None-clause-adds
returns-in_ok-keep-in-None-clause-adds c = c.in_ok-answer-in-None.ensures.adds
