use Rattle.std.proofs.Common.{sym, subst, length, IfOk, OnOk}
use Rattle.spi_term.proofs.Choices.{on_ok}
use Rattle.spi_message.specs.declared.answers.Asked.{Asked}
use Rattle.spi_message.specs.Answered.{TellsTest, CanAsk}
use Rattle.spi_message.proofs.Judges.{typed_in, labelled_in, good_in, small_asked}
use Rattle.spi_message.specs.Added.{AnswerGives}
use Rattle.spi_message.proofs.Examining.{typing_answer, label_answer, good_answer}
use Rattle.spi_message.proofs.answering.ask.Goals as goal

pub returns-in-Typed-clause-answer : goal.returns-in-Typed-clause-answer
returns-in-Typed-clause-answer c =
    let s = c.args.store.now in
    let ids = c.args.types.now.items in
    subst (λ (a : Asked). IfOk c.has_type.result (TellsTest s ids a)) (sym c.in-Typed.is) (typed_in s 0 ids c.in-Typed.m c.in-Typed.t c.deref.ensures.value c.new-values.ensures.items c.has_type.result c.has_type.ensures.answer)

pub returns-in-Labelled-clause-answer : goal.returns-in-Labelled-clause-answer
returns-in-Labelled-clause-answer c =
    let s = c.args.store.now in
    let ids = c.args.types.now.items in
    subst (λ (a : Asked). IfOk c.is_label.result (TellsTest s ids a)) (sym c.in-Labelled.is) (labelled_in s 0 ids c.in-Labelled.m c.deref-in-Labelled.ensures.value c.is_label.result c.is_label.ensures.answer)

pub is_good_type-requires : goal.is_good_type-requires
is_good_type-requires c = small_asked c.requires.names (subst (CanAsk c.args.store.now (length c.args.types.now.items)) c.in-Good.is c.requires.asked) c.new-values.ensures.items

pub returns-clause-answer : goal.returns-clause-answer
returns-clause-answer c =
    let s = c.args.store.now in
    let ids = c.args.types.now.items in
    subst (λ (a : Asked). IfOk c.is_good_type.result (TellsTest s ids a)) (sym c.in-Good.is) (good_in s 0 ids c.in-Good.t c.new-values.ensures.items c.is_good_type.result c.is_good_type.ensures.answer)

pub returns-in-Typed-clause-adds : goal.returns-in-Typed-clause-adds
returns-in-Typed-clause-adds c =
    let s = c.args.store.now in
    let ids = c.args.types.now.items in
    subst (λ (a : Asked). OnOk c.has_type.result (AnswerGives s c.has_type.new.store ids a)) (sym c.in-Typed.is) (on_ok c.has_type.result (typing_answer c.in-Typed.m c.in-Typed.t c.deref.ensures.value c.new-values.ensures.items) c.has_type.ensures.adds)

pub returns-in-Labelled-clause-adds : goal.returns-in-Labelled-clause-adds
returns-in-Labelled-clause-adds c =
    let s = c.args.store.now in
    let ids = c.args.types.now.items in
    subst (λ (a : Asked). OnOk c.is_label.result (AnswerGives s c.is_label.new.store ids a)) (sym c.in-Labelled.is) (on_ok c.is_label.result (label_answer c.in-Labelled.m c.deref-in-Labelled.ensures.value) c.is_label.ensures.adds)

pub returns-clause-adds : goal.returns-clause-adds
returns-clause-adds c =
    let s = c.args.store.now in
    let ids = c.args.types.now.items in
    subst (λ (a : Asked). OnOk c.is_good_type.result (AnswerGives s c.is_good_type.new.store ids a)) (sym c.in-Good.is) (on_ok c.is_good_type.result (good_answer c.in-Good.t c.new-values.ensures.items) c.is_good_type.ensures.adds)
