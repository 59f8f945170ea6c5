use Rattle.spi_term.proofs.Choices.{on_ok}
use Rattle.spi_message.proofs.Fills.{below_keeps}
use Rattle.spi_message.proofs.FillsTypes.{message_fills}
use Rattle.spi_message.proofs.Standing.{environment_keeps}
use Rattle.spi_message.proofs.Questions.{asked_alone}
use Rattle.spi_message.proofs.Goods.{filled_below, good_end, good_many, good_check}
use Rattle.spi_message.proofs.Examining.{atom_gives, un_label}
use Rattle.spi_message.proofs.goodness.is_good_atom.Goals as goal

pub filled_message-requires-clause-message : goal.filled_message-requires-clause-message
filled_message-requires-clause-message c = rw c.message_of.ensures c.requires.atom

pub is_label-requires-clause-message : goal.is_label-requires-clause-message
is_label-requires-clause-message c = filled_below c.in_ok-filled.ensures.at

pub is_label-requires-clause-names : goal.is_label-requires-clause-names
is_label-requires-clause-names c = environment_keeps c.in_ok-filled.ensures.kept c.requires.names

pub has_type-requires-clause-message : goal.has_type-requires-clause-message
has_type-requires-clause-message c = below_keeps c.in_ok-filled.filled c.in_ok-un-in-Check.ensures.kept.messages (filled_below c.in_ok-filled.ensures.at)

pub has_type-requires-clause-asked : goal.has_type-requires-clause-asked
has_type-requires-clause-asked c = asked_alone (environment_keeps c.in_ok-un-in-Check.ensures.kept (environment_keeps c.in_ok-filled.ensures.kept c.requires.names)) record { type = _; means = c.in_ok-un-in-Check.ensures.at } c.new-none.ensures.items

pub is_label-requires-in-Many-clause-message : goal.is_label-requires-in-Many-clause-message
is_label-requires-in-Many-clause-message c = filled_below c.in_ok-filled.ensures.at

pub is_label-requires-in-Many-clause-names : goal.is_label-requires-in-Many-clause-names
is_label-requires-in-Many-clause-names c = environment_keeps c.in_ok-filled.ensures.kept c.requires.names

pub returns-in-End-clause-answer : goal.returns-in-End-clause-answer
returns-in-End-clause-answer c = good_end _ _ c.in-End.is c.in_ok-filled.ensures.kept (message_fills c.message_of.ensures c.in-End.is c.in_ok-filled.ensures.at) c.is_label.result c.is_label.ensures.answer

pub returns-in_ok-un-in-Check-clause-answer : goal.returns-in_ok-un-in-Check-clause-answer
returns-in_ok-un-in-Check-clause-answer c = good_check _ _ c.in-Check.is c.in_ok-filled.ensures.kept (message_fills c.message_of.ensures c.in-Check.is c.in_ok-filled.ensures.at) c.in_ok-un-in-Check.ensures.kept c.in_ok-un-in-Check.ensures.at c.new-none.ensures.items c.has_type.result c.has_type.ensures.answer

pub returns-in-Many-clause-answer : goal.returns-in-Many-clause-answer
returns-in-Many-clause-answer c = good_many _ _ c.in-Many.is c.in_ok-filled.ensures.kept (message_fills c.message_of.ensures c.in-Many.is c.in_ok-filled.ensures.at) c.is_label-in-Many.result c.is_label-in-Many.ensures.answer

pub returns-in-End-clause-adds : goal.returns-in-End-clause-adds
returns-in-End-clause-adds c = let f = c.in_ok-filled.ensures in on_ok c.is_label.result (atom_gives c.args.a c.message_of.ensures f.kept f.at f.adds) c.is_label.ensures.adds

pub returns-in-Many-clause-adds : goal.returns-in-Many-clause-adds
returns-in-Many-clause-adds c = let f = c.in_ok-filled.ensures in on_ok c.is_label-in-Many.result (atom_gives c.args.a c.message_of.ensures f.kept f.at f.adds) c.is_label-in-Many.ensures.adds

pub returns-in_ok-un-in-Check-clause-adds : goal.returns-in_ok-un-in-Check-clause-adds
returns-in_ok-un-in-Check-clause-adds c =
    let f = c.in_ok-filled.ensures in
    let u = c.in_ok-un-in-Check.ensures in
    on_ok c.has_type.result (λ h. atom_gives c.args.a c.message_of.ensures f.kept f.at f.adds (un_label c.in_ok-filled.filled u.kept u.adds u.at (filled_below f.at) c.new-none.ensures.items h)) c.has_type.ensures.adds
