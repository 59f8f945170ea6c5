use Rattle.spi_message.proofs.FillsTypes.{fills_end, fills_check, fills_many, message_fills}
use Rattle.spi_message.proofs.Added.{atom_added}
use Rattle.spi_message.proofs.filling.filled_atom.Goals as goal

pub filled_message-requires-clause-message : goal.filled_message-requires-clause-message
filled_message-requires-clause-message c = rw c.message_of.ensures c.requires.message

pub returns-in-End-clause-at : goal.returns-in-End-clause-at
returns-in-End-clause-at c = fills_end c.in-End.is (message_fills c.message_of.ensures c.in-End.is c.in_ok-filled.ensures.at)

pub returns-in-Check-clause-at : goal.returns-in-Check-clause-at
returns-in-Check-clause-at c = fills_check c.in-Check.is (message_fills c.message_of.ensures c.in-Check.is c.in_ok-filled.ensures.at)

pub returns-in-Many-clause-at : goal.returns-in-Many-clause-at
returns-in-Many-clause-at c = fills_many c.in-Many.is (message_fills c.message_of.ensures c.in-Many.is c.in_ok-filled.ensures.at)

pub returns-in-End-clause-adds : goal.returns-in-End-clause-adds
returns-in-End-clause-adds c = atom_added c.args.a c.message_of.ensures c.in_ok-filled.ensures.adds

pub returns-in-Check-clause-adds : goal.returns-in-Check-clause-adds
returns-in-Check-clause-adds c = atom_added c.args.a c.message_of.ensures c.in_ok-filled.ensures.adds

pub returns-in-Many-clause-adds : goal.returns-in-Many-clause-adds
returns-in-Many-clause-adds c = atom_added c.args.a c.message_of.ensures c.in_ok-filled.ensures.adds
