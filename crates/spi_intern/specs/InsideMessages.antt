-- The messages of a store.
use Rattle.std.specs.Prelude.{List}
use Rattle.spi_term.specs.Term.{Message}
use Rattle.spi_intern.specs.Table.{told_each, IsTable}
use Rattle.spi_intern.specs.Messages.{Says, said}
use Rattle.spi_intern.specs.declared.messages.Messages.TheInside.{Inside}

abbrev pub messages_in : Inside → List Message
messages_in s = told_each said s.parts.keys

abbrev pub IsInterned : Inside → Type 0
IsInterned s = IsTable Says s.parts.keys (messages_in s)
