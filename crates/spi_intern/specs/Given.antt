-- What a caller may put into a store: constructors over numbers that the store gave.
use Rattle.std.specs.Prelude.{ℕ, List}
use Rattle.spi_term.specs.Term.{Message, Effect, Ty}
use Rattle.spi_intern.specs.Table.{TellsAll}
use Rattle.spi_intern.specs.Messages.{Says}
use Rattle.spi_intern.specs.Atoms.{SaysAtom}
use Rattle.spi_intern.specs.Meaning.{Means}
use Rattle.spi_intern.specs.declared.messages.MsgPart.{MsgPart}
use Rattle.spi_intern.specs.declared.atoms.AtomId.{AtomId}
use Rattle.spi_intern.specs.declared.store.Store.{Store}

-- the number i is one that the store gave for a type
pub record IsGiven (s : Store) (i : ℕ) : Type 0 where
  pub type : Ty
  pub means : Means s i type

-- the parts are numbers of messages
pub record IsOverGiven (ms : List Message) (p : MsgPart) : Type 0 where
  pub message : Message
  pub says : Says ms p message

-- the atoms are over numbers of messages
pub record AreGiven (ms : List Message) (ids : List AtomId) : Type 0 where
  pub effect : Effect
  pub each : TellsAll (SaysAtom ms) ids effect
