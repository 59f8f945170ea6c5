-- What the program's answer says.
use Rattle.std.specs.Prelude.{◌≡◌, ℕ, List, reverse, Option, Some, None}
use Rattle.spi_blame.specs.Blaming.{Question, typed, labelled, AnswersYes, Asks, Blamed}
use Rattle.spi_blame.specs.declared.blame.Blame.{Blame}
use Rattle.spi_rules.specs.Environment.{Env}
use Rattle.spi_term.specs.Lists.{At}
use Rattle.spi_term.specs.Term as Term
use Rattle.spi_term.specs.Term.{Message, name, enc, un, key}
use Rattle.spi_term.specs.View.{message, ty}
use Rattle.spi_term.specs.declared.term.Msg.{Msg}
use Rattle.spi_term.specs.declared.term.Ty.{Ty}

-- what is asked of a part: a type, or to be a label
abbrev pub question_of : Msg → Option Ty → Question
question_of m None = labelled (message m)
question_of m (Some t) = typed (message m) (ty t)

-- nothing where the question holds, and else what is to blame
abbrev pub TellsBlame : Env → Question → Option Blame → Type 0
TellsBlame env q None = AnswersYes env q
TellsBlame env q (Some b) = Blamed env q (reverse b.steps.items) (question_of b.part b.wanted)

-- the message is a name of type Key(t)
abbrev pub IsKeyOfMessage : Env → Message → Term.Ty → Type 0
IsKeyOfMessage env m t = (x : ℕ) × (m ≡ name x) × At env x (key t)

-- q asks all that {m}n asks where it is to be Un
abbrev pub AsksSealed : Env → Question → Message → Message → Type 0
AsksSealed env q m n = (qs : List Question) → Asks env (typed (enc m n) un) qs → Asks env q qs
