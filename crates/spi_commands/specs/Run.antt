-- How a call of `run` ends.
use Rattle.std.specs.Prelude.{◌≡◌, ◌≢◌, ◌⊎◌, ℕ, ◌+◌, ◌<◌, ◌≤◌, List, length, codes, Some, None, ⊤}
use Rattle.std.specs.declared.option.Option.{Option}
use Rattle.std.specs.Io.KnownBytes.{Appends, Keeps, IsAtEnd}
use Rattle.spi_io.specs.Causes.{Rose, PutsPrefix, TakesCount}
use Rattle.spi_play.specs.Way.{Seen}
use Rattle.spi_commands.specs.declared.asked.Command.{Command}
use Rattle.spi_commands.specs.declared.status.Status.{Status}
use Rattle.spi_commands.specs.declared.status.Status.TheVariants.{Yes, No, Refused, ReadFault, WriteFault, NoMemory, Usage}
use Rattle.spi_commands.specs.Spelled.{limit}
use Rattle.spi_commands.specs.Commands.{AnswersTo}

-- the line for words that are no command
abbrev pub usage_line : List ℕ
usage_line = codes
    "usage: check | derive | verify | replay | play --steps N [--player I] | print | load K | upgrade | narrate | knows I | bench\n"

-- What is to be answered to a command, or to no command: the bytes are the file, and the players are as
-- they are seen before the call and after it.
abbrev pub Wants : Option Command → List ℕ → List Seen → List Seen → Status → List ℕ → Type 0
Wants None bytes before after status output = (status ≡ Usage) × (output ≡ usage_line)
Wants (Some command) bytes before after status output = AnswersTo command bytes before after status output

-- the status comes with a whole output
abbrev pub IsAnswered : Status → Type 0
IsAnswered Yes = ⊤
IsAnswered No = ⊤
IsAnswered Refused = ⊤
IsAnswered ReadFault = ⊥
IsAnswered WriteFault = ⊥
IsAnswered NoMemory = ⊥
IsAnswered Usage = ⊤

-- A call of which this is wanted ends with the status. What its sink holds, where it tells that, goes from
-- old to new: the wanted output is appended, or with WriteFault a prefix of it, or with ReadFault and NoMemory nothing.
abbrev pub Ends : (Status → List ℕ → Type 0) → Option (List ℕ) → Option (List ℕ) → Status → Type 0
Ends wants old new Yes = (output : List ℕ) × wants Yes output × Appends old new output
Ends wants old new No = (output : List ℕ) × wants No output × Appends old new output
Ends wants old new Refused = (output : List ℕ) × wants Refused output × Appends old new output
Ends wants old new ReadFault = Keeps old new
Ends wants old new WriteFault = (status : Status) × (output : List ℕ) × wants status output
    × PutsPrefix old new output
Ends wants old new NoMemory = Keeps old new
Ends wants old new Usage = (output : List ℕ) × wants Usage output × Appends old new output

-- what is wanted is done, or memory ran out
abbrev pub Completes : (Status → List ℕ → Type 0) → Option (List ℕ) → Option (List ℕ) → Status → Type 0
Completes wants old new status =
    (status ≡ NoMemory) ⊎ ((output : List ℕ) × wants status output × Appends old new output)

-- no fault rose, by the counts of the source and of the sink, and memory didn't run out
abbrev pub IsUndisturbed : ℕ → ℕ → ℕ → ℕ → Status → Type 0
IsUndisturbed reads reads' writes writes' status = (¬ Rose reads reads') × (¬ Rose writes writes')
    × (status ≢ NoMemory)

-- the bytes that were left are all taken, or one more than an input may have, where there are so many
abbrev pub TakesInput : Option (List ℕ) → Option (List ℕ) → Type 0
TakesInput None new = ⊤
TakesInput (Some bytes) new = (length bytes ≤ limit → IsAtEnd new)
    × (limit < length bytes → TakesCount (Some bytes) new (limit + 1))
