-- Tables of answers.
use Rattle.std.specs.Prelude.{ℕ, List}
use Rattle.spi_commands.specs.declared.status.Status.{Status}
use Rattle.spi_commands.specs.declared.status.Status.TheVariants.{Yes, No, Refused, ReadFault, WriteFault, NoMemory, Usage}

-- What a command answers, by the outputs of its yes, of its no and of its refusal. No other status is an answer.
abbrev pub Answers : (List ℕ → Type 0) → (List ℕ → Type 0) → (List ℕ → Type 0) → Status → List ℕ → Type 0
Answers accepted denied refused Yes output = accepted output
Answers accepted denied refused No output = denied output
Answers accepted denied refused Refused output = refused output
Answers accepted denied refused ReadFault output = ⊥
Answers accepted denied refused WriteFault output = ⊥
Answers accepted denied refused NoMemory output = ⊥
Answers accepted denied refused Usage output = ⊥

-- the outputs of an answer that doesn't come
abbrev pub never : List ℕ → Type 0
never output = ⊥
