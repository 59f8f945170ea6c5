-- The least effect of a process.
use Rattle.spi_effect.specs.Effect.{Within}
use Rattle.spi_rules.specs.Derivations.{Derivable}
use Rattle.spi_rules.specs.Environment.{Env}
use Rattle.spi_term.specs.Term.{Effect, Process}

-- the least effect
pub record Least (env : Env) (p : Process) (es : Effect) : Type 0 where
  pub derivable : Derivable env p es
  pub least : (fs : Effect) → Derivable env p fs → Within es fs
