-- Annotations of type Un.
use Rattle.std.proofs.Common.{ℕ}
use Rattle.spi_term.specs.Term.{Message, Ty, un}
use Rattle.spi_term.specs.Substitution.{ty_map}
use Rattle.spi_run.specs.Opponent.{IsUn}

-- a map of messages changes no annotation that is Un
pub un_map : (f : ℕ → Message → Message) (k : ℕ) (t : Ty) → IsUn t → IsUn (ty_map f k t)
un_map f k un h = tt
un_map f k _ h = absurd h
