use Rattle.std.proofs.Common.{[], ◌∷◌}
use Rattle.spi_audit.proofs.Holding.{held_less, below_none}
use Rattle.spi_count.proofs.Below.{below_one}
use Rattle.spi_audit.proofs.accounts.drop_atom.Goals as goal

pub returns : goal.returns
returns c s b k kd says l es h = held_less (b ∷ []) h (below_none k (b ∷ []) (below_one {n = k} b l)) (c.take_atom.ensures s b h.inner kd says h.stands)
