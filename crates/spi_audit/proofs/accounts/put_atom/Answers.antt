use Rattle.std.proofs.Common.{[], ◌∷◌}
use Rattle.spi_audit.proofs.Holding.{held_more, below_none}
use Rattle.spi_count.proofs.Below.{below_one}
use Rattle.spi_audit.proofs.accounts.put_atom.Goals as goal

pub returns : goal.returns
returns c s b k kd says key l es h = held_more (b ∷ []) h (below_none k (b ∷ []) (below_one {n = k} b l)) (c.in_ok-add_atom.ensures s b h.inner kd says key h.stands)
