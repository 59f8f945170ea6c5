use Rattle.std.proofs.Common.{IsTrue, map}
use Rattle.spi_term.specs.View.{atom, pointed}
use Rattle.spi_term.proofs.Chunks.{chunk_told}
use Rattle.spi_term.proofs.count.is_chunk_within.Goals as goal

pub returns : goal.returns
returns c =
    chunk_told (IsTrue c.are_sorted_within.result) (map atom c.args.chunk.now) (pointed c.point.new.references) (pointed c.sort_atoms.new.atoms) (map atom c.args.es.now) (map atom c.args.fs.now)
    c.point.ensures c.sort_atoms.ensures.same c.are_sorted_within.ensures
