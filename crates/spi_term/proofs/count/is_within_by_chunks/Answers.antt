use Rattle.std.proofs.Common.{◌-◌, map, take, drop, true≢false, sym, ◌∙◌, arith}
use Rattle.spi_term.specs.View.{atom}
use Rattle.spi_term.proofs.Chunks.{all_within_more, all_within_told, part_not_within}
use Rattle.spi_term.proofs.count.is_within_by_chunks.Goals as goal

pub returns-then-not-is_chunk_within : goal.returns-then-not-is_chunk_within
returns-then-not-is_chunk_within c =
    part_not_within (map atom (take (c.chunk_end-end.result - c.loop-start.start) (drop c.loop-start.start c.args.es.now))) (map atom c.args.es.now) (map atom c.args.fs.now)
    (λ w. true≢false (sym (c.is_chunk_within.ensures.1 w) ∙ c.if-not-is_chunk_within.true))

pub loop-start-preserved : goal.loop-start-preserved
loop-start-preserved c = record {
  short = omega (arith, c.chunk_end-end.ensures.within);
  so_far = all_within_more atom c.args.es.now c.loop-start.start c.chunk_end-end.result (map atom c.args.es.now) (map atom c.args.fs.now) (omega (arith, c.chunk_end-end.ensures.later)) c.loop-start.invariant.so_far (c.is_chunk_within.ensures.0 c.if-not-is_chunk_within.false);
}

pub returns : goal.returns
returns c = all_within_told atom c.args.es.now c.loop-start.start (map atom c.args.fs.now) c.loop-start-test.false c.loop-start.invariant.so_far
