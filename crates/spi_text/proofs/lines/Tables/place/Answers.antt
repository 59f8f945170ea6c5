use Rattle.std.proofs.Common.{sym, subst, ap, ◌∙◌, List, ℕ, ltb}
use Rattle.std.specs.List.Sorted.{IsPartitionedBy}
use Rattle.spi_text.specs.Ends.{start_of}
use Rattle.spi_text.proofs.Ends.{partitioned, place_is}
use Rattle.spi_text.proofs.lines.Tables.place.Goals as goal

pub lines_before-line-requires : goal.lines_before-line-requires
lines_before-line-requires c =
    subst (λ (ends : List ℕ). IsPartitionedBy (λ end. ltb end c.args.offset) ends) (sym c.deref.ensures.value) (partitioned _ _ _ c.args.offset c.requires.ends)

pub returns : goal.returns
returns c = place_is _ _ _ _ _ _ _ c.deref.ensures.value c.requires.ends c.requires.within c.lines_before-line.ensures.bound c.lines_before-line.ensures.partitioned (c.start_of-start.ensures ∙ ap (λ (ends : List ℕ). start_of ends c.lines_before-line.result) c.deref-2.ensures.value) c.starts_between.ensures
