use Rattle.std.proofs.Common.{◌+◌, ◌∙◌, sym, ap, take}
use Rattle.std.proofs.lemmas.List.{take_all}
use Rattle.spi_count.specs.Counts.{count_of}
use Rattle.spi_count.specs.Sums.{part, both_counts}
use Rattle.spi_count.specs.Piles.{waits}
use Rattle.spi_count.proofs.Summed.{take_step}
use Rattle.spi_count.proofs.Waiting.{both_none, one_counted}
use Rattle.spi_count.proofs.pile.count_all.Goals as goal

pub loop-atom-init : goal.loop-atom-init
loop-atom-init c kind k = sym (both_none kind (count_of (part kind c.args.sum.now) k))

pub loop-atom-preserved : goal.loop-atom-preserved
loop-atom-preserved c kind k =
    one_counted kind (count_of (part kind c.args.sum.now) k) (count_of (part kind c.loop-atom.sum) k) (count_of (part kind c.put.new.self) k) (take c.loop-atom.atom-index c.args.late.now) (take (c.loop-atom.atom-index + 1) c.args.late.now) _ k (take_step c.args.late.now c.loop-atom.atom-index _ c.loop-atom-test.true) (c.loop-atom.invariant kind k) (c.in_ok-put.ensures kind k)

pub returns : goal.returns
returns c kind k =
    c.loop-atom.invariant kind k
    ∙ ap (λ ws. both_counts kind (count_of (part kind c.args.sum.now) k) (waits kind ws k)) (take_all c.loop-atom.atom-index c.args.late.now c.loop-atom-test.false)
