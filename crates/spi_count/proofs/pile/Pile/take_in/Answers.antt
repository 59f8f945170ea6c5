use Rattle.std.proofs.Common.{◌∙◌}
use Rattle.std.proofs.lemmas.Result.{on_ok_weaker}
use Rattle.spi_count.specs.Counts.{count_of}
use Rattle.spi_count.specs.Sums.{part}
use Rattle.spi_count.proofs.Waiting.{taken_few, taken_late}
use Rattle.spi_count.proofs.pile.Pile.take_in.Goals as goal

pub returns-then-few : goal.returns-then-few
returns-then-few c =
    on_ok_weaker c.absorb.result (λ p kind k. taken_few kind (count_of (part kind c.args.self.now.sum) k) (count_of (part kind c.args.other.sum) k) (count_of (part kind c.absorb.new.self) k) c.args.self.now.late.items c.args.other.late.items c.append.new.self.items k (p kind k) c.in_ok-append.ensures.items) c.absorb.ensures

pub returns : goal.returns
returns c =
    on_ok_weaker c.settle_many.result (λ p kind k. p kind k ∙ taken_late kind (count_of (part kind c.args.self.now.sum) k) (count_of (part kind c.args.other.sum) k) _ c.args.self.now.late.items c.args.other.late.items c.append.new.self.items k (c.in_ok-put_off.ensures kind k) c.in_ok-append.ensures.items) c.settle_many.ensures
