use Rattle.spi_audit.proofs.Turning.{no_items, two_first, both_two, both_changes}
use Rattle.spi_audit.proofs.changing.change_both.Goals as goal

pub returns-in-None-pop : goal.returns-in-None-pop
returns-in-None-pop c s keys kd = two_first both_two c.args.stack.now.items c.pop.new.self.items c.pop-in-Some.new.self.items c.in-Some.a _ c.in-Some.ensures.items (no_items c.pop.new.self c.in-None-pop.ensures.cases.0)

pub returns-in_ok-push-in-Some-pop : goal.returns-in_ok-push-in-Some-pop
returns-in_ok-push-in-Some-pop c s keys kd =
    both_changes s keys c.args.stack.now.items c.pop.new.self.items c.pop-in-Some.new.self.items c.push.new.self.items c.in-Some.a c.in-Some-pop.b c.in_ok-sum-in-Some-pop.sum c.in-Some.ensures.items c.in-Some-pop.ensures.items c.in_ok-push-in-Some-pop.ensures.items (λ n es fs h k. c.in_ok-sum-in-Some-pop.ensures s keys n es fs kd h k)
