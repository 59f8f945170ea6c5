use Rattle.spi_audit.proofs.Turning.{no_items, two_first, branch_two, branch_changes, branch_held}
use Rattle.spi_audit.proofs.changing.change_branch.Goals as goal

pub both_sides-requires-clause-first : goal.both_sides-requires-clause-first
both_sides-requires-clause-first c = (branch_held c.args.store.now c.args.keys.now c.args.scope c.args.stack.now.items c.pop.new.self.items c.pop-in-Some.new.self.items c.in-Some.a c.in-Some-pop.b c.in-Some.ensures.items c.in-Some-pop.ensures.items c.requires.before).0

pub both_sides-requires-clause-second : goal.both_sides-requires-clause-second
both_sides-requires-clause-second c = (branch_held c.args.store.now c.args.keys.now c.args.scope c.args.stack.now.items c.pop.new.self.items c.pop-in-Some.new.self.items c.in-Some.a c.in-Some-pop.b c.in-Some.ensures.items c.in-Some-pop.ensures.items c.requires.before).1

pub returns-in-None-pop : goal.returns-in-None-pop
returns-in-None-pop c = two_first (branch_two c.args.scope) c.args.stack.now.items c.pop.new.self.items c.pop-in-Some.new.self.items c.in-Some.a _ c.in-Some.ensures.items (no_items c.pop.new.self c.in-None-pop.ensures.cases.0)

pub returns-in_ok-push-in-Some-pop : goal.returns-in_ok-push-in-Some-pop
returns-in_ok-push-in-Some-pop c =
    branch_changes c.args.store.now c.args.keys.now c.args.scope c.args.stack.now.items c.pop.new.self.items c.pop-in-Some.new.self.items c.push.new.self.items c.in-Some.a c.in-Some-pop.b c.in_ok-most-in-Some-pop.most c.in_ok-pays-in-Some-pop.pays c.in-Some.ensures.items c.in-Some-pop.ensures.items c.in_ok-push-in-Some-pop.ensures.items
    (λ es fs h j. let r = c.in_ok-pays-in-Some-pop.ensures es fs h j in (c.in_ok-most-in-Some-pop.ensures c.args.store.now c.args.keys.now c.args.scope es fs c.requires.before.keyed r.0 r.1, r.2))
