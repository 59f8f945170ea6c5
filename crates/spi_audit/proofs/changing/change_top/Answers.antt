use Rattle.spi_audit.proofs.Turning.{no_items, before_one, changes_none, changes_top}
use Rattle.spi_audit.proofs.changing.change_top.Goals as goal

pub change_one-requires-clause-before : goal.change_one-requires-clause-before
change_one-requires-clause-before c = before_one c.requires.one c.args.stack.now.items c.pop.new.self.items c.in-Some.account c.in-Some.ensures.items c.requires.before

pub returns-in-None : goal.returns-in-None
returns-in-None c = changes_none c.requires.one c.args.stack.now.items c.pop.new.self.items _ (no_items c.args.stack.now c.in-None.ensures.cases.0)

pub returns-in_ok-push-in-Some : goal.returns-in_ok-push-in-Some
returns-in_ok-push-in-Some c =
    changes_top c.requires.one c.args.stack.now.items c.pop.new.self.items c.push.new.self.items c.in-Some.account c.change_one.new.account c.in_ok-pays-in-Some.pays c.in-Some.ensures.items c.in_ok-push-in-Some.ensures.items c.in_ok-pays-in-Some.ensures
