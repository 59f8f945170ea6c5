use Rattle.std.proofs.Common.{refl, subst}
use Rattle.spi_message.proofs.Judges.{OpenedIn, opened_in}
use Rattle.spi_message.proofs.Giving.{OpeningAdds, opened_adds}
use Rattle.spi_message.proofs.Kept.{inside_keeps}
use Rattle.spi_message.proofs.judge.Judge.opened.Goals as goal

pub invariant_of-self : goal.invariant_of-self
invariant_of-self c = inside_keeps c.filled_type.ensures.kept refl c.self.invariant

pub returns-clause-at : goal.returns-clause-at
returns-clause-at c =
    let s = c.self.inside in
    subst (OpenedIn c.filled_type.result c.filled_type.new.store c.args.t c.args.m) c.self.view_is (opened_in s.store c.filled_type.new.store s.free s.types.items c.args.t c.args.m c.filled_type.result c.filled_type.ensures.at)

pub returns-clause-adds : goal.returns-clause-adds
returns-clause-adds c =
    let s = c.self.inside in
    subst (OpeningAdds c.filled_type.result c.filled_type.new.store c.args.t c.args.m) c.self.view_is (opened_adds s.store c.filled_type.new.store s.free s.types.items c.args.t c.args.m c.filled_type.result c.filled_type.ensures.adds)
