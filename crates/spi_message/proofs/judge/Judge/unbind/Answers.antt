use Rattle.std.proofs.Common.{◌≡◌, subst, sym, length, ◌<◌, arith}
use Rattle.spi_message.specs.Judging.{Numbered}
use Rattle.spi_message.proofs.Kept.{inside_unbound}
use Rattle.spi_message.proofs.judge.Judge.unbind.Goals as goal

pub invariant_of-self : goal.invariant_of-self
invariant_of-self c =
    let free : c.self.inside.free < length c.self.inside.types.items = subst (λ (j : Numbered). j.free < length j.types) (sym c.self.view_is) c.requires in
    let names : c.len.result ≡ length c.pop.new.self.items = omega arith in
    inside_unbound c.pop.result c.self.invariant c.pop.ensures.items free names c.forget_above.ensures.first c.forget_above.ensures.within
