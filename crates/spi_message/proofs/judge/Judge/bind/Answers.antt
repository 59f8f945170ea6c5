use Rattle.std.proofs.Common.{subst, sym, length, ◌<◌}
use Rattle.spi_intern.specs.Given.{IsGiven}
use Rattle.spi_message.specs.Judging.{Numbered}
use Rattle.spi_message.proofs.Kept.{inside_bound}
use Rattle.spi_message.proofs.judge.Judge.bind.Goals as goal

pub invariant_of-self-2 : goal.invariant_of-self-2
invariant_of-self-2 c =
    let v = sym c.self.view_is in
    inside_bound c.self.invariant (subst (λ (j : Numbered). IsGiven j.store c.args.t.place) v c.requires.ty) (subst (λ (j : Numbered). length j.types < 4294967295) v c.requires.room) c.in_ok-push.ensures.items
