use Rattle.std.proofs.Common.{◌≡◌, subst, sym, ℕ, ◌∙◌, max}
use Rattle.spi_effect.specs.Made.{greater}
use Rattle.spi_count.specs.Counts.{count_of}
use Rattle.spi_count.specs.Sums.{part}
use Rattle.spi_count.specs.declared.sum.AtomKind.{AtomKind}
use Rattle.spi_audit.specs.Accounts.{HeldBy, outer}
use Rattle.spi_audit.proofs.Holding.{held_greatest}
use Rattle.spi_audit.proofs.accounts.Account.greatest.Goals as goal

pub returns : goal.returns
returns c s keys n es fs kd h k =
    let a = c.in_ok-sum in
    let counts : (kind : AtomKind) (j : ℕ) → count_of (part kind c.in_ok-greatest.greatest) j ≡ max (count_of (part kind c.args.self.sum) j) (count_of (part kind c.args.other.sum) j) = λ kind j. c.in_ok-greatest.ensures kind j ∙ (λ i. max (count_of (part kind (a.ensures.first i)) j) (count_of (part kind (a.ensures.second i)) j)) in
    subst (λ b. HeldBy s keys (outer n) c.in_ok-greatest.greatest a.loose.counts b (greater es fs)) (sym a.ensures.lasting) (held_greatest kd h k counts a.ensures.loose)
