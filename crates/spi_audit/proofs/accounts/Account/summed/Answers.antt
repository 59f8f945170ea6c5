use Rattle.std.proofs.Common.{◌≡◌, subst, sym, ℕ, ◌∙◌, ◌++◌}
use Rattle.spi_count.specs.Counts.{count_of}
use Rattle.spi_count.specs.Sums.{part, both_counts}
use Rattle.spi_count.specs.declared.sum.AtomKind.{AtomKind}
use Rattle.spi_audit.specs.Accounts.{HeldBy, outer}
use Rattle.spi_audit.proofs.Holding.{held_joined}
use Rattle.spi_audit.proofs.accounts.Account.summed.Goals as goal

pub returns : goal.returns
returns c s keys n es fs kd h k =
    let a = c.in_ok-sum in
    let counts : (kind : AtomKind) (j : ℕ) → count_of (part kind c.in_ok-joined.joined) j ≡ both_counts kind (count_of (part kind c.args.self.sum) j) (count_of (part kind c.args.other.sum) j) = λ kind j. c.in_ok-joined.ensures kind j ∙ (λ i. both_counts kind (count_of (part kind (a.ensures.first i)) j) (count_of (part kind (a.ensures.second i)) j)) in
    subst (λ b. HeldBy s keys (outer n) c.in_ok-joined.joined a.loose.counts b (es ++ fs)) (sym a.ensures.lasting) (held_joined kd h k counts a.ensures.loose)
