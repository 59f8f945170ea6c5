use Rattle.std.proofs.Common.{Bool}
use Rattle.spi_term.specs.Term.{Atom, Effect}
use Rattle.spi_count.specs.Sums.{sum_keys}
use Rattle.spi_audit.specs.Accounts.{HeldBy}
use Rattle.spi_audit.proofs.Loosening.{Loosened}
use Rattle.spi_audit.proofs.accounts.loosen.Given as goal

abbrev pub invariant-loop-kind : goal.invariant-loop-kind
invariant-loop-kind l =
    (from : Atom → Bool) (es : Effect) → HeldBy l.store l.keys from l.fn.account.sum l.fn.account.loose.counts l.fn.account.lasting es → Loosened l.store l.keys l.scope from l.account.sum l.account.loose.counts l.account.lasting es

abbrev pub decreases-loop-kind : goal.decreases-loop-kind
decreases-loop-kind l = sum_keys l.account.sum
