use Rattle.std.proofs.Common.{sym, ◌∙◌}
use Rattle.std.proofs.lemmas.Bool.{false≢true}
use Rattle.spi_fault.proofs.Telling.{shows_here}
use Rattle.spi_fault.proofs.deciding.failing_here.Goals as goal

pub returns-then-branch : goal.returns-then-branch
returns-then-branch c none s q = (c.in_ok-holds.ensures none q).0 c.if-branch.true

pub returns : goal.returns
returns c none s q =
    (λ h. false≢true (sym c.if-branch.false ∙ (c.in_ok-holds.ensures none q).1 h), shows_here s _ _ q _ _ c.in_ok-subject.ensures none)
