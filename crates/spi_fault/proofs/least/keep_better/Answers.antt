use Rattle.std.proofs.Common.{sym, ◌∙◌}
use Rattle.std.proofs.lemmas.Bool.{false≢true}
use Rattle.spi_term.specs.View.{atom}
use Rattle.spi_fault.specs.Trying.{IsOf}
use Rattle.spi_fault.proofs.Texts.{best_keeps, best_takes}
use Rattle.spi_fault.proofs.least.keep_better.Goals as goal

pub returns-then-not-is_better : goal.returns-then-not-is_better
returns-then-not-is_better c all es at h = best_keeps c.args.names.now (IsOf c.args.kind) all es (atom c.args.a.now) c.args.best.now (λ b. false≢true (sym c.if-not-is_better.true ∙ c.is_better.ensures.1 b)) h

pub returns : goal.returns
returns c all es at h = best_takes c.args.names.now (IsOf c.args.kind) all es (atom c.args.a.now) c.args.i c.in_ok-text.text c.args.best.now (c.is_better.ensures.0 c.if-not-is_better.false) at c.in_ok-text.ensures h
