use Rattle.std.proofs.Common.{ℕ, List, IfOk, subst}
use Rattle.spi_commands.specs.Refusals.{FitsBehind}
use Rattle.spi_commands.proofs.play.listed.Goals as goal

pub returns-clause-ok : goal.returns-clause-ok
returns-clause-ok c = subst (λ (text : List ℕ). IfOk c.within_limit.result (λ a. FitsBehind c.args.bytes.now text a.status a.output.items)) c.in_ok-output.ensures c.within_limit.ensures.ok
