use Rattle.std.proofs.Common.{◌≡◌, ℕ, Result, Ok, Err, IfOk, subst}
use Rattle.spi_term.specs.Term.{Process}
use Rattle.spi_rules.specs.Environment.{Env, untrusted}
use Rattle.spi_message.specs.Judging.{Numbered, Stands}
use Rattle.spi_infer.specs.Inferring.{AnswersIn, AnswersOver}
use Rattle.spi_infer.specs.declared.Inferred.{Inferred}
use Rattle.spi_infer.proofs.inferring.infer_over.Goals as goal

-- an answer in each environment that the judge stands for is one where the free names are untrusted
over : {E : Type 0} (j : Numbered) (p : Process) {n k : ℕ} (r : Result Inferred E) → n ≡ k → Stands j (untrusted n) → IfOk r (λ x. (env : Env) → Stands j env → AnswersIn env p x) → IfOk r (AnswersOver k p)
over j p (Ok x) e s h = h (untrusted _) (subst (λ i. Stands j (untrusted i)) e s)
over j p (Err x) e s h = tt

pub returns : goal.returns
returns g c = over c.in_ok-judge.judge c.args.process.now.process c.infer_in.result c.names.ensures c.in_ok-judge.ensures.names c.infer_in.ensures.answer
