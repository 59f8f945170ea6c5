-- One question more.
use Rattle.std.proofs.Common.{◌≡◌, sym, subst, List, [], ◌∷◌, ◌++◌}
use Rattle.spi_blame.specs.Blaming.{Question}
use Rattle.spi_blame.specs.Told.{question_of, TellsBlame}
use Rattle.spi_explain.specs.Premises.{AreAnswered, answered_none, answered_next}
use Rattle.spi_explain.specs.declared.blaming.Answer.{Answer}
use Rattle.spi_rules.specs.Environment.{Env}

pub answered_more : (env : Env) (q : Question) (a : Answer) {qs : List Question} {rs : List Answer} → question_of a.message a.wanted ≡ q → TellsBlame env q a.blame → AreAnswered env qs rs → AreAnswered env (qs ++ q ∷ []) (rs ++ a ∷ [])
answered_more env q a e t answered_none =
    let h = subst (λ q. TellsBlame env q a.blame) (sym e) t in
    subst (λ q. AreAnswered env (q ∷ []) (a ∷ [])) e (answered_next h answered_none)
answered_more env q a e t (answered_next h k) = answered_next h (answered_more env q a e t k)

pub answered_start : (env : Env) (rs : List Answer) → rs ≡ [] → AreAnswered env [] rs
answered_start env rs e = subst (AreAnswered env []) (sym e) answered_none
