use Rattle.std.proofs.Common.{◌≡◌, ℕ, ◌-◌, ◌∙◌, ap, subst, List}
use Rattle.std.proofs.lemmas.Result.{on_ok_weaker}
use Rattle.spi_count.specs.Piles.{once, waits}
use Rattle.spi_count.specs.declared.pile.Late.{Late}
use Rattle.spi_count.proofs.Waiting.{sum_taken}
use Rattle.spi_count.proofs.pile.Pile.take.Goals as goal

pub returns-in-Some : goal.returns-in-Some
returns-in-Some c =
    on_ok_weaker c.take_waiting.result (λ p l q. p l q ∙ ap (λ n. n - once c.args.kind c.args.key l q) (c.in_ok-shorten.ensures l q)) c.take_waiting.ensures

pub returns-in-None : goal.returns-in-None
returns-in-None c l q =
    sum_taken c.args.kind c.args.key c.shorten.new.self.sum c.take.new.self c.shorten.new.self.late.items c.take.ensures
    (subst (λ (ws : List Late). ◌≡◌ {A = ℕ} (waits c.args.kind ws c.args.key) 0) c.deref.ensures.value c.in-None.ensures.none) l q
    ∙ ap (λ n. n - once c.args.kind c.args.key l q) (c.in_ok-shorten.ensures l q)
