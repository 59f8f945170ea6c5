use Rattle.std.proofs.Common.{◌∙◌, sym, ℕ, List, [], ◌∷◌}
use Rattle.spi_term.specs.Term as Term
use Rattle.spi_audit.specs.Accounts.{Held}
use Rattle.spi_audit.specs.Changes.{Change, AreScoped, run_changes, top_effect}
use Rattle.spi_count.specs.Sums.{Below}
use Rattle.spi_audit.specs.Notes.{AreNoted}
use Rattle.spi_audit.specs.Settled.{IsLeftOver, IsSettled}
use Rattle.spi_audit.proofs.Turning.{if_ok}
use Rattle.spi_audit.proofs.Scoping.{below_root}
use Rattle.spi_audit.proofs.Settling.{left_settled}
use Rattle.spi_audit.proofs.settled.Goals as goal

pub left-requires : goal.left-requires
left-requires c =
    (record { once = c.distinct.ensures.differ; keyed = c.requires.noted.kept }, c.requires.noted.names, top_effect (run_changes c.requires.noted.changes), c.in_ok-root.ensures.effect c.requires.noted.changes c.requires.noted.names c.requires.noted.noted c.requires.noted.scoped)

pub returns-in-None : goal.returns-in-None
returns-in-None c =
    if_ok {P = λ r. (es : Term.Effect) (n : ℕ) → Held c.args.store.now c.args.keys.now n c.in_ok-root.root es → Below n es → IsLeftOver es r} {Q = λ r. (cs : List Change) (n : ℕ) → AreNoted c.args.store.now c.args.keys.now cs c.args.notes.items → AreScoped (n ∷ []) cs → IsSettled cs r} c.left.result
    (λ r l cs n noted scoped. let u = sym (c.in_ok-root.ensures.unpaid cs n noted scoped) ∙ c.in-None.is in left_settled cs r u (l (top_effect (run_changes cs)) n (c.in_ok-root.ensures.effect cs n noted scoped) (below_root scoped u)))
    c.left.ensures
