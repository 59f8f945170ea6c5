use Rattle.std.proofs.Common.{ℕ, List, [], ◌∷◌, subst}
use Rattle.spi_rules.specs.Environment.{untrusted}
use Rattle.spi_rules.specs.Deriv.{rule_uses}
use Rattle.spi_audit.specs.declared.walking.Walk.{Walk}
use Rattle.spi_audit.specs.Fits.{of_process}
use Rattle.spi_audit.specs.Audit.{IsAudited}
use Rattle.spi_audit.specs.Changes.{Change, AreScoped}
use Rattle.spi_audit.specs.Notes.{AreNoted}
use Rattle.spi_audit.specs.Settled.{IsSettled}
use Rattle.spi_audit.specs.Walking.{IsWalked}
use Rattle.spi_audit.proofs.Turning.{if_ok}
use Rattle.spi_audit.proofs.WalkAnswers.{fitting_rooted, fitting_audited}
use Rattle.spi_audit.proofs.audit.Goals as goal

pub settled-requires-clause-noted : goal.settled-requires-clause-noted
settled-requires-clause-noted c =
    let w = subst (λ (w : Walk). IsWalked c.walk_uses.new.judge.store c.walk_uses.new.keys (of_process (untrusted c.args.process.now.names) c.args.process.now.process) (rule_uses c.args.d.now) w) c.in-Fitting.is c.in_ok-index.ensures.walked in
    fitting_rooted c.store.result.now c.walk_uses.new.judge.store c.walk_uses.new.keys c.args.process.now.names c.args.process.now.process (rule_uses c.args.d.now) c.in-Fitting.notes c.store.ensures c.len.ensures.over w c.in_ok-index.ensures.kept

pub returns : goal.returns
returns c =
    let w = subst (λ (w : Walk). IsWalked c.walk_uses.new.judge.store c.walk_uses.new.keys (of_process (untrusted c.args.process.now.names) c.args.process.now.process) (rule_uses c.args.d.now) w) c.in-Fitting.is c.in_ok-index.ensures.walked in
    if_ok {P = λ r. (cs : List Change) (n : ℕ) → AreNoted c.store.result.now c.walk_uses.new.keys cs c.in-Fitting.notes.items → AreScoped (n ∷ []) cs → IsSettled cs r} {Q = IsAudited c.args.process.now.names c.args.process.now.process (rule_uses c.args.d.now)} c.settled.result
    (fitting_audited c.store.result.now c.walk_uses.new.judge.store c.walk_uses.new.keys c.args.process.now.names c.args.process.now.process (rule_uses c.args.d.now) c.in-Fitting.notes c.store.ensures c.len.ensures.over w) c.settled.ensures
