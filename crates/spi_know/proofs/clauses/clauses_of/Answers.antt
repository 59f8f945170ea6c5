use Rattle.std.proofs.Common.{◌≡◌, ◌<◌, ℕ, ap, subst, ◌∙◌, slice_get, length, arith}
use Rattle.spi_term.proofs.Lists.{get_some}
use Rattle.spi_know.specs.Numbered.{AreClauses}
use Rattle.spi_know.proofs.Clausal.{clauses_none, clauses_step}
use Rattle.spi_know.proofs.clauses.clauses_of.Goals as goal

pub loop-j-init : goal.loop-j-init
loop-j-init c = clauses_none _ _ _ c.new-rules.ensures.items c.new-ways.ensures.items

pub loop-j-preserved : goal.loop-j-preserved
loop-j-preserved c =
    let ms = c.args.store.now.messages in
    let count = c.message_count-count.ensures.count in
    let lt : c.loop-j.j < length ms = omega (arith, count) in
    let (m, e) = get_some ms c.loop-j.j lt in
    clauses_step ms _ _ _ _ _ _ m e (c.part.ensures m (ap (slice_get ms) c.at.ensures ∙ e)) c.in_ok-add_part.ensures.rules c.in_ok-add_part.ensures.ways c.loop-j.invariant

pub returns : goal.returns
returns c =
    let count = c.message_count-count.ensures.count in
    let e : c.loop-j.j ≡ length c.args.store.now.messages = omega (arith, count) in
    let P : ℕ → Type 0 = λ n. AreClauses c.args.store.now.messages n c.loop-j.clauses.rules.items c.loop-j.clauses.ways.items in
    subst P e c.loop-j.invariant
