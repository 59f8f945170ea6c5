use Rattle.std.proofs.Common.{◌≡◌, sym, ap, subst, ◌∙◌, ℕ, Option, Some, None}
use Rattle.std.proofs.lemmas.Option.{slice_get_within}
use Rattle.spi_horn.specs.Leading.{SpeaksBelow, StartsWithin}
use Rattle.spi_know.proofs.Clausal.{clauses_within}
use Rattle.spi_know.proofs.Saturated.{unknown}
use Rattle.spi_know.proofs.Certs.{cert_known, read_below}
use Rattle.spi_know.proofs.deciding.decide_by.Goals as goal

pub close-requires-clause-rules : goal.close-requires-clause-rules
close-requires-clause-rules c = subst (λ n. SpeaksBelow n c.args.rules.now) (sym c.message_count-count.ensures.count) (clauses_within _ _ _ _ c.requires.clauses)

pub close-requires-clause-start : goal.close-requires-clause-start
close-requires-clause-start c = subst (λ n. StartsWithin n c.args.start.now) (sym c.message_count-count.ensures.count) c.requires.start

pub certify-requires-clause-within : goal.certify-requires-clause-within
certify-requires-clause-within c =
    let read = read_below _ _ _ c.args.target c.index.result.now c.in_ok-closure.ensures.count c.message_count-count.ensures.count c.requires.target c.index.ensures in
    let is = c.in-Some.is in
    let w : c.index.result.now ≡ Some c.in-Some.place = cc in
    let (x, e, f) = c.in_ok-closure.ensures.order.placed c.args.target c.in-Some.place (read ∙ ap (λ (o : Option ℕ). Some o) w) in
    slice_get_within c.in_ok-closure.closure.order.items c.in-Some.place x e

pub certify-requires-clause-order : goal.certify-requires-clause-order
certify-requires-clause-order c = (c.args.start.now, c.in_ok-closure.ensures.order, c.requires.start)

pub returns-in-None : goal.returns-in-None
returns-in-None c = λ from m st len at known.
    let read = read_below _ _ _ c.args.target c.index.result.now c.in_ok-closure.ensures.count c.message_count-count.ensures.count c.requires.target c.index.ensures in
    let is = c.in-None.is in
    let w : c.index.result.now ≡ None = cc in
    unknown _ from _ _ _ _ c.message_count-count.ensures.differ c.requires.clauses st c.in_ok-closure.ensures.least c.args.target m at (read ∙ ap (λ (o : Option ℕ). Some o) w) known

pub returns : goal.returns
returns c = λ from m st len at.
    let read = read_below _ _ _ c.args.target c.index.result.now c.in_ok-closure.ensures.count c.message_count-count.ensures.count c.requires.target c.index.ensures in
    let is = c.in-Some.is in
    let w : c.index.result.now ≡ Some c.in-Some.place = cc in
    let (cert, used) = c.in_ok-lines-in-Some.ensures c.args.start.now from c.args.target m c.in_ok-closure.ensures.order st len (read ∙ ap (λ (o : Option ℕ). Some o) w) at in
    (cert_known _ _ _ cert, cert, used)
