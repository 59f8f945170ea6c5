use Rattle.std.proofs.Common.{length, ◌≡◌, ◌<◌, Some, slice_get, get_or, subst, List, ℕ, arith}
use Rattle.std.proofs.lemmas.Option.{slice_get-get_or}
use Rattle.spi_horn.specs.declared.rules.Rule.{Rule}
use Rattle.spi_horn.specs.Finding.{Tries}
use Rattle.spi_horn.specs.Waits.{numbers}
use Rattle.spi_horn.proofs.Placing.{keeps_keeps}
use Rattle.spi_horn.proofs.Trying.{good_try, tried_keeps, good_end}
use Rattle.spi_horn.proofs.closing.fire.Goals as goal

pub loop-k-preserved : goal.loop-k-preserved
loop-k-preserved c =
    let i = c.loop-k.invariant in
    let ks = numbers c.args.waiting.now in
    let lt : c.loop-k.k-index < length ks = omega arith in
    let k = get_or ks c.loop-k.k-index 0 in
    let at : slice_get ks c.loop-k.k-index ≡ Some k = slice_get-get_or ks c.loop-k.k-index 0 lt in
    let none : Rule = record { first = 0; second = 0; gives = 0 } in
    let q = get_or c.args.rules.now k none in
    let e : slice_get c.args.rules.now k ≡ Some q = slice_get-get_or c.args.rules.now k none (c.requires.tried c.loop-k.k-index k at) in
    let T : List ℕ → Type 0 = λ xs.
    Tries (get_or c.args.rules.now (get_or xs c.loop-k.k-index 0) none) (get_or xs c.loop-k.k-index 0)
    c.loop-k.closure.order.items c.loop-k.closure.places.items c.try_rule.new.closure.order.items c.try_rule.new.closure.places.items in
    let t = subst T c.deref-k-items.ensures.value c.in_ok-try_rule.ensures in
    record {
      good = λ start n g. good_try _ _ _ _ _ _ _ _ _ k q at e t (i.good start n g);
      keeps = keeps_keeps _ _ _ i.keeps (tried_keeps _ _ _ _ q k t);
    }

pub returns-clause-good : goal.returns-clause-good
returns-clause-good c = λ start n g. good_end _ _ _ _ _ (numbers c.args.waiting.now) c.loop-k.k-index (omega arith) (c.loop-k.invariant.good start n g)
