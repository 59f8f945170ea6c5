use Rattle.std.proofs.Common.{◌≡◌, ◌∙◌, ◌++◌, ◌∷◌, ◌-◌, [], List, sym, ap, subst, arith, false}
use Rattle.std.proofs.lemmas.Option.{get_or_from_slice_get}
use Rattle.spi_term.proofs.Lists.{some_is}
use Rattle.spi_count.specs.Counts.{count_of}
use Rattle.spi_count.specs.Sums.{part}
use Rattle.spi_count.specs.Piles.{is_kind}
use Rattle.spi_count.specs.declared.sum.AtomKind.TheVariants.{Many}
use Rattle.spi_count.specs.declared.pile.Late.{Late}
use Rattle.spi_count.proofs.Waiting.{less_waits, less_one_waits}
use Rattle.spi_count.proofs.pile.Pile.take_late.Goals as goal

pub returns-in_ok-push : goal.returns-in_ok-push
returns-in_ok-push c w at l q =
    let same : c.remove-atom.result ≡ w = c.remove-atom.ensures.value ∙ get_or_from_slice_get c.args.self.now.late.items c.args.place w c.remove-atom.result at in
    less_waits l (count_of (part l c.args.self.now.sum) q) c.args.self.now.late.items c.push.new.self.items c.args.place w (record { kind = c.remove-atom.result.kind; key = c.remove-atom.result.key; count = c.remove-atom.result.count - 1 }) q at
    (subst (λ (w : Late). is_kind Many w.kind ≡ false) (some_is (sym c.requires.1 ∙ at)) c.requires.3) (ap (λ (w : Late). w.kind) same) (ap (λ (w : Late). w.key) same)
    (let n = ap (λ (w : Late). w.count) same in omega (arith, n, c.if-atom-gt1.true))
    (c.in_ok-push.ensures.items ∙ ap (λ (ws : List Late). ws ++ record { kind = c.remove-atom.result.kind; key = c.remove-atom.result.key; count = c.remove-atom.result.count - 1 } ∷ []) c.remove-atom.ensures.by_index.2)

pub returns-else-atom-gt1 : goal.returns-else-atom-gt1
returns-else-atom-gt1 c w at l q =
    let same : c.remove-atom.result ≡ w = c.remove-atom.ensures.value ∙ get_or_from_slice_get c.args.self.now.late.items c.args.place w c.remove-atom.result at in
    let z : w ≡ c.requires.0 = some_is (sym at ∙ c.requires.1) in
    less_one_waits l (count_of (part l c.args.self.now.sum) q) c.args.self.now.late.items c.remove-atom.new.self.items c.args.place w q at
    (subst (λ (w : Late). is_kind Many w.kind ≡ false) (sym z) c.requires.3)
    (let n = ap (λ (w : Late). w.count) same in let m = ap (λ (w : Late). w.count) z in omega (arith, n, m, c.requires.2, c.if-atom-gt1.false))
    c.remove-atom.ensures.by_index.2
