use Rattle.std.proofs.Common.{◌≡◌, ◌∙◌, ℕ, ap, map}
use Rattle.spi_term.specs.View.{atom}
use Rattle.spi_count.specs.Piles.{waits, piled}
use Rattle.spi_count.specs.declared.sum.AtomKind.{AtomKind}
use Rattle.spi_count.proofs.Read.{keys_wait, read_all, all_wait}
use Rattle.spi_count.proofs.reading.effect_of_pile.Goals as goal

pub read_late-requires : goal.read_late-requires
read_late-requires c =
    let e : (l : AtomKind) (q : ℕ) → waits l c.deref.result.now q ≡ piled l c.args.pile q
    = λ l q. ap (λ ws. waits l ws q) c.deref.ensures.value ∙ all_wait l c.settle_lasting.new.self c.args.pile c.put_off.new.late.items q (c.in_ok-put_off.ensures l q) (c.in_ok-settle_lasting.ensures l q) in
    (c.args.keys.now, keys_wait c.args.store.now c.args.keys.now c.args.pile c.requires.0 c.deref.result.now c.requires.2 e)

pub returns : goal.returns
returns c es t =
    let e : (l : AtomKind) (q : ℕ) → waits l c.deref.result.now q ≡ piled l c.args.pile q
    = λ l q. ap (λ ws. waits l ws q) c.deref.ensures.value ∙ all_wait l c.settle_lasting.new.self c.args.pile c.put_off.new.late.items q (c.in_ok-put_off.ensures l q) (c.in_ok-settle_lasting.ensures l q) in
    read_all c.args.store.now c.args.keys.now c.args.pile es (map atom c.in_ok-atoms.atoms.items) c.deref.result.now t e
    (c.in_ok-atoms.ensures c.args.keys.now c.requires.1 (keys_wait c.args.store.now c.args.keys.now c.args.pile es c.deref.result.now t e))
