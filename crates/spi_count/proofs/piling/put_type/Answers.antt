use Rattle.std.proofs.lemmas.Result.{on_ok_weaker}
use Rattle.spi_message.specs.Forms.{cast_effect_of}
use Rattle.spi_count.specs.Adding.{PileOf}
use Rattle.spi_count.proofs.Summed.{no_effect, adds_quiet}
use Rattle.spi_count.proofs.Piled.{more_said}
use Rattle.spi_count.proofs.piling.put_type.Goals as goal

pub returns-in-Nonce : goal.returns-in-Nonce
returns-in-Nonce c =
    on_ok_weaker c.put_atoms.result (λ p u es k m h t. more_said c.in-Nonce.ids c.args.pile.now c.put_atoms.new.pile u es k (c.in-Nonce.ensures u m) p h t) c.put_atoms.ensures

pub returns-in-Un : goal.returns-in-Un
returns-in-Un c u es k m h t = adds_quiet PileOf c.args.store.now c.args.keys.now c.args.pile.now es (cast_effect_of u) (no_effect _ u tt (c.in-Un.ensures u m)) t

pub returns-in-Unit : goal.returns-in-Unit
returns-in-Unit c u es k m h t = adds_quiet PileOf c.args.store.now c.args.keys.now c.args.pile.now es (cast_effect_of u) (no_effect _ u tt (c.in-Unit.ensures u m)) t

pub returns-in-Pair : goal.returns-in-Pair
returns-in-Pair c u es k m h t = adds_quiet PileOf c.args.store.now c.args.keys.now c.args.pile.now es (cast_effect_of u) (no_effect _ u tt (c.in-Pair.ensures u m)) t

pub returns-in-Sum : goal.returns-in-Sum
returns-in-Sum c u es k m h t = adds_quiet PileOf c.args.store.now c.args.keys.now c.args.pile.now es (cast_effect_of u) (no_effect _ u tt (c.in-Sum.ensures u m)) t

pub returns-in-Key : goal.returns-in-Key
returns-in-Key c u es k m h t = adds_quiet PileOf c.args.store.now c.args.keys.now c.args.pile.now es (cast_effect_of u) (no_effect _ u tt (c.in-Key.ensures u m)) t
