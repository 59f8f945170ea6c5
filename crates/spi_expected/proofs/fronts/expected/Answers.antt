use Rattle.std.proofs.Common.{drop, ◌∙◌}
use Rattle.spi_lex.specs.Lexing.{kinds_of}
use Rattle.spi_expected.specs.Expected.{none}
use Rattle.spi_expected.proofs.Fits.{fits_front}
use Rattle.spi_expected.proofs.Front.{taken_kinds, cut_kinds, shallow_at, fit_at}
use Rattle.spi_expected.proofs.fronts.expected.Goals as goal

pub loop-kind-init : goal.loop-kind-init
loop-kind-init c = record {
  front = c.in_ok-front.ensures ∙ taken_kinds c.args.at c.args.tokens.now;
  those = rw c.new-those.ensures.items none;
}

pub try_kind-requires-clause-words : goal.try_kind-requires-clause-words
try_kind-requires-clause-words c =
    let all = kinds_of c.args.tokens.now in
    fits_front all (kinds_of c.loop-kind.front.items) (drop c.args.at all) c.kind-item.result
    (cut_kinds all (kinds_of c.loop-kind.front.items) c.args.at c.loop-kind.invariant.front) c.requires.words
    (fit_at c.deref-kind-items.result.now c.loop-kind.kind-index c.kind-item.result (c.deref-kind-items.ensures.value ∙ c.in_ok-kinds.ensures) c.kind-item.is c.loop-kind-test.true)

pub try_kind-requires-clause-shallow : goal.try_kind-requires-clause-shallow
try_kind-requires-clause-shallow c = shallow_at (kinds_of c.args.tokens.now) c.args.at c.loop-kind.front.items c.kind-item.result c.requires.fault c.loop-kind.invariant.front
