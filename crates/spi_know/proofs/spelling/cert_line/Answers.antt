use Rattle.std.proofs.Common.{sym, ap, ◌∙◌, Some, slice_get, arith}
use Rattle.spi_term.specs.Term.{Message}
use Rattle.spi_intern.proofs.Sized.{message_there}
use Rattle.spi_know.proofs.spelling.cert_line.Goals as goal

pub returns : goal.returns
returns c =
    let ms = c.args.store.now.messages in
    let e = c.at.ensures in
    let number = c.requires.number in
    let there = message_there ms c.at.result (omega (arith, e, number)) in
    (ap (slice_get ms) (sym e) ∙ (there ∙ ap (λ (m : Message). Some m) (sym c.in_ok-message.ensures)), c.by_of-by.ensures)
