use Rattle.std.proofs.Common.{◌≡◌, sym, ap, ◌∙◌, arith, inr}
use Rattle.std.specs.Prelude.{Err}
use Rattle.spi_tree.specs.Views.{msg_of}
use Rattle.spi_term.specs.Term.{message_size}
use Rattle.spi_term.specs.Spelling.{stopped}
use Rattle.spi_scope.specs.declared.fault.ScopeFault.TheVariants.{MessageTooLarge}
use Rattle.spi_scope.specs.Parts.{numbered_message}
use Rattle.spi_scope.specs.Points.{msg_span}
use Rattle.spi_scope.proofs.Sizes.{small_message, large_message}
use Rattle.spi_scope.proofs.derivations.read_small.Goals as goal

pub returns-then-nodes-gt200 : goal.returns-then-nodes-gt200
returns-then-nodes-gt200 c =
    let m = msg_of c.args.m.now in
    let n = message_size (numbered_message m) in
    let s : c.in_ok-read.nodes ≡ stopped n = omega (arith, c.in_ok-read.ensures.counted) in
    inr (large_message c.args.count n (msg_span m) (omega (arith, s, c.if-nodes-gt200.true))
    ∙ ap (λ q. Err (MessageTooLarge q (stopped n))) (sym c.message_place-span.ensures) ∙ ap (λ q. Err (MessageTooLarge c.message_place-span.result q)) (sym s))

pub returns : goal.returns
returns c =
    let m = msg_of c.args.m.now in
    let n = message_size (numbered_message m) in (
      small_message c.args.count n (msg_span m) (omega (arith, c.in_ok-read.ensures.counted, c.if-nodes-gt200.false)),
      c.in_ok-read.ensures.read (omega (arith, c.if-nodes-gt200.false)),
    )
