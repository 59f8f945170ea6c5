use Rattle.std.proofs.Common.{◌≡◌, sym, ap, ◌∙◌, arith, inr}
use Rattle.std.specs.Prelude.{Err}
use Rattle.spi_tree.specs.Views.{msg_of}
use Rattle.spi_term.specs.Spelling.{stopped}
use Rattle.spi_scope.specs.declared.fault.ScopeFault.TheVariants.{MessageTooLarge}
use Rattle.spi_scope.specs.Points.{msg_span, msg_nodes}
use Rattle.spi_scope.proofs.Sizes.{message_sized, small_message, large_message}
use Rattle.spi_scope.proofs.types.read_whole.Goals as goal

pub returns-then-count-gt200-clause-gives : goal.returns-then-count-gt200-clause-gives
returns-then-count-gt200-clause-gives c =
    let xs = c.args.scope.now.held.names in
    let m = msg_of c.args.m.now in
    let r = message_sized c.args.base xs m in
    let s : c.in_ok-read.count ≡ stopped (msg_nodes xs m) = omega (arith, c.in_ok-read.ensures.1, r) in
    let e = large_message c.args.scope.now.count (msg_nodes xs m) (msg_span m) (omega (arith, s, c.if-count-gt200.true)) in
    inr (rw c.in_ok-read.ensures.0 (e ∙ ap (λ q. Err (MessageTooLarge q (stopped (msg_nodes xs m)))) (sym c.requires) ∙ ap (λ q. Err (MessageTooLarge c.args.span q)) (sym s)))

pub returns-clause-gives : goal.returns-clause-gives
returns-clause-gives c =
    let xs = c.args.scope.now.held.names in
    let m = msg_of c.args.m.now in
    let r = message_sized c.args.base xs m in (
      rw c.in_ok-read.ensures.0 (small_message c.args.scope.now.count (msg_nodes xs m) (msg_span m) (omega (arith, c.in_ok-read.ensures.1, r, c.if-count-gt200.false))),
      c.in_ok-read.ensures.2 (omega (arith, c.if-count-gt200.false)),
    )

pub returns-clause-nodes : goal.returns-clause-nodes
returns-clause-nodes c =
    let r = message_sized c.args.base c.args.scope.now.held.names (msg_of c.args.m.now) in
    (omega (arith, c.in_ok-read.ensures.1, r, c.if-count-gt200.false), omega (arith, c.in_ok-read.ensures.1, c.if-count-gt200.false), c.if-count-gt200.false)
