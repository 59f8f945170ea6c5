use Rattle.std.proofs.Common.{◌≡◌, sym, ap, ◌∙◌, arith, inr}
use Rattle.std.specs.Prelude.{Err}
use Rattle.spi_tree.specs.Views.{ty_of}
use Rattle.spi_term.specs.Spelling.{ty_nodes, stopped}
use Rattle.spi_scope.specs.State.{abbreviations}
use Rattle.spi_scope.specs.declared.fault.ScopeFault.TheVariants.{TypeTooLarge}
use Rattle.spi_scope.specs.Points.{ty_span, type_nodes}
use Rattle.spi_scope.proofs.Sizes.{type_sized, small_type, large_type}
use Rattle.spi_scope.proofs.heads.read_bounded.Goals as goal

pub returns-then-count-gt1000-clause-gives : goal.returns-then-count-gt1000-clause-gives
returns-then-count-gt1000-clause-gives c =
    let xs = c.args.scope.now.held.names in
    let ts = abbreviations c.args.scope.now.types in
    let a = ty_of c.args.t.now in
    let r = type_sized c.args.base ts xs a in
    let s : c.in_ok-read.count ≡ stopped (type_nodes ts xs a) = omega (arith, c.in_ok-read.ensures.gives.1, r) in
    let e = large_type c.args.scope.now.count (type_nodes ts xs a) (ty_span a) (omega (arith, s, c.if-count-gt1000.true)) in
    inr (rw c.in_ok-read.ensures.gives.0 (e ∙ ap (λ q. Err (TypeTooLarge q (stopped (type_nodes ts xs a)))) (sym c.requires) ∙ ap (λ q. Err (TypeTooLarge c.args.span q)) (sym s)))

pub returns-clause-gives : goal.returns-clause-gives
returns-clause-gives c =
    let xs = c.args.scope.now.held.names in
    let ts = abbreviations c.args.scope.now.types in
    let a = ty_of c.args.t.now in
    let r = type_sized c.args.base ts xs a in
    let s : c.in_ok-read.count ≡ stopped (type_nodes ts xs a) = omega (arith, c.in_ok-read.ensures.gives.1, r) in
    (rw c.in_ok-read.ensures.gives.0 (small_type c.args.scope.now.count (type_nodes ts xs a) (ty_span a) (omega (arith, s, c.if-count-gt1000.false))), c.in_ok-read.ensures.gives.2 c.if-count-gt1000.false)

pub returns-clause-nodes : goal.returns-clause-nodes
returns-clause-nodes c =
    let r = type_sized c.args.base (abbreviations c.args.scope.now.types) c.args.scope.now.held.names (ty_of c.args.t.now) in
    let k = ap ty_nodes (c.in_ok-read.ensures.gives.2 c.if-count-gt1000.false) in
    (omega (arith, c.in_ok-read.ensures.gives.1, r, c.if-count-gt1000.false), omega (arith, c.in_ok-read.ensures.gives.1, k, c.if-count-gt1000.false), c.if-count-gt1000.false)
