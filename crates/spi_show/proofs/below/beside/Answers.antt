use Rattle.std.proofs.Common.{◌≡◌, subst, ◌≤◌, length, take, arith}
use Rattle.spi_show.proofs.Standings.{text_ends, text_greater, text_less, text_has}
use Rattle.spi_show.proofs.below.beside.Goals as goal

pub returns-then-i-rest : goal.returns-then-i-rest
returns-then-i-rest c = text_ends c.args.rest.now c.args.piece.now c.loop-i.i c.if-i-rest.true c.loop-i-test.true c.loop-i.invariant.same

pub returns-then-piece-i : goal.returns-then-piece-i
returns-then-piece-i c = text_greater c.args.rest.now c.args.piece.now c.loop-i.i _ _ c.if-i-rest.false c.loop-i-test.true c.loop-i.invariant.same c.if-piece-i.true

pub returns-then-piece-i-2 : goal.returns-then-piece-i-2
returns-then-piece-i-2 c = text_less c.args.rest.now c.args.piece.now c.loop-i.i _ _ c.if-i-rest.false c.loop-i-test.true c.loop-i.invariant.same c.if-piece-i-2.true

pub returns : goal.returns
returns c more =
    let e : c.loop-i.i ≡ length c.args.piece.now = omega arith in
    let n : length c.args.piece.now ≤ length c.args.rest.now = omega arith in
    let s : take (length c.args.piece.now) c.args.rest.now ≡ take (length c.args.piece.now) c.args.piece.now = subst (λ i. take i c.args.rest.now ≡ take i c.args.piece.now) e c.loop-i.invariant.same in
    text_has c.args.rest.now c.args.piece.now n s more
