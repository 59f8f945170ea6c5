use Rattle.std.proofs.Common.{◌+◌, List, [], subst, arith}
use Rattle.spi_lex.specs.declared.token.Token.{Token}
use Rattle.spi_lex.specs.Reader.{tokens_left, tokens_behind}
use Rattle.spi_lex.proofs.Places.{Taken, none_taken, place_kept, one_taken, all_taken, next_is, nothing_left}
use Rattle.spi_lex.proofs.numbered.places_of.Goals as goal

pub loop-words-init : goal.loop-words-init
loop-words-init c = (rw (c.in_ok-push.ensures.items, c.new-places.ensures.items) (place_kept c.args.text.now [] (tokens_left c.of-words.result) 0 0 (none_taken c.args.text.now (tokens_left c.of-words.result) c.utf8.text c.of-words.ensures.left)), omega arith)

pub returns-in-Nothing-clause-kept : goal.returns-in-Nothing-clause-kept
returns-in-Nothing-clause-kept c = c.loop-words.invariant.0.kept

pub returns-in-Nothing-clause-all : goal.returns-in-Nothing-clause-all
returns-in-Nothing-clause-all c =
    (all_taken c.args.text.now c.loop-words.places.items c.loop-words.count c.loop-words.end c.loop-words.ahead c.loop-words.invariant.1
    (subst (λ (ts : List Token). Taken c.args.text.now c.loop-words.places.items ts c.loop-words.count c.loop-words.end c.loop-words.ahead) (nothing_left c.loop-words.words.kind _ _ c.in-Nothing.is) c.loop-words.invariant.0)).0

pub returns-in-Nothing-clause-counted : goal.returns-in-Nothing-clause-counted
returns-in-Nothing-clause-counted c =
    (all_taken c.args.text.now c.loop-words.places.items c.loop-words.count c.loop-words.end c.loop-words.ahead c.loop-words.invariant.1
    (subst (λ (ts : List Token). Taken c.args.text.now c.loop-words.places.items ts c.loop-words.count c.loop-words.end c.loop-words.ahead) (nothing_left c.loop-words.words.kind _ _ c.in-Nothing.is) c.loop-words.invariant.0)).1

pub returns-in-Nothing-clause-end : goal.returns-in-Nothing-clause-end
returns-in-Nothing-clause-end c =
    (all_taken c.args.text.now c.loop-words.places.items c.loop-words.count c.loop-words.end c.loop-words.ahead c.loop-words.invariant.1
    (subst (λ (ts : List Token). Taken c.args.text.now c.loop-words.places.items ts c.loop-words.count c.loop-words.end c.loop-words.ahead) (nothing_left c.loop-words.words.kind _ _ c.in-Nothing.is) c.loop-words.invariant.0)).2

pub loop-words-preserved-then-ahead-eq0 : goal.loop-words-preserved-then-ahead-eq0
loop-words-preserved-then-ahead-eq0 c =
    let words = c.loop-words.words in
    let next = next_is words.kind (record { from = words.from; to = words.to }) (tokens_behind words) c.in_default.not-Nothing in
    let taken = one_taken c.args.text.now c.loop-words.places.items _ _ c.loop-words.count c.loop-words.end c.loop-words.ahead c.utf8.text c.loop-words.invariant.1
    (subst (λ (ts : List Token). Taken c.args.text.now c.loop-words.places.items ts c.loop-words.count c.loop-words.end c.loop-words.ahead) next.1 c.loop-words.invariant.0) in
    let due : Taken c.args.text.now c.loop-words.places.items (tokens_behind words) (c.loop-words.count + 1) words.to 0 =
    subst (Taken c.args.text.now c.loop-words.places.items (tokens_behind words) (c.loop-words.count + 1) words.to) c.if-ahead-eq0.true taken in
    (rw (c.in_ok-push-2.ensures.items, c.advance.ensures.left) (place_kept c.args.text.now c.loop-words.places.items (tokens_behind words) (c.loop-words.count + 1) words.to due), omega arith)

pub loop-words-preserved : goal.loop-words-preserved
loop-words-preserved c =
    let words = c.loop-words.words in
    let next = next_is words.kind (record { from = words.from; to = words.to }) (tokens_behind words) c.in_default.not-Nothing in
    let taken = one_taken c.args.text.now c.loop-words.places.items _ _ c.loop-words.count c.loop-words.end c.loop-words.ahead c.utf8.text c.loop-words.invariant.1
    (subst (λ (ts : List Token). Taken c.args.text.now c.loop-words.places.items ts c.loop-words.count c.loop-words.end c.loop-words.ahead) next.1 c.loop-words.invariant.0) in
    (rw c.advance.ensures.left taken, omega (arith, c.if-ahead-eq0.false))
