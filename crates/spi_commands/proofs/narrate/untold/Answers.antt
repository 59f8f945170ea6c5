use Rattle.std.proofs.Common.{[], inl, inr}
use Rattle.std.specs.Fmt.{decimal}
use Rattle.spi_scope.specs.FaultPlaces.{span_from}
use Rattle.spi_commands.specs.Refusals.{scope_number, scope_shown}
use Rattle.spi_commands.specs.Narrating.{untold, RefusesNarrate}
use Rattle.spi_commands.proofs.FileRefusals.{unread_as}
use Rattle.spi_commands.proofs.narrate.untold.Goals as goal

pub returns-in-NotFree : goal.returns-in-NotFree
returns-in-NotFree c = λ bytes x is why.
    unread_as (RefusesNarrate bytes) 30 c.in-NotFree.span.from c.in-NotFree.word c.shown_word.result (inr (inr (inr (inl (x, is, untold (rw c.in-NotFree.is at why)))))) c.shown_word.ensures

pub returns-in-Scope : goal.returns-in-Scope
returns-in-Scope c = λ bytes x is why.
    let f = c.in-Scope.fault in
    unread_as (RefusesNarrate bytes) (scope_number f) (span_from f) (scope_shown f) c.out_of_scope.result (inr (inr (inr (inl (x, is, untold (rw c.in-Scope.is at why)))))) c.out_of_scope.ensures.tells

pub returns-in-NotReady : goal.returns-in-NotReady
returns-in-NotReady c = λ bytes x is why.
    unread_as (RefusesNarrate bytes) 102 c.in-NotReady.span.from [] c.unspelled.result (inr (inr (inr (inl (x, is, untold (rw c.in-NotReady.is at why)))))) c.unspelled.ensures

pub returns-in-TooLarge : goal.returns-in-TooLarge
returns-in-TooLarge c = λ bytes x is why.
    unread_as (RefusesNarrate bytes) 104 c.in-TooLarge.span.from (decimal c.in-TooLarge.nodes) c.shown_count.result (inr (inr (inr (inl (x, is, untold (rw c.in-TooLarge.is at why)))))) c.shown_count.ensures
