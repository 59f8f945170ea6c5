use Rattle.std.proofs.Common.{arith}
use Rattle.std.proofs.lemmas.Result.{err_from_is_err_and}
use Rattle.spi_parse.specs.Places.{state_of}
use Rattle.spi_parse.specs.Reading.{read, limited}
use Rattle.spi_parse.proofs.Fronts.{goes_on, is_done, gives_up}
use Rattle.spi_parse.specs.Table.{words, words_item}
use Rattle.spi_parse.proofs.Readers.{takes_some}
use Rattle.spi_parse.proofs.Lists.{words_law, words_take}
use Rattle.spi_parse.proofs.declarations.more_words.Goals as goal

pub items-smaller : goal.items-smaller
items-smaller c =
    let k = takes_some limited words_item (state_of c.items.at) _ words_take c.in_ok-item.ensures in
    omega arith

pub items-preserved : goal.items-preserved
items-preserved c =
    let e = rw c.in-Some.is at c.in_ok-item.ensures in
    rw (c.in_ok-push-in-Some.ensures.items)
    (goes_on (read limited words_item) (read limited words) words_law c.items.more.items c.in-Some.part (state_of c.items.at) (state_of c.next_word.new.at) _ e c.items.invariant)

pub returns-in_err-item : goal.returns-in_err-item
returns-in_err-item c =
    let p = err_from_is_err_and c.from_residual.result c.from_residual.ensures.1 in
    rw (p.1, p.2) (gives_up (read limited words_item) (read limited words) words_law c.items.more.items c.in_err-item.field-0.0 (state_of c.items.at) _ c.in_err-item.ensures c.items.invariant)

pub returns-in-None : goal.returns-in-None
returns-in-None c =
    let e = rw c.in-None.is at c.in_ok-item.ensures in
    is_done (read limited words_item) (read limited words) words_law c.items.more.items tt (state_of c.items.at) (state_of c.next_word.new.at) _ e c.items.invariant
