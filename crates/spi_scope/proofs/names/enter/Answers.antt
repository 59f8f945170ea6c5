use Rattle.std.proofs.Common.{◌∙◌, ap, arith}
use Rattle.std.specs.Option.{option_flatten}
use Rattle.spi_scope.specs.declared.names.Held.{Held}
use Rattle.spi_scope.proofs.Tables.{entered, left}
use Rattle.spi_scope.proofs.names.enter.Goals as goal

pub returns-in-Ok-clause-keeps : goal.returns-in-Ok-clause-keeps
returns-in-Ok-clause-keeps c =
    let e = c.in_ok-at.ensures in
    let k = c.requires.keeps in
    rw c.in-Ok.ensures.items
    (entered c.args.innermost.now c.insert_full.new.self c.args.hidden.now.items (record { word = c.args.word; slot = c.in_ok-at.at; before = c.flatten-before.result; chain = c.args.chain }) c.len-number.result c.of.result (c.of.ensures ∙ c.as_str.ensures) k e.updates e.entries e.index (c.flatten-before.ensures ∙ ap option_flatten e.old ∙ k.finds c.of.result) (omega arith) c.requires.room)

pub returns-in-Err-clause-keeps : goal.returns-in-Err-clause-keeps
returns-in-Err-clause-keeps c =
    let e = c.in_ok-at.ensures in
    let k = c.requires.keeps in
    let held : Held = record { word = c.args.word; slot = c.in_ok-at.at; before = c.flatten-before.result; chain = c.args.chain } in
    let more = entered c.args.innermost.now c.insert_full.new.self c.args.hidden.now.items held c.len-number.result c.of.result (c.of.ensures ∙ c.as_str.ensures) k e.updates e.entries e.index (c.flatten-before.ensures ∙ ap option_flatten e.old ∙ k.finds c.of.result) (omega arith) c.requires.room in
    rw (c.set_number.ensures.after, c.in-Err.ensures.items) (left c.insert_full.new.self c.args.hidden.now.items held c.set_number.ensures.unique more)
