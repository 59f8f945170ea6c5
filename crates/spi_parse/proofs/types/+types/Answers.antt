use Rattle.std.proofs.Common.{arith, map}
use Rattle.std.proofs.lemmas.Grind.{common_steps}
use Rattle.std.proofs.lemmas.List.{map_push}
use Rattle.std.proofs.lemmas.Result.{err_from_is_err_and}
use Rattle.spi_parse.specs.Places.{state_of}
use Rattle.spi_parse.specs.Reading.{read, limited}
use Rattle.spi_parse.proofs.Fronts.{goes_on, is_done, gives_up}
use Rattle.spi_tree.specs.Views.{field_of, last_of}
use Rattle.spi_parse.specs.Table.{fields, fields_item}
use Rattle.spi_parse.proofs.Readers.{read_is_step, takes_some}
use Rattle.spi_parse.proofs.Lists.{fields_law, fields_take}
use Rattle.spi_parse.proofs.types.+types.Goals as goal

pub next_field-returns-in_err-fits-in-Word : goal.next_field-returns-in_err-fits-in-Word
next_field-returns-in_err-fits-in-Word t c = rw read_is_step (grind (arith, common_steps))

pub any_type-returns-in_err-fits-in-Word : goal.any_type-returns-in_err-fits-in-Word
any_type-returns-in_err-fits-in-Word t c = rw read_is_step (grind (arith, common_steps))

pub any_type-returns-in_err-fits-in-Reserved-Un : goal.any_type-returns-in_err-fits-in-Reserved-Un
any_type-returns-in_err-fits-in-Reserved-Un t c = rw read_is_step (grind (arith, common_steps))

pub any_type-returns-in_err-fits-in-Reserved-Key : goal.any_type-returns-in_err-fits-in-Reserved-Key
any_type-returns-in_err-fits-in-Reserved-Key t c = rw read_is_step (grind (arith, common_steps))

pub any_type-returns-in_err-fits-in-Reserved-Nonce : goal.any_type-returns-in_err-fits-in-Reserved-Nonce
any_type-returns-in_err-fits-in-Reserved-Nonce t c = rw read_is_step (grind (arith, common_steps))

pub any_type-returns-in_err-fits-in-Mark-ParenOpen : goal.any_type-returns-in_err-fits-in-Mark-ParenOpen
any_type-returns-in_err-fits-in-Mark-ParenOpen t c = rw read_is_step (grind (arith, common_steps))

pub any_type-returns-in_ok-fits-in-Reserved-Key : goal.any_type-returns-in_ok-fits-in-Reserved-Key
any_type-returns-in_ok-fits-in-Reserved-Key t c = rw read_is_step (grind (arith, common_steps))

pub any_type-returns-in_ok-fits-in-Mark-ParenOpen : goal.any_type-returns-in_ok-fits-in-Mark-ParenOpen
any_type-returns-in_ok-fits-in-Mark-ParenOpen t c = rw read_is_step (grind (arith, common_steps))

pub any_type-returns-in_default : goal.any_type-returns-in_default
any_type-returns-in_default t c = rw read_is_step (grind (arith, common_steps))

pub read_type-returns-in_err-fits-in-Reserved-Un : goal.read_type-returns-in_err-fits-in-Reserved-Un
read_type-returns-in_err-fits-in-Reserved-Un t c = rw read_is_step (grind (arith, common_steps))

pub read_fields-items-smaller : goal.read_fields-items-smaller
read_fields-items-smaller t c =
    let k = takes_some limited (fields_item c.args.later c.args.nesting) (state_of c.items.at) _ (fields_take c.args.later c.args.nesting) c.in_ok-item.ensures in
    omega arith

pub read_fields-items-preserved : goal.read_fields-items-preserved
read_fields-items-preserved t c =
    let e = rw c.in-Field.is at c.in_ok-item.ensures in
    rw (c.in_ok-push-in-Field.ensures.items, map_push field_of c.items.more.items c.in-Field.part)
    (goes_on (read limited (fields_item c.args.later c.args.nesting)) (read limited (fields c.args.later c.args.nesting)) (fields_law c.args.later c.args.nesting) (map field_of c.items.more.items) (field_of c.in-Field.part) (state_of c.items.at) (state_of c.next_field.new.at) _ e c.items.invariant)

pub read_fields-returns-in_err-item : goal.read_fields-returns-in_err-item
read_fields-returns-in_err-item t c =
    let p = err_from_is_err_and c.from_residual.result c.from_residual.ensures.1 in
    rw (p.1, p.2) (gives_up (read limited (fields_item c.args.later c.args.nesting)) (read limited (fields c.args.later c.args.nesting)) (fields_law c.args.later c.args.nesting) (map field_of c.items.more.items) c.in_err-item.field-0.0 (state_of c.items.at) _ c.in_err-item.ensures c.items.invariant)

pub read_fields-returns-in-Last : goal.read_fields-returns-in-Last
read_fields-returns-in-Last t c =
    let e = rw c.in-Last.is at c.in_ok-item.ensures in
    rw c.in_ok-row-in-Last.ensures
    (is_done (read limited (fields_item c.args.later c.args.nesting)) (read limited (fields c.args.later c.args.nesting)) (fields_law c.args.later c.args.nesting) (map field_of c.items.more.items) (last_of c.in-Last.last) (state_of c.items.at) (state_of c.next_field.new.at) _ e c.items.invariant)

pub any_type-returns-in_ok-fits-in-Reserved-Nonce : goal.any_type-returns-in_ok-fits-in-Reserved-Nonce
any_type-returns-in_ok-fits-in-Reserved-Nonce t c = rw read_is_step (grind (arith, common_steps))

pub next_field-returns-in_ok-name-in-Word : goal.next_field-returns-in_ok-name-in-Word
next_field-returns-in_ok-name-in-Word t c = rw read_is_step (grind (arith, common_steps))
