use Rattle.std.proofs.Common.{arith, [], map, subst}
use Rattle.std.proofs.lemmas.Grind.{common_steps}
use Rattle.std.proofs.lemmas.List.{map_push}
use Rattle.std.proofs.lemmas.Result.{err_from_is_err_and}
use Rattle.spi_parse.specs.Places.{state_of, GivesPart}
use Rattle.spi_parse.specs.Reading.{read, limited}
use Rattle.spi_parse.proofs.Fronts.{front_none, goes_on, is_done, gives_up}
use Rattle.spi_tree.specs.Views.{msg_of}
use Rattle.spi_parse.specs.Table.{msgs, msgs_item}
use Rattle.spi_parse.proofs.Readers.{read_is_step, takes_some}
use Rattle.spi_parse.proofs.Lists.{msgs_law, msgs_take}
use Rattle.spi_parse.proofs.messages.+messages.Goals as goal

pub any_message-returns-in_err-accept-in-Word : goal.any_message-returns-in_err-accept-in-Word
any_message-returns-in_err-accept-in-Word t c = rw read_is_step (grind (arith, common_steps))

pub message_of-returns-in_err-accept-in-Word : goal.message_of-returns-in_err-accept-in-Word
message_of-returns-in_err-accept-in-Word t c = rw read_is_step (grind (arith, common_steps))

pub any_message-returns-in_err-fits-in-Word : goal.any_message-returns-in_err-fits-in-Word
any_message-returns-in_err-fits-in-Word t c = rw read_is_step (grind (arith, common_steps))

pub message_of-returns-in_err-fits-in-Word : goal.message_of-returns-in_err-fits-in-Word
message_of-returns-in_err-fits-in-Word t c = rw read_is_step (grind (arith, common_steps))

pub any_message-returns-in_err-fits-in-Mark-ParenOpen : goal.any_message-returns-in_err-fits-in-Mark-ParenOpen
any_message-returns-in_err-fits-in-Mark-ParenOpen t c = rw read_is_step (grind (arith, common_steps))

pub message_of-returns-in_err-fits-in-Mark-ParenOpen : goal.message_of-returns-in_err-fits-in-Mark-ParenOpen
message_of-returns-in_err-fits-in-Mark-ParenOpen t c = rw read_is_step (grind (arith, common_steps))

pub any_message-returns-in_err-fits-in-Mark-BraceOpen : goal.any_message-returns-in_err-fits-in-Mark-BraceOpen
any_message-returns-in_err-fits-in-Mark-BraceOpen t c = rw read_is_step (grind (arith, common_steps))

pub any_message-returns-in_err-accept-in-Mark-NumberSign : goal.any_message-returns-in_err-accept-in-Mark-NumberSign
any_message-returns-in_err-accept-in-Mark-NumberSign t c = rw read_is_step (grind (arith, common_steps))

pub any_message-returns-in_err-fits-in-Mark-NumberSign : goal.any_message-returns-in_err-fits-in-Mark-NumberSign
any_message-returns-in_err-fits-in-Mark-NumberSign t c = rw read_is_step (grind (arith, common_steps))

pub any_message-returns-in_err-fits-in-Reserved-Inl : goal.any_message-returns-in_err-fits-in-Reserved-Inl
any_message-returns-in_err-fits-in-Reserved-Inl t c = rw read_is_step (grind (arith, common_steps))

pub any_message-returns-in_err-fits-in-Reserved-Inr : goal.any_message-returns-in_err-fits-in-Reserved-Inr
any_message-returns-in_err-fits-in-Reserved-Inr t c = rw read_is_step (grind (arith, common_steps))

pub any_message-returns-in_err-accept-in-Reserved-Hash : goal.any_message-returns-in_err-accept-in-Reserved-Hash
any_message-returns-in_err-accept-in-Reserved-Hash t c = rw read_is_step (grind (arith, common_steps))

pub any_message-returns-in_err-fits-in-Reserved-Hash : goal.any_message-returns-in_err-fits-in-Reserved-Hash
any_message-returns-in_err-fits-in-Reserved-Hash t c = rw read_is_step (grind (arith, common_steps))

pub any_message-returns-in_ok-fits-in-Mark-BraceOpen : goal.any_message-returns-in_ok-fits-in-Mark-BraceOpen
any_message-returns-in_ok-fits-in-Mark-BraceOpen t c = rw read_is_step (grind (arith, common_steps))

pub any_message-returns-in_ok-fits-in-Reserved-Inl : goal.any_message-returns-in_ok-fits-in-Reserved-Inl
any_message-returns-in_ok-fits-in-Reserved-Inl t c = rw read_is_step (grind (arith, common_steps))

pub any_message-returns-in_ok-fits-in-Reserved-Inr : goal.any_message-returns-in_ok-fits-in-Reserved-Inr
any_message-returns-in_ok-fits-in-Reserved-Inr t c = rw read_is_step (grind (arith, common_steps))

pub any_message-returns-in_default : goal.any_message-returns-in_default
any_message-returns-in_default t c = rw read_is_step (grind (arith, common_steps))

pub next_message-returns-in_default : goal.next_message-returns-in_default
next_message-returns-in_default t c = rw read_is_step (grind (arith, common_steps))

pub several_messages-items-smaller : goal.several_messages-items-smaller
several_messages-items-smaller t c =
    let k = takes_some limited (msgs_item c.args.node.later c.args.node.numbered c.args.node.nesting) (state_of c.items.at) _ (msgs_take c.args.node.later c.args.node.numbered c.args.node.nesting) c.in_ok-item.ensures in
    omega arith

pub several_messages-items-preserved : goal.several_messages-items-preserved
several_messages-items-preserved t c =
    let e = rw c.in-Some.is at c.in_ok-item.ensures in
    rw (c.in_ok-push-in-Some.ensures.items, map_push msg_of c.items.more.items c.in-Some.part)
    (goes_on (read limited (msgs_item c.args.node.later c.args.node.numbered c.args.node.nesting)) (read limited (msgs c.args.node.later c.args.node.numbered c.args.node.nesting)) (msgs_law c.args.node.later c.args.node.numbered c.args.node.nesting) (map msg_of c.items.more.items) (msg_of c.in-Some.part) (state_of c.items.at) (state_of c.next_message.new.at) _ e c.items.invariant)

pub several_messages-returns-in_err-item : goal.several_messages-returns-in_err-item
several_messages-returns-in_err-item t c =
    let p = err_from_is_err_and c.from_residual-in_err-item.result c.from_residual-in_err-item.ensures.1 in
    rw (p.1, p.2) (gives_up (read limited (msgs_item c.args.node.later c.args.node.numbered c.args.node.nesting)) (read limited (msgs c.args.node.later c.args.node.numbered c.args.node.nesting)) (msgs_law c.args.node.later c.args.node.numbered c.args.node.nesting) (map msg_of c.items.more.items) c.in_err-item.field-0.0 (state_of c.items.at) _ c.in_err-item.ensures c.items.invariant)

pub several_messages-returns-in-None : goal.several_messages-returns-in-None
several_messages-returns-in-None t c =
    let e = rw c.in-None.is at c.in_ok-item.ensures in
    rw c.in_ok-row-in-None.ensures
    (is_done (read limited (msgs_item c.args.node.later c.args.node.numbered c.args.node.nesting)) (read limited (msgs c.args.node.later c.args.node.numbered c.args.node.nesting)) (msgs_law c.args.node.later c.args.node.numbered c.args.node.nesting) (map msg_of c.items.more.items) tt (state_of c.items.at) (state_of c.next_message.new.at) _ e c.items.invariant)

pub any_message-returns-in_ok-fits-in-Mark-ParenOpen : goal.any_message-returns-in_ok-fits-in-Mark-ParenOpen
any_message-returns-in_ok-fits-in-Mark-ParenOpen t c = rw read_is_step (grind (arith, common_steps))

pub any_message-returns-in_ok-fits-in-Reserved-Hash : goal.any_message-returns-in_ok-fits-in-Reserved-Hash
any_message-returns-in_ok-fits-in-Reserved-Hash t c = rw read_is_step (grind (arith, common_steps))

pub message_of-returns-in_ok-fits-in-Mark-ParenOpen : goal.message_of-returns-in_ok-fits-in-Mark-ParenOpen
message_of-returns-in_ok-fits-in-Mark-ParenOpen t c = rw read_is_step (grind (arith, common_steps))

pub more_messages-returns-in-Some : goal.more_messages-returns-in-Some
more_messages-returns-in-Some t c =
    let e = rw c.in-Some.is at c.in_ok-item.ensures in
    let rest = goes_on (read limited (msgs_item c.args.node.later c.args.node.numbered c.args.node.nesting)) (read limited (msgs c.args.node.later c.args.node.numbered c.args.node.nesting)) (msgs_law c.args.node.later c.args.node.numbered c.args.node.nesting) [] (msg_of c.in-Some.third) (state_of c.args.at.now) (state_of c.next_message.new.at) _ e (front_none _) in
    subst (λ r. GivesPart (λ v. (map msg_of v.now, tt)) c.behind_third.result (state_of c.behind_third.new.at) r) rest c.behind_third.ensures

pub more_messages-returns-in_err-item : goal.more_messages-returns-in_err-item
more_messages-returns-in_err-item t c =
    let p = err_from_is_err_and c.from_residual.result c.from_residual.ensures.1 in
    rw (p.1, p.2) (gives_up (read limited (msgs_item c.args.node.later c.args.node.numbered c.args.node.nesting)) (read limited (msgs c.args.node.later c.args.node.numbered c.args.node.nesting)) (msgs_law c.args.node.later c.args.node.numbered c.args.node.nesting) [] c.in_err-item.field-0.0 (state_of c.args.at.now) _ c.in_err-item.ensures (front_none _))

pub more_messages-returns-in-None : goal.more_messages-returns-in-None
more_messages-returns-in-None t c =
    let e = rw c.in-None.is at c.in_ok-item.ensures in
    is_done (read limited (msgs_item c.args.node.later c.args.node.numbered c.args.node.nesting)) (read limited (msgs c.args.node.later c.args.node.numbered c.args.node.nesting)) (msgs_law c.args.node.later c.args.node.numbered c.args.node.nesting) [] tt (state_of c.args.at.now) (state_of c.next_message.new.at) _ e (front_none _)
