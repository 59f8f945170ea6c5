use Rattle.std.proofs.Common.{◌≡◌, ap, arith, subst, ◌∙◌, Result, Ok, IfOk}
use Rattle.spi_term.specs.Term as Term
use Rattle.spi_term.specs.View.{message}
use Rattle.spi_term.proofs.Choices.{if_ok}
use Rattle.spi_intern.proofs.Sized.{pair_of, enc_of, left_of, right_of, hash_of, bound_of, name_of, unit_of}
use Rattle.spi_term.specs.declared.term.Msg.{Msg}
use Rattle.spi_intern.proofs.reading.+reading.Goals as goal

-- what is said of an answer holds of its message
ok_message : {E : Type 0} {r : Result Msg E} {m : Msg} {n : Term.Message} → r ≡ Ok m → IfOk r (λ (k : Msg). message k ≡ n) → message m ≡ n
ok_message {n = n} e h = subst (λ r. IfOk r (λ (k : Msg). message k ≡ n)) e h

pub message_of-part_of-requires : goal.message_of-part_of-requires
message_of-part_of-requires t c = let w = pair_of c.args.store.now.messages c.args.id c.in-Pair.ensures c.requires in (omega (arith, w.size, c.decreases), w.first)

pub message_of-part_of-requires-in-Pair : goal.message_of-part_of-requires-in-Pair
message_of-part_of-requires-in-Pair t c = let w = pair_of c.args.store.now.messages c.args.id c.in-Pair.ensures c.requires in (omega (arith, w.size, c.decreases), w.second)

pub message_of-message_of-requires-in-Enc : goal.message_of-message_of-requires-in-Enc
message_of-message_of-requires-in-Enc t c = let w = enc_of c.args.store.now.messages c.args.id c.in-Enc.ensures c.requires in (omega (arith, w.size, c.decreases), w.first)

pub message_of-message_of-requires-in-Enc-2 : goal.message_of-message_of-requires-in-Enc-2
message_of-message_of-requires-in-Enc-2 t c = let w = enc_of c.args.store.now.messages c.args.id c.in-Enc.ensures c.requires in (omega (arith, w.size, c.decreases), w.second)

pub message_of-message_of-requires : goal.message_of-message_of-requires
message_of-message_of-requires t c = let w = left_of c.args.store.now.messages c.args.id c.in-Inl.ensures c.requires in (omega (arith, w.size, c.decreases), w.part)

pub message_of-message_of-requires-in-Inr : goal.message_of-message_of-requires-in-Inr
message_of-message_of-requires-in-Inr t c = let w = right_of c.args.store.now.messages c.args.id c.in-Inr.ensures c.requires in (omega (arith, w.size, c.decreases), w.part)

pub message_of-message_of-requires-in-Hash : goal.message_of-message_of-requires-in-Hash
message_of-message_of-requires-in-Hash t c = let w = hash_of c.args.store.now.messages c.args.id c.in-Hash.ensures c.requires in (omega (arith, w.size, c.decreases), w.part)

pub message_of-returns-in-Bound : goal.message_of-returns-in-Bound
message_of-returns-in-Bound t c = bound_of c.args.store.now.messages c.args.id c.in-Bound.ensures c.requires

pub message_of-returns-in-Name : goal.message_of-returns-in-Name
message_of-returns-in-Name t c = name_of c.args.store.now.messages c.args.id c.in-Name.ensures c.requires

pub message_of-returns-in-Unit : goal.message_of-returns-in-Unit
message_of-returns-in-Unit t c = unit_of c.args.store.now.messages c.args.id c.in-Unit.ensures c.requires

pub message_of-returns-in_ok-second-in-Pair : goal.message_of-returns-in_ok-second-in-Pair
message_of-returns-in_ok-second-in-Pair t c =
    let w = pair_of c.args.store.now.messages c.args.id c.in-Pair.ensures c.requires in
    let x = c.in_ok-first-in-Pair.ensures in
    let y = c.in_ok-second-in-Pair.ensures in
    if_ok c.paired.result (λ m e. e ∙ (λ i. Term.pair (x i) (y i)) ∙ w.is) c.paired.ensures

pub message_of-returns-in_ok-key-in-Enc : goal.message_of-returns-in_ok-key-in-Enc
message_of-returns-in_ok-key-in-Enc t c =
    let w = enc_of c.args.store.now.messages c.args.id c.in-Enc.ensures c.requires in
    let x = c.in_ok-body-in-Enc.ensures in
    let y = c.in_ok-key-in-Enc.ensures in
    if_ok c.sealed.result (λ m e. e ∙ (λ i. Term.enc (x i) (y i)) ∙ w.is) c.sealed.ensures

pub message_of-returns-in_ok-part-in-Inl : goal.message_of-returns-in_ok-part-in-Inl
message_of-returns-in_ok-part-in-Inl t c =
    let w = left_of c.args.store.now.messages c.args.id c.in-Inl.ensures c.requires in
    ap Term.in_left (ok_message c.in_ok-part-in-Inl.ensures c.message_of.ensures) ∙ w.is

pub message_of-returns-in_ok-part-in-Inr : goal.message_of-returns-in_ok-part-in-Inr
message_of-returns-in_ok-part-in-Inr t c =
    let w = right_of c.args.store.now.messages c.args.id c.in-Inr.ensures c.requires in
    ap Term.in_right (ok_message c.in_ok-part-in-Inr.ensures c.message_of-in-Inr.ensures) ∙ w.is

pub message_of-returns-in_ok-part-in-Hash : goal.message_of-returns-in_ok-part-in-Hash
message_of-returns-in_ok-part-in-Hash t c =
    let w = hash_of c.args.store.now.messages c.args.id c.in-Hash.ensures c.requires in
    ap Term.hash (ok_message c.in_ok-part-in-Hash.ensures c.message_of-in-Hash.ensures) ∙ w.is

pub part_of-returns-in-Name : goal.part_of-returns-in-Name
part_of-returns-in-Name t c = name_of c.args.store.now.messages c.args.id c.in-Name.ensures c.requires
