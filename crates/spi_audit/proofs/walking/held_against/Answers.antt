use Rattle.std.proofs.Common.{ap, subst, List, arith}
use Rattle.spi_term.specs.Spelling.{Shape, spelled}
use Rattle.spi_term.specs.View.{effect}
use Rattle.spi_term.proofs.Numbers.{small_node, length_spelled}
use Rattle.spi_rules.specs.Deriv.{rule_use, effect_written}
use Rattle.spi_audit.specs.Fits.{plain, subsumed}
use Rattle.spi_audit.specs.Walking.{FitsMessage, FitsNode, FitsNext}
use Rattle.spi_audit.proofs.Turning.{if_ok}
use Rattle.spi_audit.proofs.WalkUses.{is_plain, node_written}
use Rattle.spi_audit.proofs.WalkNext.{next_is, fits_next_is, message_within, message_given, next_message, process_low, process_few, process_bound, process_below, process_placed, next_process}
use Rattle.spi_audit.proofs.walking.held_against.Goals as goal

pub message_use-requires-clause-message : goal.message_use-requires-clause-message
message_use-requires-clause-message c =
    let ss = spelled c.args.process.now.names c.args.process.now.process in
    message_within c.args.judge.now ss c.in-Message.m c.in-Message.t (next_is c.args.judge.now ss c.in-Message.is c.requires.next)

pub message_use-requires-clause-ty : goal.message_use-requires-clause-ty
message_use-requires-clause-ty c =
    let ss = spelled c.args.process.now.names c.args.process.now.process in
    message_given c.args.judge.now ss c.in-Message.m c.in-Message.t (next_is c.args.judge.now ss c.in-Message.is c.requires.next)

pub settle-requires : goal.settle-requires
settle-requires c =
    let ss = spelled c.args.process.now.names c.args.process.now.process in
    let next = next_is c.args.judge.now ss c.in-Process.is c.requires.next in
    record {
      low = process_low c.args.judge.now ss c.in-Process.id c.in-Process.scope c.in-Process.names next;
      few = process_few c.args.judge.now ss c.in-Process.id c.in-Process.scope c.in-Process.names next;
      given = process_bound c.args.judge.now ss c.in-Process.id c.in-Process.scope c.in-Process.names next;
    }

pub node_use-requires-clause-node : goal.node_use-requires-clause-node
node_use-requires-clause-node c =
    let ss = spelled c.args.process.now.names c.args.process.now.process in
    let l = process_below c.args.judge.now ss c.in-Process.id c.in-Process.scope c.in-Process.names (next_is c.args.judge.now ss c.in-Process.is c.requires.next) in
    omega (arith, l, length_spelled c.args.process.now.names c.args.process.now.process)

pub node_use-requires-clause-placed : goal.node_use-requires-clause-placed
node_use-requires-clause-placed c =
    let ss = spelled c.args.process.now.names c.args.process.now.process in
    process_placed c.args.judge.now ss c.in-Process.id c.in-Process.scope c.in-Process.names (next_is c.args.judge.now ss c.in-Process.is c.requires.next) c.settle.new.judge c.in_ok-settle-in-Process.ensures.turned

pub returns-in-Message-clause-answer : goal.returns-in-Message-clause-answer
returns-in-Message-clause-answer c =
    let ss = spelled c.args.process.now.names c.args.process.now.process in
    let u = rule_use c.args.u.now in
    if_ok {P = FitsMessage c.args.judge.now c.message_use.new.judge u c.in-Message.m c.in-Message.t} {Q = FitsNext c.args.judge.now c.message_use.new.judge c.args.keys.now ss u c.args.next} c.message_use.result
    (λ r h. fits_next_is c.args.judge.now c.message_use.new.judge c.args.keys.now ss u r c.in-Message.is (next_message c.args.judge.now c.message_use.new.judge c.args.keys.now ss u c.in-Message.m c.in-Message.t c.message_use.ensures.kept r h)) c.message_use.ensures.answer

pub returns-in-Some-clause-answer : goal.returns-in-Some-clause-answer
returns-in-Some-clause-answer c =
    let ss = spelled c.args.process.now.names c.args.process.now.process in
    let u = rule_use c.args.u.now in
    let ks = c.sub_use.new.keys in
    let fs = effect c.in-Some.e in
    if_ok {P = λ r. (ss : List Shape) → FitsNode c.settle.new.judge c.sub_use.new.judge ks ss (subsumed fs) c.in-Process.id r} {Q = FitsNext c.args.judge.now c.sub_use.new.judge ks ss u c.args.next} c.sub_use.result
    (λ r h. fits_next_is c.args.judge.now c.sub_use.new.judge ks ss u r c.in-Process.is (next_process c.args.judge.now c.settle.new.judge c.sub_use.new.judge ks ss u c.in-Process.id c.in-Process.scope c.in-Process.names (λ i x g. (small_node c.args.process.now.names c.args.process.now.process i x c.len.ensures.small g).1) c.in_ok-settle-in-Process.ensures.turned c.settle.ensures.store c.settle.ensures.free c.sub_use.ensures.kept r (node_written c.settle.new.judge c.sub_use.new.judge ks ss u fs c.in-Process.id c.requires.usage (ap effect_written c.in-Some.is) r (h ss)))) c.sub_use.ensures.answer

pub returns-in-None-clause-answer : goal.returns-in-None-clause-answer
returns-in-None-clause-answer c =
    let ss = spelled c.args.process.now.names c.args.process.now.process in
    let u = rule_use c.args.u.now in
    let ks = c.node_use.new.keys in
    if_ok {P = FitsNode c.settle.new.judge c.node_use.new.judge ks ss (plain c.args.u.now.rule) c.in-Process.id} {Q = FitsNext c.args.judge.now c.node_use.new.judge ks ss u c.args.next} c.node_use.result
    (λ r h. fits_next_is c.args.judge.now c.node_use.new.judge ks ss u r c.in-Process.is (next_process c.args.judge.now c.settle.new.judge c.node_use.new.judge ks ss u c.in-Process.id c.in-Process.scope c.in-Process.names (λ i x g. (small_node c.args.process.now.names c.args.process.now.process i x c.len.ensures.small g).1) c.in_ok-settle-in-Process.ensures.turned c.settle.ensures.store c.settle.ensures.free c.node_use.ensures.kept r (subst (λ v. FitsNode c.settle.new.judge c.node_use.new.judge ks ss v c.in-Process.id r) (is_plain u (ap effect_written c.in-None.is)) h))) c.node_use.ensures.answer
