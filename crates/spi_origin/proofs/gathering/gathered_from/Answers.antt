use Rattle.std.proofs.Common.{◌≡◌, ◌+◌, ◌-◌, drop, [], sym, ap, ◌∙◌, subst, arith}
use Rattle.spi_term.specs.Spelling.{spelled}
use Rattle.spi_term.specs.View.{shape_of}
use Rattle.spi_term.proofs.Numbers.{small_node}
use Rattle.spi_rules.specs.Environment.{Env}
use Rattle.spi_infer.specs.Accounts.{IsNoted, Tops}
use Rattle.spi_infer.specs.Passes.{act, run_notes, scan}
use Rattle.spi_infer.proofs.Walked.{notes_for_each, at_from, note_here, note_given, before, acted, starts}
use Rattle.spi_origin.specs.Gathering.{aim_of, at_top, with_node, joined_lists, gather, MarkedStacks}
use Rattle.spi_origin.proofs.Gathered.{gathers_to}
use Rattle.spi_origin.proofs.Stepping.{stepped, starts_marked}
use Rattle.spi_origin.proofs.gathering.gathered_from.Goals as goal

pub loop-id-init : goal.loop-id-init
loop-id-init c = record {
  within = omega (arith, c.requires.from, c.len-id.ensures.nodes);
  stack_is = λ env h. starts c.args.store.now c.args.noted.now.keys c.args.process.now.names c.args.process.now.process _ c.len-id.result c.new-stack.result.items c.len-id.ensures.nodes c.new-stack.ensures.items;
  found_is = λ env h. starts_marked (aim_of c.args.aim.now) c.args.process.now.names c.args.process.now.process _ c.len-id.result c.new-marks.result.items c.new-found.result.items c.len-id.ensures.nodes c.new-marks.ensures.items c.new-found.ensures.items;
}

pub index-note-requires : goal.index-note-requires
index-note-requires c =
    omega (arith, notes_for_each c.requires.noted.1 c.len-id.ensures.nodes, c.args.noted.now.notes.ok.0, c.loop-id-test.true, c.loop-id.auto.id)

pub act_on-requires-clause-scope : goal.act_on-requires-clause-scope
act_on-requires-clause-scope c =
    (small_node c.args.process.now.names c.args.process.now.process (c.loop-id.id - 1) (shape_of c.node-node.result.now) c.len-id.ensures.small c.node-node.ensures).1

pub act_on-requires-clause-own : goal.act_on-requires-clause-own
act_on-requires-clause-own c =
    note_given c.args.store.now c.args.noted.now c.args.process.now.names c.args.process.now.process c.requires.noted.0 c.requires.noted.1 (c.loop-id.id - 1) (shape_of c.node-node.result.now) c.node-node.ensures c.index-note.result.now c.index-note.ensures

pub loop-id-preserved : goal.loop-id-preserved
loop-id-preserved c =
    let z : c.loop-id.id ≡ c.loop-id.id - 1 + 1 = omega (arith, c.loop-id-test.true) in
    let s = c.args.store.now in
    let noted = c.args.noted.now in
    let k = c.args.process.now.names in
    let p = c.args.process.now.process in
    let x = shape_of c.node-node.result.now in
    let o = c.index-note.result.now in
    let i = c.loop-id.id - 1 in
    let w = aim_of c.args.aim.now in
    let ss = spelled k p in
    let n = λ (env : Env) (h : IsNoted s noted k p env). note_here s noted k p env h i x c.node-node.ensures o c.index-note.ensures in
    let b = λ (env : Env) (h : IsNoted s noted k p env). before s noted k p env h i x c.node-node.ensures o c.index-note.ensures c.distinct.ensures.differ c.len-id.ensures.over c.loop-id.id z c.loop-id.stack.items (c.loop-id.invariant.stack_is env h) in
    let st = λ (env : Env). run_notes (drop c.loop-id.id ss) (drop c.loop-id.id (scan 0 env [] ss)) in
    let ls = λ (env : Env). gather w c.loop-id.id (drop c.loop-id.id ss) (drop c.loop-id.id (scan 0 env [] ss)) in
    record {
      within = omega (arith, c.loop-id-test.true);
      stack_is = λ env h.
          c.in_ok-kept.ensures.stack s noted.keys _ (subst (Tops s noted.keys c.act_on.new.stack.items) (acted s noted k p env h i x c.node-node.ensures o c.index-note.ensures c.distinct.ensures.differ c.len-id.ensures.over c.loop-id.id z) (c.in_ok-stuck.ensures.stack (n env h) _ (b env h)));
      found_is = λ env h.
          let tops = c.in_ok-stuck.ensures.stack (n env h) (st env) (b env h) in
          let stuck = c.in_ok-stuck.ensures.stuck (n env h) (st env) (b env h) in
          let kept = c.in_ok-kept.ensures.kept s noted.keys (act x (n env h) (st env)) c.requires.key tops in
          let two = c.in_ok-join.ensures c.loop-id.found.items (ls env) (sym (c.len.ensures ∙ c.loop-id.found.ok.0)) (c.loop-id.invariant.found_is env h) in
          let added = c.in_ok-add_node.ensures (joined_lists x (ls env)) (subst (λ l. MarkedStacks l c.loop-id.found.items (joined_lists x (ls env))) (sym c.deref.ensures.value) two) in
          stepped s noted k p env h i x c.node-node.ensures o c.index-note.ensures c.distinct.ensures.differ c.len-id.ensures.over c.loop-id.id z (aim_of c.args.aim.now) c.in_ok-kept.kept c.is_picked-picked.result c.join.new.marks.items c.add_node.new.found.items kept (λ e. c.is_picked-picked.ensures s noted.keys (n env h) (st env) (b env h).noted stuck (sym kept ∙ e)) (subst (λ l. MarkedStacks l c.add_node.new.found.items (at_top (with_node c.in_ok-kept.kept c.is_picked-picked.result i) (joined_lists x (ls env)))) c.deref.ensures.value added);
    }

pub returns : goal.returns
returns c env e q h n =
    let r = gathers_to (aim_of c.args.aim.now) c.args.process.now.names h.names n in
    let z : c.loop-id.id ≡ c.args.from = at_from c.loop-id.invariant.within c.loop-id-test.false in
    let ss = spelled c.args.process.now.names c.args.process.now.process in
    let ns = scan 0 env [] ss in
    let m = subst (λ l. MarkedStacks l c.loop-id.found.items (gather (aim_of c.args.aim.now) c.loop-id.id (drop c.loop-id.id ss) (drop c.loop-id.id ns))) (sym c.deref-2.ensures.value) (c.loop-id.invariant.found_is env h) in
    c.first_list.ensures _ r.others (subst (MarkedStacks c.deref-2.result.now c.loop-id.found.items) (ap (λ i. gather (aim_of c.args.aim.now) i (drop i ss) (drop i ns)) z ∙ r.is) m)
