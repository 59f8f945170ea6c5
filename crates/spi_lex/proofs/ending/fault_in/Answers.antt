use Rattle.std.proofs.Common.{◌-◌, ℕ, List, Ok, [], length, subst, sym, inl, inr, arith}
use Rattle.std.proofs.lemmas.Bool.{eqb-true}
use Rattle.std.proofs.lemmas.Str.{IsUtf8-drop}
use Rattle.std.specs.Str.{IsUtf8}
use Rattle.spi_lex.specs.declared.token.Token.{Token}
use Rattle.spi_lex.specs.Lexing.{Lexes}
use Rattle.spi_lex.proofs.Reached.{starts, reads_on, ends, finds_none, fails}
use Rattle.spi_lex.proofs.Blanks.{passes_blanks}
use Rattle.spi_lex.proofs.Taken.{tokens_are_left}
use Rattle.spi_lex.proofs.ending.fault_in.Goals as goal

pub loop-rest-init : goal.loop-rest-init
loop-rest-init c = (
  c.after_blanks-rest.utf8,
  [],
  passes_blanks c.args.text.now c.args.text.now c.after_blanks-rest.result.now [] c.utf8.text c.after_blanks-rest.ensures (starts c.args.text.now),
)

pub returns-in_default : goal.returns-in_default
returns-in_default c =
    let so_far = c.loop-rest.invariant.2.so_far in
    (finds_none c.args.text.now c.loop-rest.rest.now c.loop-rest.invariant.1 (length c.args.text.now - length c.loop-rest.rest.now) c.utf8.text c.loop-rest.invariant.2 (omega arith) c.in_default.ensures.none)

pub returns-in-Some-fault_of : goal.returns-in-Some-fault_of
returns-in-Some-fault_of c =
    let so_far = c.loop-rest.invariant.2.so_far in
    let at : ℕ = length c.args.text.now - length c.loop-rest.rest.now in
    let f = c.in-Some-fault_of.ensures in
    elim (fails c.args.text.now c.loop-rest.rest.now c.loop-rest.invariant.1 c.in-Some.len at c.in-Some.shape c.in-Some-fault_of.fault c.utf8.text c.loop-rest.invariant.2 (omega arith) c.in-Some.ensures.found f.1) [ inl memory ↦ absurd (f.0 memory) | inr fault ↦ fault ]

pub loop-rest-preserved : goal.loop-rest-preserved
loop-rest-preserved c =
    let so_far = c.loop-rest.invariant.2.so_far in
    let at : ℕ = length c.args.text.now - length c.loop-rest.rest.now in
    let f = c.in-Some.ensures.found in
    let left = subst IsUtf8 (sym c.split_at.ensures.back) (IsUtf8-drop c.loop-rest.rest.now c.in-Some.len c.loop-rest.invariant.0 f.cut) in
    let on = reads_on c.args.text.now c.loop-rest.rest.now c.split_at.result.1.now c.loop-rest.invariant.1 c.in-Some.len at c.in-Some.shape c.loop-rest.invariant.2 (omega arith) f c.split_at.ensures.back c.in-None.ensures in (
      c.after_blanks-rest-in-None.utf8,
      on.0,
      passes_blanks c.args.text.now c.split_at.result.1.now c.after_blanks-rest-in-None.result.now on.0 left c.after_blanks-rest-in-None.ensures on.1,
    )

pub returns : goal.returns
returns c =
    let all = ends c.args.text.now c.loop-rest.rest.now c.loop-rest.invariant.1 c.utf8.text c.loop-rest.invariant.2 (eqb-true _ 0 (sym c.loop-rest-test.ensures)) in
    subst (λ (ts : List Token). Lexes c.args.text.now (Ok ts)) (sym (tokens_are_left c.args.text.now c.loop-rest.invariant.1 all)) all
