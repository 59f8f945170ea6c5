use Rattle.std.proofs.Common.{arith, ◌≡◌, ◌≤◌, ℕ, Bool, true, false, List, Option, Some, None, Result, refl, sym, map, ◌∷◌, [], ap, subst, ◌∙◌}
use Rattle.std.proofs.lemmas.Result.{err_from_is_err_and}
use Rattle.spi_lex.specs.declared.token.Kind.TheVariants as K
use Rattle.spi_tree.specs.declared.tree.SDeriv.{SDeriv}
use Rattle.spi_tree.specs.Pieces.{derivation_limit}
use Rattle.spi_tree.specs.Trees as trees
use Rattle.spi_tree.specs.Views.{deriv_of}
use Rattle.spi_parse.specs.declared.cursor.Reader.{Reader}
use Rattle.spi_parse.specs.declared.seen.Lexeme.{Lexeme}
use Rattle.spi_parse.specs.declared.fault.Stop.{Stop}
use Rattle.spi_parse.specs.Tokens.{State}
use Rattle.spi_parse.specs.Seen.{kind_of, tok_of}
use Rattle.spi_parse.specs.Places.{state_of, behind, past}
use Rattle.spi_parse.specs.Ends.{done}
use Rattle.spi_parse.specs.Wholes.{one_form, two_form, three_form, sub_form}
use Rattle.spi_parse.specs.Rules.{arity_of, writes_effect}
use Rattle.spi_parse.specs.Table.{deriv, rule_move, word_at, over}
use Rattle.spi_parse.specs.Reading.{Out, Gives, read, limited, go_on}
use Rattle.spi_parse.proofs.Readers.{at, read_is_step}
use Rattle.spi_parse.proofs.Pasts.{past_is}
use Rattle.spi_parse.proofs.DerivLaws.{rule_is_first, none_first, above_first}
use Rattle.spi_parse.proofs.derivations.+derivations.Goals as goal

abbrev PartRead : Result SDeriv Stop → State → Out trees.Deriv → Type 0
PartRead r after o = Gives {X = SDeriv} {Y = trees.Deriv × State} (λ x. (deriv_of x, after)) r o

-- what the move of a rule gives behind its word is what reading gives before it
by_rule : (later : Bool) (nesting : ℕ) (start : Reader) (first : Lexeme) (w : List ℕ) (o : Option ℕ) (b : Bool) (r : Result SDeriv Stop) (next after : State) (form : State → Out trees.Deriv)
    → (state_of start).rest ≡ tok_of first ∷ behind start → kind_of first.kind ≡ K.Word w → arity_of later w ≡ o → writes_effect w ≡ b → nesting ≤ derivation_limit
    → next ≡ past (state_of start) (behind start) → PartRead r after (form next)
    → form (at first.span.to (behind start)) ≡ go_on limited (read limited) (rule_move later nesting w o b) false [] (at start.end (tok_of first ∷ behind start))
    → PartRead r after (read limited (deriv later nesting) (state_of start))
by_rule later nesting start first w o b r next after form is kind arity writes fits goes gives same =
    let step = rule_is_first later nesting start.end (state_of start).rest (behind start) (tok_of first) w o b is kind arity writes fits in
    let here = subst (λ (s : State). PartRead r after (form s)) (goes ∙ past_is (state_of start) (tok_of first) (behind start) is) gives in
    rw read_is_step (subst (PartRead r after) (same ∙ step) here)

pub derivation-returns-in_err-accept : goal.derivation-returns-in_err-accept
derivation-returns-in_err-accept t c =
    let none = none_first c.shape_of-shape.result c.args.later c.args.nesting c.args.at.now.end (state_of c.args.at.now).rest (behind c.args.at.now) (tok_of c.in_ok-first.first) c.in-Word.word.now
    c.in_ok-first.ensures (ap kind_of c.in-Word.is) c.shape_of-shape.ensures (sym c.is_rule.ensures ∙ c.in_err-accept.ensures.0) in
    let p = err_from_is_err_and c.from_residual-in_err-accept.result c.from_residual-in_err-accept.ensures.1 in
    rw read_is_step (rw (p.1, p.2, c.in_err-accept.ensures.1) none)

pub derivation-returns-in_err-fits : goal.derivation-returns-in_err-fits
derivation-returns-in_err-fits t c =
    let deep = above_first c.shape_of-shape.result c.args.later c.args.nesting c.args.at.now.end (state_of c.args.at.now).rest (behind c.args.at.now) (tok_of c.in_ok-first.first) c.in-Word.word.now
    c.in_ok-first.ensures (ap kind_of c.in-Word.is) c.shape_of-shape.ensures (sym c.is_rule.ensures ∙ c.in_ok-accept.ensures) c.in_err-fits.ensures.0 in
    let p = err_from_is_err_and c.from_residual-in_err-fits.result c.from_residual-in_err-fits.ensures.1 in
    rw read_is_step (rw (p.1, p.2, c.in_err-fits.ensures.1) deep)

pub derivation-returns-in-Leaf : goal.derivation-returns-in-Leaf
derivation-returns-in-Leaf t c =
    let fits : c.args.nesting ≤ 1000 = omega arith in
    let leaf : State → Out trees.Deriv = λ s. done (trees.rule (over (c.in_ok-first.first.span ∷ []) s.end) (word_at c.in-Word.word.now c.in_ok-first.first.span) None (trees.derivs_of_list [])) s in
    let gives = subst (λ (l : List SDeriv). PartRead c.end_use.result (state_of c.end_use.new.at) (done (trees.rule (over (c.in_ok-first.first.span ∷ []) c.advance.new.self.end) (word_at c.in-Word.word.now c.in_ok-first.first.span) None (trees.derivs_of_list (map deriv_of l))) (state_of c.advance.new.self))) c.new.ensures.items c.end_use.ensures in
    by_rule c.args.later c.args.nesting c.args.at.now c.in_ok-first.first c.in-Word.word.now (Some 0) false c.end_use.result (state_of c.advance.new.self) (state_of c.end_use.new.at) leaf
    c.in_ok-first.ensures (ap kind_of c.in-Word.is) c.in-Leaf.ensures.0 c.in-Leaf.ensures.1 fits c.advance.ensures gives refl

pub derivation-returns-in-One : goal.derivation-returns-in-One
derivation-returns-in-One t c =
    let fits : c.args.nesting ≤ 1000 = omega arith in
    by_rule c.args.later c.args.nesting c.args.at.now c.in_ok-first.first c.in-Word.word.now (Some 1) false c.read_one.result (state_of c.advance-in-One.new.self) (state_of c.read_one.new.at)
    (one_form c.args.later c.args.nesting c.in-Word.word.now (c.in_ok-first.first.span ∷ []))
    c.in_ok-first.ensures (ap kind_of c.in-Word.is) c.in-One.ensures.0 c.in-One.ensures.1 fits c.advance-in-One.ensures c.read_one.ensures refl

pub derivation-returns-in-Two : goal.derivation-returns-in-Two
derivation-returns-in-Two t c =
    let fits : c.args.nesting ≤ 1000 = omega arith in
    by_rule c.args.later c.args.nesting c.args.at.now c.in_ok-first.first c.in-Word.word.now (Some 2) false c.read_two.result (state_of c.advance-in-Two.new.self) (state_of c.read_two.new.at)
    (two_form c.args.later c.args.nesting c.in-Word.word.now (c.in_ok-first.first.span ∷ []))
    c.in_ok-first.ensures (ap kind_of c.in-Word.is) c.in-Two.ensures.0 c.in-Two.ensures.1 fits c.advance-in-Two.ensures c.read_two.ensures refl

pub derivation-returns-in-Three : goal.derivation-returns-in-Three
derivation-returns-in-Three t c =
    let fits : c.args.nesting ≤ 1000 = omega arith in
    by_rule c.args.later c.args.nesting c.args.at.now c.in_ok-first.first c.in-Word.word.now (Some 3) false c.read_three.result (state_of c.advance-in-Three.new.self) (state_of c.read_three.new.at)
    (three_form c.args.later c.args.nesting c.in-Word.word.now (c.in_ok-first.first.span ∷ []))
    c.in_ok-first.ensures (ap kind_of c.in-Word.is) c.in-Three.ensures.0 c.in-Three.ensures.1 fits c.advance-in-Three.ensures c.read_three.ensures refl

pub derivation-returns-in-Sub : goal.derivation-returns-in-Sub
derivation-returns-in-Sub t c =
    let fits : c.args.nesting ≤ 1000 = omega arith in
    by_rule c.args.later c.args.nesting c.args.at.now c.in_ok-first.first c.in-Word.word.now (Some 1) true c.read_sub.result (state_of c.advance-in-Sub.new.self) (state_of c.read_sub.new.at)
    (sub_form c.args.later c.args.nesting c.in-Word.word.now (c.in_ok-first.first.span ∷ []))
    c.in_ok-first.ensures (ap kind_of c.in-Word.is) c.in-Sub.ensures.0 c.in-Sub.ensures.1 fits c.advance-in-Sub.ensures c.read_sub.ensures refl
