use Rattle.std.proofs.Common.{List, [], ◌∷◌, ◌++◌, sym, subst, ◌∙◌, true≢false}
use Rattle.spi_lex.specs.declared.token.Kind.{Kind}
use Rattle.spi_lex.specs.Lexing.{kinds_of}
use Rattle.spi_expected.specs.Expected.{AreThose, GoesOn}
use Rattle.spi_expected.proofs.Front.{on_ok, those_kept, those_left}
use Rattle.spi_expected.proofs.fronts.try_kind.Goals as goal

pub returns-then-branch-clause-those : goal.returns-then-branch-clause-those
returns-then-branch-clause-those c =
    on_ok c.keep.result (λ e ks h. subst (λ (l : List Kind). AreThose (GoesOn (kinds_of c.args.front.now.items)) (ks ++ c.args.kind.now ∷ []) l) (sym e)
    (those_kept h (c.in_ok-goes_on.ensures.answer.0 c.if-branch.true))) c.keep.ensures

pub returns-else-branch-clause-those : goal.returns-else-branch-clause-those
returns-else-branch-clause-those c ks h = those_left h (λ g. true≢false (sym (c.in_ok-goes_on.ensures.answer.1 g) ∙ c.if-branch.false))
