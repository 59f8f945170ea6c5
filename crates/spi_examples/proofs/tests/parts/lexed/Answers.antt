use Rattle.std.proofs.Common.{◌≡◌, Bool, true, false, List, sym, subst}
use Rattle.spi_lex.specs.declared.token.Token.{Token}
use Rattle.spi_lex.specs.Lexing.{kinds_of, is_version_2}
use Rattle.spi_tree.specs.Formed.{AreWordsFit}
use Rattle.spi_parse.proofs.Lexed.{kinds_fit}
use Rattle.spi_examples.proofs.tests.parts.lexed.Goals as goal

pub returns-then-is_version_2-clause-words : goal.returns-then-is_version_2-clause-words
returns-then-is_version_2-clause-words c =
    let later : true ≡ is_version_2 (kinds_of c.in_ok-tokens.tokens.items) = subst (λ (l : List Token). true ≡ is_version_2 (kinds_of l)) c.deref.ensures.value c.if-is_version_2.ensures in
    subst (λ (v : Bool). AreWordsFit v (kinds_of c.in_ok-tokens.tokens.items)) (sym later) (kinds_fit (kinds_of c.in_ok-tokens.tokens.items) c.in_ok-tokens.ensures.kinds)

pub returns-else-is_version_2-clause-words : goal.returns-else-is_version_2-clause-words
returns-else-is_version_2-clause-words c =
    let first : false ≡ is_version_2 (kinds_of c.in_ok-tokens.tokens.items) = subst (λ (l : List Token). false ≡ is_version_2 (kinds_of l)) c.deref.ensures.value c.if-is_version_2.ensures in
    subst (λ (v : Bool). AreWordsFit v (kinds_of c.in_ok-tokens.tokens.items)) (sym first) (kinds_fit (kinds_of c.in_ok-tokens.tokens.items) c.in_ok-tokens.ensures.kinds)
