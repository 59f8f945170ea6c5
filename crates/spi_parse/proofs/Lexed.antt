-- The words of tokens as they are lexed fit.
use Rattle.std.proofs.Common.{Bool, true, false, List, [], ◌∷◌, sym, subst}
use Rattle.std.specs.List.{AllByRecursion}
use Rattle.spi_lex.specs.declared.token.Kind.{Kind}
use Rattle.spi_lex.specs.declared.token.Kind.TheVariants as K
use Rattle.spi_lex.specs.Words.{words_of}
use Rattle.spi_lex.specs.Lexing.{is_version_2}
use Rattle.spi_lex.specs.Writing.{IsKind, AreKinds, first_version, later_version}
use Rattle.spi_tree.specs.Formed.{IsWordFit, AreWordsFit}
use Rattle.spi_parse.proofs.LiveLaws.{version_fit}

kind_fits : (v : Bool) (k : Kind) → IsKind (words_of v) k → IsWordFit v k
kind_fits v (K.Word w) h = h
kind_fits v (K.Reserved w) h = tt
kind_fits v (K.Number n) h = tt
kind_fits v (K.Mark m) h = tt

all_fit : (v : Bool) (ks : List Kind) → AllByRecursion (IsKind (words_of v)) ks → AreWordsFit v ks
all_fit v [] h = tt
all_fit v (k ∷ ks) h = (kind_fits v k h.0, all_fit v ks h.1)

pub kinds_fit : (ks : List Kind) → AreKinds ks → AreWordsFit (is_version_2 ks) ks
kinds_fit ks (first_version old h) = subst (λ (v : Bool). AreWordsFit v ks) (sym old) (all_fit false ks h)
kinds_fit ks (later_version h) = (version_fit, (tt, (tt, all_fit true _ h)))
