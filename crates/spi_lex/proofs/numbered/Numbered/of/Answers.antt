use Rattle.std.proofs.Common.{Bool, ◌∙◌, sym, subst}
use Rattle.spi_lex.specs.Places.{ArePlaces}
use Rattle.spi_lex.proofs.Places.{rises}
use Rattle.spi_lex.proofs.numbered.Numbered.of.Goals as goal

pub invariant_of-numbered-clause-within : goal.invariant_of-numbered-clause-within
invariant_of-numbered-clause-within c = c.requires

pub invariant_of-numbered-clause-kept : goal.invariant_of-numbered-clause-kept
invariant_of-numbered-clause-kept c = subst (λ (later : Bool). ArePlaces c.args.text.now later c.in_ok-places.places.items) (sym (c.is_later-later.ensures ∙ c.of.ensures.later)) c.in_ok-places.ensures.kept

pub invariant_of-numbered-clause-rising : goal.invariant_of-numbered-clause-rising
invariant_of-numbered-clause-rising c = rises 0 _ _ c.of.ensures.spans
