use Rattle.std.proofs.Common.{map, List, sym, ap, ◌∙◌, arith}
use Rattle.spi_term.specs.View.{ty}
use Rattle.spi_term.specs.declared.term.Ty.{Ty}
use Rattle.spi_scope.specs.Meaning.{nested_types}
use Rattle.spi_scope.proofs.Nesting.{popped_type, none_left}
use Rattle.spi_scope.proofs.types.nest_rest_types.Goals as goal

pub loop-part-preserved : goal.loop-part-preserved
loop-part-preserved c =
    rw (c.in_ok-last.ensures) (popped_type _ _ c.in-Some.part (ty c.loop-part.last) c.in-Some.ensures.items ∙ c.loop-part.invariant)

pub returns : goal.returns
returns c =
    let e = none_left c.loop-part.more.items (omega (arith, c.loop-part.more.ok.0, c.in_default.ensures.cases.0)) in
    ap (λ (l : List Ty). nested_types (map ty l) (ty c.loop-part.last)) (sym e) ∙ c.loop-part.invariant
