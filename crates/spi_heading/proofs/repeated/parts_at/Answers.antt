use Rattle.std.proofs.Common.{◌≡◌, ◌==◌, ◌∙◌, arith, sym, true, false}
use Rattle.spi_lex.specs.Numbered.{listed}
use Rattle.spi_heading.proofs.Loops.{loop_begins, loop_fails, loop_full, loop_ends, loop_rises, loop_reads}
use Rattle.spi_heading.proofs.repeated.parts_at.Goals as goal

pub parts-init : goal.parts-init
parts-init g c = loop_begins g.P.RepeatedPart.kind (c.args.version == 2) (listed c.args.tokens.now) c.args.start c.new-parts.result.items c.new-parts.ensures.items c.requires.start

pub returns-in_err-part : goal.returns-in_err-part
returns-in_err-part g c = loop_fails g.P.RepeatedPart.kind c.requires.solid (c.args.version == 2) (listed c.args.tokens.now) c.args.start c.parts.parts.items c.parts.at c.parts.invariant c.in_err-part.field-0.0 c.from_residual.result c.from_residual.ensures.1 (c.begins_at.ensures.0 c.parts-test.true) c.in_err-part.ensures

pub returns-in-Err : goal.returns-in-Err
returns-in-Err g c = loop_full g.P.RepeatedPart.kind c.requires.solid (c.args.version == 2) (listed c.args.tokens.now) c.args.start c.parts.parts.items c.parts.at c.parts.invariant (c.begins_at.ensures.0 c.parts-test.true)

pub parts-smaller : goal.parts-smaller
parts-smaller g c = let rises = loop_rises g.P.RepeatedPart.kind c.requires.solid (c.args.version == 2) (listed c.args.tokens.now) c.args.start c.parts.parts.items c.parts.at c.parts.invariant c.in_ok-part.next c.in_ok-part.part c.in_ok-part.ensures in omega arith

pub parts-preserved : goal.parts-preserved
parts-preserved g c = loop_reads g.P.RepeatedPart.kind c.requires.solid (c.args.version == 2) (listed c.args.tokens.now) c.args.start c.parts.parts.items c.parts.at c.parts.invariant c.in_ok-part.next c.in_ok-part.part c.in_ok-part.ensures _ c.in-Ok.ensures.items

pub returns : goal.returns
returns g c = loop_ends g.P.RepeatedPart.kind c.requires.solid (c.args.version == 2) (listed c.args.tokens.now) c.args.start c.parts.parts.items c.parts.at c.parts.invariant (λ b. let no : false ≡ true = sym c.parts-test.false ∙ c.begins_at.ensures.1 b in cc)
