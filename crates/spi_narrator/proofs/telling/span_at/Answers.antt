use Rattle.std.proofs.Common.{length, refl, sym, ap}
use Rattle.std.proofs.lemmas.Option.{slice_get_read}
use Rattle.spi_narrate.specs.Views.{line_of}
use Rattle.spi_narrator.specs.Answers.{line_span}
use Rattle.spi_narrator.proofs.Freed.{line_in}
use Rattle.spi_narrator.proofs.telling.span_at.Goals as goal

pub returns-in-Local : goal.returns-in-Local
returns-in-Local c = line_in line_of c.args.lines.now c.args.at c.index-lines-at.result c.in-Local.span (slice_get_read c.args.lines.now (length c.args.lines.now) c.args.at c.index-lines-at.result refl c.requires c.index-lines-at.is) (ap (λ l. line_span (line_of l)) (sym c.in-Local.is))

pub returns-in-Pass : goal.returns-in-Pass
returns-in-Pass c = line_in line_of c.args.lines.now c.args.at c.index-lines-at.result c.in-Pass.span (slice_get_read c.args.lines.now (length c.args.lines.now) c.args.at c.index-lines-at.result refl c.requires c.index-lines-at.is) (ap (λ l. line_span (line_of l)) (sym c.in-Pass.is))
