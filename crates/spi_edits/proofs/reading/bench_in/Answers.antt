use Rattle.std.proofs.Common.{◌==◌, map, refl}
use Rattle.spi_lex.specs.Numbered.{listed}
use Rattle.spi_tree.specs.Views.{decl_of}
use Rattle.spi_heading.specs.Views.{shared_of}
use Rattle.spi_heading.proofs.Fronts.{heading_answer, behind_heading}
use Rattle.spi_heading.proofs.Lasts.{last_along, last_answer}
use Rattle.spi_edits.specs.Grammar.{edit_pieces, IsEdit}
use Rattle.spi_edits.specs.Views.{edit_of, bench_of}
use Rattle.spi_edits.proofs.EditRows.{edits_good, edits_some, edit_behind, edit_solid}
use Rattle.spi_edits.proofs.Whole.{Benches, benches_headed}
use Rattle.spi_edits.proofs.Steps.{bench_read, parse_fails}
use Rattle.spi_edits.proofs.reading.bench_in.Goals as goal

pub returns-in_err-heading : goal.returns-in_err-heading
returns-in_err-heading c =
    parse_fails bench_of (listed c.args.tokens.now) c.in_err-heading.field-0.0 c.from_residual.result c.from_residual.ensures.1
    (heading_answer benches_headed (listed c.args.tokens.now) c.requires.words c.in_err-heading.field-0.0 c.in_err-heading.ensures.read)

pub parts_at-requires : goal.parts_at-requires
parts_at-requires c = λ k. ((refl, tt), (c.in_ok-heading.ensures.text, (c.in_ok-heading.ensures.within, record { behind = edit_behind; solid = edit_solid })))

pub returns-in_err-edits : goal.returns-in_err-edits
returns-in_err-edits c =
    let ts = (listed c.args.tokens.now) in
    let x = c.in_ok-heading.heading in
    let e = c.in_ok-heading.ensures in
    let v = x.version == 2 in
    let rest = behind_heading benches_headed ts c.requires.words x.version (map decl_of x.decls.items) (map shared_of x.shared.items) c.in_ok-heading.start e.read in
    parse_fails bench_of ts c.in_err-edits.field-0.0 c.from_residual-in_err-edits.result c.from_residual-in_err-edits.ensures.1
    (last_answer edit_pieces edit_behind edit_solid v (IsEdit v) (edits_good v) (edits_some v) Benches ts e.text.words c.in_ok-heading.start e.within rest c.in_err-edits.field-0.0 c.in_err-edits.ensures)

pub returns : goal.returns
returns c =
    let x = c.in_ok-heading.heading in
    let k = c.in_ok-heading.start in
    let es = map edit_of c.in_ok-edits.edits.items in
    bench_read (listed c.args.tokens.now) c.whole_span.result c.whole_span.ensures c.requires.words x.version (map decl_of x.decls.items) (map shared_of x.shared.items) es k c.in_ok-heading.ensures.read
    (last_along edit_pieces edit_behind edit_solid (x.version == 2) (IsEdit (x.version == 2)) (listed c.args.tokens.now) k c.in_ok-edits._behind es c.in_ok-heading.ensures.within c.in_ok-edits.ensures)
