use Rattle.std.proofs.Common.{◌==◌, [], ◌∷◌}
use Rattle.spi_lex.specs.Numbered.{listed}
use Rattle.spi_tree.specs.declared.tree.SMsg.{SMsg}
use Rattle.spi_tree.specs.Views.{msg_of}
use Rattle.spi_heading.specs.declared.shared.Named.{Named}
use Rattle.spi_heading.specs.Views.{named_of}
use Rattle.spi_heading.proofs.Symbols.{token, the_mark}
use Rattle.spi_heading.proofs.RowParts.{part_fails, part_reads, then_part, no_part}
use Rattle.spi_heading.proofs.Reached.{begun, ended, then_token, no_token}
use Rattle.spi_heading.proofs.Names.{named_row, named_are}
use Rattle.spi_narrate.proofs.FormParts.{bound_row, bound_are, whole_are}
use Rattle.spi_narrate.proofs.forms.bound_at.Goals as goal

pub returns-in_err-whole-clause-read : goal.returns-in_err-whole-clause-read
returns-in_err-whole-clause-read c =
    let start = begun (c.args.version == 2) (listed c.args.tokens.now) c.args.at (bound_row c.args.mark) c.requires.text.words in
    part_fails (bound_are (c.args.version == 2) c.args.mark) (listed c.args.tokens.now) c.args.at (λ (r : SMsg × Named). (msg_of r.0, named_of r.1)) c.in_err-whole.field-0.0 c.from_residual.result c.from_residual.ensures.1
    (no_part (token (the_mark c.args.mark) ∷ named_row) (whole_are (c.args.version == 2)) start msg_of c.in_err-whole.field-0.0 c.in_err-whole.ensures.read)

pub returns-in_err-name_at-clause-read : goal.returns-in_err-name_at-clause-read
returns-in_err-name_at-clause-read c =
    let start = begun (c.args.version == 2) (listed c.args.tokens.now) c.args.at (bound_row c.args.mark) c.requires.text.words in
    let whole = then_part (token (the_mark c.args.mark) ∷ named_row) (whole_are (c.args.version == 2)) start (msg_of c.in_ok-whole.whole) c.in_ok-whole.mark_at c.requires.start c.in_ok-whole.ensures.read in
    part_fails (bound_are (c.args.version == 2) c.args.mark) (listed c.args.tokens.now) c.args.at (λ (r : SMsg × Named). (msg_of r.0, named_of r.1)) c.in_err-name_at.field-0.0 c.from_residual-in_err-name_at.result c.from_residual-in_err-name_at.ensures.1
    (no_token whole c.in_err-name_at.field-0.0 c.in_err-name_at.ensures.taken)

pub returns-in_err-named-clause-read : goal.returns-in_err-named-clause-read
returns-in_err-named-clause-read c =
    let start = begun (c.args.version == 2) (listed c.args.tokens.now) c.args.at (bound_row c.args.mark) c.requires.text.words in
    let whole = then_part (token (the_mark c.args.mark) ∷ named_row) (whole_are (c.args.version == 2)) start (msg_of c.in_ok-whole.whole) c.in_ok-whole.mark_at c.requires.start c.in_ok-whole.ensures.read in
    let marked = then_token whole c.in_ok-name_at.name_at c.in_ok-name_at.ensures.taken in
    part_fails (bound_are (c.args.version == 2) c.args.mark) (listed c.args.tokens.now) c.args.at (λ (r : SMsg × Named). (msg_of r.0, named_of r.1)) c.in_err-named.field-0.0 c.from_residual-in_err-named.result c.from_residual-in_err-named.ensures.1
    (no_part [] (named_are (c.args.version == 2)) marked named_of c.in_err-named.field-0.0 c.in_err-named.ensures.read)

pub returns-clause-read : goal.returns-clause-read
returns-clause-read c =
    let start = begun (c.args.version == 2) (listed c.args.tokens.now) c.args.at (bound_row c.args.mark) c.requires.text.words in
    let whole = then_part (token (the_mark c.args.mark) ∷ named_row) (whole_are (c.args.version == 2)) start (msg_of c.in_ok-whole.whole) c.in_ok-whole.mark_at c.requires.start c.in_ok-whole.ensures.read in
    let marked = then_token whole c.in_ok-name_at.name_at c.in_ok-name_at.ensures.taken in
    let named = then_part [] (named_are (c.args.version == 2)) marked (named_of c.in_ok-named.named) c.in_ok-named.next c.in_ok-name_at.ensures.within c.in_ok-named.ensures.read in
    part_reads (bound_are (c.args.version == 2) c.args.mark) (listed c.args.tokens.now) c.args.at c.requires.text.words (msg_of c.in_ok-whole.whole, named_of c.in_ok-named.named) c.in_ok-named.next (ended named)
