use Rattle.std.proofs.Common.{◌==◌}
use Rattle.spi_lex.specs.Numbered.{listed}
use Rattle.spi_tree.specs.Views.{ty_of}
use Rattle.spi_heading.specs.Views.{named_of}
use Rattle.spi_heading.proofs.Calls.{type_within}
use Rattle.spi_heading.proofs.RowParts.{part_fails, part_reads}
use Rattle.spi_heading.proofs.Reached.{begun, ended, then_word, then_token, then_type, no_word, no_token, no_type}
use Rattle.spi_heading.proofs.Names.{named_row, named_are}
use Rattle.spi_heading.proofs.shared.named_at.Goals as goal

pub returns-in_err-name-clause-read : goal.returns-in_err-name-clause-read
returns-in_err-name-clause-read c =
    let start = begun (c.args.version == 2) (listed c.args.tokens.now) c.args.at named_row c.requires.text.words in
    part_fails (named_are (c.args.version == 2)) (listed c.args.tokens.now) c.args.at named_of c.in_err-name.field-0.0 c.from_residual.result c.from_residual.ensures.1
    (no_word start c.in_err-name.field-0.0 c.in_err-name.ensures.taken)

pub returns-in_err-ty_at-clause-read : goal.returns-in_err-ty_at-clause-read
returns-in_err-ty_at-clause-read c =
    let start = begun (c.args.version == 2) (listed c.args.tokens.now) c.args.at named_row c.requires.text.words in
    part_fails (named_are (c.args.version == 2)) (listed c.args.tokens.now) c.args.at named_of c.in_err-ty_at.field-0.0 c.from_residual-in_err-ty_at.result c.from_residual-in_err-ty_at.ensures.1
    (no_token (then_word start c.in_ok-name.name c.in_ok-name.colon c.in_ok-name.ensures.taken) c.in_err-ty_at.field-0.0 c.in_err-ty_at.ensures.taken)

pub returns-in_err-ty-clause-read : goal.returns-in_err-ty-clause-read
returns-in_err-ty-clause-read c =
    let start = begun (c.args.version == 2) (listed c.args.tokens.now) c.args.at named_row c.requires.text.words in
    let named = then_word start c.in_ok-name.name c.in_ok-name.colon c.in_ok-name.ensures.taken in
    part_fails (named_are (c.args.version == 2)) (listed c.args.tokens.now) c.args.at named_of c.in_err-ty.field-0.0 c.from_residual-in_err-ty.result c.from_residual-in_err-ty.ensures.1
    (no_type (then_token named c.in_ok-ty_at.ty_at c.in_ok-ty_at.ensures.taken) ty_of c.in_err-ty.field-0.0 c.in_err-ty.ensures)

pub returns-in-Ok-clause-read : goal.returns-in-Ok-clause-read
returns-in-Ok-clause-read c =
    let start = begun (c.args.version == 2) (listed c.args.tokens.now) c.args.at named_row c.requires.text.words in
    let named = then_word start c.in_ok-name.name c.in_ok-name.colon c.in_ok-name.ensures.taken in
    let typed = then_type (then_token named c.in_ok-ty_at.ty_at c.in_ok-ty_at.ensures.taken) (ty_of c.in_ok-ty.ty) c.in_ok-ty.next c.in_ok-ty_at.ensures.within c.in_ok-ty.ensures in
    let read = part_reads (named_are (c.args.version == 2)) (listed c.args.tokens.now) c.args.at c.requires.text.words (record { name = c.in_ok-name.name; ty = ty_of c.in_ok-ty.ty }) c.in_ok-ty.next (ended typed) in
    rw c.in-Ok.ensures.ok read

pub returns-in-Ok-clause-within : goal.returns-in-Ok-clause-within
returns-in-Ok-clause-within c = type_within (c.args.version == 2) (listed c.args.tokens.now) c.in_ok-ty_at.ty_at (ty_of c.in_ok-ty.ty) c.in_ok-ty.next c.in_ok-ty_at.ensures.within c.in_ok-ty.ensures
