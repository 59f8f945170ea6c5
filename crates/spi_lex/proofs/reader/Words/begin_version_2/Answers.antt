use Rattle.std.proofs.Common.{◌&&◌, Bool, false, ap, sym, ◌∙◌}
use Rattle.spi_lex.specs.Lexing.{is_version, is_two}
use Rattle.spi_lex.specs.Left.{left_of}
use Rattle.spi_lex.specs.Reader.{seen_kind, is_next}
use Rattle.spi_lex.proofs.Left.{version_told, no_version}
use Rattle.spi_lex.proofs.reader.Words.begin_version_2.Goals as goal

pub returns-then-not-is_version : goal.returns-then-not-is_version
returns-then-not-is_version c =
    let a = c.args.self in
    no_version (seen_kind a.kind) (record { from = a.from; to = a.to }) (left_of a.later a.at a.rest.now) _ c.requires (sym c.is_version.ensures ∙ c.if-not-is_version.true)

pub returns : goal.returns
returns c =
    let a = c.args.self in
    let b = c.advance.new.self in
    let d = c.advance-2.new.self in
    ap (λ (x : Bool). x && c.is_two-second.result && c.is_semicolon.result) (sym c.if-not-is_version.false ∙ c.is_version.ensures)
    ∙ ap (λ (x : Bool). is_next is_version (seen_kind a.kind) && x && c.is_semicolon.result) c.is_two-second.ensures
    ∙ ap (λ (x : Bool). is_next is_version (seen_kind a.kind) && is_next is_two (seen_kind b.kind) && x) c.is_semicolon.ensures
    ∙ version_told (seen_kind a.kind) (seen_kind b.kind) (seen_kind d.kind)
    (record { from = a.from; to = a.to }) (record { from = b.from; to = b.to }) (record { from = d.from; to = d.to })
    (left_of false 0 c.args._text.now) (left_of a.later a.at a.rest.now) (left_of b.later b.at b.rest.now) (left_of d.later d.at d.rest.now)
    c.requires c.advance.ensures.left c.advance-2.ensures.left
