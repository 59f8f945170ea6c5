use Rattle.std.proofs.Common.{◌≡◌, ◌==◌, ◌∷◌, ℕ, List, length, map, ap, refl, ◌∙◌}
use Rattle.spi_lex.specs.Numbered.{listed}
use Rattle.std.specs.Global.{Vec}
use Rattle.spi_tree.specs.Views.{decl_of}
use Rattle.spi_tree.specs.declared.tree.SWord.{SWord}
use Rattle.spi_heading.specs.Spans.{span_over}
use Rattle.spi_heading.specs.Views.{shared_of}
use Rattle.spi_heading.proofs.Failing.{fails_from}
use Rattle.spi_heading.proofs.Calls.{part_within}
use Rattle.spi_heading.proofs.Lasts.{at_end, last_along}
use Rattle.spi_heading.proofs.Fronts.{heading_answer, behind_heading}
use Rattle.spi_narrate.specs.Grammar.{line_pieces, IsLine, whole_roles, AreWholeRoles}
use Rattle.spi_narrate.specs.Views.{line_of, narration_of}
use Rattle.spi_narrate.proofs.LineRows.{line_behind, line_solids}
use Rattle.spi_narrate.proofs.Whole.{narrations_headed}
use Rattle.spi_narrate.proofs.Steps.{roles_read, roles_fault, lines_answer, narration_read, parse_fails, roles_some}
use Rattle.spi_narrate.proofs.reading.parse_narration.Goals as goal

pub returns-in_err-heading : goal.returns-in_err-heading
returns-in_err-heading c =
    parse_fails narration_of (listed c.args.tokens.now) c.in_err-heading.field-0.0 c.from_residual.result c.from_residual.ensures.1
    (heading_answer narrations_headed (listed c.args.tokens.now) c.requires.words c.in_err-heading.field-0.0 c.in_err-heading.ensures.read)

pub returns-in_err-roles : goal.returns-in_err-roles
returns-in_err-roles c =
    let x = c.in_ok-heading.heading in
    let front = behind_heading narrations_headed (listed c.args.tokens.now) c.requires.words x.version (map decl_of x.decls.items) (map shared_of x.shared.items) c.in_ok-heading.roles_start c.in_ok-heading.ensures.read in
    let fault = fails_from roles_of whole_roles (AreWholeRoles (x.version == 2)) (listed c.args.tokens.now) c.in_ok-heading.roles_start c.in_err-roles.field-0.0 c.in_err-roles.ensures in
    parse_fails narration_of (listed c.args.tokens.now) c.in_err-roles.field-0.0 c.from_residual-in_err-roles.result c.from_residual-in_err-roles.ensures.1
    (roles_fault (x.version == 2) (listed c.args.tokens.now) c.in_ok-heading.ensures.text.words c.in_ok-heading.roles_start front c.in_err-roles.field-0.0 fault)
  where
    roles_of : SWord × Vec SWord → List SWord
    roles_of x = x.0 ∷ x.1.items

pub parts_at-requires : goal.parts_at-requires
parts_at-requires c κs =
    let start = part_within whole_roles (AreWholeRoles (c.in_ok-heading.heading.version == 2)) (c.in_ok-roles.roles.0 ∷ c.in_ok-roles.roles.1.items) (listed c.args.tokens.now) c.in_ok-heading.roles_start c.in_ok-roles.lines_start c.in_ok-heading.ensures.within c.in_ok-roles.ensures in
    ((refl, tt), (c.in_ok-heading.ensures.text, (start, record { behind = line_behind; solid = line_solids })))

pub returns-in_err-lines : goal.returns-in_err-lines
returns-in_err-lines c =
    let x = c.in_ok-heading.heading in
    let front = behind_heading narrations_headed (listed c.args.tokens.now) c.requires.words x.version (map decl_of x.decls.items) (map shared_of x.shared.items) c.in_ok-heading.roles_start c.in_ok-heading.ensures.read in
    let roles = roles_read (x.version == 2) (listed c.args.tokens.now) c.in_ok-roles.roles.0 c.in_ok-roles.roles.1.items c.in_ok-heading.roles_start c.in_ok-roles.lines_start c.in_ok-heading.ensures.within c.in_ok-roles.ensures in
    parse_fails narration_of (listed c.args.tokens.now) c.in_err-lines.field-0.0 c.from_residual-in_err-lines.result c.from_residual-in_err-lines.ensures.1
    (lines_answer (x.version == 2) (listed c.args.tokens.now) c.in_ok-heading.ensures.text.words c.in_ok-roles.roles.0 c.in_ok-roles.roles.1.items c.in_ok-heading.roles_start c.in_ok-roles.lines_start roles.1 roles.0 front c.in_err-lines.field-0.0 c.in_err-lines.ensures)

pub returns : goal.returns
returns c =
    let ts = (listed c.args.tokens.now) in
    let x = c.in_ok-heading.heading in
    let k = c.in_ok-heading.roles_start in
    let l = c.in_ok-roles.lines_start in
    let w = c.in_ok-roles.roles.0 in
    let ws = c.in_ok-roles.roles.1.items in
    let ls = map line_of c.in_ok-lines.lines.items in
    let end = c.in_ok-lines.end in
    let roles = roles_read (x.version == 2) ts w ws k l c.in_ok-heading.ensures.within c.in_ok-roles.ensures in
    let all : end ≡ length ts = at_end end (length ts) c.in_ok-lines.ensures.0.within c.in_ok-lines.ensures.1 in
    narration_read ts (roles_some ts w ws k l roles.0) c.span_between-span.result (c.span_between-span.ensures ∙ ap (λ (m : ℕ). span_over ts 0 m) all) c.requires.words x.version (map decl_of x.decls.items) (map shared_of x.shared.items) w ws ls k l c.in_ok-heading.ensures.read
    roles.0 (last_along line_pieces line_behind line_solids (x.version == 2) (IsLine (x.version == 2)) ts l end ls roles.1 c.in_ok-lines.ensures)
