use Rattle.std.proofs.Common.{◌==◌, ◌∷◌, [], List, refl}
use Rattle.spi_lex.specs.Numbered.{listed}
use Rattle.std.specs.Global.{Vec}
use Rattle.spi_tree.specs.declared.tree.SWord.{SWord}
use Rattle.spi_heading.specs.Each.{IsWhole}
use Rattle.spi_heading.proofs.Failing.{fails_from}
use Rattle.spi_heading.proofs.Reached.{begun, ended, then_token, no_token, no_word}
use Rattle.spi_heading.proofs.Each.{each_along}
use Rattle.spi_narrate.specs.Grammar.{comma_pieces, IsAnyWord}
use Rattle.spi_narrate.proofs.RoleRows.{roles_head, semicolon_row, comma_behind, comma_solid, roles_answer, roles_head_fails, roles_head_at, word_fails, semicolon_fails, roles_read, further_are}
use Rattle.spi_narrate.proofs.roles.roles_at.Goals as goal

abbrev view : SWord × Vec SWord → List SWord
view r = r.0 ∷ r.1.items

pub returns-in_err-first_at : goal.returns-in_err-first_at
returns-in_err-first_at c =
    roles_answer (c.args.version == 2) (listed c.args.tokens.now) c.requires.text.words c.args.at view c.in_err-first_at.field-0.0 c.from_residual.result c.from_residual.ensures.1
    (roles_head_fails (c.args.version == 2) (listed c.args.tokens.now) c.requires.text.words c.args.at c.in_err-first_at.field-0.0 (no_token (begun (c.args.version == 2) (listed c.args.tokens.now) c.args.at roles_head c.requires.text.words) c.in_err-first_at.field-0.0 c.in_err-first_at.ensures.taken))

pub returns-in_err-first : goal.returns-in_err-first
returns-in_err-first c =
    let word = then_token (begun (c.args.version == 2) (listed c.args.tokens.now) c.args.at roles_head c.requires.text.words) c.in_ok-first_at.first_at c.in_ok-first_at.ensures.taken in
    roles_answer (c.args.version == 2) (listed c.args.tokens.now) c.requires.text.words c.args.at view c.in_err-first.field-0.0 c.from_residual-in_err-first.result c.from_residual-in_err-first.ensures.1
    (roles_head_fails (c.args.version == 2) (listed c.args.tokens.now) c.requires.text.words c.args.at c.in_err-first.field-0.0 (no_word word c.in_err-first.field-0.0 c.in_err-first.ensures.taken))

pub parts_at-requires : goal.parts_at-requires
parts_at-requires c κs = ((refl, tt), (c.requires.text, (c.in_ok-first.ensures.within, record { behind = comma_behind; solid = comma_solid })))

pub returns-in_err-more : goal.returns-in_err-more
returns-in_err-more c =
    let e = c.in_err-more.ensures in
    let fault = fails_from (λ (w : SWord). w) (λ w. comma_pieces w []) (IsWhole (c.args.version == 2) comma_pieces IsAnyWord) (listed c.args.tokens.now) e.1 c.in_err-more.field-0.0 e.4 in
    roles_answer (c.args.version == 2) (listed c.args.tokens.now) c.requires.text.words c.args.at view c.in_err-more.field-0.0 c.from_residual-in_err-more.result c.from_residual-in_err-more.ensures.1
    (word_fails (c.args.version == 2) (listed c.args.tokens.now) c.requires.text.words c.args.at c.in_ok-first.behind c.in_ok-first.first (roles_head_at (c.args.version == 2) (listed c.args.tokens.now) c.args.at c.in_ok-first_at.first_at c.in_ok-first.behind c.in_ok-first.first c.in_ok-first_at.ensures.taken c.in_ok-first.ensures.taken)
    e.0 e.1 (each_along comma_pieces comma_behind IsAnyWord (listed c.args.tokens.now) comma_solid c.in_ok-first.behind e.1 e.0 c.in_ok-first.ensures.within e.2) e.3 c.in_err-more.field-0.0 fault)

pub returns-in_err-next : goal.returns-in_err-next
returns-in_err-next c =
    let more = each_along comma_pieces comma_behind IsAnyWord (listed c.args.tokens.now) comma_solid c.in_ok-first.behind c.in_ok-more.end c.in_ok-more.more.items c.in_ok-first.ensures.within (further_are c.in_ok-more.more.items (listed c.args.tokens.now) c.in_ok-first.behind c.in_ok-more.end c.in_ok-more.ensures.0) in
    roles_answer (c.args.version == 2) (listed c.args.tokens.now) c.requires.text.words c.args.at view c.in_err-next.field-0.0 c.from_residual-in_err-next.result c.from_residual-in_err-next.ensures.1
    (semicolon_fails (c.args.version == 2) (listed c.args.tokens.now) c.requires.text.words c.args.at c.in_ok-first.behind c.in_ok-first.first (roles_head_at (c.args.version == 2) (listed c.args.tokens.now) c.args.at c.in_ok-first_at.first_at c.in_ok-first.behind c.in_ok-first.first c.in_ok-first_at.ensures.taken c.in_ok-first.ensures.taken)
    c.in_ok-more.more.items c.in_ok-more.end more c.in_ok-more.ensures.1 c.in_err-next.field-0.0 (no_token (begun (c.args.version == 2) (listed c.args.tokens.now) c.in_ok-more.end semicolon_row c.requires.text.words) c.in_err-next.field-0.0 c.in_err-next.ensures.taken))

pub returns : goal.returns
returns c =
    let more = each_along comma_pieces comma_behind IsAnyWord (listed c.args.tokens.now) comma_solid c.in_ok-first.behind c.in_ok-more.end c.in_ok-more.more.items c.in_ok-first.ensures.within (further_are c.in_ok-more.more.items (listed c.args.tokens.now) c.in_ok-first.behind c.in_ok-more.end c.in_ok-more.ensures.0) in
    let semicolon = then_token (begun (c.args.version == 2) (listed c.args.tokens.now) c.in_ok-more.end semicolon_row c.requires.text.words) c.in_ok-next.next c.in_ok-next.ensures.taken in
    roles_read (c.args.version == 2) (listed c.args.tokens.now) c.requires.text.words c.args.at c.in_ok-first.behind c.in_ok-first.first (roles_head_at (c.args.version == 2) (listed c.args.tokens.now) c.args.at c.in_ok-first_at.first_at c.in_ok-first.behind c.in_ok-first.first c.in_ok-first_at.ensures.taken c.in_ok-first.ensures.taken)
    c.in_ok-more.more.items c.in_ok-more.end more c.in_ok-next.next (ended semicolon)
