use Rattle.std.proofs.Common.{[], inl, inr}
use Rattle.std.specs.Fmt.{decimal}
use Rattle.spi_lex.specs.Numbered.{listed}
use Rattle.spi_commands.specs.Refusals.{syntax, too_deep}
use Rattle.spi_commands.specs.Narrating.{unknown_role, role_twice, narration_too_large, RefusesNarrate}
use Rattle.spi_commands.proofs.FileRefusals.{unread_as}
use Rattle.spi_commands.proofs.NarrateAnswers.{narration_of_bytes}
use Rattle.spi_commands.proofs.narrate.unnarrated.Goals as goal

pub returns-in-Syntax : goal.returns-in-Syntax
returns-in-Syntax c =
    unread_as (RefusesNarrate c.args.bytes.now) 20 _ [] c.unparsed.result (inr (inl (syntax c.requires.within c.requires.lexed (rw c.in-Syntax.is at c.requires.fails))))
    c.unparsed.ensures

pub returns-in-TooDeep : goal.returns-in-TooDeep
returns-in-TooDeep c =
    unread_as (RefusesNarrate c.args.bytes.now) 21 _ [] c.unparsed-in-TooDeep.result (inr (inl (too_deep c.requires.within c.requires.lexed (rw c.in-TooDeep.is at c.requires.fails))))
    c.unparsed-in-TooDeep.ensures

pub returns-in-UnknownRole : goal.returns-in-UnknownRole
returns-in-UnknownRole c =
    let f = rw c.in-UnknownRole.is at c.requires.fails in
    unread_as (RefusesNarrate c.args.bytes.now) 100 c.in-UnknownRole.span.from c.in-UnknownRole.word c.shown_word.result
    (inr (inr (inl (f.0, narration_of_bytes c.args.bytes.now (listed c.args.tokens.now) f.0 c.requires.within c.requires.lexed f.1, unknown_role c.in-UnknownRole.span f.2)))) c.shown_word.ensures

pub returns-in-RoleTwice : goal.returns-in-RoleTwice
returns-in-RoleTwice c =
    let f = rw c.in-RoleTwice.is at c.requires.fails in
    unread_as (RefusesNarrate c.args.bytes.now) 101 c.in-RoleTwice.span.from c.in-RoleTwice.word c.shown_word-in-RoleTwice.result
    (inr (inr (inl (f.0, narration_of_bytes c.args.bytes.now (listed c.args.tokens.now) f.0 c.requires.within c.requires.lexed f.1, role_twice c.in-RoleTwice.span f.2)))) c.shown_word-in-RoleTwice.ensures

pub returns-in-NarrationTooLarge : goal.returns-in-NarrationTooLarge
returns-in-NarrationTooLarge c =
    let f = rw c.in-NarrationTooLarge.is at c.requires.fails in
    unread_as (RefusesNarrate c.args.bytes.now) 103 c.in-NarrationTooLarge.span.from (decimal c.in-NarrationTooLarge.count) c.shown_count.result
    (inr (inr (inl (f.0, narration_of_bytes c.args.bytes.now (listed c.args.tokens.now) f.0 c.requires.within c.requires.lexed f.1, narration_too_large c.in-NarrationTooLarge.span c.in-NarrationTooLarge.count f.2)))) c.shown_count.ensures
