use Rattle.std.proofs.Common.{◌∙◌, sym, ap, option_map}
use Rattle.std.proofs.lemmas.Slice.Eq.{bytes_eq-Decides}
use Rattle.spi_commands.specs.Options.{numbers_given}
use Rattle.spi_commands.proofs.WordsFound.{number_found, play_found, word_found}
use Rattle.spi_commands.proofs.asked.read_from.Goals as goal

pub returns-then-eq : goal.returns-then-eq
returns-then-eq c = play_found c.args.matches.now c.in_ok-name.found.now c.in_ok-name.name.now _ _ c.play_of.result c.args.players
    c.in_ok-name.ensures.name c.in_ok-name.ensures.rows ((bytes_eq-Decides _ _).0 (sym c.eq.ensures ∙ c.if-eq.true)) c.get_str.ensures c.get_str-then-eq.ensures c.play_of.ensures

pub returns-in-Some : goal.returns-in-Some
returns-in-Some c = number_found c.args.matches.now c.in_ok-name.found.now c.in_ok-name.name.now (numbers_given c.in-Some.form) _ c.number_of.result c.args.players
    c.in_ok-name.ensures.name c.in_ok-name.ensures.rows (sym c.eq.ensures ∙ c.if-eq.false) (sym c.number_command.ensures ∙ ap (option_map numbers_given) c.in-Some.is)
    c.get_str-in-Some.ensures c.number_of.ensures

pub returns-in-None : goal.returns-in-None
returns-in-None c = word_found c.args.matches.now c.in_ok-name.found.now c.in_ok-name.name.now c.word_command.result c.args.players
    c.in_ok-name.ensures.name c.in_ok-name.ensures.rows (sym c.eq.ensures ∙ c.if-eq.false) (sym c.number_command.ensures ∙ ap (option_map numbers_given) c.in-None.is) c.word_command.ensures
