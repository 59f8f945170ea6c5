use Rattle.std.proofs.Common.{◌≡◌, List, Ok, ap, subst, ◌∙◌}
use Rattle.spi_tree.specs.Views.{file_of}
use Rattle.spi_parse.specs.Tokens.{Tok, State}
use Rattle.spi_parse.specs.Places.{state_of}
use Rattle.spi_parse.specs.Table.{file}
use Rattle.spi_parse.specs.Reading.{Fails, limited, read}
use Rattle.spi_parse.proofs.Readers.{at}
use Rattle.spi_parse.proofs.Wholes.{parses_ok, parses_err}
use Rattle.spi_parse.proofs.Lasts.{left_over}
use Rattle.spi_parse.proofs.whole.parse.Goals as goal

pub returns-in-Err-first : goal.returns-in-Err-first
returns-in-Err-first c = parses_ok file_of c.args.tokens.now c.requires.words c.in-Ok.tree c.read_file.new.at.end
    (subst (λ (s : State). read limited file s ≡ Ok (file_of c.in-Ok.tree, state_of c.read_file.new.at)) c.of-at.ensures c.in-Ok.ensures
    ∙ ap (λ (l : List Tok). Ok (file_of c.in-Ok.tree, at c.read_file.new.at.end l)) c.in-Err-first.ensures.0)

pub returns-in-Ok : goal.returns-in-Ok
returns-in-Ok c = rw (c.fault_of.ensures, c.syntax.ensures)
    (left_over c.args.tokens.now c.requires.words c.in-Ok.tree (state_of c.of-at.result) c.read_file.new.at _ _ c.of-at.ensures c.in-Ok-first.ensures c.in-Ok.ensures)

pub returns : goal.returns
returns c = rw c.fault_of-in-Err.ensures (parses_err file_of c.args.tokens.now c.requires.words c.in-Err.stop
    (subst (λ (s : State). Fails c.in-Err.stop (read limited file s)) c.of-at.ensures c.in-Err.ensures))
