use Rattle.std.proofs.Common.{◌≡◌, List, Ok, ap, subst, ◌∙◌}
use Rattle.spi_lex.specs.Lexing.{kinds_of}
use Rattle.spi_lex.specs.Left.{tokens_in}
use Rattle.spi_tree.specs.Views.{file_of}
use Rattle.spi_parse.specs.Tokens.{Tok, State}
use Rattle.spi_parse.specs.Places.{state_of}
use Rattle.spi_parse.specs.Table.{file}
use Rattle.spi_parse.specs.Reading.{Fails, limited, read}
use Rattle.spi_parse.proofs.Readers.{at}
use Rattle.spi_parse.proofs.Lexed.{kinds_fit}
use Rattle.spi_parse.proofs.Wholes.{parses_ok, parses_err}
use Rattle.spi_parse.proofs.Lasts.{file_ends, left_over}
use Rattle.spi_parse.proofs.bytes.parse_text.Goals as goal

pub whole-requires-clause-end : goal.whole-requires-clause-end
whole-requires-clause-end c = file_ends (tokens_in c.args.text.now) (file_of c.in-Ok.tree) c.read_file.new.at.end
    (subst (λ (s : State). read limited file s ≡ Ok (file_of c.in-Ok.tree, state_of c.read_file.new.at)) c.of_text-at.ensures.state c.in-Ok.ensures
    ∙ ap (λ (l : List Tok). Ok (file_of c.in-Ok.tree, at c.read_file.new.at.end l)) c.in-Err-first.ensures.0)

pub whole-requires-clause-tree : goal.whole-requires-clause-tree
whole-requires-clause-tree c =
    parses_ok file_of (tokens_in c.args.text.now) (kinds_fit (kinds_of (tokens_in c.args.text.now)) c.of_text-at.ensures.kinds) c.in-Ok.tree c.read_file.new.at.end
    (subst (λ (s : State). read limited file s ≡ Ok (file_of c.in-Ok.tree, state_of c.read_file.new.at)) c.of_text-at.ensures.state c.in-Ok.ensures
    ∙ ap (λ (l : List Tok). Ok (file_of c.in-Ok.tree, at c.read_file.new.at.end l)) c.in-Err-first.ensures.0)

pub fault_at-requires-clause-stops : goal.fault_at-requires-clause-stops
fault_at-requires-clause-stops c = rw c.syntax.ensures
    (left_over (tokens_in c.args.text.now) (kinds_fit (kinds_of (tokens_in c.args.text.now)) c.of_text-at.ensures.kinds) c.in-Ok.tree (state_of c.of_text-at.result) c.read_file.new.at _ _
    c.of_text-at.ensures.state c.in-Ok-first.ensures c.in-Ok.ensures)

pub fault_at-requires-in-Err-clause-stops : goal.fault_at-requires-in-Err-clause-stops
fault_at-requires-in-Err-clause-stops c =
    parses_err file_of (tokens_in c.args.text.now) (kinds_fit (kinds_of (tokens_in c.args.text.now)) c.of_text-at.ensures.kinds) c.in-Err.stop
    (subst (λ (s : State). Fails c.in-Err.stop (read limited file s)) c.of_text-at.ensures.state c.in-Err.ensures)
