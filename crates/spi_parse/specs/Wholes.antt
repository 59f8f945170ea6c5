-- What stands between the table and the code that reads derivations and files.
use Rattle.std.specs.Prelude.{Bool, true, false, ℕ, ◌+◌, List, [], ◌∷◌, map, Some, None}
use Rattle.spi_text.specs.declared.lines.Span.{Span}
use Rattle.spi_lex.specs.declared.token.Mark.TheVariants as mark
use Rattle.spi_tree.specs.Trees as t
use Rattle.spi_tree.specs.Views.{decl_of, proc_of, opponent_of, schedule_of, derivation_of}
use Rattle.spi_parse.specs.declared.files.FileParts.{FileParts}
use Rattle.spi_parse.specs.Tokens.{State}
use Rattle.spi_parse.specs.Table.{Body, the_two, the_mark, effect, deriv, body, file, over, first, word_at, file_from}
use Rattle.spi_parse.specs.Reading.{Out}
use Rattle.spi_parse.specs.Places.{parts}

abbrev pub one_form : (v : Bool) (n : ℕ) → List ℕ → List Span → State → Out t.Deriv
one_form v n w =
    parts (deriv v n) (deriv v (n + 1) ∷ [])
    (λ ss to (d, rest). t.rule (over ss to) (word_at w (first ss)) None (t.derivs_of_list (d ∷ [])))

abbrev pub two_form : (v : Bool) (n : ℕ) → List ℕ → List Span → State → Out t.Deriv
two_form v n w =
    parts (deriv v n) (deriv v (n + 1) ∷ deriv v (n + 1) ∷ [])
    (λ ss to (d, (d', rest)). t.rule (over ss to) (word_at w (first ss)) None
    (t.derivs_of_list (d ∷ d' ∷ [])))

abbrev pub three_form : (v : Bool) (n : ℕ) → List ℕ → List Span → State → Out t.Deriv
three_form v n w =
    parts (deriv v n) (deriv v (n + 1) ∷ deriv v (n + 1) ∷ deriv v (n + 1) ∷ [])
    (λ ss to (d, (d', (d'', rest))). t.rule (over ss to) (word_at w (first ss)) None
    (t.derivs_of_list (d ∷ d' ∷ d'' ∷ [])))

abbrev pub sub_form : (v : Bool) (n : ℕ) → List ℕ → List Span → State → Out t.Deriv
sub_form v n w =
    parts (deriv v n) (effect v true 0 ∷ deriv v (n + 1) ∷ [])
    (λ ss to (es, (d, rest)). t.rule (over ss to) (word_at w (first ss)) (Some es)
    (t.derivs_of_list (d ∷ [])))

abbrev pub body_of : FileParts → Body
body_of p = record {
  decls = map decl_of p.decls.items;
  process = proc_of p.process;
  opponent = opponent_of p.opponent;
  schedule = schedule_of p.schedule;
  derivation = derivation_of p.derivation;
}

abbrev pub later_form : List Span → State → Out t.File
later_form = parts file (the_two ∷ the_mark mark.Semicolon ∷ body true ∷ [])
    (λ ss to (two, (semicolon, (whole, rest))). file_from 2 (over ss to) whole)

abbrev pub first_form : List Span → State → Out t.File
first_form = parts file (body false ∷ []) (λ ss to (whole, rest). file_from 1 (over ss to) whole)
