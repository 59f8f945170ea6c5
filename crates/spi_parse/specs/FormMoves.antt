-- A process is read by its form.
use Rattle.std.specs.Prelude.{ℕ, Bool, nat_lt, [], Err}
use Rattle.spi_tree.specs.Trees as t
use Rattle.spi_tree.specs.Pieces.{process_limit}
use Rattle.spi_parse.specs.declared.forms.Form.{Form}
use Rattle.spi_parse.specs.declared.fault.Fault.TheVariants.{Syntax}
use Rattle.spi_parse.specs.Tokens.{State}
use Rattle.spi_parse.specs.Table.{form_move}
use Rattle.spi_parse.specs.Reading.{Out, limited, read, with_next, go_on}
pub use Rattle.spi_parse.specs.Forms.{form_of, form_of_word, form_of_mark}

abbrev pub by_form : (v : Bool) (n : ℕ) → Form → State → Out t.Proc
by_form v n form s =
    with_next s (λ t _. go_on limited (read limited) (form_move v n form) (nat_lt process_limit n) [] s)
    (Err (Syntax 0))
