-- What stands between the table and the code where a form ends.
use Rattle.std.specs.Prelude.{Bool, ℕ, List, [], ◌∷◌, Option, Some, None, Ok}
use Rattle.spi_text.specs.declared.lines.Span.{Span}
use Rattle.spi_lex.specs.declared.token.Mark.TheVariants as mark
use Rattle.spi_tree.specs.declared.tree.SProc.{SProc}
use Rattle.spi_tree.specs.Trees as t
use Rattle.spi_tree.specs.Views.{proc_of}
use Rattle.spi_parse.specs.Tokens.{State}
use Rattle.spi_parse.specs.Table.{msg, the_mark, the_number, over}
use Rattle.spi_parse.specs.Reading.{◌>>=◌, Out, read, limited, read_all}
use Rattle.spi_parse.specs.Places.{parts}

-- it is read, up to here
abbrev pub done : {X : Type 0} → X → State → Out X
done x s = Ok (x, s)

-- a process, where one stands
abbrev pub proc_option : Option SProc → Option t.Proc
proc_option None = None
proc_option (Some p) = Some (proc_of p)

abbrev pub numeral_form : (v : Bool) (d : Bool) (n : ℕ) → List Span → State → Out t.Msg
numeral_form v d n = parts (msg v d n) (the_number ∷ []) (λ ss to xs. t.num (over ss to) xs.0)

-- a sum behind its second type
abbrev pub sum_end : List Span → t.Ty → t.Ty → State → Out t.Ty
sum_end ss a b s =
    read_all (read limited) (the_mark mark.ParenClose ∷ []) s >>= λ xs. Ok
    (t.sum (over ss xs.1.end) a b, xs.1)
