use Rattle.std.proofs.Common.{[], ◌∷◌}
use Rattle.spi_narrate.specs.Faults.{speaks, counts, line_limit}
use Rattle.spi_narrate.proofs.Testing.{tested_front, tested_behind}
use Rattle.spi_narrate.proofs.faultless.test_line.Goals as goal

pub returns-in_ok-test_speaker-in-Local : goal.returns-in_ok-test_speaker-in-Local
returns-in_ok-test_speaker-in-Local c =
    let roles = c.args.first.now ∷ c.args.more.now in
    rw c.in-Local.is
    (tested_behind c.test_number.result (speaks roles c.in-Local.role ∷ []) (counts c.args.i line_limit c.args.all c.in-Local.span ∷ []) c.in_ok-test_speaker-in-Local.ensures c.test_number.ensures)

pub returns-in_err-test_number-in-Pass : goal.returns-in_err-test_number-in-Pass
returns-in_err-test_number-in-Pass c =
    let roles = c.args.first.now ∷ c.args.more.now in
    let r = c.from_residual-in_err-test_number-in-Pass.result in
    let number = counts c.args.i line_limit c.args.all c.in-Pass.span ∷ [] in
    let to = speaks roles c.in-Pass.to ∷ [] in
    rw c.in-Pass.is
    (tested_behind r (speaks roles c.in-Pass.from ∷ []) (counts c.args.i line_limit c.args.all c.in-Pass.span ∷ to) c.in_ok-test_speaker-in-Pass.ensures
    (tested_front r c.in_err-test_number-in-Pass.field-0.0 number to c.from_residual-in_err-test_number-in-Pass.ensures.1 c.in_err-test_number-in-Pass.ensures))

pub returns-in_ok-test_number-in-Pass : goal.returns-in_ok-test_number-in-Pass
returns-in_ok-test_number-in-Pass c =
    let roles = c.args.first.now ∷ c.args.more.now in
    let r = c.test_speaker-in-Pass-2.result in
    let number = counts c.args.i line_limit c.args.all c.in-Pass.span ∷ [] in
    let to = speaks roles c.in-Pass.to ∷ [] in
    rw c.in-Pass.is
    (tested_behind r (speaks roles c.in-Pass.from ∷ []) (counts c.args.i line_limit c.args.all c.in-Pass.span ∷ to) c.in_ok-test_speaker-in-Pass.ensures
    (tested_behind r number to c.in_ok-test_number-in-Pass.ensures c.test_speaker-in-Pass-2.ensures))
