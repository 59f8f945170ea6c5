use Rattle.spi_narrate.specs.Views.{narration_of}
use Rattle.spi_lex.specs.Numbered.{listed}
use Rattle.spi_narrate.proofs.Testing.{test_fails}
use Rattle.spi_narrate.proofs.faultless.narration_in.Goals as goal

pub returns-in_err-test-in-Ok : goal.returns-in_err-test-in-Ok
returns-in_err-test-in-Ok c =
    test_fails narration_of c.from_residual.result c.in_err-test-in-Ok.field-0.0 (narration_of c.in-Ok.narration) (listed c.args.tokens.now) c.from_residual.ensures.1 c.in-Ok.ensures c.in_err-test-in-Ok.ensures
