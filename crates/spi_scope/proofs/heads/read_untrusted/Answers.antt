use Rattle.std.proofs.Common.{◌∙◌, refl}
use Rattle.std.proofs.lemmas.Result.{err_from_is_err_and}
use Rattle.spi_scope.specs.State.{abbreviations}
use Rattle.spi_scope.proofs.Sizes.{untrusted_whole}
use Rattle.spi_scope.proofs.heads.read_untrusted.Goals as goal

pub returns-in_err-add-clause-gives : goal.returns-in_err-add-clause-gives
returns-in_err-add-clause-gives c =
    let s = c.args.scope.now in
    let p = err_from_is_err_and c.from_residual.result c.from_residual.ensures.1 in
    rw (p.1, p.2, untrusted_whole (abbreviations s.types) s.held.names c.args.span s.count) c.in_err-add.ensures.gives

pub returns-clause-gives : goal.returns-clause-gives
returns-clause-gives c =
    let s = c.args.scope.now in
    (untrusted_whole (abbreviations s.types) s.held.names c.args.span s.count ∙ c.in_ok-add.ensures.gives, refl)
