use Rattle.std.proofs.Common.{length, ap, ◌∙◌}
use Rattle.std.specs.Prelude.{Some}
use Rattle.std.proofs.lemmas.Result.{err_from_is_err_and}
use Rattle.spi_tree.specs.Views.{word_to}
use Rattle.spi_scope.specs.Scope.{number_of}
use Rattle.spi_scope.specs.Meaning.{name_meant}
use Rattle.spi_scope.proofs.Sizes.{name_known, name_unknown}
use Rattle.spi_scope.proofs.heads.read_name_part.Goals as goal

pub returns-in-None-clause-gives : goal.returns-in-None-clause-gives
returns-in-None-clause-gives c =
    let s = c.args.scope.now in
    name_unknown s.held.names (word_to c.args.to c.args.word.now) c.as_str.result.now s.count c.unknown_to.result c.as_str.ensures c.in-None.ensures.number c.unknown_to.ensures

pub returns-in_err-add_name-in-Some-clause-gives : goal.returns-in_err-add_name-in-Some-clause-gives
returns-in_err-add_name-in-Some-clause-gives c =
    let s = c.args.scope.now in
    let p = err_from_is_err_and c.from_residual.result c.from_residual.ensures.1 in
    rw (p.1, p.2, name_known s.held.names (word_to c.args.to c.args.word.now) c.as_str.result.now s.count c.in-Some.number c.as_str.ensures c.in-Some.ensures.number) c.in_err-add_name-in-Some.ensures.gives

pub returns-in_ok-add_name-in-Some-clause-gives : goal.returns-in_ok-add_name-in-Some-clause-gives
returns-in_ok-add_name-in-Some-clause-gives c =
    let s = c.args.scope.now in
    let xs = s.held.names in (
      name_known xs (word_to c.args.to c.args.word.now) c.as_str.result.now s.count c.in-Some.number c.as_str.ensures c.in-Some.ensures.number ∙ c.in_ok-add_name-in-Some.ensures.gives,
      c.name_at.ensures ∙ ap (λ k. name_meant c.args.base k (Some c.in-Some.number)) c.len-len.ensures ∙ ap (name_meant c.args.base (length xs)) (c.in-Some.ensures.number ∙ ap (number_of xs) c.as_str.ensures),
    )
