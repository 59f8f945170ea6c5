use Rattle.std.proofs.Common.{◌≡◌, ◌∷◌, ◌++◌, [], List, map, ℕ, length, sym, ap, ◌∙◌, inr}
use Rattle.std.specs.Prelude.{Some, None, Ok, Err}
use Rattle.std.specs.Str.{bytes_eq}
use Rattle.std.specs.Map.{lookup}
use Rattle.std.proofs.lemmas.List.{map_push}
use Rattle.std.proofs.lemmas.Result.{err_from_is_err_and}
use Rattle.indexmap.specs.IndexMap.{get_by}
use Rattle.indexmap.proofs.CallerLemmas.{insert_entry-new}
use Rattle.spi_tree.specs.Views.{ty_of}
use Rattle.spi_tree.specs.declared.tree.SWord.{SWord}
use Rattle.spi_term.specs.Term as Term
use Rattle.spi_term.specs.View.{ty}
use Rattle.spi_scope.specs.declared.fault.ScopeFault.TheVariants.{TypeTwice}
use Rattle.spi_scope.specs.declared.scope.Scope.{Scope}
use Rattle.spi_scope.specs.Scope.{Word}
use Rattle.spi_scope.specs.Meaning.{type_in}
use Rattle.spi_scope.specs.Points.{one, declares_type, whole_type}
use Rattle.spi_scope.specs.Gives.{Ran, after, run}
use Rattle.spi_scope.specs.State.{abbreviation, abbreviations}
use Rattle.spi_scope.proofs.Nesting.{looked_up, new_type, type_again, fails_behind}
use Rattle.spi_scope.proofs.declarations.declare_type.Goals as goal

-- nothing is wrong at a word that the table does not have
new_in_table : (s : Scope) (w : SWord) (x : Word) → x ≡ w.word → None ≡ lookup (λ k. bytes_eq x k.now) s.types.entries → run (one (declares_type (abbreviations s.types) w)) s.count ≡ Ok s.count
new_in_table s w x e h = new_type (abbreviations s.types) w s.count (looked_up s.types.entries x w.word None e h)

pub returns-in_err-ty-in-None-clause-gives : goal.returns-in_err-ty-in-None-clause-gives
returns-in_err-ty-in-None-clause-gives c =
    let s = c.args.scope.now in
    let n = new_in_table s c.args.word.now c.as_str-text.result.now c.as_str-text.ensures c.in-None.ensures.value in
    let p = err_from_is_err_and c.from_residual-in_err-ty-in-None.result c.from_residual-in_err-ty-in-None.ensures.1 in
    rw (p.1, p.2)
    (fails_behind _ (run (one (declares_type (abbreviations s.types) c.args.word.now)) s.count) s.count (run (whole_type (abbreviations s.types) s.held.names (ty_of c.args.ty.now))) n c.in_err-ty-in-None.ensures.gives)

pub returns-in_ok-of-in-Some-clause-gives : goal.returns-in_ok-of-in-Some-clause-gives
returns-in_ok-of-in-Some-clause-gives c =
    let s = c.args.scope.now in
    let ts = abbreviations s.types in
    let w = c.args.word.now in
    let f = looked_up s.types.entries c.as_str-text.result.now w.word (Some c.in-Some.field-0.now) c.as_str-text.ensures c.in-Some.ensures.value in
    inr (ap (λ (r : Ran). after r (run (whole_type ts s.held.names (ty_of c.args.ty.now)))) (type_again ts w s.count (ty c.in-Some.field-0.now.ty) f) ∙ ap (λ x. Err (TypeTwice w.span x)) (sym c.as_str-text.ensures ∙ sym c.in_ok-of-in-Some.ensures))

pub returns-in_ok-insert-in-None-clause-gives : goal.returns-in_ok-insert-in-None-clause-gives
returns-in_ok-insert-in-None-clause-gives c =
    let s = c.args.scope.now in
    let n = new_in_table s c.args.word.now c.as_str-text.result.now c.as_str-text.ensures c.in-None.ensures.value in
    ap (λ (r : Ran). after r (run (whole_type (abbreviations s.types) s.held.names (ty_of c.args.ty.now)))) n ∙ c.in_ok-ty-in-None.ensures.gives.0

pub returns-in_ok-insert-in-None-clause-types : goal.returns-in_ok-insert-in-None-clause-types
returns-in_ok-insert-in-None-clause-types c =
    let s = c.args.scope.now in
    let ts = abbreviations s.types in
    let a = ty_of c.args.ty.now in
    let m = c.read_annotation.new.scope.types in
    let same : m ≡ s.types = c.in_ok-ty-in-None.ensures.kept.types in
    let absent : get_by (λ k. bytes_eq c.as_str-text.result.now k.now) m ≡ None =
    ap (get_by (λ k. bytes_eq c.as_str-text.result.now k.now)) same ∙ sym c.in-None.ensures.value in
    let k : ty c.in_ok-ty-in-None.ty ≡ type_in (length s.held.names) ts s.held.names a = c.in_ok-ty-in-None.ensures.gives.1 ∙ ap (λ b. type_in b ts s.held.names a) c.len-base.ensures in
    ap (map abbreviation) (c.in_ok-insert-in-None.ensures.entries ∙ insert_entry-new _ m c.as_str-text.result _ absent)
    ∙ map_push abbreviation m.entries _
    ∙ ap (λ x. abbreviations x ++ record { word = c.as_str-text.result.now; stands_for = ty c.in_ok-ty-in-None.ty } ∷ []) same
    ∙ ap (λ (x : List ℕ). ts ++ record { word = x; stands_for = ty c.in_ok-ty-in-None.ty } ∷ []) c.as_str-text.ensures
    ∙ ap (λ (x : Term.Ty). ts ++ record { word = c.args.word.now.word; stands_for = x } ∷ []) k
