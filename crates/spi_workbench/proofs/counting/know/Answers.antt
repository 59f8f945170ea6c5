use Rattle.std.proofs.Common.{◌≡◌, ap, ◌∙◌, sym}
use Rattle.std.specs.Prelude.{Some, None}
use Rattle.std.specs.Str.{bytes_eq}
use Rattle.indexmap.specs.IndexMap.{get_by}
use Rattle.indexmap.proofs.CallerLemmas.{insert_entry-new}
use Rattle.spi_workbench.proofs.Knowing.{more_known, known_again}
use Rattle.spi_workbench.proofs.counting.know.Goals as goal

pub returns-in_ok-insert : goal.returns-in_ok-insert
returns-in_ok-insert c ts a e k =
    let m = c.args.sizes.now in
    let absent : get_by (λ j. bytes_eq c.as_str-word.result.now j.now) m ≡ None = sym c.in-None.ensures.value in
    more_known m c.insert.new.self ts c.as_str-word.result (record { word = c.args.name.now.word; stands_for = a }) c.args.nodes
    (c.in_ok-insert.ensures.entries ∙ insert_entry-new _ m c.as_str-word.result _ absent) c.as_str-word.ensures e k

pub returns-in_default : goal.returns-in_default
returns-in_default c ts a e k =
    let m = c.args.sizes.now in
    let there : get_by (λ j. bytes_eq c.args.name.now.word j.now) m ≡ Some c.in_default.field-0.now = ap (λ x. get_by (λ j. bytes_eq x j.now) m) (sym c.as_str-word.ensures) ∙ sym c.in_default.ensures.value in
    known_again m ts (record { word = c.args.name.now.word; stands_for = a }) c.in_default.field-0.now there k
