use Rattle.std.proofs.Common.{rules, ◌≡◌, ◌-◌, length, drop, map, ap, sym, ◌∙◌, subst}
use Rattle.std.specs.Prelude.{⊤}
use Rattle.spi_tree.specs.Trees.{fields_of_list}
use Rattle.spi_tree.specs.Views.{ty_of, field_of, last_of}
use Rattle.spi_tree.specs.declared.tree.STy.TheVariants.{Tuple}
use Rattle.spi_tree.specs.declared.tree.TyParts.{out-TyParts}
use Rattle.spi_tree.proofs.Rows.{tuple_ty_is}
use Rattle.spi_term.specs.View.{ty}
use Rattle.spi_scope.specs.Forms.{TypeForm, tuple_ty_form, sum_form, other_type, type_form}
use Rattle.spi_scope.specs.Table.{with_names}
use Rattle.spi_scope.proofs.Tuples.{naming, bound, tuple_counted, tuple_left}
use Rattle.spi_scope.proofs.types.+types.Goals as goal

pub read_tuple-returns : goal.read_tuple-returns
read_tuple-returns t c =
    let w = c.in-Tuple in
    let s = c.args.scope.now in
    let e : c.args.t.now ≡ Tuple w.parts w.span = w.is in
    let p = out-TyParts w.parts.now in
    let s1 = c.read_type.new.scope in
    let t1 = naming s1 c.bind_in_type.new.self in
    let head = c.in_ok-head-in-Tuple in
    let fields = c.in_ok-fields-in-Tuple in
    let tail = c.in_ok-tail-in-Tuple in
    let s3 = c.read_last.new.scope in
    let behind_name = bound s s1 c.bind_in_type.new.self p.name.word head.ensures.scope c.in_ok-bind_in_type-in-Tuple.ensures in
    record {
      gives = rw (ap ty_of e ∙ tuple_ty_is w.parts w.span)
          (tuple_counted c.args.base c.args.spent w.span p.name (ty_of p.first) (fields_of_list (map field_of p.more.now)) (last_of p.last) s t1 c.read_fields.new.scope
          head.total fields.total tail.total (ty head.head) (map ty fields.fields.items) (ty tail.tail) (ty c.in_ok-ty-in-Tuple.ty)
          (rw c.saturating_add.ensures at head.ensures.gives) behind_name fields.ensures.gives fields.ensures.scope tail.ensures.gives c.in_ok-ty-in-Tuple.ensures);
      scope = ap (naming s3) (c.cut.ensures ∙ ap (λ n. with_names s3.held (drop (length s3.held.names - n) s3.held.names)) c.len-len.ensures)
          ∙ tuple_left c.args.base c.args.spent w.span p.name (ty_of p.first) (fields_of_list (map field_of p.more.now)) (last_of p.last) s t1 c.read_fields.new.scope
          head.total fields.total tail.total (ty head.head) (map ty fields.fields.items) (ty tail.tail) (ty c.in_ok-ty-in-Tuple.ty)
          behind_name fields.ensures.scope s3 tail.ensures.scope;
    }

pub read_tuple-returns-in_err-head-in-Tuple-clause-gives : goal.read_tuple-returns-in_err-head-in-Tuple-clause-gives
read_tuple-returns-in_err-head-in-Tuple-clause-gives t c =
    let w = c.in-Tuple in
    let e : c.args.t.now ≡ Tuple w.parts w.span = w.is in
    rw (ap ty_of e ∙ tuple_ty_is w.parts w.span) (search rules)

-- a tuple type is no sum
abbrev is_tuple_ty : TypeForm → Type 0
is_tuple_ty tuple_ty_form = ⊤
is_tuple_ty sum_form = ⊥
is_tuple_ty other_type = ⊥

pub read_sum-unreachable-requires : goal.read_sum-unreachable-requires
read_sum-unreachable-requires t c =
    let e : tuple_ty_form ≡ sum_form = sym (ap (λ x. type_form (ty_of x)) c.in-Tuple.is ∙ ap type_form (tuple_ty_is c.in-Tuple.parts c.in-Tuple.span)) ∙ c.requires in
    subst is_tuple_ty e tt

pub read_type-read_tuple-requires : goal.read_type-read_tuple-requires
read_type-read_tuple-requires t c =
    (search rules, ap (λ x. type_form (ty_of x)) c.in-Tuple.is ∙ ap type_form (tuple_ty_is c.in-Tuple.parts c.in-Tuple.span))

pub read_tuple-returns-in_err-fields-in-Tuple-clause-gives : goal.read_tuple-returns-in_err-fields-in-Tuple-clause-gives
read_tuple-returns-in_err-fields-in-Tuple-clause-gives t c =
    let w = c.in-Tuple in
    let e : c.args.t.now ≡ Tuple w.parts w.span = w.is in
    rw (ap ty_of e ∙ tuple_ty_is w.parts w.span) (search rules)

pub read_tuple-returns-in_err-tail-in-Tuple-clause-gives : goal.read_tuple-returns-in_err-tail-in-Tuple-clause-gives
read_tuple-returns-in_err-tail-in-Tuple-clause-gives t c =
    let w = c.in-Tuple in
    let e : c.args.t.now ≡ Tuple w.parts w.span = w.is in
    rw (ap ty_of e ∙ tuple_ty_is w.parts w.span) (search rules)
