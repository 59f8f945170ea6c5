use Rattle.std.proofs.Common.{◌∙◌, refl, ap, sym, subst, ⊎_elim, true≢false}
use Rattle.spi_term.specs.Term.{pair, in_left, in_right, enc, hash, un, pair_ty, sum_ty}
use Rattle.spi_term.specs.View.{message, ty}
use Rattle.spi_term.specs.Substitution.{ty_put}
use Rattle.spi_term.proofs.Lists.{get_at}
use Rattle.spi_rules.specs.Messages.{msg_unit, msg_unit_un, label_name, label_unit}
use Rattle.spi_blame.specs.Blaming.{typed, labelled, IsMisfit, asks_pair, asks_pair_un, asks_left, asks_left_un, asks_right, asks_right_un, asks_enc, asks_hash, asks_label_pair, asks_label_left, asks_label_right, asks_label_hash}
use Rattle.spi_blame.proofs.Telling.{weaker, one_ok, two_ok, both_ok, sealed_ok, label_sealed, itself_ok, key_holds, name_misfit, beyond_misfit, asks_for, typed_as, label_as, typed_equal, put_equal}
use Rattle.spi_blame.proofs.blame.+lacks.Goals as goal

pub lacking-returns-else-has_type : goal.lacking-returns-else-has_type
lacking-returns-else-has_type k c = itself_ok c.args.env.now (typed (message c.args.m.now) (ty c.args.t.now)) c.itself.result (subst (λ m. IsMisfit c.args.env.now (typed m (ty c.args.t.now))) (sym (ap message c.in-Name.is)) (name_misfit (λ h. absurd (true≢false (sym (c.has_type.ensures.1 h) ∙ c.if-has_type.false))))) c.itself.ensures

pub lacking-returns-in-Un : goal.lacking-returns-in-Un
lacking-returns-in-Un k c = ⊎_elim (λ e. typed_as (ap message c.in-Unit.is) (ap ty e) msg_unit_un) (λ e. typed_as (ap message c.in-Unit.is) (ap ty e) msg_unit) c.in-Un.is

pub lacking-returns-in_ok-lacking-in-Un-t-2 : goal.lacking-returns-in_ok-lacking-in-Un-t-2
lacking-returns-in_ok-lacking-in-Un-t-2 k c = one_ok c.args.env.now (typed (message c.args.m.now) (ty c.args.t.now)) (typed (in_left (message c.in-Inl.a.value)) un) (typed (message c.deref-in-Un-t-2.result.now) (ty c.args.t.now)) (typed (message c.in-Inl.a.value) un) c.in_ok-lacking-in-Un-t-2.field-0 c.of_one.result (typed_equal (ap message c.in-Inl.is) (ap ty c.in-Un-t-2.is)) (typed_equal (ap message c.deref-in-Un-t-2.ensures) (ap ty c.in-Un-t-2.is)) asks_left_un c.in_ok-lacking-in-Un-t-2.ensures c.of_one.ensures

pub lacking-returns-in_ok-lacking-in-Sum : goal.lacking-returns-in_ok-lacking-in-Sum
lacking-returns-in_ok-lacking-in-Sum k c = one_ok c.args.env.now (typed (message c.args.m.now) (ty c.args.t.now)) (typed (in_left (message c.in-Inl.a.value)) (sum_ty (ty c.in-Sum.types.value.first) (ty c.in-Sum.types.value.second))) (typed (message c.deref-in-Sum.result.now) (ty c.deref-in-Sum-2.result.now.first)) (typed (message c.in-Inl.a.value) (ty c.in-Sum.types.value.first)) c.in_ok-lacking-in-Sum.field-0 c.of_one-in-Sum.result (typed_equal (ap message c.in-Inl.is) (ap ty c.in-Sum.is)) (typed_equal (ap message c.deref-in-Sum.ensures) (ap (λ v. ty v.first) c.deref-in-Sum-2.ensures)) asks_left c.in_ok-lacking-in-Sum.ensures c.of_one-in-Sum.ensures

pub lacking-returns-in_ok-lacking-in-Un-t-3 : goal.lacking-returns-in_ok-lacking-in-Un-t-3
lacking-returns-in_ok-lacking-in-Un-t-3 k c = one_ok c.args.env.now (typed (message c.args.m.now) (ty c.args.t.now)) (typed (in_right (message c.in-Inr.a.value)) un) (typed (message c.deref-in-Un-t-3.result.now) (ty c.args.t.now)) (typed (message c.in-Inr.a.value) un) c.in_ok-lacking-in-Un-t-3.field-0 c.of_one-in-Un-t-3.result (typed_equal (ap message c.in-Inr.is) (ap ty c.in-Un-t-3.is)) (typed_equal (ap message c.deref-in-Un-t-3.ensures) (ap ty c.in-Un-t-3.is)) asks_right_un c.in_ok-lacking-in-Un-t-3.ensures c.of_one-in-Un-t-3.ensures

pub lacking-returns-in_ok-lacking-in-Sum-t : goal.lacking-returns-in_ok-lacking-in-Sum-t
lacking-returns-in_ok-lacking-in-Sum-t k c = one_ok c.args.env.now (typed (message c.args.m.now) (ty c.args.t.now)) (typed (in_right (message c.in-Inr.a.value)) (sum_ty (ty c.in-Sum-t.types.value.first) (ty c.in-Sum-t.types.value.second))) (typed (message c.deref-in-Sum-t.result.now) (ty c.deref-in-Sum-t-2.result.now.second)) (typed (message c.in-Inr.a.value) (ty c.in-Sum-t.types.value.second)) c.in_ok-lacking-in-Sum-t.field-0 c.of_one-in-Sum-t.result (typed_equal (ap message c.in-Inr.is) (ap ty c.in-Sum-t.is)) (typed_equal (ap message c.deref-in-Sum-t.ensures) (ap (λ v. ty v.second) c.deref-in-Sum-t-2.ensures)) asks_right c.in_ok-lacking-in-Sum-t.ensures c.of_one-in-Sum-t.ensures

pub lacking-returns-in_ok-lacking_label-in-Un-t-5 : goal.lacking-returns-in_ok-lacking_label-in-Un-t-5
lacking-returns-in_ok-lacking_label-in-Un-t-5 k c = one_ok c.args.env.now (typed (message c.args.m.now) (ty c.args.t.now)) (typed (hash (message c.in-Hash.a.value)) un) (labelled (message c.deref-in-Un-t-5.result.now)) (labelled (message c.in-Hash.a.value)) c.in_ok-lacking_label-in-Un-t-5.field-0 c.of_one-in-Un-t-5.result (typed_equal (ap message c.in-Hash.is) (ap ty c.in-Un-t-5.is)) (ap (λ m. labelled (message m)) c.deref-in-Un-t-5.ensures) asks_hash c.in_ok-lacking_label-in-Un-t-5.ensures c.of_one-in-Un-t-5.ensures

pub lacking_label-returns-in-Some : goal.lacking_label-returns-in-Some
lacking_label-returns-in-Some k c = label_as (ap message c.in-Name.is) (label_name (get_at c.args.env.now c.in-Name.x c.in-Some.ensures.some))

pub lacking_label-returns-in-None : goal.lacking_label-returns-in-None
lacking_label-returns-in-None k c = itself_ok c.args.env.now (labelled (message c.args.m.now)) c.no_label.result (subst (λ m. IsMisfit c.args.env.now (labelled m)) (sym (ap message c.in-Name.is)) (beyond_misfit (c.in-None.ensures.none.0 refl))) c.no_label.ensures

pub lacking_label-returns-in-Unit : goal.lacking_label-returns-in-Unit
lacking_label-returns-in-Unit k c = label_as (ap message c.in-Unit.is) label_unit

pub lacking_label-returns-in_ok-second-in-Pair : goal.lacking_label-returns-in_ok-second-in-Pair
lacking_label-returns-in_ok-second-in-Pair k c = two_ok c.args.env.now (labelled (message c.args.m.now)) (labelled (pair (message c.in-Pair.two.value.first) (message c.in-Pair.two.value.second))) (labelled (message c.deref.result.now.first)) (labelled (message c.in-Pair.two.value.first)) (labelled (message c.deref-in-Pair.result.now.second)) (labelled (message c.in-Pair.two.value.second)) c.in_ok-first-in-Pair.first c.in_ok-second-in-Pair.second c.of_two.result (ap (λ m. labelled (message m)) c.in-Pair.is) (ap (λ v. labelled (message v.first)) c.deref.ensures) (ap (λ v. labelled (message v.second)) c.deref-in-Pair.ensures) asks_label_pair c.in_ok-first-in-Pair.ensures c.in_ok-second-in-Pair.ensures c.of_two.ensures

pub lacking_label-returns-in_ok-lacking_label-in-Inl : goal.lacking_label-returns-in_ok-lacking_label-in-Inl
lacking_label-returns-in_ok-lacking_label-in-Inl k c = one_ok c.args.env.now (labelled (message c.args.m.now)) (labelled (in_left (message c.in-Inl.a.value))) (labelled (message c.deref-in-Inl.result.now)) (labelled (message c.in-Inl.a.value)) c.in_ok-lacking_label-in-Inl.field-0 c.of_one.result (ap (λ m. labelled (message m)) c.in-Inl.is) (ap (λ m. labelled (message m)) c.deref-in-Inl.ensures) asks_label_left c.in_ok-lacking_label-in-Inl.ensures c.of_one.ensures

pub lacking_label-returns-in_ok-lacking_label-in-Inr : goal.lacking_label-returns-in_ok-lacking_label-in-Inr
lacking_label-returns-in_ok-lacking_label-in-Inr k c = one_ok c.args.env.now (labelled (message c.args.m.now)) (labelled (in_right (message c.in-Inr.a.value))) (labelled (message c.deref-in-Inr.result.now)) (labelled (message c.in-Inr.a.value)) c.in_ok-lacking_label-in-Inr.field-0 c.of_one-in-Inr.result (ap (λ m. labelled (message m)) c.in-Inr.is) (ap (λ m. labelled (message m)) c.deref-in-Inr.ensures) asks_label_right c.in_ok-lacking_label-in-Inr.ensures c.of_one-in-Inr.ensures

pub lacking_label-returns-in_ok-lacking_label-in-Hash : goal.lacking_label-returns-in_ok-lacking_label-in-Hash
lacking_label-returns-in_ok-lacking_label-in-Hash k c = one_ok c.args.env.now (labelled (message c.args.m.now)) (labelled (hash (message c.in-Hash.a.value))) (labelled (message c.deref-in-Hash.result.now)) (labelled (message c.in-Hash.a.value)) c.in_ok-lacking_label-in-Hash.field-0 c.of_one-in-Hash.result (ap (λ m. labelled (message m)) c.in-Hash.is) (ap (λ m. labelled (message m)) c.deref-in-Hash.ensures) asks_label_hash c.in_ok-lacking_label-in-Hash.ensures c.of_one-in-Hash.ensures

pub lacking_label-returns-in-Enc : goal.lacking_label-returns-in-Enc
lacking_label-returns-in-Enc k c = sealed_ok c.args.env.now (labelled (message c.args.m.now)) (labelled (enc (message c.in-Enc.sealed.value.body) (message c.in-Enc.sealed.value.key))) (message c.deref-in-Enc.result.now.body) (message c.in-Enc.sealed.value.body) (message c.deref-in-Enc-2.result.now.key) (message c.in-Enc.sealed.value.key) c.lacking_sealed.result (ap (λ m. labelled (message m)) c.in-Enc.is) (ap (λ v. message v.body) c.deref-in-Enc.ensures) (ap (λ v. message v.key) c.deref-in-Enc-2.ensures) (label_sealed _ _) c.lacking_sealed.ensures

pub lacking_sealed-returns-in_ok-lacking-in-Some : goal.lacking_sealed-returns-in_ok-lacking-in-Some
lacking_sealed-returns-in_ok-lacking-in-Some k c = let h = c.in-Some.ensures.some in weaker c.of_body.result (λ o g q j. g c.args.env.now q _ _ (j _ (asks_for h)) (key_holds h) c.in_ok-lacking-in-Some.ensures) c.of_body.ensures

pub lacking_sealed-returns-in-None : goal.lacking_sealed-returns-in-None
lacking_sealed-returns-in-None k c = weaker c.lacking_both.result (λ o g q j. g q (j _ (asks_enc c.in-None.ensures.none))) c.lacking_both.ensures

pub lacking-returns-in-Un-t : goal.lacking-returns-in-Un-t
lacking-returns-in-Un-t k c = both_ok c.args.env.now (typed (message c.args.m.now) (ty c.args.t.now)) (typed (pair (message c.in-Pair.two.value.first) (message c.in-Pair.two.value.second)) un) (typed (message c.deref.result.now.first) (ty c.args.t.now)) (typed (message c.in-Pair.two.value.first) un) (typed (message c.deref-in-Un-t.result.now.second) (ty c.args.t.now)) (typed (message c.in-Pair.two.value.second) un) c.lacking_both.result (typed_equal (ap message c.in-Pair.is) (ap ty c.in-Un-t.is)) (typed_equal (ap (λ v. message v.first) c.deref.ensures) (ap ty c.in-Un-t.is)) (typed_equal (ap (λ v. message v.second) c.deref-in-Un-t.ensures) (ap ty c.in-Un-t.is)) asks_pair_un c.lacking_both.ensures

pub lacking-returns-in_ok-wanted-in-Pair-t : goal.lacking-returns-in_ok-wanted-in-Pair-t
lacking-returns-in_ok-wanted-in-Pair-t k c = both_ok c.args.env.now (typed (message c.args.m.now) (ty c.args.t.now)) (typed (pair (message c.in-Pair.two.value.first) (message c.in-Pair.two.value.second)) (pair_ty (ty c.in-Pair-t.types.value.first) (ty c.in-Pair-t.types.value.second))) (typed (message c.deref-in-Pair-t-3.result.now.first) (ty c.deref-in-Pair-t-4.result.now.first)) (typed (message c.in-Pair.two.value.first) (ty c.in-Pair-t.types.value.first)) (typed (message c.deref-in-Pair-t-5.result.now.second) (ty c.in_ok-wanted-in-Pair-t.wanted)) (typed (message c.in-Pair.two.value.second) (ty_put (message c.in-Pair.two.value.first) (ty c.in-Pair-t.types.value.second))) c.lacking_both-in-Pair-t.result (typed_equal (ap message c.in-Pair.is) (ap ty c.in-Pair-t.is)) (typed_equal (ap (λ v. message v.first) c.deref-in-Pair-t-3.ensures) (ap (λ v. ty v.first) c.deref-in-Pair-t-4.ensures)) (typed_equal (ap (λ v. message v.second) c.deref-in-Pair-t-5.ensures) (put_equal c.in_ok-wanted-in-Pair-t.ensures (ap (λ v. message v.first) c.deref-in-Pair-t-2.ensures) (ap (λ v. ty v.second) c.deref-in-Pair-t.ensures))) asks_pair c.lacking_both-in-Pair-t.ensures

pub lacking-returns-in-Un-t-4 : goal.lacking-returns-in-Un-t-4
lacking-returns-in-Un-t-4 k c = sealed_ok c.args.env.now (typed (message c.args.m.now) (ty c.args.t.now)) (typed (enc (message c.in-Enc.sealed.value.body) (message c.in-Enc.sealed.value.key)) un) (message c.deref-in-Un-t-4.result.now.body) (message c.in-Enc.sealed.value.body) (message c.deref-in-Un-t-4-2.result.now.key) (message c.in-Enc.sealed.value.key) c.lacking_sealed.result (typed_equal (ap message c.in-Enc.is) (ap ty c.in-Un-t-4.is)) (ap (λ v. message v.body) c.deref-in-Un-t-4.ensures) (ap (λ v. message v.key) c.deref-in-Un-t-4-2.ensures) (λ qs j. j) c.lacking_sealed.ensures
