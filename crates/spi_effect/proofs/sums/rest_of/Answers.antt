use Rattle.std.proofs.Common.{◌≡◌, ◌++◌, ◌∷◌, [], length, ◌+◌, map, take, sym, subst, ap, ◌∙◌, arith}
use Rattle.std.proofs.lemmas.List.{length-map}
use Rattle.spi_term.specs.View.{atom, pointed}
use Rattle.spi_term.proofs.Lookup.{map_take_more}
use Rattle.spi_effect.specs.Effect.{IsDifference}
use Rattle.spi_effect.specs.Rest.{IsOwed}
use Rattle.spi_effect.proofs.Rests.{owed_more, met_answer, difference_kept, difference_out, map_pushed}
use Rattle.spi_effect.proofs.sums.rest_of.Goals as goal
use Rattle.spi_effect.proofs.sums.rest_of.Goals.{then-not-is_left_out+in_ok-copy+in_ok-push, else-not-is_left_out}

pub loop-x-preserved : goal.loop-x-preserved
loop-x-preserved c =
    let room : length c.loop-x.left ≡ length (pointed c.args.sorted.now) = omega (arith, length-map c.args.sorted.now (λ r. atom r.now)) in
    let more : map atom (take (c.loop-x.x-index + 1) c.args.es.now) ≡ map atom (take c.loop-x.x-index c.args.es.now) ++ atom c.x-item.result ∷ [] = map_take_more atom c.args.es.now c.loop-x.x-index c.x-item.result c.loop-x-test.true c.x-item.is in
    let answer = met_answer c.requires.same c.loop-x.invariant.owed c.is_left_out.ensures in
    record {
      owed = subst (λ l. IsOwed (pointed c.args.sorted.now) l (map atom c.args.fs.now) c.is_left_out.new.left) (sym more) (owed_more room c.loop-x.invariant.owed c.is_left_out.ensures);
      so_far = subst (λ l. IsDifference (map atom c.if-not-is_left_out.atoms.items) l (map atom c.args.fs.now)) (sym more)
          (elim c.if-not-is_left_out.branch [
            | then-not-is_left_out+in_ok-copy+in_ok-push w ↦
                subst (λ l. IsDifference l (map atom (take c.loop-x.x-index c.args.es.now) ++ atom c.x-item.result ∷ []) (map atom c.args.fs.now))
                (sym (map_pushed atom c.loop-x.atoms.items c.if-not-is_left_out.atoms.items w.in_ok-copy.field-0 (atom c.x-item.result) (ap (λ v. v.items) w.atoms-is ∙ w.in_ok-push.ensures.items) w.in_ok-copy.ensures))
                (difference_kept (atom c.x-item.result) c.loop-x.invariant.so_far (sym answer ∙ w.if-not-is_left_out.true))
            | else-not-is_left_out w ↦
                subst (λ l. IsDifference l (map atom (take c.loop-x.x-index c.args.es.now) ++ atom c.x-item.result ∷ []) (map atom c.args.fs.now)) (ap (λ v. map atom v.items) (sym w.atoms-is))
                (difference_out (atom c.x-item.result) c.loop-x.invariant.so_far (sym answer ∙ w.if-not-is_left_out.false))
          ]);
    }
