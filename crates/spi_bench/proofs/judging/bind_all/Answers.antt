use Rattle.std.proofs.Common.{◌+◌, ◌++◌, ◌∷◌, [], refl, ap, ◌∙◌, subst, map, take, arith, append_assoc}
use Rattle.spi_term.specs.View.{ty}
use Rattle.spi_rules.specs.Environment.{Env}
use Rattle.spi_message.specs.Judging.{Stands}
use Rattle.spi_intern.proofs.Meanings.{map_more}
use Rattle.spi_bench.proofs.Judged.{shared_next}
use Rattle.spi_bench.proofs.judging.bind_all.Goals as goal

pub loop-t-preserved : goal.loop-t-preserved
loop-t-preserved c =
    let more = map_more ty c.args.shared.now c.args.shared.now c.loop-t.t-index c.t-item.result refl c.loop-t-test.true c.t-item.is in
    let ts = map ty (take c.loop-t.t-index c.args.shared.now) in
    let t = ty c.t-item.result in
    let i = c.loop-t.invariant in
    record {
      stands = λ env s. subst (λ (e : Env). Stands c.bind_shared.new.judge e) (append_assoc env ts (t ∷ []) ∙ ap (λ l. env ++ l) more) (c.in_ok-fine.ensures.stands (env ++ ts) (i.stands env s));
      answer = λ env s. shared_next env ts t (map ty (take (c.loop-t.t-index + 1) c.args.shared.now)) c.loop-t.fine c.in_ok-fine.fine more (i.answer env s) (c.in_ok-fine.ensures.answer (env ++ ts) (i.stands env s));
      more = omega (arith, c.in_ok-fine.ensures.more, i.more);
    }
