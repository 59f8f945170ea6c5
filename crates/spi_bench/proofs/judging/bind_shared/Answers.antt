use Rattle.spi_term.specs.View.{ty}
use Rattle.spi_intern.proofs.Meanings.{means_keeps}
use Rattle.spi_message.proofs.Tested.{kept_more, stands_kept}
use Rattle.spi_infer.proofs.Bound.{turns_bound}
use Rattle.spi_bench.proofs.judging.bind_shared.Goals as goal

pub bind-requires-clause-ty : goal.bind-requires-clause-ty
bind-requires-clause-ty c = record { type = ty c.args.t.now; means = means_keeps c.in_ok-good.ensures.kept.store c.in_ok-id.ensures.at }

pub returns-clause-stands : goal.returns-clause-stands
returns-clause-stands c = λ env s.
    let k = kept_more c.in_ok-id.ensures.kept c.in_ok-good.ensures.kept in
    let m = means_keeps c.in_ok-good.ensures.kept.store c.in_ok-id.ensures.at in
    (turns_bound c.args.judge.now c.good_type.new.self c.bind.new.self c.in_ok-id.id (ty c.args.t.now) k m c.in_ok-bind.ensures.store c.in_ok-bind.ensures.ok).at env s

pub returns-clause-answer : goal.returns-clause-answer
returns-clause-answer c = λ env s.
    let st = stands_kept {j = c.args.judge.now} {k = c.ty.new.self} c.in_ok-id.ensures.kept s in
    let g = c.in_ok-good.ensures.answer env (ty c.args.t.now) st c.in_ok-id.ensures.at in
    (λ e. let p = c.are_all.ensures.0 e in (p.0, (c.is_made-made.ensures.0 p.1, g.0 p.2)), λ p. c.are_all.ensures.1 (p.0, c.is_made-made.ensures.1 p.1.0, g.1 p.1.1))
