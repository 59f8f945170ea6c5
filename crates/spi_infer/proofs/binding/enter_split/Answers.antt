use Rattle.spi_term.specs.Term.{name}
use Rattle.spi_term.proofs.Choices.{on_ok}
use Rattle.spi_intern.proofs.Meanings.{means_keeps, terms_more}
use Rattle.spi_infer.proofs.Bound.{turns_later, turns_split}
use Rattle.spi_infer.proofs.binding.enter_split.Goals as goal

pub bind_opened-requires-clause-ty : goal.bind_opened-requires-clause-ty
bind_opened-requires-clause-ty c = record {
  type = c.requires.second.type;
  means = means_keeps (terms_more c.in_ok-bind_type.ensures.above.store c.in_ok-value.ensures.kept.store) c.requires.second.means;
}

pub returns-clause-bound : goal.returns-clause-bound
returns-clause-bound c =
    on_ok c.bind_opened.result (λ g t u w v.
    let f = turns_later c.args.judge.now c.bind_type.new.judge c.message.new.self _ (c.in_ok-bind_type.ensures.bound t w) c.in_ok-value.ensures.kept in
    let s = means_keeps (terms_more c.in_ok-bind_type.ensures.above.store c.in_ok-value.ensures.kept.store) v in
    turns_split c.args.judge.now c.message.new.self c.bind_opened.new.judge t u c.len.result c.len.ensures f (g u (name c.len.result) s c.in_ok-value.ensures.at)) c.bind_opened.ensures.bound
