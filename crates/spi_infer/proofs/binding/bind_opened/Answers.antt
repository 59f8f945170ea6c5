use Rattle.spi_term.specs.Substitution.{ty_put}
use Rattle.spi_intern.specs.Messages.{message_at}
use Rattle.spi_intern.proofs.Sized.{message_there}
use Rattle.spi_term.proofs.Choices.{on_ok}
use Rattle.spi_infer.proofs.Bound.{turns_bound}
use Rattle.spi_infer.proofs.binding.bind_opened.Goals as goal

pub bind-requires-clause-ty : goal.bind-requires-clause-ty
bind-requires-clause-ty c =
    let m = message_at c.args.judge.now.store.messages c.args.value in
    record {
      type = ty_put m c.requires.ty.type;
      means = c.in_ok-filled.ensures.at c.requires.ty.type m c.requires.ty.means (message_there c.args.judge.now.store.messages c.args.value c.requires.message);
    }

pub returns-clause-bound : goal.returns-clause-bound
returns-clause-bound c =
    on_ok c.bind.result (λ g t m w a. turns_bound c.args.judge.now c.opened.new.self c.bind.new.self c.in_ok-filled.filled (ty_put m t) c.in_ok-filled.ensures.kept (c.in_ok-filled.ensures.at t m w a) c.bind.ensures.store g) c.bind.ensures.ok
