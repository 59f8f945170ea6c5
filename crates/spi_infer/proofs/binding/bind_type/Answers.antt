use Rattle.spi_message.proofs.Tested.{kept_same}
use Rattle.spi_infer.proofs.Bound.{turns_bind_all}
use Rattle.spi_infer.proofs.binding.bind_type.Goals as goal

pub returns-clause-bound : goal.returns-clause-bound
returns-clause-bound c =
    turns_bind_all c.args.judge.now c.args.judge.now c.bind.new.self c.args.id (kept_same c.args.judge.now) c.bind.ensures.store c.bind.result c.bind.ensures.ok
