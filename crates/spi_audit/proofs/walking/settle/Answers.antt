use Rattle.std.proofs.Common.{take}
use Rattle.spi_term.proofs.Choices.{on_ok}
use Rattle.spi_audit.specs.Walking.{Settles}
use Rattle.spi_message.proofs.Cut.{turns_cut}
use Rattle.spi_audit.proofs.Leading.{settles_after}
use Rattle.spi_audit.proofs.walking.settle.Goals as goal

pub returns-clause-turned : goal.returns-clause-turned
returns-clause-turned c =
    on_ok {P = Settles c.cut_to.new.judge c.bind_names.new.judge c.args.names (λ e. e)} {Q = Settles c.args.judge.now c.bind_names.new.judge c.args.names (λ e. take c.args.scope e)} c.bind_names.result
    (λ w. settles_after c.args.judge.now c.cut_to.new.judge c.bind_names.new.judge c.args.names (λ e. take c.args.scope e) (turns_cut c.args.judge.now c.cut_to.new.judge c.args.scope c.cut_to.ensures.types c.cut_to.ensures.store) c.cut_to.ensures.store w) c.bind_names.ensures.turned
