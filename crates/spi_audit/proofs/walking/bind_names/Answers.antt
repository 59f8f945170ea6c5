use Rattle.std.proofs.Common.{◌≡◌, ◌++◌, [], ◌∷◌}
use Rattle.spi_term.proofs.Choices.{on_ok}
use Rattle.spi_audit.specs.Walking.{Settles}
use Rattle.spi_audit.proofs.Leading.{settles_none, settles_one, settles_two}
use Rattle.spi_audit.proofs.walking.bind_names.Goals as goal

pub returns-in-Nothing-clause-turned : goal.returns-in-Nothing-clause-turned
returns-in-Nothing-clause-turned c = settles_none c.args.judge.now c.args.names c.in-Nothing.is

pub returns-in-OneName-clause-turned : goal.returns-in-OneName-clause-turned
returns-in-OneName-clause-turned c =
    on_ok {P = c.bind.new.self.types ≡ c.args.judge.now.types ++ c.in-OneName.t ∷ []} {Q = Settles c.args.judge.now c.bind.new.self c.args.names (λ e. e)} c.bind.result
    (λ q. settles_one c.args.judge.now c.bind.new.self c.args.names c.in-OneName.t c.in-OneName.is q c.bind.ensures.store) c.bind.ensures.ok

pub returns-in_ok-bind-in-TwoNames-clause-turned : goal.returns-in_ok-bind-in-TwoNames-clause-turned
returns-in_ok-bind-in-TwoNames-clause-turned c =
    on_ok {P = c.bind-in-TwoNames-2.new.self.types ≡ c.bind-in-TwoNames.new.self.types ++ c.in-TwoNames.u ∷ []} {Q = Settles c.args.judge.now c.bind-in-TwoNames-2.new.self c.args.names (λ e. e)} c.bind-in-TwoNames-2.result
    (λ q. settles_two c.args.judge.now c.bind-in-TwoNames.new.self c.bind-in-TwoNames-2.new.self c.args.names c.in-TwoNames.t c.in-TwoNames.u c.in-TwoNames.is c.in_ok-bind-in-TwoNames.ensures.ok c.in_ok-bind-in-TwoNames.ensures.store q c.bind-in-TwoNames-2.ensures.store) c.bind-in-TwoNames-2.ensures.ok
