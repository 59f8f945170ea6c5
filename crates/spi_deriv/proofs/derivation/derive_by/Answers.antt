use Rattle.std.proofs.Common.{map, refl}
use Rattle.spi_term.specs.View.{effect}
use Rattle.spi_rules.specs.Deriv.{rule_use}
use Rattle.spi_deriv.proofs.Answered.{empty_derivable, derivable_empty, derived}
use Rattle.spi_deriv.proofs.derivation.derive_by.Goals as goal

pub returns-in_ok-uses-clause-canonical : goal.returns-in_ok-uses-clause-canonical
returns-in_ok-uses-clause-canonical c =
    derived c.args.process.now.names c.args.process.now.process (map rule_use c.in_ok-uses.uses.items) (empty_derivable c.args.process.now.names c.args.process.now.process (effect c.args.least.now) c.requires (c.has_no_atom.ensures.0 c.if-has_no_atom.true)) c.in_ok-uses.ensures

pub returns-in_ok-uses-clause-some : goal.returns-in_ok-uses-clause-some
returns-in_ok-uses-clause-some c =
    (λ e. empty_derivable c.args.process.now.names c.args.process.now.process (effect c.args.least.now) c.requires (c.has_no_atom.ensures.0 c.if-has_no_atom.true), λ d. refl)

pub returns-else-has_no_atom-clause-some : goal.returns-else-has_no_atom-clause-some
returns-else-has_no_atom-clause-some c =
    (λ e. absurd (cc e), λ d. c.if-has_no_atom.ensures.1 (derivable_empty c.args.process.now.names c.args.process.now.process (effect c.args.least.now) c.requires d))
