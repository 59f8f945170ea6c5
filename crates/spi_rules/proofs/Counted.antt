-- An effect means its counts: what is typed with one effect is typed with each that has its counts.
use Rattle.std.proofs.Common.{List}
use Rattle.spi_term.specs.Term.{Effect, Process}
use Rattle.spi_term.specs.Counts.{SameEffect}
use Rattle.spi_effect.proofs.Laws.{within_trans, same_within, same_sym, same_trans}
use Rattle.spi_rules.specs.Environment.{Env}
use Rattle.spi_rules.specs.Messages.{Cast}
use Rattle.spi_rules.specs.Processes.{HasEffect, proc_sub}
use Rattle.spi_rules.specs.Derivations.{RuleUse, Derivable, Proves}
use Rattle.spi_rules.specs.Least.{Least}
use Rattle.spi_rules.proofs.Good.{has_good, good_within}

pub has_counts : {cs : List Cast} {env : Env} {p : Process} {es fs : Effect} → SameEffect es fs → HasEffect cs env p es → HasEffect cs env p fs
has_counts q d = proc_sub d (same_within q) (good_within (same_within (same_sym q)) (has_good d))

pub derivable_counts : {env : Env} {p : Process} {es fs : Effect} → SameEffect es fs → Derivable env p es → Derivable env p fs
derivable_counts q d = record { over = d.over; has = has_counts q d.has }

pub least_counts : {env : Env} {p : Process} {es fs : Effect} → SameEffect es fs → Least env p es → Least env p fs
least_counts q l = record { derivable = derivable_counts q l.derivable; least = λ gs d. within_trans (same_within (same_sym q)) (l.least gs d) }

pub proves_counts : {d : List RuleUse} {env : Env} {p : Process} {es fs : Effect} → SameEffect es fs → Proves d env p es → Proves d env p fs
proves_counts q h = record { over = h.over; effect = h.effect; same = same_trans h.same q; has = h.has; are = h.are }
