use Rattle.spi_trace.proofs.Pairs.{pays_once, comes_before}
use Rattle.spi_trace.proofs.laws.each_begin_once.Goals as goal

pub returns-clause-once : goal.returns-clause-once
returns-clause-once c = pays_once

pub returns-clause-before : goal.returns-clause-before
returns-clause-before c = comes_before
