use Rattle.spi_term.specs.Term.{un}
use Rattle.spi_message.proofs.Tested.{type_kept}
use Rattle.spi_infer.proofs.terms.of_message.Goals as goal

pub returns-clause-each : goal.returns-clause-each
returns-clause-each c =
    record {
      un = type_kept {j = c.un.new.self} {k = c.message.new.self} c.in_ok-un.un.place un c.in_ok-message.ensures.kept c.in_ok-un.ensures.at;
      message = c.in_ok-message.ensures.at;
      other = tt;
      ty = tt;
      second = tt;
    }
