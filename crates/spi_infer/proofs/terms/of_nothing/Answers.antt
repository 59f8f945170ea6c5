use Rattle.spi_infer.proofs.terms.of_nothing.Goals as goal

pub returns-clause-each : goal.returns-clause-each
returns-clause-each c =
    record {
      un = c.in_ok-un.ensures.at;
      message = tt;
      other = tt;
      ty = tt;
      second = tt;
    }
