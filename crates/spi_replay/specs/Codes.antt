-- A pool as it is stored.
use Rattle.std.specs.Prelude.{ℕ, List, refl}
use Rattle.std.specs.Coded.{Coded, code_by, coded×, coded_ℕ, coded_list}
use Rattle.spi_term.specs.Term.{Process}
use Rattle.spi_term.specs.Codes.{coded_process}
use Rattle.spi_replay.specs.Stepping.{Pooled}

abbrev pub coded_pooled : Coded Pooled
coded_pooled =
    code_by (ℕ × (List Process × ℕ)) (coded× coded_ℕ (coded× (coded_list coded_process) coded_ℕ))
    (λ p. (p.configuration.names, (p.configuration.places, p.most)))
    (λ t. record { configuration = record { names = t.0; places = t.1.0 }; most = t.1.1 }) (λ _. refl)
