use Rattle.spi_effect.proofs.Laws.{same_refl}
use Rattle.spi_audit.proofs.Sound.{sound_one}
use Rattle.spi_audit.proofs.Complete.{proves_clear}
use Rattle.spi_audit.proofs.laws.judged_is_proved.Goals as goal

pub returns-clause-proved : goal.returns-clause-proved
returns-clause-proved c = λ env p us es over j pay. let t = sound_one j pay in record { over = over; effect = es; same = same_refl es; has = t.0; are = t.1 }

pub returns-clause-judged : goal.returns-clause-judged
returns-clause-judged c = λ env p us es h. let c = proves_clear h in (h.effect, h.same, c.0, c.1)
