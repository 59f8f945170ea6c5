use Rattle.std.proofs.Common.{refl, ◌∙◌, subst}
use Rattle.spi_rules.specs.Environment.{untrusted}
use Rattle.spi_infer.proofs.Joining.{noted_in}
use Rattle.spi_message.specs.Judging.{Stands}
use Rattle.spi_origin.proofs.finding.noted_over.Goals as goal

pub returns : goal.returns
returns g c =
    let stands = subst (λ i. Stands c.in_ok-judge.judge (untrusted i)) c.names.ensures c.in_ok-judge.ensures.names in
    noted_in c.in_ok-judge.judge c.own_notes.new.judge.store c.own_notes.new.judge.store c.in_ok-noted.noted c.args.process.now.names c.args.process.now.process (untrusted c.args.process.now.names) (c.in_ok-judge.ensures.length ∙ c.names.ensures) stands refl c.in_ok-noted.ensures.keys (c.in_ok-noted.ensures.notes (untrusted c.args.process.now.names) stands)
