use Rattle.spi_commands.specs.declared.status.Status.TheVariants.{Refused}
use Rattle.spi_advice.proofs.Advised.{advised}
use Rattle.spi_advice.proofs.advice.of_refusal.Goals as goal

pub refusal_line-requires : goal.refusal_line-requires
refusal_line-requires c = rw c.in_ok-lines.ensures c.requires.refuses

pub returns : goal.returns
returns c =
    let line = rw c.in_ok-lines.ensures at c.in_ok-line.ensures in
    advised c.args.bytes.now c.in_ok-line.line.items c.deref.result.now Refused c.joined.result line c.joined.ensures
