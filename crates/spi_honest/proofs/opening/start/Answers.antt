use Rattle.spi_narrate.specs.Views.{narration_of}
use Rattle.spi_scope.specs.Files.{meant}
use Rattle.spi_honest.proofs.Opens.{start_shares}
use Rattle.spi_honest.proofs.opening.start.Goals as goal

pub returns : goal.returns
returns c = record { shares = start_shares (narration_of c.args.n.now) (meant c.args.file.now) _ c.args.opponent.now c.requires.file c.len.ensures.small.few_names c.requires.opponent c.in_ok-start.ensures.configuration c.in_ok-start.ensures.most c.new.ensures.items c.new-2.ensures.items }
