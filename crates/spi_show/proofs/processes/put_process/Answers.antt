use Rattle.std.proofs.Common.{ap, ◌∙◌, ◌++◌}
use Rattle.std.proofs.lemmas.Result.{on_ok_weaker}
use Rattle.spi_show.specs.Spells.{spelling}
use Rattle.spi_show.proofs.Indexed.{text_numbered}
use Rattle.spi_show.proofs.processes.put_process.Goals as goal

pub returns : goal.returns
returns c =
    on_ok_weaker c.put_nodes.result (λ e. e ∙ ap (λ l. c.args.out.now.items ++ l) (text_numbered (spelling c.args.spell.now) c.args.process.now.names c.args.process.now.process c.len-nodes.ensures.over)) c.put_nodes.ensures
