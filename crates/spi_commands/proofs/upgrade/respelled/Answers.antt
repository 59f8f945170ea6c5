use Rattle.std.proofs.Common.{subst, sym}
use Rattle.spi_commands.specs.Upgrading.{AreRespelled, IsRespelled, none_respelled}
use Rattle.spi_commands.proofs.UpgradeAnswers.{respelled_next}
use Rattle.spi_commands.proofs.upgrade.respelled.Goals as goal

pub loop-name-init : goal.loop-name-init
loop-name-init c = subst (AreRespelled c.args.names.now _) (sym c.new-spellings.ensures.items) none_respelled

pub loop-name-preserved : goal.loop-name-preserved
loop-name-preserved c =
    respelled_next c.args.names.now c.loop-name.spellings.items c.push.new.self.items c.loop-name.name-index c.name-item.result c.in_ok-spelling.field-0 c.loop-name.invariant c.name-item.is c.loop-name-test.true (subst (λ name. IsRespelled c.args.names.now name c.in_ok-spelling.field-0) c.as_str.ensures c.in_ok-spelling.ensures) c.in_ok-push.ensures.items
