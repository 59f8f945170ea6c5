use Rattle.std.proofs.Common.{Some, []}
use Rattle.spi_count.specs.Keeping.{with_keys}
use Rattle.spi_infer.specs.Forms.{keep}
use Rattle.spi_infer.proofs.Accounted.{tops_push, nothing_stands}
use Rattle.spi_infer.proofs.accounts.act_on_none.Goals as goal

pub returns-in_ok-push-clause-stack : goal.returns-in_ok-push-clause-stack
returns-in_ok-push-clause-stack c s keys st k t =
    tops_push (with_keys s keys) c.args.stack.now.items c.push.new.self.items (Some c.new.result) (keep c.args.fine (Some [])) st c.in_ok-push.ensures.items (nothing_stands s keys c.new.result c.args.fine k c.new.ensures c.if-fine.true) t
