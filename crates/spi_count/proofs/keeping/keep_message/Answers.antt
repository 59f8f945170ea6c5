use Rattle.spi_term.specs.View.{message}
use Rattle.spi_count.proofs.Kept.{kept_as, keyed_here, grows_key, grows_store, grows_more}
use Rattle.spi_count.proofs.keeping.keep_message.Goals as goal

pub returns-clause-at : goal.returns-clause-at
returns-clause-at c =
    keyed_here c.message.new.self.store c.args.keys.now c.keep.new.self c.in_ok-id.id.place (message c.args.m.now) c.in_ok-id.ensures.at c.in_ok-keep.ensures.small c.in_ok-keep.ensures.kept

pub returns-clause-grows : goal.returns-clause-grows
returns-clause-grows c =
    grows_more (grows_store c.in_ok-id.ensures.kept.store c.requires) (grows_key c.message.new.self.store c.args.keys.now c.keep.new.self c.in_ok-id.id.place (message c.args.m.now) c.in_ok-id.ensures.at c.in_ok-keep.ensures.small c.in_ok-keep.ensures.kept (kept_as c.args.keys.now c.in_ok-id.ensures.kept.store c.requires))
