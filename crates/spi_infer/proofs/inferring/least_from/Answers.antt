use Rattle.std.proofs.Common.{refl, [], length}
use Rattle.spi_term.specs.Spelling.{numbered}
use Rattle.spi_rules.specs.Environment.{Env}
use Rattle.spi_message.specs.Judging.{Stands}
use Rattle.spi_infer.specs.Accounts.{IsNoted}
use Rattle.spi_infer.specs.Forms.{effect_of}
use Rattle.spi_infer.proofs.Descending.{some_node}
use Rattle.spi_infer.proofs.Answering.{read_least}
use Rattle.spi_infer.proofs.Joining.{noted_in, over_at}
use Rattle.spi_infer.proofs.inferring.least_from.Given.{Over}
use Rattle.spi_infer.proofs.inferring.least_from.Goals as goal
use Rattle.spi_infer.proofs.inferring.least_from.Goals.{After-store-store}

noted_is : (g : Over) (c : After-store-store g) (env : Env) → Stands c.args.judge.now env → IsNoted c.store-store.result.now c.in_ok-noted.noted c.args.process.now.names c.args.process.now.process env
noted_is g c env h =
    noted_in c.args.judge.now c.store-store.result.now c.own_notes.new.judge.store c.in_ok-noted.noted c.args.process.now.names c.args.process.now.process env c.requires.names h c.store-store.ensures c.in_ok-noted.ensures.keys (c.in_ok-noted.ensures.notes env h)

pub account-requires-clause-noted : goal.account-requires-clause-noted
account-requires-clause-noted g c =
    let j = c.stands_for_one.ensures in
    (j.env, noted_is g (goal.at.account-requires-clause-noted g c).After-store-store j.env j.stands)

pub read_back-requires : goal.read_back-requires
read_back-requires g c =
    let j = c.stands_for_one.ensures in
    let noted = noted_is g (goal.at.read_back-requires g c).After-store-store j.env j.stands in
    let w = some_node c.args.process.now.process j.env c.args.node c.requires.node in
    (effect_of (numbered [] (length w.0) w.1) w.0, record { once = c.in_ok-pile.ensures.once; keyed = noted.keyed }, c.in_ok-pile.ensures.effect j.env w.0 w.1 noted w.2)

pub returns-clause-effect : goal.returns-clause-effect
returns-clause-effect g c env e q h n =
    let noted = noted_is g (goal.at.returns-clause-effect g c).After-store-store env h in
    let over = over_at c.args.process.now.names c.args.process.now.process env e q c.args.node noted.names n c.len.ensures.over in
    read_least e q (effect_of (numbered [] (length e) q) e) c.in_ok-effect.effect over refl (c.in_ok-effect.ensures (effect_of (numbered [] (length e) q) e) (c.in_ok-pile.ensures.effect env e q noted n))

pub returns-clause-stuck : goal.returns-clause-stuck
returns-clause-stuck g c env h =
    c.in_ok-pile.ensures.stuck env (noted_is g (goal.at.returns-clause-stuck g c).After-store-store env h)
