use Rattle.std.proofs.Common.{◌≡◌, length, sym, ◌∙◌, subst}
use Rattle.spi_term.proofs.Sizes.{some_process}
use Rattle.spi_rules.specs.Environment.{Env}
use Rattle.spi_rules.specs.Blocking.{node_root}
use Rattle.spi_message.specs.Judging.{Stands}
use Rattle.spi_message.proofs.Standing.{stand_length}
use Rattle.spi_infer.specs.Inferring.{IsLeast}
use Rattle.spi_infer.proofs.Answering.{block_found, blocks_first}
use Rattle.spi_infer.proofs.inferring.infer_in.Given.{Over}
use Rattle.spi_infer.proofs.inferring.infer_in.Goals as goal
use Rattle.spi_infer.proofs.inferring.infer_in.Goals.{In_ok-effect}

least_is : (g : Over) (c : In_ok-effect g) (env : Env) → Stands c.args.judge.now env → IsLeast env c.args.process.now.process c.in_ok-effect.effect
least_is g c env h = c.in_ok-effect.ensures.effect env env c.args.process.now.process h node_root

names_are : (g : Over) (c : In_ok-effect g) (env : Env) → Stands c.args.judge.now env → c.args.process.now.names ≡ length env
names_are g c env h = sym c.requires ∙ stand_length h

pub least_from-requires-clause-node : goal.least_from-requires-clause-node
least_from-requires-clause-node g c = some_process c.args.process.now.process

pub returns-in-Some-clause-answer : goal.returns-in-Some-clause-answer
returns-in-Some-clause-answer g c env h =
    subst (IsLeast env c.args.process.now.process) c.in-Some.is (least_is g (goal.at.returns-in-Some-clause-answer g c).In_ok-effect env h)

pub returns-in-Some-stuck-clause-answer : goal.returns-in-Some-stuck-clause-answer
returns-in-Some-stuck-clause-answer g c env h =
    let p = c.args.process.now in
    let a = (goal.at.returns-in-Some-stuck-clause-answer g c).In_ok-effect in
    let none = subst (IsLeast env p.process) c.in-None.is (least_is g a env h) in
    (none, blocks_first p.names p.process env (names_are g a env h) c.in_ok-effect.ensures.over none c.in_ok-effect.stuck (c.in_ok-effect.ensures.stuck env h) c.in-Some-stuck.id c.in-Some-stuck.is)

pub unreachable-requires : goal.unreachable-requires
unreachable-requires g c =
    let p = c.args.process.now in
    let j = c.in_ok-effect.ensures.judge in
    let a = (goal.at.unreachable-requires g c).In_ok-effect in
    let none = subst (IsLeast j.env p.process) c.in-None.is (least_is g a j.env j.stands) in
    block_found p.names p.process j.env (names_are g a j.env j.stands) c.in_ok-effect.ensures.over none c.in_ok-effect.stuck (c.in_ok-effect.ensures.stuck j.env j.stands) c.in-None-stuck.is
