use Rattle.std.proofs.Common.{sym, ap, ◌∙◌, subst, arith}
use Rattle.spi_term.specs.View.{shape_of}
use Rattle.spi_rules.specs.Environment.{untrusted}
use Rattle.spi_rules.proofs.Typing.{length_untrusted}
use Rattle.spi_infer.proofs.Descending.{Toward, Nearer, toward_root, few_names, nearer, toward_end}
use Rattle.spi_infer.proofs.reaching.reached.Goals as goal
use Rattle.spi_infer.proofs.reaching.reached.Goals.{In_ok-id}

next_is : (c : In_ok-id) → Nearer (untrusted c.args.process.now.names) c.args.process.now.process c.args.node c.loop-id.id c.in_ok-id.id c.descend.new.env
next_is c =
    nearer c.args.process.now.names c.args.process.now.process (untrusted c.args.process.now.names) (sym (length_untrusted c.args.process.now.names)) c.args.node c.loop-id.id c.loop-id.env (shape_of c.node.result.now) c.node.ensures c.loop-id-test.true c.in_ok-id.id c.descend.new.env c.loop-id.invariant c.in_ok-id.ensures

pub loop-id-init : goal.loop-id-init
loop-id-init c =
    subst (λ e. Toward (untrusted c.args.process.now.names) c.args.process.now.process c.args.node 0 e) (sym (c.in_ok-env.ensures ∙ ap untrusted c.names.ensures)) (toward_root (untrusted c.args.process.now.names) c.args.process.now.process c.args.node c.requires)

pub descend-requires : goal.descend-requires
descend-requires c =
    few_names c.args.process.now.names c.args.process.now.process (untrusted c.args.process.now.names) (sym (length_untrusted c.args.process.now.names)) c.args.node c.loop-id.id c.loop-id.env (shape_of c.node.result.now) c.node.ensures c.loop-id.invariant c.len.ensures.small

pub loop-id-smaller : goal.loop-id-smaller
loop-id-smaller c = omega (arith, (next_is (goal.at.loop-id-smaller c).In_ok-id).later, c.loop-id-test.true)

pub loop-id-preserved : goal.loop-id-preserved
loop-id-preserved c = (next_is (goal.at.loop-id-preserved c).In_ok-id).toward

pub returns : goal.returns
returns c =
    toward_end c.args.process.now.names c.args.process.now.process c.args.node c.loop-id.id c.loop-id.env c.loop-id.invariant c.loop-id-test.false
