use Rattle.std.proofs.Common.{ap, subst, sym}
use Rattle.spi_term.specs.View.{shape_of_form}
use Rattle.spi_intern.proofs.Meanings.{terms_same}
use Rattle.spi_infer.specs.Passes.{waiting}
use Rattle.spi_infer.specs.Terms.{AreTermsOf}
use Rattle.spi_infer.specs.Waiting.{Queued}
use Rattle.spi_infer.proofs.Queues.{queued_push}
use Rattle.spi_infer.proofs.waiting.put_off.Goals as goal

pub returns-in_ok-push-in-Branch : goal.returns-in_ok-push-in-Branch
returns-in_ok-push-in-Branch c j ws w h =
    let q = ap (shape_of_form c.args.node.now.scope) c.in-Branch.is in
    let a = subst (λ x. AreTermsOf j x c.args.terms) q w in
    subst (λ x. Queued j.store c.push.new.self.items (waiting ws x)) (sym q) (queued_push c.args.pending.now.items c.push.new.self.items _ _ ws (terms_same j.store) a.second c.in_ok-push-in-Branch.ensures.items h)
