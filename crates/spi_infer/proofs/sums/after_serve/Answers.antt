use Rattle.std.proofs.Common.{refl, sym, true≢false, Bool}
use Rattle.std.proofs.lemmas.Result.{IfOk-weaker}
use Rattle.spi_infer.specs.Accounts.{kept_if, AfterOne, AfterServe}
use Rattle.spi_infer.proofs.Formed.{serve_stays, serve_goes}
use Rattle.spi_infer.proofs.sums.after_serve.Goals as goal

pub returns-then-is_all_many : goal.returns-then-is_all_many
returns-then-is_all_many c =
    IfOk-weaker c.after_binder.result (λ b. AfterOne c.args.scope c.settle.new.self (kept_if b c.after_binder.new.pile)) (λ b. AfterServe c.args.scope c.args.pile.now (kept_if b c.after_binder.new.pile))
    (λ (b : Bool) h. serve_stays c.args.scope c.args.pile.now c.settle.new.self c.in_ok-settle.ensures.counted c.in_ok-settle.ensures.none (kept_if b c.after_binder.new.pile) (c.if-is_all_many.ensures.0 refl) h)
    c.after_binder.ensures.one

pub returns-else-is_all_many : goal.returns-else-is_all_many
returns-else-is_all_many c =
    serve_goes c.args.scope c.args.pile.now c.settle.new.self c.in_ok-settle.ensures.counted c.in_ok-settle.ensures.none (λ n. true≢false (sym (c.if-is_all_many.ensures.1 n)))
