use Rattle.std.proofs.Common.{◌||◌}
use Rattle.spi_term.specs.Term.{un}
use Rattle.spi_term.specs.View.{message}
use Rattle.spi_term.proofs.Choices.{if_ok}
use Rattle.spi_message.specs.Tests.{nonce_of, typed}
use Rattle.spi_message.specs.Forms.{is_nonce}
use Rattle.spi_message.proofs.Tested.{env_kept, type_kept}
use Rattle.spi_infer.proofs.Asked.{both_hold, one_fails}
use Rattle.spi_infer.proofs.asking.is_check_ok.Goals as goal

pub is_nonce_or_untrusted-requires-clause-names : goal.is_nonce_or_untrusted-requires-clause-names
is_nonce_or_untrusted-requires-clause-names c = env_kept {j = c.args.judge.now} {k = c.is_typed.new.judge} c.in_ok-whole.ensures.kept c.requires.names

pub is_nonce_or_untrusted-requires-clause-un : goal.is_nonce_or_untrusted-requires-clause-un
is_nonce_or_untrusted-requires-clause-un c = type_kept {j = c.args.judge.now} {k = c.is_typed.new.judge} c.args.terms.un.place un c.in_ok-whole.ensures.kept c.requires.un

pub returns-then-whole-clause-answer : goal.returns-then-whole-clause-answer
returns-then-whole-clause-answer c =
    let n = message c.args.nonce.now in
    if_ok c.is_nonce_or_untrusted.result (λ b f m a. both_hold {j = c.args.judge.now} {k = c.is_typed.new.judge} (λ e. typed m e un) (λ e. is_nonce (nonce_of e n) || typed n e un) (c.in_ok-whole.ensures.answer m un a c.requires.un) c.if-whole.true c.in_ok-whole.ensures.kept f) c.is_nonce_or_untrusted.ensures.answer

pub returns-else-whole-clause-answer : goal.returns-else-whole-clause-answer
returns-else-whole-clause-answer c m a =
    let n = message c.args.nonce.now in
    one_fails {j = c.args.judge.now} (λ e. typed m e un) (λ e. is_nonce (nonce_of e n) || typed n e un) (c.in_ok-whole.ensures.answer m un a c.requires.un) c.if-whole.false
