use Rattle.spi_term.specs.View.{message, ty}
use Rattle.spi_term.specs.Term.{Decrypts}
use Rattle.spi_rules.specs.declared.rule.Rule.TheVariants.{ProcDecrypt, ProcDecryptUn}
use Rattle.spi_audit.proofs.FormRules.{decrypt_other}
use Rattle.spi_audit.proofs.FormUses.{prefix_arm}
use Rattle.spi_audit.proofs.forms.of_decrypt.Goals as goal

pub returns-in-ProcDecrypt-clause-answer : goal.returns-in-ProcDecrypt-clause-answer
returns-in-ProcDecrypt-clause-answer c = prefix_arm c.args.judge.now c.decrypt_typed.new.judge c.args.rule ProcDecrypt c.in-ProcDecrypt.is (Decrypts (message c.args.whole.now) (ty c.args.ty.now) (message c.args.key.now)) c.args.body c.decrypt_typed.result c.decrypt_typed.ensures.answer

pub returns-in-ProcDecryptUn-clause-answer : goal.returns-in-ProcDecryptUn-clause-answer
returns-in-ProcDecryptUn-clause-answer c = prefix_arm c.args.judge.now c.decrypt_untrusted.new.judge c.args.rule ProcDecryptUn c.in-ProcDecryptUn.is (Decrypts (message c.args.whole.now) (ty c.args.ty.now) (message c.args.key.now)) c.args.body c.decrypt_untrusted.result c.decrypt_untrusted.ensures.answer

pub returns-in_default-clause-answer : goal.returns-in_default-clause-answer
returns-in_default-clause-answer c = decrypt_other c.args.judge.now c.args.rule (message c.args.whole.now) (message c.args.key.now) (ty c.args.ty.now) c.args.body c.in_default.not-ProcDecrypt c.in_default.not-ProcDecryptUn
