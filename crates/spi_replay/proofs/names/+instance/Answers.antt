use Rattle.std.proofs.Common.{refl, ap, arith, rules}
use Rattle.spi_term.specs.Term as Term
use Rattle.spi_term.specs.View.{message}
use Rattle.spi_intern.specs.Messages.{says_unit, says_pair, says_left, says_right, says_enc, says_hash}
use Rattle.spi_intern.specs.declared.messages.MsgPart.TheVariants as P
use Rattle.spi_replay.proofs.Chains.{names_kept, given_two, instance_two, given_one, instance_one, instance_none}
use Rattle.spi_replay.proofs.Smaller.{read_less}
use Rattle.spi_replay.proofs.names.+instance.Goals as goal

pub message_over-requires-in-Unit : goal.message_over-requires-in-Unit
message_over-requires-in-Unit t c = record { message = Term.unit; says = says_unit }

pub returns-in-Unit-clause-at : goal.returns-in-Unit-clause-at
returns-in-Unit-clause-at t c = instance_none c.args.store.now.messages c.message_over-in-Unit.new.self.messages c.args.links.now c.args.scope P.Unit Term.unit _ (ap message c.in-Unit.is) says_unit (λ g. refl) _ c.message_over-in-Unit.ensures.at

pub instance-requires : goal.instance-requires
instance-requires t c = (read_less c.decreases c.in-Pair.is (ap (λ v. v.first) c.deref.ensures) (omega arith), (search rules, c.requires.names))

pub instance-requires-in-Pair : goal.instance-requires-in-Pair
instance-requires-in-Pair t c = (read_less c.decreases c.in-Pair.is (ap (λ v. v.second) c.deref-in-Pair.ensures) (omega arith), (search rules, names_kept c.in_ok-first-in-Pair.ensures.kept.messages c.requires.names))

pub message_over-requires-in-Pair : goal.message_over-requires-in-Pair
message_over-requires-in-Pair t c =
    given_two (P.Pair _ _) Term.pair (λ m n x y. says_pair x y) _ _ c.requires.names c.in_ok-first-in-Pair.ensures.at c.in_ok-first-in-Pair.ensures.kept.messages c.in_ok-second-in-Pair.ensures.kept.messages c.in_ok-second-in-Pair.ensures.at

pub returns-in_ok-second-in-Pair-clause-at : goal.returns-in_ok-second-in-Pair-clause-at
returns-in_ok-second-in-Pair-clause-at t c =
    instance_two c.message_over-in-Pair.new.self.messages (P.Pair _ _) Term.pair (λ m n x y. says_pair x y) (λ g a b. refl) _ _ _ (cc (ap message c.in-Pair.is, ap (λ v. v.first) c.deref.ensures, ap (λ v. v.second) c.deref-in-Pair.ensures)) c.in_ok-first-in-Pair.ensures.at c.in_ok-first-in-Pair.ensures.kept.messages c.in_ok-second-in-Pair.ensures.kept.messages c.in_ok-second-in-Pair.ensures.at _ c.message_over-in-Pair.ensures.at

pub instance-requires-in-Enc : goal.instance-requires-in-Enc
instance-requires-in-Enc t c = (read_less c.decreases c.in-Enc.is (ap (λ v. v.body) c.deref-in-Enc.ensures) (omega arith), (search rules, c.requires.names))

pub instance-requires-in-Enc-2 : goal.instance-requires-in-Enc-2
instance-requires-in-Enc-2 t c = (read_less c.decreases c.in-Enc.is (ap (λ v. v.key) c.deref-in-Enc-2.ensures) (omega arith), (search rules, names_kept c.in_ok-body-in-Enc.ensures.kept.messages c.requires.names))

pub message_over-requires-in-Enc : goal.message_over-requires-in-Enc
message_over-requires-in-Enc t c =
    given_two (P.Enc _ _) Term.enc (λ m n x y. says_enc x y) _ _ c.requires.names c.in_ok-body-in-Enc.ensures.at c.in_ok-body-in-Enc.ensures.kept.messages c.in_ok-key-in-Enc.ensures.kept.messages c.in_ok-key-in-Enc.ensures.at

pub returns-in_ok-key-in-Enc-clause-at : goal.returns-in_ok-key-in-Enc-clause-at
returns-in_ok-key-in-Enc-clause-at t c =
    instance_two c.message_over-in-Enc.new.self.messages (P.Enc _ _) Term.enc (λ m n x y. says_enc x y) (λ g a b. refl) _ _ _ (cc (ap message c.in-Enc.is, ap (λ v. v.body) c.deref-in-Enc.ensures, ap (λ v. v.key) c.deref-in-Enc-2.ensures)) c.in_ok-body-in-Enc.ensures.at c.in_ok-body-in-Enc.ensures.kept.messages c.in_ok-key-in-Enc.ensures.kept.messages c.in_ok-key-in-Enc.ensures.at _ c.message_over-in-Enc.ensures.at

pub message_over-requires-in-Inl : goal.message_over-requires-in-Inl
message_over-requires-in-Inl t c = given_one (P.Inl _) Term.in_left (λ m x. says_left x) _ c.requires.names c.in_ok-part-in-Inl.ensures.at

pub returns-in_ok-part-in-Inl-clause-at : goal.returns-in_ok-part-in-Inl-clause-at
returns-in_ok-part-in-Inl-clause-at t c =
    instance_one c.message_over-in-Inl.new.self.messages (P.Inl _) Term.in_left (λ m x. says_left x) (λ g a. refl) _ _ (cc (ap message c.in-Inl.is)) c.in_ok-part-in-Inl.ensures.at _ c.message_over-in-Inl.ensures.at

pub message_over-requires-in-Inr : goal.message_over-requires-in-Inr
message_over-requires-in-Inr t c = given_one (P.Inr _) Term.in_right (λ m x. says_right x) _ c.requires.names c.in_ok-part-in-Inr.ensures.at

pub returns-in_ok-part-in-Inr-clause-at : goal.returns-in_ok-part-in-Inr-clause-at
returns-in_ok-part-in-Inr-clause-at t c =
    instance_one c.message_over-in-Inr.new.self.messages (P.Inr _) Term.in_right (λ m x. says_right x) (λ g a. refl) _ _ (cc (ap message c.in-Inr.is)) c.in_ok-part-in-Inr.ensures.at _ c.message_over-in-Inr.ensures.at

pub message_over-requires-in-Hash : goal.message_over-requires-in-Hash
message_over-requires-in-Hash t c = given_one (P.Hash _) Term.hash (λ m x. says_hash x) _ c.requires.names c.in_ok-part-in-Hash.ensures.at

pub returns-in_ok-part-in-Hash-clause-at : goal.returns-in_ok-part-in-Hash-clause-at
returns-in_ok-part-in-Hash-clause-at t c =
    instance_one c.message_over-in-Hash.new.self.messages (P.Hash _) Term.hash (λ m x. says_hash x) (λ g a. refl) _ _ (cc (ap message c.in-Hash.is)) c.in_ok-part-in-Hash.ensures.at _ c.message_over-in-Hash.ensures.at

pub instance-requires-in-Inl : goal.instance-requires-in-Inl
instance-requires-in-Inl t c = (read_less c.decreases c.in-Inl.is c.deref-in-Inl.ensures (omega arith), (search rules, c.requires.names))

pub instance-requires-in-Inr : goal.instance-requires-in-Inr
instance-requires-in-Inr t c = (read_less c.decreases c.in-Inr.is c.deref-in-Inr.ensures (omega arith), (search rules, c.requires.names))

pub instance-requires-in-Hash : goal.instance-requires-in-Hash
instance-requires-in-Hash t c = (read_less c.decreases c.in-Hash.is c.deref-in-Hash.ensures (omega arith), (search rules, c.requires.names))
