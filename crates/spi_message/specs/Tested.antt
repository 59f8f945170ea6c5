-- What a judge's answers say in each environment that the judge stands for.
use Rattle.std.specs.Prelude.{◌≡◌, Bool, None, Some, slice_get}
use Rattle.spi_term.specs.Term.{Message, Effect, Ty, nonce}
use Rattle.spi_rules.specs.Environment.{Env}
use Rattle.spi_intern.specs.Meaning.{Means}
use Rattle.spi_intern.specs.declared.messages.MsgId.{MsgId}
use Rattle.spi_intern.specs.declared.types.TyId.{TyId}
use Rattle.spi_message.specs.Judging.{Numbered, Stands}
use Rattle.spi_message.specs.Tests.{nonce_of}

-- the answer is that of the test in each environment that the judge stands for
pub record IsTest (j : Numbered) (test : Env → Bool) (b : Bool) : Type 0 where
  pub at : (e : Env) → Stands j e → b ≡ test e

-- the number of this message, and of this type
abbrev pub NumbersMessage : Numbered → MsgId → Message → Type 0
NumbersMessage j i m = slice_get j.store.messages i.place ≡ Some m

abbrev pub NumbersType : Numbered → TyId → Ty → Type 0
NumbersType j i t = Means j.store i.place t

-- the number of Nonce es, where the message is a name of such a type
pub record IsNonceAt (j : Numbered) (m : Message) (t : TyId) : Type 0 where
  pub at : (e : Env) → Stands j e
      → (es : Effect) × (nonce_of e m ≡ Some es) × Means j.store t.place (nonce es)

pub record IsNoNonce (j : Numbered) (m : Message) : Type 0 where
  pub at : (e : Env) → Stands j e → nonce_of e m ≡ None

-- each environment of the old judge has this one in the new judge
pub record Turns (old new : Numbered) (f : Env → Env) : Type 0 where
  pub at : (e : Env) → Stands old e → Stands new (f e)
