-- What the forward pass does with a judge: answers in each environment that the judge stands for, names bound on top of
-- those that were there, and keys kept of more and more messages.
use Rattle.std.specs.Prelude.{◌≡◌, ℕ, List, [], ◌++◌, take, drop, length}
use Rattle.spi_term.specs.Spelling.{Shape}
use Rattle.spi_rules.specs.Environment.{Env}
use Rattle.spi_intern.specs.Meaning.{Keeps}
use Rattle.spi_intern.specs.declared.types.TyId.{TyId}
use Rattle.spi_message.specs.Judging.{Numbered, Stands}
use Rattle.spi_count.specs.declared.keys.Keys.{Keys}
use Rattle.spi_infer.specs.declared.own.Own.{Own}
use Rattle.spi_infer.specs.declared.own.OwnNote.{OwnNote}
use Rattle.spi_infer.specs.declared.waiting.Pending.{Pending}
use Rattle.spi_infer.specs.Own.{AreFormsNoted, IsOwnOf, FormNotedAs}
use Rattle.spi_count.specs.Keeping.{with_keys}
use Rattle.spi_infer.specs.Waiting.{Queued, AreLater}
use Rattle.spi_infer.specs.Passes.{Note, note_of, Wait, settled, entered, scan}

-- more names may be bound, and each number means what it meant
pub record IsAbove (old new : Numbered) : Type 0 where
  pub store : Keeps old.store new.store
  pub free : new.free ≡ old.free
  pub more : List TyId
  pub types : new.types ≡ old.types ++ more

-- what is kept of a form fits it in each environment that the judge stood for
pub record FitsIn (old new : Numbered) (ks : Keys) (x : Shape) (own : Own) : Type 0 where
  pub at : (e : Env) → Stands old e → IsOwnOf new.store (with_keys new.store ks) x (note_of e x).paid own

pub record NotesIn (old new : Numbered) (ks : Keys) (x : Shape) (o : OwnNote) : Type 0 where
  pub at : (e : Env) → Stands old e → FormNotedAs new.store (with_keys new.store ks) x (note_of e x) o

-- the nodes before place i are noted, and the rest is to be noted in an environment that the judge stands for
pub record Walked (ss : List Shape) (start : Env) (i : ℕ) (j : Numbered) (ks : Keys) (ps : List Pending)
    (os : List OwnNote) : Type 0 where
  pub env : Env
  pub stands : Stands j env
  pub waits : List Wait
  pub queued : Queued j.store ps waits
  pub later : AreLater ss (length start) waits
  pub notes : List Note
  pub noted : AreFormsNoted j.store (with_keys j.store ks) (take i ss) notes os
  pub rest : notes ++ scan i env waits (drop i ss) ≡ scan 0 start [] ss

-- What happens at a node in place i with k names in scope: it is noted in the environment that is settled there, and the
-- judge stands for the one that is entered.
pub record IsNodePassed (old new : Numbered) (ks : Keys) (i k : ℕ) (x : Shape) (ws : List Wait)
    (o : OwnNote) : Type 0 where
  pub noted : (e : Env) → Stands old e
      → FormNotedAs new.store (with_keys new.store ks) x (note_of (settled i k e ws) x) o
  pub enters : (e : Env) → Stands old e → Stands new (entered (settled i k e ws) x)
