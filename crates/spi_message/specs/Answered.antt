-- What a judge has answered, as it's kept: questions with their answers, in the order of being given.
use Rattle.std.specs.Prelude.{◌≡◌, ◌↔◌, ℕ, ◌+◌, ◌<◌, ◌≤◌, Bool, true, List, [], Some, take, length, slice_get}
use Rattle.spi_term.specs.Term.{Message, Ty}
use Rattle.spi_rules.specs.Environment.{Env}
use Rattle.spi_rules.specs.Messages.{HasType, IsLabel}
use Rattle.spi_rules.specs.Good.{GoodTy}
use Rattle.spi_intern.specs.Given.{IsGiven}
use Rattle.spi_intern.specs.Meaning.{Means}
use Rattle.spi_intern.specs.declared.types.TyId.{TyId}
use Rattle.spi_intern.specs.declared.store.Store.{Store}
use Rattle.spi_message.specs.declared.answers.Asked.{Asked}
use Rattle.spi_message.specs.declared.answers.Asked.TheVariants.{Typed, Labelled, Good}
use Rattle.spi_message.specs.declared.answers.Question.{Question}
use Rattle.spi_message.specs.Judging.{StandFor, IsGivenSmall, IsJudge}

abbrev pub Entries : Type 0
Entries = List (Question × Bool)

abbrev pub question : ℕ → Asked → Question
question n a = record { names = n; asked = a }

-- the answer b to a question is what the rules say, in each environment that the numbers of the names stand for
abbrev pub TellsTest : Store → List TyId → Asked → Bool → Type 0
TellsTest s ids (Typed m t) b = (env : Env) (n : Message) (u : Ty) → StandFor s ids env
    → slice_get s.messages m.place ≡ Some n → Means s t.place u → (b ≡ true) ↔ HasType [] env n u
TellsTest s ids (Labelled m) b = (env : Env) (n : Message) → StandFor s ids env
    → slice_get s.messages m.place ≡ Some n → (b ≡ true) ↔ IsLabel [] env n
TellsTest s ids (Good t) b = (env : Env) (u : Ty) → StandFor s ids env → Means s t.place u
    → (b ≡ true) ↔ GoodTy [] env u

-- the question is over numbers of the store, and a type is small enough to be judged where so many names are in scope
abbrev pub CanAsk : Store → ℕ → Asked → Type 0
CanAsk s names (Typed m t) = (m.place < length s.messages) × IsGiven s t.place
CanAsk s names (Labelled m) = m.place < length s.messages
CanAsk s names (Good t) = IsGivenSmall s t.place names

-- the answer was given where the first names alone were in scope
pub record IsTestAnswer (s : Store) (ids : List TyId) (q : Question) (b : Bool) : Type 0 where
  pub within : q.names ≤ length ids
  pub asked : CanAsk s q.names q.asked
  pub tells : TellsTest s (take q.names ids) q.asked b

-- What is kept in an environment. The later an answer was given, the more names were in scope: those of a name's
-- scope are the last ones.
pub record AreAnswers (s : Store) (ids : List TyId) (es : Entries) : Type 0 where
  pub each : (i : ℕ) (q : Question) (b : Bool) → slice_get es i ≡ Some (q, b) → IsTestAnswer s ids q b
  pub order : (i j : ℕ) (q r : Question) (b c : Bool) → i < j → slice_get es i ≡ Some (q, b)
      → slice_get es j ≡ Some (r, c) → q.names ≤ r.names

-- b is kept as the answer to q
pub record IsKeptAnswer (es : Entries) (q : Question) (b : Bool) : Type 0 where
  pub place : ℕ
  pub at : slice_get es place ≡ Some (q, b)

-- no answer to q is kept
pub record IsNew (es : Entries) (q : Question) : Type 0 where
  pub none : (b : Bool) → IsKeptAnswer es q b → ⊥

-- the last answer, if any, was given where at most so many names were in scope
pub record EndsWithin (es : Entries) (names : ℕ) : Type 0 where
  pub last : (i : ℕ) (q : Question) (b : Bool) → slice_get es i ≡ Some (q, b) → i + 1 ≡ length es
      → q.names ≤ names

-- what holds of the fields of every judge, with the answers that it keeps
pub record IsInside (s : Store) (free : ℕ) (ids : List TyId) (es : Entries) : Type 0 where
  pub judge : IsJudge s free ids
  pub answers : AreAnswers s ids es
