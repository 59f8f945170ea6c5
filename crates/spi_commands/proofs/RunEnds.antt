-- How a call ends.
use Rattle.std.proofs.Common.{◌≡◌, ◌≢◌, ◌∙◌, ℕ, List, Option, None, Some, IfSome, Result, Ok, Err, IfOk, refl, sym, subst, inl, inr}
use Rattle.std.specs.Prelude.{◌↔◌, IsErrOf}
use Rattle.std.specs.Io.KnownBytes.{Appends}
use Rattle.spi_io.specs.Causes.{Rose, PutsPrefix}
use Rattle.spi_run.specs.Safety.{RobustlySafeMany}
use Rattle.spi_commands.specs.declared.answer.Answer.{Answer}
use Rattle.spi_commands.specs.declared.answer.Stop.{Stop}
use Rattle.spi_commands.specs.declared.answer.Stop.TheVariants.{NoMemory as OutOfMemory}
use Rattle.spi_commands.specs.declared.asked.Command.{Command}
use Rattle.spi_commands.specs.declared.asked.Command.TheVariants.{Check, Play}
use Rattle.spi_commands.specs.declared.status.Status.{Status}
use Rattle.spi_commands.specs.declared.status.Status.TheVariants.{Yes, No, Refused, ReadFault, WriteFault, NoMemory, Usage}
use Rattle.spi_play.specs.Way.{Seen}
use Rattle.spi_commands.specs.Answering.{IsAnsweredBy, KeepPromises}
use Rattle.spi_commands.specs.Asked.{AreNumbersKnown}
use Rattle.spi_commands.specs.Spelled.{IsManySafe}
use Rattle.spi_commands.specs.Checking.{IsExact}
use Rattle.spi_commands.specs.Commands.{Promise}
use Rattle.spi_commands.specs.Playing.{LeavesPlayers}
use Rattle.spi_commands.specs.Run.{Wants, Ends, Completes, IsUndisturbed, IsAnswered}
use Rattle.spi_commands.proofs.FileFacts.{OneFile, Safe}
use Rattle.spi_commands.proofs.CheckPromise.{many_yes}

-- a prefix of the wanted output was put
pub cut_short : (left : Option (List ℕ)) (wants : List ℕ → Status → List ℕ → Type 0) (old new : Option (List ℕ)) (status : Status) (output : List ℕ) → IfSome left (λ bytes. wants bytes status output) → PutsPrefix old new output → IfSome left (λ bytes. Ends (wants bytes) old new WriteFault)
cut_short None wants old new status output wanted prefix = tt
cut_short (Some bytes) wants old new status output wanted prefix = (status, output, wanted, prefix)

-- and the whole of it was
pub put_whole : (wants : Status → List ℕ → Type 0) (old new : Option (List ℕ)) (status : Status) (output : List ℕ) → IsAnswered status → wants status output → Appends old new output → Ends wants old new status
put_whole wants old new Yes output some wanted put = (output, wanted, put)
put_whole wants old new No output some wanted put = (output, wanted, put)
put_whole wants old new Refused output some wanted put = (output, wanted, put)
put_whole wants old new ReadFault output some wanted put = absurd some
put_whole wants old new WriteFault output some wanted put = absurd some
put_whole wants old new NoMemory output some wanted put = absurd some
put_whole wants old new Usage output some wanted put = (output, wanted, put)

-- a call in which nothing failed does what is wanted
completes : (wants : Status → List ℕ → Type 0) (old new : Option (List ℕ)) (status : Status) → ¬ (status ≡ ReadFault) → ¬ (status ≡ WriteFault) → Ends wants old new status → Completes wants old new status
completes wants old new Yes read write ends = inr ends
completes wants old new No read write ends = inr ends
completes wants old new Refused read write ends = inr ends
completes wants old new ReadFault read write ends = absurd (read refl)
completes wants old new WriteFault read write ends = absurd (write refl)
completes wants old new NoMemory read write ends = inl refl
completes wants old new Usage read write ends = inr ends

module _ (asks : Option Command) (left : Option (List ℕ)) (before after : List Seen) (old new : Option (List ℕ)) (status : Status) (r s t u : ℕ) (read : status ≡ ReadFault → Rose r s) (write : status ≡ WriteFault → Rose t u) where
  pub complete : IfSome left (λ bytes. Ends (Wants asks bytes before after) old new status) → IfSome left (λ bytes. ¬ Rose r s → ¬ Rose t u → Completes (Wants asks bytes before after) old new status)
  complete = by left
    where
      by : (left : Option (List ℕ)) → IfSome left (λ bytes. Ends (Wants asks bytes before after) old new status) → IfSome left (λ bytes. ¬ Rose r s → ¬ Rose t u → Completes (Wants asks bytes before after) old new status)
      by None ends = tt
      by (Some bytes) ends = λ no_read no_write. completes (Wants asks bytes before after) old new status (λ e. no_read (read e)) (λ e. no_write (write e)) ends

  -- and keeps its promise
  kept : KeepPromises → (players : ℕ) → (¬ (status ≡ NoMemory) → IfSome asks (AreNumbersKnown players)) → (command : Command) → asks ≡ Some command → (bytes : List ℕ) → Ends (Wants asks bytes before after) old new status → IsUndisturbed r s t u status → Promise command bytes before after old new status
  kept keeps players within command is bytes ends (no_read, no_write, memory) =
      let ends_so : Ends (Wants (Some command) bytes before after) old new status = subst (λ (o : Option Command). Ends (Wants o bytes before after) old new status) is ends in
      let done : Completes (Wants (Some command) bytes before after) old new status = completes (Wants (Some command) bytes before after) old new status (λ e. no_read (read e)) (λ e. no_write (write e)) ends_so in
      elim done [ inl none ↦ absurd (memory none) | inr some ↦ keeps players command (subst (λ (o : Option Command). IfSome o (AreNumbersKnown players)) is (within memory)) bytes before after old new some.0 status some.1 some.2 ]

  pub promise : KeepPromises → (players : ℕ) → (¬ (status ≡ NoMemory) → IfSome asks (AreNumbersKnown players)) → IfSome left (λ bytes. Ends (Wants asks bytes before after) old new status) → (command : Command) → asks ≡ Some command → IfSome left (λ bytes. IsUndisturbed r s t u status → Promise command bytes before after old new status)
  promise keeps players within ends command is = by left ends
    where
      by : (left : Option (List ℕ)) → IfSome left (λ bytes. Ends (Wants asks bytes before after) old new status) → IfSome left (λ bytes. IsUndisturbed r s t u status → Promise command bytes before after old new status)
      by None ends = tt
      by (Some bytes) ends = kept keeps players within command is bytes ends

  pub headline : KeepPromises → (players : ℕ) → (¬ (status ≡ NoMemory) → IfSome asks (AreNumbersKnown players)) → IfSome left (λ bytes. Ends (Wants asks bytes before after) old new status) → asks ≡ Some Check → IfSome left (λ bytes. ¬ Rose r s → ¬ Rose t u → ¬ (status ≡ NoMemory) → IsExact bytes old new status)
  headline keeps players within ends is = by left ends
    where
      by : (left : Option (List ℕ)) → IfSome left (λ bytes. Ends (Wants asks bytes before after) old new status) → IfSome left (λ bytes. ¬ Rose r s → ¬ Rose t u → ¬ (status ≡ NoMemory) → IsExact bytes old new status)
      by None ends = tt
      by (Some bytes) ends = λ no_read no_write memory. (kept keeps players within Check is bytes ends (no_read, no_write, memory)).0

-- a yes of `check`, whatever failed
pub many_to_one : OneFile → Safe RobustlySafeMany → (asks : Option Command) (left : Option (List ℕ)) (before after : List Seen) (old new : Option (List ℕ)) (status : Status) → IfSome left (λ bytes. Ends (Wants asks bytes before after) old new status) → asks ≡ Some Check → IfSome left (λ bytes. status ≡ Yes → IsManySafe bytes)
many_to_one one many asks None before after old new status ends is = tt
many_to_one one many asks (Some bytes) before after old new status ends is = λ e.
    let one_yes : Ends (Wants (Some Check) bytes before after) old new Yes = subst (λ (s : Status). Ends (Wants (Some Check) bytes before after) old new s) e (subst (λ (o : Option Command). Ends (Wants o bytes before after) old new status) is ends) in
    many_yes one many bytes one_yes.0 Yes one_yes.1 refl

-- what a command answers on these bytes
pub wants_on : (asks : Option Command) (own : Command) (bytes : List ℕ) (before after : List Seen) (result : Result Answer Stop) → asks ≡ Some own → IsAnsweredBy own bytes before after result → IfOk result (λ a. Wants asks bytes before after a.status a.output.items)
wants_on asks own bytes before after (Ok a) is h = subst (λ (o : Option Command). Wants o bytes before after a.status a.output.items) (sym is) h
wants_on asks own bytes before after (Err s) is h = tt

-- what a command answers on bytes of which something is known, and how it leaves the players
pub wants_by : (asks : Option Command) (own : Command) (before after : List Seen) (left : Option (List ℕ)) (P : List ℕ → Type 0) (result : Result Answer Stop) → asks ≡ Some own → IfSome left P
    → ((bytes : List ℕ) → P bytes → IsAnsweredBy own bytes before after result) → IfOk result (λ a. IfSome left (λ bytes. Wants asks bytes before after a.status a.output.items))
wants_by asks own before after None P (Ok a) is known h = tt
wants_by asks own before after (Some bytes) P (Ok a) is known h = wants_on asks own bytes before after (Ok a) is (h bytes known)
wants_by asks own before after left P (Err e) is known h = tt

pub left_by : (asks : Option Command) (own : Command) (most : ℕ) (only : Option ℕ) (before after : List Seen) (left : Option (List ℕ)) (P : List ℕ → Type 0) (result : Result Answer Stop) → asks ≡ Some own → asks ≡ Some (Play most only) → IfSome left P
    → ((bytes : List ℕ) → P bytes → IsAnsweredBy own bytes before after result) → IsErrOf result OutOfMemory → IfSome left (λ bytes. LeavesPlayers most only bytes before after)
left_by asks own most only before after None P result is play known h err = tt
left_by asks own most only before after (Some bytes) P (Ok a) is play known h err = absurd (cc)
left_by asks own most only before after (Some bytes) P (Err s) is play known h err =
    (h bytes known).1 most only (let same : Some own ≡ Some (Play most only) = sym is ∙ play in cc)

-- and one whose answer goes by no bytes
pub wants_always : (asks : Option Command) (own : Command) (before after : List Seen) (left : Option (List ℕ)) (result : Result Answer Stop) → asks ≡ Some own
    → ((bytes : List ℕ) → IsAnsweredBy own bytes before after result) → IfOk result (λ a. IfSome left (λ bytes. Wants asks bytes before after a.status a.output.items))
wants_always asks own before after None (Ok a) is h = tt
wants_always asks own before after (Some bytes) (Ok a) is h = wants_on asks own bytes before after (Ok a) is (h bytes)
wants_always asks own before after left (Err s) is h = tt

-- a command is no want of a usage line
pub never_usage : (asks : Option Command) (own : Command) (result : Result Answer Stop) → asks ≡ Some own → IfOk result (λ a. IsAnswered a.status × (a.status ≢ Usage)) → IfOk result (λ a. (a.status ≡ Usage) ↔ (asks ≡ None))
never_usage asks own (Ok a) is h = (λ e. absurd (h.1 e), λ e. absurd (cc))
never_usage asks own (Err s) is h = tt
