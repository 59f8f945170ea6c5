-- What `narrate` promises.
use Rattle.std.proofs.Common.{◌≡◌, ◌⊎◌, inl, inr, ℕ, List, Option, subst}
use Rattle.std.specs.Io.KnownBytes.{Appends}
use Rattle.spi_narrate.specs.Narrations as n
use Rattle.spi_narrator.specs.Answers.{IsTold}
use Rattle.spi_commands.specs.declared.status.Status.{Status}
use Rattle.spi_commands.specs.Spelled.{SpellsFile}
use Rattle.spi_commands.specs.Canonical.{IsLong}
use Rattle.spi_commands.specs.Narrating.{SpellsTelling, RefusesNarrate, NarratesTo, SpellsUntold, SpellsLongTelling, IsNarrated}
use Rattle.spi_commands.proofs.FileFacts.{OneFile, RefusedNone}
use Rattle.spi_commands.proofs.AnswerLines.{yes_or_refused, accepted_at}
use Rattle.spi_commands.proofs.AnswerText.{never_longer}
use Rattle.spi_commands.proofs.NarrateOnce.{NarrationFacts}
use Rattle.spi_commands.proofs.NarrateRuns.{runs_as_told}

module _ (one : OneFile) (none_of : RefusedNone) (k : NarrationFacts) (bytes : List ℕ) where
  never_long : (output : List ℕ) → SpellsTelling bytes output → SpellsLongTelling bytes → ⊥
  never_long output (x, told, is, tells, shown) (y, other, that, means, long) =
      let same = k.one bytes y x that.0 is.0 in
      let file : other ≡ told = k.told x other told (subst (λ (z : n.Narration). IsTold z other) same means) tells in
      never_longer told output shown (subst IsLong file long)

  told_never : (output : List ℕ) → SpellsTelling bytes output → SpellsUntold bytes ⊎ SpellsLongTelling bytes → ⊥
  told_never output (x, told, is, tells, shown) (inl none) = none x told is tells
  told_never output t (inr long) = never_long output t long

  pub narrates : (old new : Option (List ℕ)) (output : List ℕ) (status : Status) → NarratesTo bytes status output → Appends old new output → IsNarrated bytes old new status
  narrates old new output status is put =
      let exactly = yes_or_refused bytes (SpellsTelling bytes) (RefusesNarrate bytes) (SpellsUntold bytes ⊎ SpellsLongTelling bytes) told_never (k.untold bytes) output status is in
      record {
        yes = exactly.yes;
        refused = exactly.refused;
        told = λ e y that.
            let (x, told, own, tells, shown) = accepted_at bytes (SpellsTelling bytes) (RefusesNarrate bytes) output status is e in
            let same : x ≡ y = k.one bytes x y own.0 that.0 in
            let means : IsTold y told = subst (λ (z : n.Narration). IsTold z told) same tells in
            let spells : SpellsFile output told = k.reads bytes y told output that means shown in
            (told, output, put, means, shown, spells, runs_as_told y told means one none_of output spells);
      }
