-- What `replay` promises.
use Rattle.std.proofs.Common.{◌⊎◌, ℕ, ◌≤◌, List, refl, subst, inl, inr, arith}
use Rattle.spi_scope.specs.StandsFor.{Meant}
use Rattle.spi_run.specs.Reduction.{Event}
use Rattle.spi_run.specs.Safety.{Paid, PaidMany, RobustlySafe, RobustlySafeMany}
use Rattle.spi_commands.specs.declared.status.Status.{Status}
use Rattle.spi_commands.specs.declared.status.Status.TheVariants.{Yes, No, Refused, ReadFault, WriteFault, NoMemory, Usage}
use Rattle.spi_commands.specs.Spelled.{SpellsFile, SpellsDerivable, SpellsNone}
use Rattle.spi_commands.specs.Replays.{RunsThrough, IsUnplayed, SpellsUnplayed}
use Rattle.spi_commands.specs.Replaying.{AreEventsPaid, SpellsPaid, SpellsUnpaid, ReplaysTo, IsReplayed}
use Rattle.spi_commands.proofs.FileFacts.{OneFile, Safe, RefusedNone, holds_after}
use Rattle.spi_commands.proofs.FileParts.{process_over_names, opponent_over_names}
use Rattle.spi_commands.proofs.ScheduleSteps.{runs_of}
use Rattle.spi_commands.proofs.ScheduleFiles.{never_unplayed, runs_once, unreplayed}

module _ (one : OneFile) (bytes : List ℕ) where
  -- the events of the file that the bytes spell
  never_both : (f g : Meant) (es fs : List Event) → SpellsFile bytes f → SpellsFile bytes g → RunsThrough f es → RunsThrough g fs → AreEventsPaid es → AreEventsPaid fs
  never_both f g es fs spells other a b paid =
      let same = runs_once g es fs (subst (λ (h : Meant). RunsThrough h es) (one bytes f g spells other) a) b in
      subst (λ (l : List Event). AreEventsPaid l) same paid

  paid_never : SpellsPaid bytes → SpellsUnpaid bytes → ⊥
  paid_never (f, es, spells, a, paid) (g, fs, other, b, unpaid) = unpaid (never_both f g es fs spells other a b paid)

  played_never : (f : Meant) (es : List Event) → SpellsFile bytes f → RunsThrough f es → SpellsNone bytes ⊎ SpellsUnplayed bytes → ⊥
  played_never f es spells a (inl none) = none f spells
  played_never f es spells a (inr (g, other, why)) = never_unplayed f es a (subst (λ (h : Meant). IsUnplayed h) (one bytes g f other spells) why)

  -- what runs through beside an opponent, with an event that isn't paid, refutes each derivation
  unpaid_underivable : Safe RobustlySafe → Safe RobustlySafeMany → SpellsUnpaid bytes → ¬ SpellsDerivable bytes
  unpaid_underivable safe many (f, es, spells, a, unpaid) derivable =
      let (tree, is, stands) = spells in
      let n : ℕ = f.process.names in
      let least : n ≤ n = omega arith in
      let over = process_over_names tree f stands in
      let joins = opponent_over_names tree f a.opponent stands a.beside.0 in
      let runs = runs_of a.replays in
      let paid : Paid es = holds_after RobustlySafe one safe bytes derivable f spells a.opponent.process n a.steps es a.last.configuration a.beside.1 least over joins runs in
      let paid_many : PaidMany es = holds_after RobustlySafeMany one many bytes derivable f spells a.opponent.process n a.steps es a.last.configuration a.beside.1 least over joins runs in
      unpaid (paid, paid_many)

  -- a refusal
  unplayed_is : SpellsNone bytes ⊎ SpellsUnplayed bytes → IsReplayed bytes Refused
  unplayed_is why = record {
    yes = (λ e. absurd (cc), λ p. absurd (played_never p.0 p.1 p.2 p.3 why));
    no = (λ e. absurd (cc), λ p. absurd (played_never p.0 p.1 p.2 p.3 why));
    refused = (λ e. why, λ r. refl);
    refutes = λ e. absurd (cc);
  }

  pub replays : RefusedNone → Safe RobustlySafe → Safe RobustlySafeMany → (output : List ℕ) (status : Status) → ReplaysTo bytes status output → IsReplayed bytes status
  replays none_of safe many output Yes (f, es, spells, a, paid, text) = record {
    yes = (λ e. (f, es, spells, a, paid), λ p. refl);
    no = (λ e. absurd (cc), λ r. absurd (paid_never (f, es, spells, a, paid) r));
    refused = (λ e. absurd (cc), λ r. absurd (played_never f es spells a r));
    refutes = λ e. absurd (cc);
  }
  replays none_of safe many output No (f, es, spells, a, unpaid, text) = record {
    yes = (λ e. absurd (cc), λ p. absurd (paid_never p (f, es, spells, a, unpaid)));
    no = (λ e. (f, es, spells, a, unpaid), λ r. refl);
    refused = (λ e. absurd (cc), λ r. absurd (played_never f es spells a r));
    refutes = λ e. unpaid_underivable safe many (f, es, spells, a, unpaid);
  }
  replays none_of safe many output Refused (r, why, line) = unplayed_is (unreplayed bytes none_of r.number r.offset r.shown.items why)
  replays none_of safe many output ReadFault is = absurd is
  replays none_of safe many output WriteFault is = absurd is
  replays none_of safe many output NoMemory is = absurd is
  replays none_of safe many output Usage is = absurd is
