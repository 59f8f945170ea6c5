-- What `check` promises.
use Rattle.std.proofs.Common.{◌≡◌, ℕ, List, Option, refl, subst}
use Rattle.std.specs.Io.KnownBytes.{Appends}
use Rattle.spi_run.specs.Safety.{RobustlySafe, RobustlySafeMany}
use Rattle.spi_commands.specs.declared.status.Status.{Status}
use Rattle.spi_commands.specs.declared.status.Status.TheVariants.{Yes, No, Refused, ReadFault, WriteFault, NoMemory, Usage}
use Rattle.spi_commands.specs.Spelled.{SpellsNone, IsManySafe}
use Rattle.spi_commands.specs.Checking.{ChecksTo, IsExact}
use Rattle.spi_commands.proofs.FileFacts.{OneFile, RefusedNone, Safe, one_verdict, holds_after}

pub exactly : RefusedNone → OneFile → Safe RobustlySafe → (bytes : List ℕ) (old new : Option (List ℕ)) (output : List ℕ) (status : Status) → ChecksTo bytes status output → Appends old new output → IsExact bytes old new status
exactly none_of one safe bytes old new output Yes is put = record {
  yes = (λ e. is.0, λ a. refl);
  no = (λ e. absurd (cc), λ r. absurd (one_verdict one bytes is.0 r));
  refused = (λ e. absurd (cc), λ none. absurd (none is.0.0 is.0.1));
  written = (output, is, put);
  safe = λ e. holds_after RobustlySafe one safe bytes is.0;
}
exactly none_of one safe bytes old new output No is put = record {
  yes = (λ e. absurd (cc), λ a. absurd (one_verdict one bytes a is.0));
  no = (λ e. is.0, λ r. refl);
  refused = (λ e. absurd (cc), λ none. absurd (none is.0.0 is.0.1));
  written = (output, is, put);
  safe = λ e. absurd (cc);
}
exactly none_of one safe bytes old new output Refused is put =
    let none : SpellsNone bytes = none_of bytes is.0.number is.0.offset is.0.shown.items is.1 in record {
      yes = (λ e. absurd (cc), λ a. absurd (none a.0 a.1));
      no = (λ e. absurd (cc), λ r. absurd (none r.0 r.1));
      refused = (λ e. none, λ n. refl);
      written = (output, is, put);
      safe = λ e. absurd (cc);
    }
exactly none_of one safe bytes old new output ReadFault is put = absurd is
exactly none_of one safe bytes old new output WriteFault is put = absurd is
exactly none_of one safe bytes old new output NoMemory is put = absurd is
exactly none_of one safe bytes old new output Usage is put = absurd is

-- and a yes promises the same of endmany events
pub many_yes : OneFile → Safe RobustlySafeMany → (bytes output : List ℕ) (status : Status) → ChecksTo bytes status output → status ≡ Yes → IsManySafe bytes
many_yes one many bytes output status is e =
    let one_yes : ChecksTo bytes Yes output = subst (λ (s : Status). ChecksTo bytes s output) e is in
    holds_after RobustlySafeMany one many bytes one_yes.0
