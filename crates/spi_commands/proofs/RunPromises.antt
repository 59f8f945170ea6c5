-- From what a command answers to what it promises.
use Rattle.std.proofs.Common.{ℕ, List, Option, refl}
use Rattle.std.specs.Io.KnownBytes.{Appends}
use Rattle.spi_play.specs.Way.{Seen}
use Rattle.spi_commands.specs.declared.asked.Command.{Command}
use Rattle.spi_commands.specs.declared.asked.Command.TheVariants.{Check, Derive, Verify, Replay, Play, Print, Load, Upgrade, Narrate, Knows, Bench}
use Rattle.spi_commands.specs.declared.status.Status.{Status}
use Rattle.spi_commands.specs.declared.status.Status.TheVariants.{Yes, No, Refused, ReadFault, WriteFault, NoMemory, Usage}
use Rattle.spi_commands.specs.Asked.{AreNumbersKnown}
use Rattle.spi_commands.specs.Loading.{LoadsTo, IsLoadedOn}
use Rattle.spi_commands.specs.Commands.{AnswersTo, Promise}
use Rattle.spi_commands.proofs.FileFacts.{FileFacts}
use Rattle.spi_commands.proofs.CheckPromise.{exactly, many_yes}
use Rattle.spi_commands.proofs.DerivePromise.{derives}
use Rattle.spi_commands.proofs.VerifyPromise.{verifies}
use Rattle.spi_commands.proofs.ReplayPromise.{replays}
use Rattle.spi_commands.proofs.PlayPromise.{plays}
use Rattle.spi_commands.proofs.KnowsPromise.{knows}
use Rattle.spi_commands.proofs.BenchPromise.{benches}
use Rattle.spi_commands.proofs.PrintPromise.{prints}
use Rattle.spi_commands.proofs.UpgradePromise.{upgrades}
use Rattle.spi_commands.proofs.UpgradeParts.{upgrade_reads_back}
use Rattle.spi_commands.proofs.NarratePromise.{narrates}

loads : (k : ℕ) (old new : Option (List ℕ)) (output : List ℕ) (status : Status) → LoadsTo k status output → Appends old new output → IsLoadedOn k old new status
loads k old new output Yes is put = record { yes = refl; written = (output, is, put) }
loads k old new output No is put = absurd is
loads k old new output Refused is put = absurd is
loads k old new output ReadFault is put = absurd is
loads k old new output WriteFault is put = absurd is
loads k old new output NoMemory is put = absurd is
loads k old new output Usage is put = absurd is

pub promised : FileFacts → (players : ℕ) (command : Command) → AreNumbersKnown players command → (bytes : List ℕ) (before after : List Seen) (old new : Option (List ℕ)) (output : List ℕ) (status : Status) → AnswersTo command bytes before after status output → Appends old new output → Promise command bytes before after old new status
promised l players Check within bytes before after old new output status is put = (exactly l.none_of l.one l.safe bytes old new output status is put, many_yes l.one l.many bytes output status is)
promised l players Derive within bytes before after old new output status is put = derives l.one bytes l.none_of l.canonical l.derivation old new output status is put
promised l players Verify within bytes before after old new output status is put = verifies l.one bytes l.none_of l.safe l.many output status is
promised l players Replay within bytes before after old new output status is put = replays l.one bytes l.none_of l.safe l.many output status is
promised l players (Play most only) within bytes before after old new output status is put = plays l.one l.none_of l.schedule most only bytes before after old new output status within.0 is put
promised l players Print within bytes before after old new output status is put = prints l.one l.none_of bytes l.reads old new output status is put
promised l players (Load sessions) within bytes before after old new output status is put = loads sessions old new output status is put
promised l players Upgrade within bytes before after old new output status is put = upgrades l.one l.none_of bytes upgrade_reads_back old new output status is put
promised l players Narrate within bytes before after old new output status is put = narrates l.one l.none_of l.narrations bytes old new output status is put
promised l players (Knows name) within bytes before after old new output status is put = knows l.one name bytes old new l.none_of l.keys output status is put
promised l players Bench within bytes before after old new output status is put = benches l.lexing l.one bytes old new output status is put
