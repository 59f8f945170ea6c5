-- What each command answers, and what it promises. The bytes are the input, and the players are seen so before and after.
-- A command without input depends on no bytes.
use Rattle.std.specs.Prelude.{◌≡◌, ℕ, List}
use Rattle.std.specs.declared.option.Option.{Option}
use Rattle.spi_play.specs.Way.{Seen}
use Rattle.spi_commands.specs.declared.asked.Command.{Command}
use Rattle.spi_commands.specs.declared.asked.Command.TheVariants.{Check, Derive, Verify, Replay, Play, Print, Load, Upgrade, Narrate, Knows, Bench}
use Rattle.spi_commands.specs.declared.status.Status.{Status}
use Rattle.spi_commands.specs.declared.status.Status.TheVariants.{Yes}
use Rattle.spi_commands.specs.Spelled.{IsManySafe}
use Rattle.spi_commands.specs.Checking.{ChecksTo, IsExact}
use Rattle.spi_commands.specs.Deriving.{DerivesTo, IsDerived}
use Rattle.spi_commands.specs.Verifying.{VerifiesTo, IsVerified}
use Rattle.spi_commands.specs.Replaying.{ReplaysTo, IsReplayed}
use Rattle.spi_commands.specs.Playing.{PlaysTo, IsPlayedOn}
use Rattle.spi_commands.specs.Printing.{PrintsTo, IsPrinted}
use Rattle.spi_commands.specs.Upgrading.{UpgradesTo, IsUpgraded}
use Rattle.spi_commands.specs.Narrating.{NarratesTo, IsNarrated}
use Rattle.spi_commands.specs.Loading.{LoadsTo, IsLoadedOn}
use Rattle.spi_commands.specs.Knowing.{KnowsTo, IsKnownOn}
use Rattle.spi_commands.specs.Benching.{BenchesTo, IsBenchedOn}

-- the status and the output
abbrev pub AnswersTo : Command → List ℕ → List Seen → List Seen → Status → List ℕ → Type 0
AnswersTo Check bytes before after = ChecksTo bytes
AnswersTo Derive bytes before after = DerivesTo bytes
AnswersTo Verify bytes before after = VerifiesTo bytes
AnswersTo Replay bytes before after = ReplaysTo bytes
AnswersTo (Play most only) bytes before after = PlaysTo most only bytes before after
AnswersTo Print bytes before after = PrintsTo bytes
AnswersTo (Load sessions) bytes before after = LoadsTo sessions
AnswersTo Upgrade bytes before after = UpgradesTo bytes
AnswersTo Narrate bytes before after = NarratesTo bytes
AnswersTo (Knows name) bytes before after = KnowsTo name bytes
AnswersTo Bench bytes before after = BenchesTo bytes

-- what is so where no fault rose and memory didn't run out, where what the sink holds went from old to new
abbrev pub Promise : Command → List ℕ → List Seen → List Seen → Option (List ℕ) → Option (List ℕ) → Status
    → Type 0
Promise Check bytes before after old new status = IsExact bytes old new status
    × (status ≡ Yes → IsManySafe bytes)
Promise Derive bytes before after old new status = IsDerived bytes old new status
Promise Verify bytes before after old new status = IsVerified bytes status
Promise Replay bytes before after old new status = IsReplayed bytes status
Promise (Play most only) bytes before after old new status =
    IsPlayedOn most only bytes before after old new status
Promise Print bytes before after old new status = IsPrinted bytes old new status
Promise (Load sessions) bytes before after old new status = IsLoadedOn sessions old new status
Promise Upgrade bytes before after old new status = IsUpgraded bytes old new status
Promise Narrate bytes before after old new status = IsNarrated bytes old new status
Promise (Knows name) bytes before after old new status = IsKnownOn name bytes old new status
Promise Bench bytes before after old new status = IsBenchedOn bytes old new status
