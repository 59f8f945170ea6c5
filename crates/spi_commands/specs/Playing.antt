-- What `play` answers and promises.
use Rattle.std.specs.Prelude.{◌≡◌, ◌≢◌, ◌⊎◌, ℕ, ◌<◌, ◌≤◌, IfSome, IsSome, List, [], ◌++◌, length, slice_get, codes, Some, None}
use Rattle.std.specs.declared.option.Option.{Option}
use Rattle.std.specs.Fmt.{decimal}
use Rattle.std.specs.Io.KnownBytes.{Appends}
use Rattle.spi_term.specs.Lists.{In}
use Rattle.spi_term.specs.Spelling.{Spelling}
use Rattle.spi_run.specs.Opponent.{IsOpponent}
use Rattle.spi_run.specs.Reduction.{Step, Event}
use Rattle.spi_show.specs.Steps.{schedule_text}
use Rattle.spi_spell.specs.Joined.{joined_texts, with_schedule}
use Rattle.spi_replay.specs.Stepping.{Pooled}
use Rattle.spi_play.specs.Way.{Seen}
use Rattle.spi_play.specs.Play.{TurnOf, start}
use Rattle.spi_play.specs.Outcome.{EndsAt, RefusedAt}
use Rattle.spi_play.specs.declared.plays.Ended.{Ended}
use Rattle.spi_play.specs.declared.plays.PlayFault.{PlayFault}
use Rattle.spi_play.specs.declared.plays.PlayFault.TheVariants.{BadPick, RunMessageTooLarge, TooManyPlaces, NoMemory as OutOfMemory}
use Rattle.spi_scope.specs.StandsFor.{Meant}
use Rattle.spi_commands.specs.declared.status.Status.{Status}
use Rattle.spi_commands.specs.declared.status.Status.TheVariants.{Yes, No, Refused}
use Rattle.spi_commands.specs.Spelled.{limit, SpellsFile, SpellsNone}
use Rattle.spi_commands.specs.Answers.{Answers, never}
use Rattle.spi_commands.specs.Refusals.{layered, IsLineOf, Refuses, IsTooMuch}
use Rattle.spi_commands.specs.Beside.{replay_pool, HasOpponent, LacksOpponent, HasOffence}
use Rattle.spi_commands.specs.Replays.{RunsThrough}

-- how many places a play may have
abbrev pub play_places : ℕ
play_places = 1000

-- the players that were handed in, as they are seen before and after, played so on the file's process beside its opponent
pub record IsPlayed (file : Meant) (most : ℕ) (only : Option ℕ) (before after : List Seen) (steps : List Step)
    (events : List Event) : Type 0 where
  pub opponent : Spelling
  pub beside : HasOpponent file opponent
  pub last : Pooled
  pub ended : Ended
  pub ends : EndsAt only most (start (replay_pool play_places file opponent) before only)
      (record { pool = last; steps = steps; events = events }) after ended

-- or a pick of theirs was refused so, or there was no memory to go on
pub record IsStopped (file : Meant) (most : ℕ) (only : Option ℕ) (before after : List Seen)
    (fault : PlayFault) : Type 0 where
  pub opponent : Spelling
  pub beside : HasOpponent file opponent
  pub last : Pooled
  pub stops : RefusedAt only most (start (replay_pool play_places file opponent) before only) last after fault

-- how many bytes the file and the text of steps behind it have
abbrev pub play_length : List ℕ → List Step → ℕ
play_length bytes steps = length (joined_texts bytes (schedule_text steps))

-- the text has the steps of such a play, and can stand behind the file
abbrev pub IsPlay : ℕ → Option ℕ → List ℕ → List Seen → List Seen → List ℕ → Type 0
IsPlay most only bytes before after output =
    (file : Meant) × (steps : List Step) × (events : List Event) × SpellsFile bytes file
    × IsPlayed file most only before after steps events × (output ≡ schedule_text steps)
    × (length (joined_texts bytes output) ≤ limit)

-- that text is too long for it
abbrev pub HasLongPlay : ℕ → Option ℕ → List ℕ → List Seen → List Seen → ℕ → Option ℕ → List ℕ → Type 0
HasLongPlay most only bytes before after number offset shown =
    (file : Meant) × (steps : List Step) × (events : List Event) × SpellsFile bytes file
    × IsPlayed file most only before after steps events
    × IsTooMuch (play_length bytes steps) number offset shown

-- the text of these steps, or the line of its refusal where it is too long to stand behind the file
abbrev pub ListsTo : List ℕ → List Step → Status → List ℕ → Type 0
ListsTo bytes steps =
    Answers (λ output. (output ≡ schedule_text steps) × (length (joined_texts bytes output) ≤ limit)) never
    (IsLineOf bytes (IsTooMuch (play_length bytes steps)))

-- the number of a refused play's cause, and what it shows
abbrev pub play_number : PlayFault → ℕ
play_number (BadPick player picked ready) = 70
play_number (RunMessageTooLarge nodes) = 71
play_number (TooManyPlaces places) = 72
play_number OutOfMemory = 0

abbrev pub play_shown : PlayFault → List ℕ
play_shown (BadPick player picked ready) =
    decimal player ++ (codes " " ++ (decimal picked ++ (codes " " ++ decimal ready)))
play_shown (RunMessageTooLarge nodes) = decimal nodes
play_shown (TooManyPlaces places) = decimal places
play_shown OutOfMemory = []

-- what a player picked is refused so
pub data IsPlayFault (fault : PlayFault) : ℕ → Option ℕ → List ℕ → Type 0 where
  play_fault : fault ≢ OutOfMemory → IsPlayFault fault (play_number fault) None (play_shown fault)

abbrev pub HasPlayFault : ℕ → Option ℕ → List ℕ → List Seen → List Seen → ℕ → Option ℕ → List ℕ → Type 0
HasPlayFault most only bytes before after number offset shown =
    (file : Meant) × (fault : PlayFault) × SpellsFile bytes file × IsStopped file most only before after fault
    × IsPlayFault fault number offset shown

-- before a player is asked, when the players stay as they are
abbrev pub IsUnplayable : List ℕ → List Seen → List Seen → ℕ → Option ℕ → List ℕ → Type 0
IsUnplayable bytes before after number offset shown =
    layered (Refuses bytes) (layered (LacksOpponent bytes) (HasOffence bytes)) number offset shown
    × (after ≡ before)

-- yes, or a refusal, by the players before and after
abbrev pub PlaysTo : ℕ → Option ℕ → List ℕ → List Seen → List Seen → Status → List ℕ → Type 0
PlaysTo most only bytes before after =
    Answers (IsPlay most only bytes before after) never
    (IsLineOf bytes (layered (IsUnplayable bytes before after)
    (layered (HasPlayFault most only bytes before after) (HasLongPlay most only bytes before after))))

-- Where memory ran out the players are as they were, or as a play of the file left them, which had ended, or stopped at a
-- pick that was refused or for want of memory.
pub data LeavesPlayers (most : ℕ) (only : Option ℕ) (bytes : List ℕ) (before : List Seen) : List Seen
    → Type 0 where
  not_asked : LeavesPlayers most only bytes before before
  asked_to_the_end : {file : Meant} {after : List Seen} {steps : List Step} {events : List Event}
      → SpellsFile bytes file
      → IsPlayed file most only before after steps events → LeavesPlayers most only bytes before after
  stopped : {file : Meant} {after : List Seen} {fault : PlayFault} → SpellsFile bytes file
      → IsStopped file most only before after fault → LeavesPlayers most only bytes before after

-- each player that had one of these turns told its way before the play
abbrev pub AskedTold : List Seen → List TurnOf → Type 0
AskedTold before turns = (turn : TurnOf) → In turn turns
    → IfSome (slice_get before turn.who) (λ player. IsSome player.way)

-- and so did the one that was asked last, whose pick was refused
abbrev pub StoppedTold : {file : Meant} {most : ℕ} {only : Option ℕ} {after : List Seen} {fault : PlayFault}
    (before : List Seen) → IsStopped file most only before after fault → Type 0
StoppedTold before s = AskedTold before s.stops.stands.turns × IsSome s.stops.asks.old.way

-- the bytes spell a file that isn't played, whatever the players do
abbrev pub SpellsUnopposed : List ℕ → Type 0
SpellsUnopposed bytes =
    (file : Meant) × SpellsFile bytes file
    × ((file.opponent ≡ None) ⊎ ((o : Spelling) × (file.opponent ≡ Some o) × (¬ IsOpponent o.process)))

-- and one whose play was stopped by a pick, or has a text that is too long
abbrev pub SpellsStopped : ℕ → Option ℕ → List ℕ → List Seen → List Seen → Type 0
SpellsStopped most only bytes before after =
    (file : Meant) × (fault : PlayFault) × SpellsFile bytes file × IsStopped file most only before after fault
    × (fault ≢ OutOfMemory)

abbrev pub SpellsLongPlay : ℕ → Option ℕ → List ℕ → List Seen → List Seen → Type 0
SpellsLongPlay most only bytes before after =
    (file : Meant) × (steps : List Step) × (events : List Event) × SpellsFile bytes file
    × IsPlayed file most only before after steps events × (limit < play_length bytes steps)

-- `play` answers yes only where the text of a play of these players can stand behind the file, never no, and refused only
-- where the file is none, has no opponent, or the play is stopped by a pick or has a text that is too long; where the file
-- is none or has no opponent it is refused, and no player is asked. Where a play of the file ends and all that were asked
-- in it had told their ways, its text is the answer, or the refusal of that text; where it is stopped by a pick, and they
-- had, it's that refusal. And after a yes, where the file has neither schedule nor derivation, the file, one line feed and
-- the text that was appended are a file whose schedule runs through with the events of the play.
pub record IsPlayedOn (most : ℕ) (only : Option ℕ) (bytes : List ℕ) (before after : List Seen)
    (old new : Option (List ℕ)) (status : Status) : Type 0 where
  pub yes : status ≡ Yes → (output : List ℕ) × IsPlay most only bytes before after output
  pub no : status ≢ No
  pub refused : status ≡ Refused → (SpellsNone bytes ⊎ SpellsUnopposed bytes)
      ⊎ (SpellsStopped most only bytes before after ⊎ SpellsLongPlay most only bytes before after)
  pub unplayed : SpellsNone bytes ⊎ SpellsUnopposed bytes → (status ≡ Refused) × (after ≡ before)
  pub ended : (file : Meant) (others : List Seen) (steps : List Step) (events : List Event)
      → SpellsFile bytes file
      → (played : IsPlayed file most only before others steps events)
      → AskedTold before played.ends.stands.turns
      → (output : List ℕ) × ListsTo bytes steps status output × Appends old new output
  pub stopped : (file : Meant) (others : List Seen) (fault : PlayFault) → SpellsFile bytes file
      → fault ≢ OutOfMemory
      → (s : IsStopped file most only before others fault) → StoppedTold before s
      → (status ≡ Refused)
      × ((output : List ℕ) × IsLineOf bytes (IsPlayFault fault) output × Appends old new output)
  pub joins : status ≡ Yes → (file : Meant) → SpellsFile bytes file → file.schedule ≡ None
      → file.derivation ≡ None
      → (steps : List Step) × (events : List Event) × Appends old new (schedule_text steps)
      × IsPlayed file most only before after steps events
      × SpellsFile (joined_texts bytes (schedule_text steps)) (with_schedule file steps)
      × RunsThrough (with_schedule file steps) events
