-- What `play` promises.
use Rattle.std.proofs.Common.{◌≡◌, ◌≢◌, ◌⊎◌, ℕ, ◌≤◌, List, length, slice_get, Option, None, Some, refl, sym, ap, ◌∙◌, subst, inl, inr, arith}
use Rattle.std.specs.Io.KnownBytes.{Appends}
use Rattle.spi_term.specs.Spelling.{Spelling}
use Rattle.spi_run.specs.Opponent.{IsOpponent}
use Rattle.spi_run.specs.Reduction.{Step, Event}
use Rattle.spi_replay.specs.Stepping.{places_most}
use Rattle.spi_scope.specs.StandsFor.{Meant}
use Rattle.spi_show.specs.Steps.{schedule_text}
use Rattle.spi_play.specs.Way.{Seen}
use Rattle.spi_play.specs.Play.{PlayState, TurnOf, Plays, start}
use Rattle.spi_play.specs.declared.plays.PlayFault.{PlayFault}
use Rattle.spi_play.specs.declared.plays.PlayFault.TheVariants.{NoMemory as OutOfMemory}
use Rattle.spi_commands.specs.declared.status.Status.{Status}
use Rattle.spi_commands.specs.declared.status.Status.TheVariants.{Yes, No, Refused, ReadFault, WriteFault, NoMemory, Usage}
use Rattle.spi_spell.specs.Joined.{joined_texts, with_schedule}
use Rattle.spi_commands.specs.Spelled.{limit, SpellsFile, SpellsNone}
use Rattle.spi_commands.specs.Refusals.{IsLineOf, IsTooMuch}
use Rattle.spi_commands.specs.Beside.{replay_pool, HasOpponent}
use Rattle.spi_commands.specs.Replays.{RunsThrough}
use Rattle.spi_commands.specs.Playing.{play_places, play_length, IsPlayed, IsStopped, IsPlay, IsPlayFault, play_fault, PlaysTo, IsUnplayable, AskedTold, StoppedTold, SpellsUnopposed, IsPlayedOn}
use Rattle.spi_commands.proofs.FileFacts.{OneFile, RefusedNone, ScheduleJoins}
use Rattle.spi_commands.proofs.AnswerLines.{more_than}
use Rattle.spi_commands.proofs.ScheduleFiles.{offends, same_some}
use Rattle.spi_commands.proofs.PlaySteps.{widened, play_replays}
use Rattle.spi_commands.proofs.PlayTold.{PlayStopsAt, ended_both, ended_stopped, stopped_ended, stopped_both}

-- ---- two plays of a file

-- where they stand at their end
abbrev end_of : {file : Meant} {most : ℕ} {only : Option ℕ} {before after : List Seen} {ss : List Step} {es : List Event} → IsPlayed file most only before after ss es → PlayState
end_of {ss = ss} {es = es} p = record { course = record { pool = p.last; steps = ss; events = es }; seats = p.ends.stands.seats; next = p.ends.next }

abbrev stop_of : {file : Meant} {most : ℕ} {only : Option ℕ} {before after : List Seen} {fault : PlayFault} → IsStopped file most only before after fault → PlayState
stop_of p = record { course = record { pool = p.last; steps = p.stops.steps; events = p.stops.events }; seats = p.stops.stands.seats; next = p.stops.next }

abbrev stops_at : {file : Meant} {most : ℕ} {only : Option ℕ} {before after : List Seen} {fault : PlayFault} → (s : IsStopped file most only before after fault) → PlayStopsAt only most (stop_of s) fault
stops_at s = record {
  place = s.stops.place;
  ready = s.stops.ready;
  picked = s.stops.picked;
  old = s.stops.asks.old;
  new = s.stops.asks.new;
  goes_on = s.stops.goes_on;
  was = ap (λ (l : List Seen). slice_get l s.stops.place) s.stops.stands.seen ∙ s.stops.asks.was;
  picks = s.stops.asks.picks;
  refused = s.stops.refused;
}

module _ (file : Meant) (most : ℕ) (only : Option ℕ) (before : List Seen) where
  -- a play that starts beside another opponent of the file starts so
  beside_same : (o u : Spelling) (ts : List TurnOf) (m : PlayState) → HasOpponent file o → HasOpponent file u → Plays only most (start (replay_pool play_places file u) before only) ts m → Plays only most (start (replay_pool play_places file o) before only) ts m
  beside_same o u ts m a b plays = subst (λ (x : Spelling). Plays only most (start (replay_pool play_places file x) before only) ts m) (same_some b.0 a.0) plays

  same_steps : (after others : List Seen) (ss ts : List Step) (es fs : List Event) (a : IsPlayed file most only before others ss es) (b : IsPlayed file most only before after ts fs) → AskedTold before a.ends.stands.turns → ts ≡ ss
  same_steps after others ss ts es fs a b told =
      ended_both before only most (replay_pool play_places file a.opponent) a.ends.stands.turns b.ends.stands.turns (end_of a) (end_of b) told a.ends.stands.plays
      (beside_same a.opponent b.opponent b.ends.stands.turns (end_of b) a.beside b.beside b.ends.stands.plays) a.ended b.ended a.ends.end b.ends.end

  ends_never_stops : (after others : List Seen) (ss : List Step) (es : List Event) (fault : PlayFault) (a : IsPlayed file most only before others ss es) (b : IsStopped file most only before after fault) → AskedTold before a.ends.stands.turns → fault ≢ OutOfMemory → ⊥
  ends_never_stops after others ss es fault a b told some =
      ended_stopped before only most (replay_pool play_places file a.opponent) a.ends.stands.turns b.stops.stands.turns (end_of a) (stop_of b) told a.ends.stands.plays
      (beside_same a.opponent b.opponent b.stops.stands.turns (stop_of b) a.beside b.beside b.stops.stands.plays) a.ended fault a.ends.end (stops_at b) some

  stops_never_ends : (after others : List Seen) (ss : List Step) (es : List Event) (fault : PlayFault) (a : IsStopped file most only before others fault) (b : IsPlayed file most only before after ss es) → StoppedTold before a → fault ≢ OutOfMemory → ⊥
  stops_never_ends after others ss es fault a b told some =
      stopped_ended before only most (replay_pool play_places file a.opponent) a.stops.stands.turns b.ends.stands.turns (stop_of a) (end_of b) told.0 a.stops.stands.plays
      (beside_same a.opponent b.opponent b.ends.stands.turns (end_of b) a.beside b.beside b.ends.stands.plays) fault b.ended (stops_at a) some told.1 b.ends.end

  same_stop : (after others : List Seen) (f g : PlayFault) (a : IsStopped file most only before others f) (b : IsStopped file most only before after g) → StoppedTold before a → f ≢ OutOfMemory → g ≢ OutOfMemory → f ≡ g
  same_stop after others f g a b told some other =
      stopped_both before only most (replay_pool play_places file a.opponent) a.stops.stands.turns b.stops.stands.turns (stop_of a) (stop_of b) told.0 a.stops.stands.plays
      (beside_same a.opponent b.opponent b.stops.stands.turns (stop_of b) a.beside b.beside b.stops.stands.plays) f g (stops_at a) some other told.1 (stops_at b)

-- ---- the promise

-- the text of a play behind its file is a schedule that runs through
joins : OneFile → ScheduleJoins → (most : ℕ) (only : Option ℕ) (bytes : List ℕ) (before after : List Seen) (old new : Option (List ℕ)) (output : List ℕ) → most ≤ 1000 → IsPlay most only bytes before after output → Appends old new output → (file : Meant) → SpellsFile bytes file → file.schedule ≡ None → file.derivation ≡ None
    → (steps : List Step) × (events : List Event) × Appends old new (schedule_text steps) × IsPlayed file most only before after steps events × SpellsFile (joined_texts bytes (schedule_text steps)) (with_schedule file steps) × RunsThrough (with_schedule file steps) events
joins one law most only bytes before after old new output few (f, ss, es, spells, played, text, short) put file own no_steps none =
    let here : IsPlayed file most only before after ss es = subst (λ (g : Meant). IsPlayed g most only before after ss es) (one bytes f file spells own) played in
    let stands = here.ends.stands in
    let (low, places, (talks, replays)) = play_replays only most places_most (replay_pool play_places file here.opponent) before stands.turns (record { course = record { pool = here.last; steps = ss; events = es }; seats = stands.seats; next = here.ends.next }) (omega arith) (omega arith) (omega arith) stands.plays in
    let listed : Appends old new (schedule_text ss) = subst (λ t. Appends old new t) text put in
    let fits : length (joined_texts bytes (schedule_text ss)) ≤ limit = subst (λ t. length (joined_texts bytes t) ≤ limit) text short in
    let through : RunsThrough (with_schedule file ss) es = record { opponent = here.opponent; steps = ss; talks = talks; last = widened places_most here.last; beside = here.beside; schedule = refl; replays = replays } in
    (ss, es, listed, here, law bytes file ss own no_steps none (omega (arith, low, few)) places fits, through)

fault_some : {fault : PlayFault} {number : ℕ} {offset : Option ℕ} {shown : List ℕ} → IsPlayFault fault number offset shown → fault ≢ OutOfMemory
fault_some (play_fault some) = some

module _ (one : OneFile) (none_of : RefusedNone) (law : ScheduleJoins) (most : ℕ) (only : Option ℕ) (bytes : List ℕ) (before after : List Seen) where
  -- what isn't played, whatever the players do
  abbrev Unplayed : Type 0
  Unplayed = SpellsNone bytes ⊎ SpellsUnopposed bytes

  unplayable_is : (number : ℕ) (offset : Option ℕ) (shown : List ℕ) → IsUnplayable bytes before after number offset shown → Unplayed
  unplayable_is number offset shown (inl refuses, same) = inl (none_of bytes number offset shown refuses)
  unplayable_is number offset shown (inr (inl (f, spells, none, lack)), same) = inr (f, spells, inl none)
  unplayable_is number offset shown (inr (inr h), same) = let (f, spells, o) = offends h in inr (f, spells, inr o)

  -- what is played has a file and an opponent
  never_unplayed : (f : Meant) (o : Spelling) → SpellsFile bytes f → HasOpponent f o → Unplayed → ⊥
  never_unplayed f o spells has (inl none) = none f spells
  never_unplayed f o spells has (inr (g, other, inl none)) =
      let e : Some o ≡ None = sym has.0 ∙ subst (λ (x : Meant). x.opponent ≡ None) (one bytes g f other spells) none in absurd (cc)
  never_unplayed f o spells has (inr (g, other, inr (u, is, none))) =
      let e : f.opponent ≡ Some u = subst (λ (x : Meant). x.opponent ≡ Some u) (one bytes g f other spells) is in
      none (subst (λ (x : Spelling). IsOpponent x.process) (same_some has.0 e) has.1)

  -- the file that was played
  played_of : (f g : Meant) (steps : List Step) (events : List Event) → SpellsFile bytes f → SpellsFile bytes g → IsPlayed f most only before after steps events → IsPlayed g most only before after steps events
  played_of f g steps events spells other p = subst (λ (x : Meant). IsPlayed x most only before after steps events) (one bytes f g spells other) p

  stopped_of : (f g : Meant) (fault : PlayFault) → SpellsFile bytes f → SpellsFile bytes g → IsStopped f most only before after fault → IsStopped g most only before after fault
  stopped_of f g fault spells other p = subst (λ (x : Meant). IsStopped x most only before after fault) (one bytes f g spells other) p

  -- a play that ended with this text
  ended_yes : (old new : Option (List ℕ)) (output : List ℕ) → most ≤ 1000 → IsPlay most only bytes before after output → Appends old new output → IsPlayedOn most only bytes before after old new Yes
  ended_yes old new output few (f, ss, es, spells, played, text, short) put = record {
    yes = λ e. (output, (f, ss, es, spells, played, text, short));
    no = λ e. absurd (cc);
    refused = λ e. absurd (cc);
    unplayed = λ why. absurd (never_unplayed f played.opponent spells played.beside why);
    ended = λ file others steps events own p told.
        (let same : ss ≡ steps = same_steps file most only before after others steps ss events es p (played_of f file ss es spells own played) told in
        (output, (text ∙ ap schedule_text same, short), put));
    stopped = λ file others fault own some s told. absurd (stops_never_ends file most only before after others ss es fault s (played_of f file ss es spells own played) told some);
    joins = λ e. joins one law most only bytes before after old new output few (f, ss, es, spells, played, text, short) put;
  }

  -- and one whose text is too long
  ended_long : (old new : Option (List ℕ)) (output : List ℕ) (f : Meant) (ss : List Step) (es : List Event) → SpellsFile bytes f → IsPlayed f most only before after ss es → IsLineOf bytes (IsTooMuch (play_length bytes ss)) output → Appends old new output → IsPlayedOn most only bytes before after old new Refused
  ended_long old new output f ss es spells played line put = record {
    yes = λ e. absurd (cc);
    no = λ e. absurd (cc);
    refused = λ e. inr (inr (f, ss, es, spells, played, more_than line.1));
    unplayed = λ why. absurd (never_unplayed f played.opponent spells played.beside why);
    ended = λ file others steps events own p told.
        (let same : ss ≡ steps = same_steps file most only before after others steps ss events es p (played_of f file ss es spells own played) told in
        (output, subst (λ (l : List Step). IsLineOf bytes (IsTooMuch (play_length bytes l)) output) same line, put));
    stopped = λ file others fault own some s told. absurd (stops_never_ends file most only before after others ss es fault s (played_of f file ss es spells own played) told some);
    joins = λ e. absurd (cc);
  }

  -- one that was stopped
  stopped_refused : (old new : Option (List ℕ)) (output : List ℕ) (f : Meant) (fault : PlayFault) → SpellsFile bytes f → IsStopped f most only before after fault → fault ≢ OutOfMemory → IsLineOf bytes (IsPlayFault fault) output → Appends old new output → IsPlayedOn most only bytes before after old new Refused
  stopped_refused old new output f fault spells s some line put = record {
    yes = λ e. absurd (cc);
    no = λ e. absurd (cc);
    refused = λ e. inr (inl (f, fault, spells, s, some));
    unplayed = λ why. absurd (never_unplayed f s.opponent spells s.beside why);
    ended = λ file others steps events own p told. absurd (ends_never_stops file most only before after others steps events fault p (stopped_of f file fault spells own s) told some);
    stopped = λ file others g own other q told.
        (let same : g ≡ fault = same_stop file most only before after others g fault q (stopped_of f file fault spells own s) told other some in
        (refl, (output, subst (λ (x : PlayFault). IsLineOf bytes (IsPlayFault x) output) (sym same) line, put)));
    joins = λ e. absurd (cc);
  }

  -- one that didn't begin
  refused_so : (old new : Option (List ℕ)) → Unplayed → (after ≡ before) → IsPlayedOn most only bytes before after old new Refused
  refused_so old new why same = record {
    yes = λ e. absurd (cc);
    no = λ e. absurd (cc);
    refused = λ e. inl why;
    unplayed = λ w. (refl, same);
    ended = λ file others steps events own p told. absurd (never_unplayed file p.opponent own p.beside why);
    stopped = λ file others fault own some s told. absurd (never_unplayed file s.opponent own s.beside why);
    joins = λ e. absurd (cc);
  }

  pub plays : (old new : Option (List ℕ)) (output : List ℕ) (status : Status) → most ≤ 1000 → PlaysTo most only bytes before after status output → Appends old new output → IsPlayedOn most only bytes before after old new status
  plays old new output Yes few is put = ended_yes old new output few is put
  plays old new output No few is put = absurd is
  plays old new output Refused few (r, inl why, line) put = refused_so old new (unplayable_is r.number r.offset r.shown.items why) why.1
  plays old new output Refused few (r, inr (inl (f, fault, spells, s, is)), line) put = stopped_refused old new output f fault spells s (fault_some is) (r, is, line) put
  plays old new output Refused few (r, inr (inr (f, ss, es, spells, played, much)), line) put = ended_long old new output f ss es spells played (r, much, line) put
  plays old new output ReadFault few is put = absurd is
  plays old new output WriteFault few is put = absurd is
  plays old new output NoMemory few is put = absurd is
  plays old new output Usage few is put = absurd is
