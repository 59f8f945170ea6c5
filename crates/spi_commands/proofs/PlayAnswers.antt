-- What `play` answers on a file.
use Rattle.std.proofs.Common.{◌≡◌, ◌≢◌, ℕ, ◌-◌, ◌≤◌, List, map, sym, subst, refl, ap, Option, Some, None, Result, Ok, Err, IfOk, arith, inl, inr}
use Rattle.std.specs.Prelude.{codes, OnErr, IfSome}
use Rattle.spi_term.specs.Spelling.{Spelling}
use Rattle.spi_run.specs.Opponent.{IsOpponent}
use Rattle.spi_run.specs.Reduction.{Configuration}
use Rattle.spi_run.specs.Safety.{beside}
use Rattle.spi_run.specs.View as View
use Rattle.spi_run.specs.declared.step.Step as steps
use Rattle.spi_run.specs.declared.step.Event as events
use Rattle.spi_replay.specs.Stepping.{Pooled}
use Rattle.spi_play.specs.Way.{Seen}
use Rattle.spi_play.specs.Play.{start}
use Rattle.spi_play.specs.Outcome.{course, EndsAt, RefusedAt}
use Rattle.spi_play.specs.declared.plays.Ended.{Ended}
use Rattle.spi_play.specs.declared.plays.PlayFault.{PlayFault}
use Rattle.spi_play.specs.declared.plays.PlayFault.TheVariants.{NoMemory as OutOfMemory}
use Rattle.spi_scope.specs.declared.file.File.{File}
use Rattle.spi_scope.specs.Files.{meant}
use Rattle.spi_commands.specs.declared.answer.Answer.{Answer}
use Rattle.spi_commands.specs.declared.answer.Stop.{Stop}
use Rattle.spi_commands.specs.declared.status.Status.{Status}
use Rattle.spi_commands.specs.declared.status.Status.TheVariants.{Yes, No, Refused, ReadFault, WriteFault, NoMemory, Usage}
use Rattle.spi_commands.specs.Refusals.{IsLineOf, IsCause, IsMissing, IsTooMuch}
use Rattle.spi_commands.specs.Beside.{replay_pool, HasOffence}
use Rattle.spi_commands.specs.Playing.{IsPlayed, IsStopped, play_length, play_number, play_shown, play_places, ListsTo, IsPlayFault, play_fault, PlaysTo, LeavesPlayers, not_asked, asked_to_the_end, stopped}
use Rattle.spi_commands.specs.Reading.{IsRead}
use Rattle.spi_commands.proofs.FileParts.{few_names}
use Rattle.spi_commands.proofs.AnswerLines.{refuses_by, line_map, cause_is}
use Rattle.spi_commands.proofs.ScheduleRefusals.{starts}

-- the line of a refused play
pub refused_line : (bytes shown : List ℕ) (number : ℕ) (fault other : PlayFault) (result : Result Answer Stop) → fault ≡ other → other ≢ OutOfMemory → number ≡ play_number other → shown ≡ play_shown other → IfOk result (λ a. (a.status ≡ Refused) × IsLineOf bytes (IsCause number None shown) a.output.items) → IfOk result (λ a. (a.status ≡ Refused) × IsLineOf bytes (IsPlayFault fault) a.output.items)
refused_line bytes shown number fault other result e some n s h =
    let is : IsPlayFault other number None shown = rw (n, s) (play_fault some) in
    cause_is bytes shown number None (IsPlayFault fault) result (subst (λ (f : PlayFault). IsPlayFault f number None shown) (sym e) is) h

pub few_at_start : (bytes : List ℕ) (f : File) (o : Spelling) (pool : Pooled) (most : ℕ) → IsRead bytes f → most ≤ 1000 → pool.configuration ≡ beside f.process.names f.process.process o.process → pool.configuration.names ≤ 4294967295 - most
few_at_start bytes f o pool most r small e =
    let few = few_names bytes f r in
    let same : pool.configuration.names ≡ f.process.names = ap (λ (c : Configuration). c.names) e in
    omega (arith, few, same, small)

-- a play that has ended, or was stopped
module _ (bytes : List ℕ) (f : File) (o : Spelling) (most : ℕ) (only : Option ℕ) (before after : List Seen) (pool last : Pooled) (r : IsRead bytes f) (own : (meant f).opponent ≡ Some o) (is : IsOpponent o.process) (e : pool.configuration ≡ beside f.process.names f.process.process o.process) (m : pool.most ≡ 1000) where
  played_so : (ss : List steps.Step) (es : List events.Event) (ended : Ended) → EndsAt only most (start pool before only) (course last ss es) after ended → IsPlayed (meant f) most only before after (map View.step ss) (map View.event es)
  played_so ss es ended ends =
      let here : EndsAt only most (start (replay_pool play_places (meant f) o) before only) (course last ss es) after ended = subst (λ p. EndsAt only most (start p before only) (course last ss es) after ended) (starts play_places f o pool e m) ends in
      record { opponent = o; beside = (own, is); last = last; ended = ended; ends = here }

  stopped_so : (fault : PlayFault) → RefusedAt only most (start pool before only) last after fault → IsStopped (meant f) most only before after fault
  stopped_so fault at =
      let here : RefusedAt only most (start (replay_pool play_places (meant f) o) before only) last after fault = subst (λ p. RefusedAt only most (start p before only) last after fault) (starts play_places f o pool e m) at in
      record { opponent = o; beside = (own, is); last = last; stops = here }

  ended_so : (ss : List steps.Step) (es : List events.Event) (ended : Ended) → EndsAt only most (start pool before only) (course last ss es) after ended → (status : Status) (output : List ℕ) → ListsTo bytes (map View.step ss) status output → PlaysTo most only bytes before after status output
  ended_so ss es ended ends Yes output h = (meant f, map View.step ss, map View.event es, (r.0, r.1, r.2), played_so ss es ended ends, h.0, h.1)
  ended_so ss es ended ends No output h = absurd h
  ended_so ss es ended ends Refused output h =
      line_map bytes output (IsTooMuch (play_length bytes (map View.step ss))) _ (λ n p s x. inr (inr (meant f, map View.step ss, map View.event es, (r.0, r.1, r.2), played_so ss es ended ends, x))) h
  ended_so ss es ended ends ReadFault output h = absurd h
  ended_so ss es ended ends WriteFault output h = absurd h
  ended_so ss es ended ends NoMemory output h = absurd h
  ended_so ss es ended ends Usage output h = absurd h

  pub play_listed : (ss : List steps.Step) (es : List events.Event) (ended : Ended) (result : Result Answer Stop) → EndsAt only most (start pool before only) (course last ss es) after ended → IfOk result (λ a. ListsTo bytes (map View.step ss) a.status a.output.items) → IfOk result (λ a. PlaysTo most only bytes before after a.status a.output.items)
  play_listed ss es ended (Ok a) ends h = ended_so ss es ended ends a.status a.output.items h
  play_listed ss es ended (Err s) ends h = tt

  pub play_refused : (fault : PlayFault) (result : Result Answer Stop) → RefusedAt only most (start pool before only) last after fault → IfOk result (λ a. (a.status ≡ Refused) × IsLineOf bytes (IsPlayFault fault) a.output.items) → IfOk result (λ a. PlaysTo most only bytes before after a.status a.output.items)
  play_refused fault result at h =
      refuses_by bytes (IsPlayFault fault) _ _ _ result (λ n p s x. inr (inl (meant f, fault, (r.0, r.1, r.2), stopped_so fault at, x))) h

  -- and so it leaves the players
  pub leaves_ended : (ss : List steps.Step) (es : List events.Event) (ended : Ended) → EndsAt only most (start pool before only) (course last ss es) after ended → LeavesPlayers most only bytes before after
  leaves_ended ss es ended ends = asked_to_the_end (r.0, r.1, r.2) (played_so ss es ended ends)

  pub leaves_stopped : (fault : PlayFault) → RefusedAt only most (start pool before only) last after fault → LeavesPlayers most only bytes before after
  leaves_stopped fault at = stopped (r.0, r.1, r.2) (stopped_so fault at)

-- before a player is asked
pub lacks_opponent : (bytes : List ℕ) (f : File) (most : ℕ) (only : Option ℕ) (players : List Seen) (result : Result Answer Stop) → IsRead bytes f → (meant f).opponent ≡ None → IfOk result (λ a. (a.status ≡ Refused) × IsLineOf bytes (IsMissing (codes "opponent")) a.output.items) → IfOk result (λ a. PlaysTo most only bytes players players a.status a.output.items)
lacks_opponent bytes f most only players result (tree, spells, stands, marks) none h =
    refuses_by bytes (IsMissing (codes "opponent")) _ _ _ result (λ n o s m. inl (inr (inl (meant f, (tree, spells, stands), none, m)), refl)) h

pub offends : (bytes : List ℕ) (most : ℕ) (only : Option ℕ) (players : List Seen) (result : Result Answer Stop) → IfOk result (λ a. (a.status ≡ Refused) × IsLineOf bytes (HasOffence bytes) a.output.items) → IfOk result (λ a. PlaysTo most only bytes players players a.status a.output.items)
offends bytes most only players result h =
    refuses_by bytes (HasOffence bytes) _ _ _ result (λ n o s m. inl (inr (inr m), refl)) h

-- what holds of a want of memory
pub on_err : {T E : Type 0} (result : Result T E) (P : Type 0) → P → OnErr result P
on_err (Ok a) P p = tt
on_err (Err e) P p = p

-- where nobody was asked
pub left_same : (most : ℕ) (only : Option ℕ) (players : List Seen) (left : Option (List ℕ)) → IfSome left (λ bytes. LeavesPlayers most only bytes players players)
left_same most only players None = tt
left_same most only players (Some bytes) = not_asked
