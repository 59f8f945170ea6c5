-- What the commands answer on their input.
use Rattle.std.proofs.Common.{◌≡◌, ◌≢◌, ◌⊎◌, ◌∙◌, ℕ, List, Option, Some, Result, Ok, Err, IfOk, refl, sym, subst, ap, inl, inr, true, false, true≢false}
use Rattle.std.specs.Prelude.{OnErr, IsErrOf}
use Rattle.spi_play.specs.Way.{Seen}
use Rattle.spi_commands.specs.declared.answer.Answer.{Answer}
use Rattle.spi_commands.specs.declared.answer.Stop.{Stop}
use Rattle.spi_commands.specs.declared.answer.Stop.TheVariants.{NoMemory as OutOfMemory, ReadFault as ReadFaultStop}
use Rattle.spi_commands.specs.declared.asked.Command.{Command}
use Rattle.spi_commands.specs.declared.asked.Command.TheVariants.{Check, Derive, Verify, Replay, Play, Print, Load, Upgrade, Narrate, Knows, Bench}
use Rattle.spi_commands.specs.declared.reading.Unread.{Unread}
use Rattle.spi_commands.specs.declared.reading.Unread.TheVariants as unread
use Rattle.spi_commands.specs.declared.status.Status.{Status}
use Rattle.spi_commands.specs.declared.status.Status.TheVariants.{Yes, No, Refused, ReadFault, WriteFault, NoMemory, Usage}
use Rattle.spi_commands.specs.Answers.{Answers}
use Rattle.spi_commands.specs.Answering.{GoesOverFile, IsAnsweredBy}
use Rattle.spi_commands.specs.Asked.{reads_input}
use Rattle.spi_commands.specs.Benching.{RefusesBench}
use Rattle.spi_commands.specs.Commands.{AnswersTo}
use Rattle.spi_commands.specs.Narrating.{RefusesNarrate}
use Rattle.spi_commands.specs.Playing.{PlaysTo, LeavesPlayers, not_asked}
use Rattle.spi_commands.specs.Reading.{IsUnreadBy, IsCauseOf}
use Rattle.spi_commands.specs.Refusals.{IsLineOf, IsUnlexed, IsRefusal, Refuses}
use Rattle.spi_commands.specs.Run.{IsAnswered}
use Rattle.spi_commands.proofs.AnswerLines.{line_map, refuses_by}
use Rattle.spi_commands.proofs.FileTaking.{first_of_all}
use Rattle.spi_commands.proofs.KnowsAnswers.{given_refused}

-- ---- whole answers

-- each answer of a table comes with a whole output
is_whole : (accepted denied refused : List ℕ → Type 0) (output : List ℕ) (status : Status) → Answers accepted denied refused status output → IsAnswered status × (status ≢ Usage)
is_whole accepted denied refused output Yes is = (tt, λ e. absurd (cc))
is_whole accepted denied refused output No is = (tt, λ e. absurd (cc))
is_whole accepted denied refused output Refused is = (tt, λ e. absurd (cc))
is_whole accepted denied refused output ReadFault is = absurd is
is_whole accepted denied refused output WriteFault is = absurd is
is_whole accepted denied refused output NoMemory is = absurd is
is_whole accepted denied refused output Usage is = absurd is

-- and so does each command's
command_whole : (command : Command) (bytes : List ℕ) (before after : List Seen) (status : Status) (output : List ℕ) → AnswersTo command bytes before after status output → IsAnswered status × (status ≢ Usage)
command_whole Check bytes before after status output is = is_whole _ _ _ output status is
command_whole Derive bytes before after status output is = is_whole _ _ _ output status is
command_whole Verify bytes before after status output is = is_whole _ _ _ output status is
command_whole Replay bytes before after status output is = is_whole _ _ _ output status is
command_whole (Play most only) bytes before after status output is = is_whole _ _ _ output status is
command_whole Print bytes before after status output is = is_whole _ _ _ output status is
command_whole (Load sessions) bytes before after status output is = is_whole _ _ _ output status is
command_whole Upgrade bytes before after status output is = is_whole _ _ _ output status is
command_whole Narrate bytes before after status output is = is_whole _ _ _ output status is
command_whole (Knows name) bytes before after status output is = is_whole _ _ _ output status is
command_whole Bench bytes before after status output is = is_whole _ _ _ output status is

pub answered_whole : (command : Command) (bytes : List ℕ) (before after : List Seen) (result : Result Answer Stop) → IsAnsweredBy command bytes before after result → IfOk result (λ a. IsAnswered a.status × (a.status ≢ Usage))
answered_whole command bytes before after (Ok a) is = command_whole command bytes before after a.status a.output.items is
answered_whole command bytes before after (Err s) is = tt

-- only memory stops it
pub answered_memory : (command : Command) (bytes : List ℕ) (before after : List Seen) (result : Result Answer Stop) → IsAnsweredBy command bytes before after result → OnErr result (result ≡ Err OutOfMemory)
answered_memory command bytes before after (Ok a) is = tt
answered_memory command bytes before after (Err s) is = ap (λ (t : Stop). Err t) is.0

-- ---- from a command's own answer

abbrev stop_in : Result Answer Stop → Stop
stop_in (Ok a) = OutOfMemory
stop_in (Err s) = s

-- where no player is asked
pub answered_as : (command own : Command) (bytes : List ℕ) (players : List Seen) (result : Result Answer Stop) → command ≡ own → IfOk result (λ a. AnswersTo own bytes players players a.status a.output.items) → OnErr result (result ≡ Err OutOfMemory) → IsAnsweredBy command bytes players players result
answered_as command own bytes players (Ok a) e ok err = subst (λ (c : Command). AnswersTo c bytes players players a.status a.output.items) (sym e) ok
answered_as command own bytes players (Err s) e ok err = (ap stop_in err, λ most only f. not_asked)

-- a command by another name, and bytes by another
pub answered_so : (command own : Command) (bytes : List ℕ) (before after : List Seen) (result : Result Answer Stop) → command ≡ own → IsAnsweredBy own bytes before after result → IsAnsweredBy command bytes before after result
answered_so command own bytes before after result e h = subst (λ (c : Command). IsAnsweredBy c bytes before after result) (sym e) h

pub answered_on : (command : Command) (taken : List ℕ) (before after : List Seen) (result : Result Answer Stop) → IsAnsweredBy command taken before after result → (bytes : List ℕ) → bytes ≡ taken → IsAnsweredBy command bytes before after result
answered_on command taken before after result h bytes e = subst (λ (bs : List ℕ). IsAnsweredBy command bs before after result) (sym e) h

left_as : (m most : ℕ) (o only : Option ℕ) (bytes : List ℕ) (before after : List Seen) → Play m o ≡ Play most only → LeavesPlayers m o bytes before after → LeavesPlayers most only bytes before after
left_as m most o only bytes before after e left =
    let first : m ≡ most = cc in
    let second : o ≡ only = cc in
    subst (λ (n : ℕ). LeavesPlayers n only bytes before after) first (subst (λ (p : Option ℕ). LeavesPlayers m p bytes before after) second left)

-- and in a play
pub answered_play : (most : ℕ) (only : Option ℕ) (bytes : List ℕ) (before after : List Seen) (result : Result Answer Stop) → IfOk result (λ a. PlaysTo most only bytes before after a.status a.output.items) → OnErr result (LeavesPlayers most only bytes before after) → OnErr result (result ≡ Err OutOfMemory) → IsAnsweredBy (Play most only) bytes before after result
answered_play most only bytes before after (Ok a) ok left err = ok
answered_play most only bytes before after (Err s) ok left err = (ap stop_in err, λ m o e. left_as most m only o bytes before after e left)

-- ---- refusals

-- the line of bytes that spell no file
file_refused : (command : Command) → GoesOverFile command → (bytes line : List ℕ) (players : List Seen) → IsRefusal bytes line → AnswersTo command bytes players players Refused line
file_refused Check over bytes line players h = h
file_refused Derive over bytes line players h = first_of_all bytes line _ h
file_refused Verify over bytes line players h = first_of_all bytes line _ h
file_refused Replay over bytes line players h = first_of_all bytes line _ h
file_refused (Play most only) over bytes line players (r, h, e) = (r, inl (inl h, refl), e)
file_refused Print over bytes line players h = first_of_all bytes line _ h
file_refused (Load sessions) over bytes line players h = absurd (over.0 sessions refl)
file_refused Upgrade over bytes line players h = first_of_all bytes line _ h
file_refused Narrate over bytes line players h = absurd (over.1 refl)
file_refused (Knows name) over bytes line players h = given_refused name bytes line h
file_refused Bench over bytes line players h = absurd (over.2 refl)

-- the line of bytes that have no tokens
unlexed_file : (command : Command) → GoesOverFile command → (bytes line : List ℕ) (players : List Seen) → IsLineOf bytes (IsUnlexed bytes) line → AnswersTo command bytes players players Refused line
unlexed_file command over bytes line players h = file_refused command over bytes line players (line_map bytes line (IsUnlexed bytes) (Refuses bytes) (λ n o s m. inl m) h)

unlexed_line : (command : Command) → ((sessions : ℕ) → command ≢ Load sessions) → (bytes line : List ℕ) (players : List Seen) → IsLineOf bytes (IsUnlexed bytes) line → AnswersTo command bytes players players Refused line
unlexed_line Check reads bytes line players h = unlexed_file Check (reads, λ e. cc, λ e. cc) bytes line players h
unlexed_line Derive reads bytes line players h = unlexed_file Derive (reads, λ e. cc, λ e. cc) bytes line players h
unlexed_line Verify reads bytes line players h = unlexed_file Verify (reads, λ e. cc, λ e. cc) bytes line players h
unlexed_line Replay reads bytes line players h = unlexed_file Replay (reads, λ e. cc, λ e. cc) bytes line players h
unlexed_line (Play most only) reads bytes line players h = unlexed_file (Play most only) (reads, λ e. cc, λ e. cc) bytes line players h
unlexed_line Print reads bytes line players h = unlexed_file Print (reads, λ e. cc, λ e. cc) bytes line players h
unlexed_line (Load sessions) reads bytes line players h = absurd (reads sessions refl)
unlexed_line Upgrade reads bytes line players h = unlexed_file Upgrade (reads, λ e. cc, λ e. cc) bytes line players h
unlexed_line Narrate reads bytes line players h = line_map bytes line (IsUnlexed bytes) (RefusesNarrate bytes) (λ n o s m. inl m) h
unlexed_line (Knows name) reads bytes line players h = unlexed_file (Knows name) (reads, λ e. cc, λ e. cc) bytes line players h
unlexed_line Bench reads bytes line players h = line_map bytes line (IsUnlexed bytes) (RefusesBench bytes) (λ n o s m. inl m) h

pub unlexed_answer : (command : Command) → ((sessions : ℕ) → command ≢ Load sessions) → (bytes line output : List ℕ) (players : List Seen) (status : Status) → status ≡ Refused → output ≡ line → IsLineOf bytes (IsUnlexed bytes) line → AnswersTo command bytes players players status output
unlexed_answer command reads bytes line output players status e is h =
    subst (λ (s : Status). AnswersTo command bytes players players s output) (sym e)
    (subst (λ (o : List ℕ). AnswersTo command bytes players players Refused o) (sym is) (unlexed_line command reads bytes line players h))

-- the refusal has one of these causes
caused : (wanted : ℕ → Option ℕ → List ℕ → Type 0) (cause : Unread) → IsUnreadBy wanted cause → (n : ℕ) (o : Option ℕ) (s : List ℕ) → IsCauseOf cause n o s → wanted n o s
caused wanted (unread.Refused r) h n o s (is, at, shown) = rw (is, at, shown) h
caused wanted unread.NoMemory h n o s m = absurd m

-- a refusal of a table that has its causes
pub unread_answer : (bytes : List ℕ) (cause : Unread) (wanted : ℕ → Option ℕ → List ℕ → Type 0) (accepted denied : List ℕ → Type 0) (result : Result Answer Stop) → IsUnreadBy wanted cause
    → IfOk result (λ a. (a.status ≡ Refused) × IsLineOf bytes (IsCauseOf cause) a.output.items) → IfOk result (λ a. Answers accepted denied (IsLineOf bytes wanted) a.status a.output.items)
unread_answer bytes cause wanted accepted denied result why h =
    refuses_by bytes (IsCauseOf cause) wanted accepted denied result (caused wanted cause why) h

-- and one of a command that goes over files
pub unread_file : (command : Command) → GoesOverFile command → (bytes : List ℕ) (players : List Seen) (cause : Unread) (result : Result Answer Stop) → IsUnreadBy (Refuses bytes) cause
    → IfOk result (λ a. (a.status ≡ Refused) × IsLineOf bytes (IsCauseOf cause) a.output.items) → OnErr result (result ≡ Err OutOfMemory) → IsAnsweredBy command bytes players players result
unread_file command over bytes players cause (Ok a) why (e, line) err =
    subst (λ (s : Status). AnswersTo command bytes players players s a.output.items) (sym e)
    (file_refused command over bytes a.output.items players (line_map bytes a.output.items (IsCauseOf cause) (Refuses bytes) (caused (Refuses bytes) cause why) line))
unread_file command over bytes players cause (Err s) why h err = (ap stop_in err, λ most only f. not_asked)

-- and one of a command that goes over tokens
goes_over_tokens : (command : Command) → (command ≡ Narrate) ⊎ (command ≡ Bench) → (sessions : ℕ) → command ≢ Load sessions
goes_over_tokens command (inl is) sessions e = absurd (cc)
goes_over_tokens command (inr is) sessions e = absurd (cc)

pub unread_tokens : (command : Command) → (command ≡ Narrate) ⊎ (command ≡ Bench) → (bytes : List ℕ) (players : List Seen) (cause : Unread) (result : Result Answer Stop) → IsUnreadBy (IsUnlexed bytes) cause
    → IfOk result (λ a. (a.status ≡ Refused) × IsLineOf bytes (IsCauseOf cause) a.output.items) → OnErr result (result ≡ Err OutOfMemory) → IsAnsweredBy command bytes players players result
unread_tokens command over bytes players cause (Ok a) why (e, line) err =
    unlexed_answer command (goes_over_tokens command over) bytes a.output.items a.output.items players a.status e refl (line_map bytes a.output.items (IsCauseOf cause) (IsUnlexed bytes) (caused (IsUnlexed bytes) cause why) line)
unread_tokens command over bytes players cause (Err s) why h err = (ap stop_in err, λ most only f. not_asked)

-- ---- inputs

-- all but one read one
reads_unless : (command : Command) → ((sessions : ℕ) → command ≢ Load sessions) → reads_input (Some command) ≡ true
reads_unless Check reads = refl
reads_unless Derive reads = refl
reads_unless Verify reads = refl
reads_unless Replay reads = refl
reads_unless (Play most only) reads = refl
reads_unless Print reads = refl
reads_unless (Load sessions) reads = absurd (reads sessions refl)
reads_unless Upgrade reads = refl
reads_unless Narrate reads = refl
reads_unless (Knows name) reads = refl
reads_unless Bench reads = refl

pub never_inputless : (asks : Option Command) (own : Command) → asks ≡ Some own → ((sessions : ℕ) → own ≢ Load sessions) → reads_input asks ≡ false → ⊥
never_inputless asks own is reads e =
    let input : reads_input asks ≡ true = ap reads_input is ∙ reads_unless own reads in
    true≢false (sym input ∙ e)

-- no read fails behind the text
pub never_faults : (result : Result Answer Stop) → OnErr result (result ≡ Err OutOfMemory) → IsErrOf result ReadFaultStop → ⊥
never_faults (Ok a) h err = absurd (cc)
never_faults (Err s) h err = let memory : s ≡ OutOfMemory = ap stop_in h in absurd (cc)
