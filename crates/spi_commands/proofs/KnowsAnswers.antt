-- What `knows` answers on a file.
use Rattle.std.proofs.Common.{◌≡◌, inl, inr, ℕ, zero, suc, ◌+◌, ◌<◌, ◌≤◌, true, List, [], ◌∷◌, ◌++◌, map, refl, sym, ap, ◌∙◌, subst, None, Result, Ok, Err, IfOk, arith}
use Rattle.std.specs.Fmt.{decimal}
use Rattle.spi_term.specs.Term.{Message, name}
use Rattle.spi_term.specs.View.{message}
use Rattle.spi_run.specs.Knowledge.{Knows}
use Rattle.spi_run.specs.Reduction.{Event}
use Rattle.spi_run.specs.View.{event as event_of}
use Rattle.spi_know.specs.Numbered.{nodes_in}
use Rattle.spi_know.specs.Sent.{names_up}
use Rattle.spi_know.specs.Cert.{Certifies}
use Rattle.spi_scope.specs.declared.file.File.{File}
use Rattle.spi_scope.specs.Files.{meant}
use Rattle.spi_commands.specs.declared.answer.Answer.{Answer}
use Rattle.spi_commands.specs.declared.answer.Stop.{Stop}
use Rattle.spi_commands.specs.declared.schedule.Replay.{Replay}
use Rattle.spi_commands.specs.declared.schedule.Ran.TheVariants.{Through}
use Rattle.spi_commands.specs.declared.status.Status.{Status}
use Rattle.spi_commands.specs.declared.status.Status.TheVariants.{Yes, No, Refused, ReadFault, WriteFault, NoMemory, Usage}
use Rattle.spi_commands.specs.Reading.{IsRead}
use Rattle.spi_commands.specs.Refusals.{IsCause, IsLineOf, IsRefusal, Refuses}
use Rattle.spi_commands.specs.Replays.{RefusesReplay, RunsThrough, talks_most}
use Rattle.spi_commands.specs.Ran.{IsRan}
use Rattle.spi_commands.specs.Knowing.{IsKnowsAsked, IsDecided, KnowsTo, RefusesKnows, no_name, too_much_sent}
use Rattle.spi_commands.proofs.AnswerLines.{line_map}
use Rattle.spi_commands.proofs.ScheduleTalks.{nodes_both}

-- ---- refusals

-- a refusal of the replay
pub refused : (i : ℕ) (bytes line output : List ℕ) (status : Status) → IsLineOf bytes (RefusesReplay bytes) line → status ≡ Refused → output ≡ line → KnowsTo i bytes status output
refused i bytes line output status h e is = rw (e, is) (line_map bytes line (RefusesReplay bytes) (RefusesKnows i bytes) (λ n o s m. inl m) h)

-- bytes that spell no file
pub given_refused : (i : ℕ) (bytes line : List ℕ) → IsRefusal bytes line → IsLineOf bytes (RefusesKnows i bytes) line
given_refused i bytes line h = line_map bytes line (Refuses bytes) (RefusesKnows i bytes) (λ n o s m. inl (inl m)) h

refused_by : (i : ℕ) (bytes : List ℕ) (number count : ℕ) (result : Result Answer Stop) → RefusesKnows i bytes number None (decimal count)
    → IfOk result (λ a. (a.status ≡ Refused) × IsLineOf bytes (IsCause number None (decimal count)) a.output.items) → IfOk result (λ a. KnowsTo i bytes a.status a.output.items)
refused_by i bytes number count (Ok a) why (e, line) =
    subst (λ (s : Status). KnowsTo i bytes s a.output.items) (sym e)
    (line_map bytes a.output.items (IsCause number None (decimal count)) (RefusesKnows i bytes) (λ n o s (is, there, shown). rw (is, there, shown) why) line)
refused_by i bytes number count (Err s) why h = tt

pub much_sent : (i : ℕ) (bytes : List ℕ) (f : File) (replay : Replay) (result : Result Answer Stop) → IsRead bytes f → IsRan bytes (meant f) true (Through replay) → 20000 < replay.talks.nodes
    → IfOk result (λ a. (a.status ≡ Refused) × IsLineOf bytes (IsCause 110 None (decimal replay.talks.nodes)) a.output.items) → IfOk result (λ a. KnowsTo i bytes a.status a.output.items)
much_sent i bytes f replay result (tree, is, stands, marks) (run, kept, names, few) much h =
    let count : replay.talks.nodes ≡ nodes_in run.talks = (kept refl).0 in
    refused_by i bytes 110 replay.talks.nodes result
    (inr (inl (meant f, map event_of replay.events.items, run, (tree, is, stands), rw (sym count) (too_much_sent much)))) h

pub lacks_name : (i : ℕ) (bytes : List ℕ) (f : File) (replay : Replay) (result : Result Answer Stop) → IsRead bytes f → IsRan bytes (meant f) true (Through replay) → replay.talks.nodes ≤ 20000 → replay.names ≤ i
    → IfOk result (λ a. (a.status ≡ Refused) × IsLineOf bytes (IsCause 111 None (decimal i)) a.output.items) → IfOk result (λ a. KnowsTo i bytes a.status a.output.items)
lacks_name i bytes f replay result (tree, is, stands, marks) (run, kept, names, few) small past h =
    let count : replay.talks.nodes ≡ nodes_in run.talks = (kept refl).0 in
    refused_by i bytes 111 i result
    (inr (inr (meant f, map event_of replay.events.items, run, (tree, is, stands), omega (arith, count, small), no_name (omega (arith, names, past))))) h

-- ---- the decision

decided_to : (i : ℕ) (bytes : List ℕ) (f : File) (ms : List Message) (events : List Event) (run : RunsThrough (meant f) events) → IsKnowsAsked i bytes (meant f) events run → ms ≡ run.talks
    → (status : Status) (output : List ℕ) → IsDecided (meant f) ms i status output → KnowsTo i bytes status output
decided_to i bytes f ms events run asked e Yes output (lines, k, certifies, text) =
    let same = ap (λ (l : List Message). names_up (meant f).process.names ++ l) e in (
      meant f,
      events,
      run,
      lines,
      asked,
      subst (λ (l : List Message). Knows l (name i)) same k,
      subst (λ (l : List Message). Certifies l lines (name i)) same certifies,
      text,
    )
decided_to i bytes f ms events run asked e No output (un, text) =
    let same = ap (λ (l : List Message). names_up (meant f).process.names ++ l) e in
    ((meant f, events, run, asked, λ k. un (subst (λ (l : List Message). Knows l (name i)) (sym same) k)), text)
decided_to i bytes f ms events run asked e Refused output h = absurd h
decided_to i bytes f ms events run asked e ReadFault output h = absurd h
decided_to i bytes f ms events run asked e WriteFault output h = absurd h
decided_to i bytes f ms events run asked e NoMemory output h = absurd h
decided_to i bytes f ms events run asked e Usage output h = absurd h

-- the data that were kept
pub few_kept : (f : File) (bytes : List ℕ) (replay : Replay) → IsRan bytes (meant f) true (Through replay) → replay.talks.nodes ≤ 20000 → nodes_in (map message replay.talks.data.items) ≤ 20000
few_kept f bytes replay (run, kept, names, few) small =
    let (count, all) = kept refl in
    let same : nodes_in (map message replay.talks.data.items) ≡ nodes_in run.talks = ap nodes_in (all (omega (arith, count, small))) in
    omega (arith, count, small, same)

pub decided : (i : ℕ) (bytes : List ℕ) (f : File) (replay : Replay) (result : Result Answer Stop) → IsRead bytes f → IsRan bytes (meant f) true (Through replay) → replay.talks.nodes ≤ 20000 → i < replay.names
    → IfOk result (λ a. IsDecided (meant f) (map message replay.talks.data.items) i a.status a.output.items) → IfOk result (λ a. KnowsTo i bytes a.status a.output.items)
decided i bytes f replay (Ok a) (tree, is, stands, marks) (run, kept, names, few) small used h =
    let (count, all) = kept refl in
    let less : nodes_in run.talks ≤ talks_most = omega (arith, count, small) in
    decided_to i bytes f (map message replay.talks.data.items) (map event_of replay.events.items) run
    (record { spells = (tree, is, stands); few = less; used = omega (arith, names, used) }) (all less) a.status a.output.items h
decided i bytes f replay (Err s) r ran small used h = tt

-- ---- what was sent

nodes_of_names : (n : ℕ) → nodes_in (names_up n) ≡ n
nodes_of_names zero = refl
nodes_of_names (suc n) =
    let e = nodes_of_names n in
    nodes_both (names_up n) (name n ∷ []) ∙ (let s : nodes_in (names_up n) + (1 + 0) ≡ suc n = omega (arith, e) in s)

pub few_sent : (n : ℕ) (sent ms : List Message) → sent ≡ names_up n ++ ms → n ≤ 100000 → nodes_in ms ≤ 20000 → nodes_in sent + 1 < 4294967294
few_sent n sent ms is few small =
    let e = ap nodes_in is ∙ nodes_both (names_up n) ms in
    let k = nodes_of_names n in
    omega (arith, e, k, few, small)
