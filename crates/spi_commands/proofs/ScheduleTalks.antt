-- The data of talks.
use Rattle.std.proofs.Common.{◌≡◌, refl, sym, ap, ◌∙◌, subst, ℕ, ◌+◌, ◌≤◌, Bool, true, List, [], ◌∷◌, ◌++◌, map, Option, Some, None, arith}
use Rattle.std.specs.Prelude.{IfSome, slice_get}
use Rattle.spi_term.specs.declared.term.Msg.{Msg}
use Rattle.spi_term.specs.Term.{Message, Process, message_size, send, stop, recv, serve, split, select, decrypt, check, begin, end, end_many, cast, fresh, branch, par}
use Rattle.spi_term.specs.View.{message}
use Rattle.spi_run.specs.Knowledge.{datum}
use Rattle.spi_run.specs.Reduction.{Step, act, talk, Event}
use Rattle.spi_replay.specs.Stepping.{Pooled, IsTaken, by_place, handed_over, largest, message_most}
use Rattle.spi_know.specs.Numbered.{nodes_in}
use Rattle.spi_know.specs.Sent.{handed}
use Rattle.spi_commands.specs.declared.schedule.Talks.{Talks}
use Rattle.spi_commands.specs.Ran.{AreTalks, IsDatum, messages_said}
use Rattle.spi_commands.specs.Replays.{talks_most}

-- nodes of two lists
pub nodes_both : (ms ns : List Message) → nodes_in (ms ++ ns) ≡ nodes_in ms + nodes_in ns
nodes_both [] ns = omega arith
nodes_both (m ∷ ms) ns = let e = nodes_both ms ns in omega (arith, e)

-- what a step that is taken hands over
pub hands : (keeps : Bool) (p q : Pooled) (s : Step) (e : Option Event) (d : Option Msg) → keeps ≡ true → IsDatum keeps p.configuration s d → IsTaken p s e q → messages_said d ≡ handed p.configuration s
hands keeps p q (act i) e None k is t = refl
hands keeps p q (act i) e (Some m) k is t = absurd is.0
hands keeps p q (talk i j) e None k is t = absurd (is k (e, q.configuration, t.takes))
hands keeps p q (talk i j) e (Some m) k is t = sym is.1

-- an output's datum is what it hands over
datum_is : (o : Option Process) → datum o ≡ by_place handed_over o
datum_is None = refl
datum_is (Some stop) = refl
datum_is (Some (send m n)) = refl
datum_is (Some (recv m t p)) = refl
datum_is (Some (serve m t p)) = refl
datum_is (Some (split m t u p)) = refl
datum_is (Some (select m t n u p)) = refl
datum_is (Some (decrypt m t n p)) = refl
datum_is (Some (check m n p)) = refl
datum_is (Some (begin m p)) = refl
datum_is (Some (end m p)) = refl
datum_is (Some (end_many m p)) = refl
datum_is (Some (cast m t p)) = refl
datum_is (Some (fresh t p)) = refl
datum_is (Some (branch m t p u q)) = refl
datum_is (Some (par p q)) = refl

-- it has few nodes
pub is_small : (keeps : Bool) (p q : Pooled) (s : Step) (e : Option Event) (d : Option Msg) → IsDatum keeps p.configuration s d → IsTaken p s e q → IfSome d (λ m. message_size (message m) ≤ 1000)
is_small keeps p q s e None is t = tt
is_small keeps p q (act i) e (Some m) is t = absurd is.0
is_small keeps p q (talk i j) e (Some m) is t =
    let small : largest (message m ∷ []) ≤ message_most = subst (λ (ms : List Message). largest ms ≤ message_most) (sym (datum_is (slice_get p.configuration.places i)) ∙ is.1) t.small in
    omega (arith, small)

-- and its nodes are counted
said_few : (d : Option Msg) → IfSome d (λ m. message_size (message m) ≤ 1000) → nodes_in (messages_said d) ≤ 1000
said_few None few = omega arith
said_few (Some m) few = omega (arith, few)

pub within_room : (old new : ℕ) (d : Option Msg) → IfSome d (λ m. message_size (message m) ≤ 1000) → new ≡ old + nodes_in (messages_said d) → new ≤ old + 1000
within_room old new d few is = let less = said_few d few in omega (arith, is, less)

pub heard : (old new : Talks) (d : Option Msg) (hands ms : List Message) → messages_said d ≡ hands → new.nodes ≡ old.nodes + nodes_in (messages_said d)
    → (new.nodes ≤ talks_most → map message new.data.items ≡ map message old.data.items ++ messages_said d) → AreTalks ms old → AreTalks (ms ++ hands) new
heard old new d hands ms is count kept (nodes, all) =
    let same : nodes_in (messages_said d) ≡ nodes_in hands = ap nodes_in is in
    let both = nodes_both ms hands in (
      omega (arith, count, nodes, same, both),
      λ few. kept (omega (arith, count, nodes, same, both, few)) ∙ ap (λ l. l ++ messages_said d) (all (omega (arith, both, few))) ∙ ap (λ l. ms ++ l) is,
    )
