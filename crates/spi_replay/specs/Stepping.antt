-- What a step of a pool is refused for.
use Rattle.std.specs.Prelude.{◌≡◌, ℕ, ◌<◌, ◌≤◌, max, List, [], ◌∷◌, length, Option, Some, None, slice_get}
use Rattle.spi_term.specs.Term.{Message, bound, name, unit, pair, in_left, in_right, enc, hash, Process, leaf, recv, serve, split, select, decrypt, check, begin, end, end_many, cast, fresh, branch, par, message_size}
use Rattle.spi_term.specs.Spelling.{stopped}
use Rattle.spi_run.specs.Reduction.{Configuration, Step, act, talk, Event, Takes}
use Rattle.spi_run.specs.Knowledge.{datum}
use Rattle.spi_run.specs.View.{event}
use Rattle.spi_run.specs.declared.step.Event as declared
use Rattle.spi_replay.specs.declared.fault.StepFault.{StepFault}
use Rattle.spi_replay.specs.declared.fault.StepFault.TheVariants.{NoPlace, NotReady, RunMessageTooLarge, TooManyPlaces}
use Rattle.spi_replay.specs.Ready.{IsReady, first_place}

-- a pool: a configuration, and how many places it may have
pub record Pooled : Type 0 where
  pub configuration : Configuration
  pub most : ℕ

-- the places that a step names
abbrev pub places_named : Step → List ℕ
places_named (act i) = i ∷ []
places_named (talk i j) = i ∷ j ∷ []

-- the first of these that is outside
pub data FirstOutside (n : ℕ) : List ℕ → ℕ → Type 0 where
  outside_here : {i : ℕ} {is : List ℕ} → n ≤ i → FirstOutside n (i ∷ is) i
  outside_later : {i k : ℕ} {is : List ℕ} → i < n → FirstOutside n is k → FirstOutside n (i ∷ is) k

-- what is bound where a message is taken apart, by what is bound of a pair, of the one side of a sum and of a ciphertext
abbrev pub bound_apart : (Message → Message → List Message) → (Message → List Message)
    → (Message → Message → List Message) → Message → List Message
bound_apart of_pair of_side of_enc (bound i) = []
bound_apart of_pair of_side of_enc (name x) = []
bound_apart of_pair of_side of_enc unit = []
bound_apart of_pair of_side of_enc (pair a b) = of_pair a b
bound_apart of_pair of_side of_enc (in_left a) = of_side a
bound_apart of_pair of_side of_enc (in_right a) = of_side a
bound_apart of_pair of_side of_enc (enc a k) = of_enc a k
bound_apart of_pair of_side of_enc (hash a) = []

-- a split binds both parts of a pair, a match the second, a case the one of a sum, and a decryption a ciphertext's body
abbrev pub split_parts : Message → List Message
split_parts m = bound_apart (λ a b. a ∷ b ∷ []) (λ a. []) (λ a k. []) m

abbrev pub matched_part : Message → List Message
matched_part m = bound_apart (λ a b. b ∷ []) (λ a. []) (λ a k. []) m

abbrev pub side_part : Message → List Message
side_part m = bound_apart (λ a b. []) (λ a. a ∷ []) (λ a k. []) m

abbrev pub decrypted_part : Message → List Message
decrypted_part m = bound_apart (λ a b. []) (λ a. []) (λ a k. a ∷ []) m

-- The messages that a ready step binds to a name or puts in its event, where n names are used. Of a `match` that is the
-- second part alone: the first is bound to no name of the process.
abbrev pub bound_here : ℕ → Process → List Message
bound_here n (leaf l) = []
bound_here n (recv m t p) = []
bound_here n (serve m t p) = []
bound_here n (split m t u p) = split_parts m
bound_here n (select m t c u p) = matched_part m
bound_here n (decrypt m t k p) = decrypted_part m
bound_here n (check m c p) = []
bound_here n (begin m p) = m ∷ []
bound_here n (end m p) = m ∷ []
bound_here n (end_many m p) = m ∷ []
bound_here n (cast m t p) = m ∷ []
bound_here n (fresh t p) = name n ∷ []
bound_here n (branch m t p u q) = side_part m
bound_here n (par p q) = []

abbrev pub handed_over : Process → List Message
handed_over p = datum (Some p)

abbrev pub by_place : (Process → List Message) → Option Process → List Message
by_place f None = []
by_place f (Some p) = f p

abbrev pub bound_by : Configuration → Step → List Message
bound_by c (act i) = by_place (bound_here c.names) (slice_get c.places i)
bound_by c (talk i j) = by_place handed_over (slice_get c.places i)

-- the nodes of the largest of them
abbrev pub largest : List Message → ℕ
largest [] = 0
largest (m ∷ ms) = max (message_size m) (largest ms)

-- the greatest number of nodes of such a message
abbrev pub message_most : ℕ
message_most = 1000

-- how many places there are at most
abbrev pub places_most : ℕ
places_most = 5000

-- why a step is refused, in this order
pub data RefusesPoolStep (c : Configuration) (most : ℕ) (s : Step) : StepFault → Type 0 where
  no_place : {i : ℕ} → FirstOutside (length c.places) (places_named s) i
      → RefusesPoolStep c most s (NoPlace i)
  not_ready : ((i : ℕ) → FirstOutside (length c.places) (places_named s) i → ⊥) → (IsReady c s → ⊥)
      → RefusesPoolStep c most s (NotReady (first_place s))
  too_large : IsReady c s → message_most < largest (bound_by c s)
      → RefusesPoolStep c most s (RunMessageTooLarge (stopped (largest (bound_by c s))))
  too_many : {e : Option Event} {d : Configuration} → Takes c s e d → largest (bound_by c s) ≤ message_most
      → most < length d.places
      → RefusesPoolStep c most s (TooManyPlaces (length d.places))

-- the event of a step, where it has one
abbrev pub event_in : Option declared.Event → Option Event
event_in None = None
event_in (Some e) = Some (event e)

-- the step is taken: it is one of the configuration, and neither limit is passed
pub record IsTaken (old : Pooled) (s : Step) (e : Option Event) (new : Pooled) : Type 0 where
  pub takes : Takes old.configuration s e new.configuration
  pub small : largest (bound_by old.configuration s) ≤ message_most
  pub few : length new.configuration.places ≤ old.most
  pub most : new.most ≡ old.most
