-- How a narration goes: line by line, with a count of names and what each role has. No place, process or step is named.
use Rattle.std.specs.Prelude.{◌≡◌, ℕ, suc, ◌≤◌, List, [], ◌∷◌, ◌++◌, length, map, Option, Some, None, option_to_list, if◌then◌else◌, ⊤}
use Rattle.std.specs.Str.{bytes_eq}
use Rattle.spi_text.specs.declared.lines.Span.{Span}
use Rattle.spi_tree.specs.declared.tree.SWord.{SWord}
use Rattle.spi_tree.specs.Trees.{Msg, Ty}
use Rattle.spi_heading.specs.Headings.{with_shared}
use Rattle.spi_narrate.specs.Narrations as n
use Rattle.spi_term.specs.Term.{Message, name, pair, enc}
use Rattle.spi_run.specs.Reduction.{Event, begun, ended, ended_many}
use Rattle.spi_replay.specs.Stepping.{largest, message_most}
use Rattle.spi_scope.specs.Scope.{Word, Names, number_of}
use Rattle.spi_scope.specs.Points.{all_names}
use Rattle.spi_honest.specs.Reading.{GivenMessage, Map, at_word, value_in_map, names_numbered}

abbrev pub with_message : SWord → Message → GivenMessage
with_message x m = record { word = x.word; message = m }

-- What a role that has g does by itself where k names are used: what it binds, the latest first, its event, and how many
-- names are used then. This is the table of reduction, form by form.
pub data Does (k : ℕ) (g : Map) : n.Prefix → Map → Option Event → ℕ → Type 0 where
  does_split : {s : Span} {m : Msg} {x y : SWord} {t u : Ty} {a b : Message}
      → value_in_map g m ≡ pair a b
      → Does k g (n.split s m x t y u) (with_message y b ∷ with_message x a ∷ []) None k
  does_match : {s : Span} {m l : Msg} {x y : SWord} {t u : Ty} {a b : Message}
      → value_in_map g m ≡ pair a b → a ≡ value_in_map g l
      → Does k g (n.match s m x t l y u) (with_message y b ∷ []) None k
  does_decrypt : {s : Span} {m l : Msg} {x : SWord} {t : Ty} {a b : Message}
      → value_in_map g m ≡ enc a b → b ≡ value_in_map g l
      → Does k g (n.decrypt s m x t l) (with_message x a ∷ []) None k
  does_check : {s : Span} {m l : Msg} → value_in_map g m ≡ value_in_map g l
      → Does k g (n.check s m l) [] None k
  does_begin : {s : Span} {m : Msg} → Does k g (n.begin s m) [] (Some (begun (value_in_map g m))) k
  does_end : {s : Span} {m : Msg} → Does k g (n.end s m) [] (Some (ended (value_in_map g m))) k
  does_end_many : {s : Span} {m : Msg} → Does k g (n.end_many s m) [] (Some (ended_many (value_in_map g m))) k
  does_cast : {s : Span} {m : Msg} {x : SWord} {t : Ty}
      → Does k g (n.cast s m x t) (with_message x (value_in_map g m) ∷ []) None k
  does_new : {s : Span} {x : SWord} {t : Ty}
      → Does k g (n.new s x t) (with_message x (name k) ∷ []) None (suc k)

-- how many names are used, and what each role has
pub record Told : Type 0 where
  pub names : ℕ
  pub has : Word → Map

-- a role is given more
abbrev pub giving : Word → Map → (Word → Map) → Word → Map
giving r more has q = if bytes_eq r q then more ++ has q else has q

-- the word is this free name, and the role has it there
pub record IsFreeWord (free : Names) (g : Map) (w : Word) : Type 0 where
  pub number : ℕ
  pub is : number_of free w ≡ Some number
  pub had : at_word g w ≡ Some (name number)

-- one line: what it binds, its event, and what there is then. A message goes from the sender to the receiver where both
-- have the free name at the word after `on`
pub data TellsLine (free : Names) (o : Told) : n.Line → Map → Option Event → Told → Type 0 where
  tells_local : {s : Span} {r : SWord} {f : n.Prefix} {more : Map} {e : Option Event} {k : ℕ}
      → Does o.names (o.has r.word) f more e k
      → TellsLine free o (n.local s r f) more e (record { names = k; has = giving r.word more o.has })
  tells_pass : {s : Span} {from to c x : SWord} {m : Msg}
      → IsFreeWord free (o.has from.word) c.word → IsFreeWord free (o.has to.word) c.word
      → TellsLine free o (n.pass s from to c m x)
      (with_message x (value_in_map (o.has from.word) m) ∷ []) None
      (record {
        names = o.names;
        has = giving to.word (with_message x (value_in_map (o.has from.word) m) ∷ []) o.has;
      })

-- lines in order, with their events
pub data Narrates (free : Names) : Told → List n.Line → List Event → Told → Type 0 where
  narrates_none : {o : Told} → Narrates free o [] [] o
  narrates_line : {o p q : Told} {l : n.Line} {ls : List n.Line} {more : Map} {e : Option Event}
      {es : List Event}
      → TellsLine free o l more e p → Narrates free p ls es q
      → Narrates free o (l ∷ ls) (option_to_list e ++ es) q

-- the messages that a line binds or reports
abbrev pub event_label : Event → Message
event_label (begun m) = m
event_label (ended m) = m
event_label (ended_many m) = m

abbrev pub shown_by_event : Map → Option Event → List Message
shown_by_event more e = map (λ x. x.message) more ++ map event_label (option_to_list e)

-- lines in order, none of whose messages has more than 1,000 nodes
abbrev pub AreLinesSmall : {free : Names} {o p : Told} {ls : List n.Line} {es : List Event}
    → Narrates free o ls es p → Type 0
AreLinesSmall narrates_none = ⊤
AreLinesSmall (narrates_line {more = more} {e = e} t r) = (largest (shown_by_event more e) ≤ message_most)
    × AreLinesSmall r

pub record NarratesSmall (free : Names) (o : Told) (ls : List n.Line) (es : List Event) (p : Told) : Type 0
  where
    pub narrates : Narrates free o ls es p
    pub small : AreLinesSmall narrates

-- the free names, and with them the shared names, the innermost first
abbrev pub free_of : n.Narration → Names
free_of x = all_names [] x.decls

-- at the start each role has the free names and then the shared names, numbered in order
abbrev pub narrated_begin : n.Narration → Told
narrated_begin x =
    let xs = with_shared (free_of x) x.shared in record { names = length xs; has = λ r. names_numbered xs }
