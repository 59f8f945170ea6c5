-- What a narration answers: the file that it is woven into with an honest schedule, or the first refusal.
use Rattle.std.specs.Prelude.{◌≡◌, ℕ, List, ◌∷◌, ◌++◌, map, slice_get, Some}
use Rattle.spi_text.specs.declared.lines.Span.{Span}
use Rattle.spi_tree.specs.declared.tree.SWord.{SWord}
use Rattle.spi_tree.specs.Trees.{Msg}
use Rattle.spi_run.specs.View.{step}
use Rattle.spi_scope.specs.declared.fault.ScopeFault.{ScopeFault}
use Rattle.spi_scope.specs.Scope.{Names, number_of}
use Rattle.spi_scope.specs.Files.{meant}
use Rattle.spi_scope.specs.First.{HasFirst}
use Rattle.spi_scope.specs.StandsFor.{Meant, StandsFor}
use Rattle.spi_spell.specs.Joined.{with_schedule}
use Rattle.spi_narrate.specs.Narrations as n
use Rattle.spi_weave.specs.Woven.{woven}
use Rattle.spi_honest.specs.declared.honest.Honest.{Honest}
use Rattle.spi_honest.specs.declared.fault.HonestFault.TheVariants.{LineNotReady, NarratedTooLarge}
use Rattle.spi_honest.specs.Narrated.{free_of}
use Rattle.spi_honest.specs.Roles.{HaveChannels}
use Rattle.spi_honest.specs.Honest.{IsHonest, HasHonestFault}
use Rattle.spi_narrator.specs.declared.answer.Refusal.{Refusal}
use Rattle.spi_narrator.specs.declared.answer.Refusal.TheVariants.{NotFree, Scope, NotReady, TooLarge}
use Rattle.spi_narrator.specs.declared.answer.Answer.{Answer}
use Rattle.spi_narrator.specs.declared.answer.Answer.TheVariants.{Told, Refused}

abbrev pub line_span : n.Line → Span
line_span (n.local s r f) = s
line_span (n.pass s from to c m x) = s

-- the line with this number stands there
abbrev pub LineIn : List n.Line → ℕ → Span → Type 0
LineIn lines i s = (l : n.Line) × (slice_get lines i ≡ Some l) × (s ≡ line_span l)

-- each word after `on` before this one is a free name, and this one isn't
pub record IsFirstNotFree (free : Names) (lines : List n.Line) (w : SWord) : Type 0 where
  pub before : List n.Line
  pub span : Span
  pub from : SWord
  pub to : SWord
  pub message : Msg
  pub name : SWord
  pub after : List n.Line
  pub cut : lines ≡ before ++ n.pass span from to w message name ∷ after
  pub are : HaveChannels free before
  pub strange : (i : ℕ) → number_of free w.word ≡ Some i → ⊥

-- the first refusal, in this order
pub data RefusesNarration (x : n.Narration) : Refusal → Type 0 where
  not_free : {w : SWord} → IsFirstNotFree (free_of x) x.lines w → RefusesNarration x (NotFree w.span w.word)
  out_of_scope : {f : ScopeFault} → HaveChannels (free_of x) x.lines → HasFirst (woven x) f
      → RefusesNarration x (Scope f)
  not_ready : {i : ℕ} {s : Span} {file : Meant} → HaveChannels (free_of x) x.lines → StandsFor (woven x) file
      → HasHonestFault x (LineNotReady i) → LineIn x.lines i s → RefusesNarration x (NotReady s)
  too_large : {i nodes : ℕ} {s : Span} {file : Meant} → HaveChannels (free_of x) x.lines
      → StandsFor (woven x) file
      → HasHonestFault x (NarratedTooLarge i nodes) → LineIn x.lines i s
      → RefusesNarration x (TooLarge s nodes)

-- the file is the one that the narration is woven into, with an honest schedule
pub record IsTold (x : n.Narration) (told : Meant) : Type 0 where
  pub file : Meant
  pub honest : Honest
  pub channels : HaveChannels (free_of x) x.lines
  pub stands : StandsFor (woven x) file
  pub is : IsHonest x file honest
  pub same : told ≡ with_schedule file (map step honest.steps.items)

-- what the narration answers
abbrev pub IsNarrationAnswer : n.Narration → Answer → Type 0
IsNarrationAnswer x (Told f) = IsTold x (meant f)
IsNarrationAnswer x (Refused r) = RefusesNarration x r
