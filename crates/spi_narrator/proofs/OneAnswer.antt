-- A narration that is told isn't refused, and is told by one file.
use Rattle.std.proofs.Common.{◌≡◌, ℕ, ◌≤◌, List, [], ◌∷◌, ◌++◌, map, Option, None, refl, sym, ap, ◌∙◌, subst, arith}
use Rattle.spi_term.specs.Term.{Message, pair, enc}
use Rattle.spi_run.specs.Reduction.{Event, Step}
use Rattle.spi_run.specs.View.{step}
use Rattle.spi_replay.specs.Stepping.{largest, message_most}
use Rattle.spi_scope.specs.declared.fault.ScopeFault.{ScopeFault}
use Rattle.spi_scope.specs.Scope.{Names}
use Rattle.spi_scope.specs.First.{HasFirst}
use Rattle.spi_scope.specs.StandsFor.{Meant, StandsFor}
use Rattle.spi_spell.specs.Joined.{with_schedule}
use Rattle.spi_tree.specs.Trees as t
use Rattle.spi_narrate.specs.Narrations as n
use Rattle.spi_weave.specs.Woven.{woven}
use Rattle.spi_honest.specs.Reading.{Map, value_in_map}
use Rattle.spi_honest.specs.Narrated.{Told, Does, does_split, does_match, does_decrypt, does_check, does_begin, does_end, does_end_many, does_cast, does_new, TellsLine, tells_local, tells_pass, giving, Narrates, narrates_none, narrates_line, AreLinesSmall, NarratesSmall, shown_by_event, free_of, with_message}
use Rattle.spi_honest.specs.Roles.{HasChannel, HaveChannels}
use Rattle.spi_honest.specs.Honest.{LineIsWrongAt, IsNotReady, IsTooLarge}
use Rattle.spi_narrator.specs.declared.answer.Refusal.{Refusal}
use Rattle.spi_narrator.specs.Answers.{RefusesNarration, not_free, out_of_scope, not_ready, too_large, IsTold}

-- ---- a line is told in one way

same_pair : {a b c d : Message} → pair a b ≡ pair c d → (a ≡ c) × (b ≡ d)
same_pair e = (cc, cc)

same_enc : {a b c d : Message} → enc a b ≡ enc c d → (a ≡ c) × (b ≡ d)
same_enc e = (cc, cc)

does_once : {k i j : ℕ} {g more other : Map} {f : n.Prefix} {e d : Option Event} → Does k g f more e i → Does k g f other d j → (more ≡ other) × (e ≡ d) × (i ≡ j)
does_once (does_split {x = x} {y = y} {a = a} {b = b} p) (does_split {a = c} {b = d} q) =
    let s = same_pair (sym p ∙ q) in (ap (λ m. with_message y m ∷ with_message x a ∷ []) s.1 ∙ ap (λ m. with_message y d ∷ with_message x m ∷ []) s.0, refl, refl)
does_once (does_match {y = y} p u) (does_match q w) = let s = same_pair (sym p ∙ q) in (ap (λ m. with_message y m ∷ []) s.1, refl, refl)
does_once (does_decrypt {x = x} p u) (does_decrypt q w) = let s = same_enc (sym p ∙ q) in (ap (λ m. with_message x m ∷ []) s.0, refl, refl)
does_once (does_check p) (does_check q) = (refl, refl, refl)
does_once does_begin does_begin = (refl, refl, refl)
does_once does_end does_end = (refl, refl, refl)
does_once does_end_many does_end_many = (refl, refl, refl)
does_once does_cast does_cast = (refl, refl, refl)
does_once does_new does_new = (refl, refl, refl)

module _ (free : Names) where
  -- what is so where a line is told
  abbrev Facts : Told → n.Line → Map → Option Event → Told → Type 0
  Facts o (n.local s r f) more e p =
      (k : ℕ) × Does o.names (o.has r.word) f more e k × (p ≡ record { names = k; has = giving r.word more o.has })
  Facts o (n.pass s from to c m x) more e p =
      (more ≡ with_message x (value_in_map (o.has from.word) m) ∷ []) × (e ≡ None)
      × (p ≡ record { names = o.names; has = giving to.word (with_message x (value_in_map (o.has from.word) m) ∷ []) o.has })

  facts : {o : Told} {l : n.Line} {more : Map} {e : Option Event} {p : Told} → TellsLine free o l more e p → Facts o l more e p
  facts (tells_local {k = k} a) = (k, a, refl)
  facts (tells_pass a b) = (refl, refl, refl)

  once : (o : Told) (l : n.Line) (more other : Map) (e d : Option Event) (p q : Told) → Facts o l more e p → Facts o l other d q → (more ≡ other) × (e ≡ d) × (p ≡ q)
  once o (n.local s r f) more other e d p q (i, a, u) (j, b, v) =
      let same = does_once a b in
      let one : Map → Told = λ m. record { names = i; has = giving r.word m o.has } in
      let two : ℕ → Told = λ k. record { names = k; has = giving r.word other o.has } in
      (same.0, same.1, u ∙ ap one same.0 ∙ ap two same.2 ∙ sym v)
  once o (n.pass s from to c m x) more other e d p q (a, b, u) (f, g, v) = (a ∙ sym f, b ∙ sym g, u ∙ sym v)

  tells_once : {o p q : Told} {l : n.Line} {more other : Map} {e d : Option Event} → TellsLine free o l more e p → TellsLine free o l other d q → (more ≡ other) × (e ≡ d) × (p ≡ q)
  tells_once {o} {p} {q} {l} {more} {other} {e} {d} a b = once o l more other e d p q (facts a) (facts b)

  -- a line and those behind it
  record LineThen (o : Told) (l : n.Line) (ls : List n.Line) (q : Told) : Type 0 where
    pub more : Map
    pub event : Option Event
    pub then : Told
    pub tells : TellsLine free o l more event then
    pub few : largest (shown_by_event more event) ≤ message_most
    pub events : List Event
    pub rest : NarratesSmall free then ls events q

  line_then : {o q : Told} {l : n.Line} {ls : List n.Line} {fs : List Event} → NarratesSmall free o (l ∷ ls) fs q → LineThen o l ls q
  line_then {o} {q = q} {l = l} {ls = ls} {fs = fs} b = go b.narrates b.small
    where
      go : {gs : List Event} → (a : Narrates free o (l ∷ ls) gs q) → AreLinesSmall a → LineThen o l ls q
      go (narrates_line {p = p} {more = more} {e = e} {es = es} t r) h = record { more = more; event = e; then = p; tells = t; few = h.0; events = es; rest = record { narrates = r; small = h.1 } }

  -- lines in front are told in one way, and the next one then too
  next_told : {o p q : Told} {before after : List n.Line} {here : n.Line} {es fs : List Event} → Narrates free o before es p → NarratesSmall free o (before ++ here ∷ after) fs q → LineThen p here after q
  next_told narrates_none b = line_then b
  next_told {q = q} {after = after} {here = here} (narrates_line {ls = ls} s a) b =
      let l = line_then b in
      next_told a (subst (λ (z : Told). NarratesSmall free z (ls ++ here ∷ after) l.events q) (sym (tells_once s l.tells).2) l.rest)

  told_line : {o p q : Told} {lines before after : List n.Line} {here : n.Line} {es fs : List Event} → lines ≡ before ++ here ∷ after → NarratesSmall free o before es p → NarratesSmall free o lines fs q → LineThen p here after q
  told_line {o} {q = q} {fs = fs} cut a b = next_told a.narrates (subst (λ (ls : List n.Line). NarratesSmall free o ls fs q) cut b)

  channel_at : (before after : List n.Line) (here : n.Line) → HaveChannels free (before ++ here ∷ after) → HasChannel free here
  channel_at [] after here h = h.0
  channel_at (l ∷ before) after here h = channel_at before after here h.1

abbrev pub NarrationNeverBoth : Type 0
NarrationNeverBoth = (tree : t.File) (file : Meant) (fault : ScopeFault) → StandsFor tree file → HasFirst tree fault → ⊥

abbrev pub OneNarrationMeant : Type 0
OneNarrationMeant = (tree : t.File) (file other : Meant) → StandsFor tree file → StandsFor tree other → file ≡ other

unready : (x : n.Narration) (told : Meant) (i : ℕ) → IsTold x told → LineIsWrongAt x i (IsNotReady (free_of x)) → ⊥
unready x told i is w =
    let next = told_line (free_of x) w.cut w.narrates is.is.narrates in
    w.wrong next.more next.event next.then next.tells

too_big : (x : n.Narration) (told : Meant) (i nodes : ℕ) → IsTold x told → LineIsWrongAt x i (IsTooLarge (free_of x) nodes) → ⊥
too_big x told i nodes is w =
    let next = told_line (free_of x) w.cut w.narrates is.is.narrates in
    let same = tells_once (free_of x) w.wrong.tells next.tells in
    let size = ap largest (ap (λ (m : Map). shown_by_event m w.wrong.event) same.0 ∙ ap (λ (e : Option Event). shown_by_event next.more e) same.1) in
    let large = w.wrong.large in
    let small = next.few in
    absurd (omega (arith, size, large, small))

pub told_never : NarrationNeverBoth → (x : n.Narration) (told : Meant) (r : Refusal) → IsTold x told → RefusesNarration x r → ⊥
told_never never x told r is (not_free f) =
    let channel = channel_at (free_of x) f.before f.after _ (subst (HaveChannels (free_of x)) f.cut is.channels) in
    f.strange channel.0 channel.1
told_never never x told r is (out_of_scope h first) = never (woven x) is.file _ is.stands first
told_never never x told r is (not_ready {i = i} h stands f l) = unready x told i is f
told_never never x told r is (too_large {i = i} {nodes = nodes} h stands f l) = too_big x told i nodes is f

pub told_once : OneNarrationMeant → (x : n.Narration) (told other : Meant) → IsTold x told → IsTold x other → told ≡ other
told_once one x told other a b =
    let file = one (woven x) a.file b.file a.stands b.stands in
    let steps = a.is.order ∙ sym b.is.order in
    a.same ∙ ap (λ (f : Meant). with_schedule f (map step a.honest.steps.items)) file ∙ ap (λ (ss : List Step). with_schedule b.file ss) steps ∙ sym b.same
