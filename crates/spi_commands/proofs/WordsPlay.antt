-- What clap makes of the words behind `play`.
use Rattle.std.proofs.Common.{◌≡◌, ◌∙◌, ℕ, Bool, true, false, true≢false, cond, ◌||◌, refl, sym, ap, ap₂, subst, List, [], ◌∷◌, ◌++◌, take, drop, Option, Some, None, inl, inr, ◌⊎◌, take-append-drop}
use Rattle.std.specs.Prelude.{codes}
use Rattle.std.specs.List.{fold}
use Rattle.std.specs.Str.{bytes_eq}
use Rattle.std.proofs.lemmas.Slice.Eq.{bytes_eq-Decides}
use Rattle.clap.specs.Lexer.{long_of}
use Rattle.clap.specs.Kinds.{or_else}
use Rattle.clap.specs.Faults.{check_fault, defaults_fault, settle_fault, turn_fault, use_fault}
use Rattle.clap.specs.Walk.{Row, Rule, Text, Walk, arg_by_long, first_of, finished, idle, option, reading_by, settled, used, walked, with_default}
use Rattle.clap.specs.Simple.{Shape, new_rule, new_shape}
use Rattle.clap.specs.declared.builder.ArgAction.TheVariants.{Set}
use Rattle.clap.specs.declared.builder.value_parser.ValueParser.TheVariants as vp
use Rattle.clap.specs.declared.error.kind.ErrorKind.TheVariants.{ArgumentConflict, InvalidValue, UnknownArgument}
use Rattle.clap.specs.declared.parser.matches.ValueSource.TheVariants.{CommandLine}
use Rattle.clap.proofs.OnLiterals.{clap_on_literals}
use Rattle.spi_term.proofs.Freeness.{or_false}
use Rattle.spi_commands.specs.declared.asked.Command.{Command}
use Rattle.spi_commands.specs.Asked.{apart, pieces, with_options}
use Rattle.spi_commands.specs.Options.{has_dashes, with_values}
use Rattle.spi_commands.proofs.WordsKinds.{IsDashed, IsPlainValue, behind_kind, dashed_or_plain, hold, long_word_is}
use Rattle.spi_commands.proofs.WordsOptions.{Which, steps, player, SeenOptions, none, one, two, id_of, bare_option, joined_word, other, pieces_of, more_options, wants, one_use, no_value, bad_value, name_no_number, no_option}
use Rattle.spi_commands.proofs.WordsLevels.{after, level_answer, dashed_turn, goes, plain_turn, plain_walked, waiting_walk, stops}

-- ---- the command as it is built

abbrev pub filled_rule : Text → Bool → Rule
filled_rule id required = record (new_rule id) {
  long = Some id;
  action = Some Set;
  required = required;
  parser = Some vp.String;
  range = Some (record { start_inclusive = 1; end_inclusive = 1 });
}

abbrev pub play_rule : Which → Rule
play_rule steps = filled_rule (codes "steps") true
play_rule player = filled_rule (codes "player") false

abbrev pub play_rules : List Rule
play_rules = play_rule steps ∷ play_rule player ∷ []

abbrev pub built_shape : Text → List Rule → Shape
built_shape name rs = record (new_shape name) {
  rules = rs;
  no_binary_name = true;
  disable_help_flag = true;
  disable_help_subcommand = true;
  is_built = true;
}

abbrev pub shape : Shape
shape = built_shape (codes "play") play_rules

-- ---- where it stands

abbrev row : Which → Text → Row
row x v = record { id = id_of x; values = v ∷ []; count = None; source = Some CommandLine; reading = reading_by (play_rule x) }

abbrev rows : SeenOptions → List Row
rows none = []
rows (one x v) = row x v ∷ []
rows (two x v w) = row x v ∷ row (other x) w ∷ []

-- an option with its value that isn't counted yet
pub data Pending : Type 0 where
  nothing : Pending
  value : Which → Text → Pending

abbrev pend : Pending → Option (Text × List Text)
pend nothing = None
pend (value x v) = Some (id_of x, v ∷ [])

abbrev then : SeenOptions → Pending → Option SeenOptions
then s nothing = Some s
then s (value x v) = more_options s x v

abbrev between_options : SeenOptions → Pending → Walk
between_options s p = waiting_walk idle 1 (rows s) (pend p)

-- an option waits for its value
abbrev amid : List Row → Which → Walk
amid rs x = waiting_walk (option (id_of x)) 1 rs (Some (id_of x, []))

abbrev UsesSeat : SeenOptions → Which → Text → Option SeenOptions → Type 0
UsesSeat s x v None = use_fault false (play_rule x) (v ∷ []) (rows s) ≡ ArgumentConflict ∷ []
UsesSeat s x v (Some t) = (use_fault false (play_rule x) (v ∷ []) (rows s) ≡ []) × (used (play_rule x) (v ∷ []) (rows s) ≡ rows t)

uses : (s : SeenOptions) (x : Which) (v : Text) → UsesSeat s x v (more_options s x v)
uses none steps v = (refl, refl)
uses none player v = (refl, refl)
uses (one steps u) steps v = refl
uses (one steps u) player v = (refl, refl)
uses (one player u) steps v = (refl, refl)
uses (one player u) player v = refl
uses (two steps u w) steps v = refl
uses (two steps u w) player v = refl
uses (two player u w) steps v = refl
uses (two player u w) player v = refl

abbrev SettlesOptions : SeenOptions → Pending → Option SeenOptions → Type 0
SettlesOptions s p None = settle_fault play_rules false (hold (rows s) (pend p)) ≡ ArgumentConflict ∷ []
SettlesOptions s p (Some t) = (settle_fault play_rules false (hold (rows s) (pend p)) ≡ []) × ((settled play_rules (hold (rows s) (pend p))).rows ≡ rows t)

as_used : (s : SeenOptions) (x : Which) (v : Text) (o : Option SeenOptions) → UsesSeat s x v o → SettlesOptions s (value x v) o
as_used s steps v None h = h
as_used s player v None h = h
as_used s steps v (Some t) h = h
as_used s player v (Some t) h = h

settles : (s : SeenOptions) (p : Pending) → SettlesOptions s p (then s p)
settles s nothing = (refl, refl)
settles s (value x v) = as_used s x v (more_options s x v) (uses s x v)

-- ---- one word

joined_turn : (rs : List Row) (p : Option (Text × List Text)) (x : Which) (v : Text)
    → turn_fault shape [] (waiting_walk idle 1 rs p) (joined_word x v) ≡ or_else (or_else (settle_fault play_rules false (hold rs p)) (use_fault false (play_rule x) (v ∷ []) (settled play_rules (hold rs p)).rows)) []
joined_turn rs p steps v = refl
joined_turn rs p player v = refl

joined_walked : (rs : List Row) (p : Option (Text × List Text)) (x : Which) (v : Text)
    → walked play_rules [] (waiting_walk idle 1 rs p) (joined_word x v) ≡ waiting_walk idle 1 (used (play_rule x) (v ∷ []) (settled play_rules (hold rs p)).rows) None
unfolding walked
joined_walked rs p steps v = refl
joined_walked rs p player v = refl

bare_turn : (rs : List Row) (p : Option (Text × List Text)) (x : Which)
    → turn_fault shape [] (waiting_walk idle 1 rs p) (bare_option x) ≡ or_else (settle_fault play_rules false (hold rs p)) []
bare_turn rs p steps = refl
bare_turn rs p player = refl

bare_walked : (rs : List Row) (p : Option (Text × List Text)) (x : Which)
    → walked play_rules [] (waiting_walk idle 1 rs p) (bare_option x) ≡ amid (settled play_rules (hold rs p)).rows x
unfolding walked
bare_walked rs p steps = refl
bare_walked rs p player = refl

-- behind an option that waits for its value
bare_amid : (rs : List Row) (x y : Which) → turn_fault shape [] (amid rs x) (bare_option y) ≡ InvalidValue ∷ []
bare_amid rs steps steps = refl
bare_amid rs steps player = refl
bare_amid rs player steps = refl
bare_amid rs player player = refl

joined_amid : (rs : List Row) (x y : Which) (v : Text) → turn_fault shape [] (amid rs x) (joined_word y v) ≡ InvalidValue ∷ []
joined_amid rs steps steps v = refl
joined_amid rs steps player v = refl
joined_amid rs player steps v = refl
joined_amid rs player player v = refl

-- ---- what kind of word it is

pub data WordKind (word : Text) : Type 0 where
  bare : (x : Which) → word ≡ bare_option x → WordKind word
  joined : (x : Which) (v : Text) → word ≡ joined_word x v → WordKind word
  strange : IsDashed play_rules word ⊎ IsPlainValue play_rules word → bytes_eq word (codes "--steps") ≡ false → bytes_eq word (codes "--player") ≡ false → apart word ≡ word ∷ [] → WordKind word

named_steps : (word : Text) (v : Option Text) → bytes_eq (take 8 word) (codes "--steps=") ≡ false → bytes_eq word (codes "--steps") ≡ false
    → word ≡ 45 ∷ 45 ∷ (codes "steps" ++ behind_kind v) → ⊥
named_steps word None h g is = true≢false (sym (ap (λ w. bytes_eq w (codes "--steps")) is) ∙ g)
named_steps word (Some v) h g is = true≢false (sym (ap (λ w. bytes_eq (take 8 w) (codes "--steps=")) is) ∙ h)

named_player : (word : Text) (v : Option Text) → bytes_eq (take 9 word) (codes "--player=") ≡ false → bytes_eq word (codes "--player") ≡ false
    → word ≡ 45 ∷ 45 ∷ (codes "player" ++ behind_kind v) → ⊥
named_player word None h g is = true≢false (sym (ap (λ w. bytes_eq w (codes "--player")) is) ∙ g)
named_player word (Some v) h g is = true≢false (sym (ap (λ w. bytes_eq (take 9 w) (codes "--player=")) is) ∙ h)

differs : (b : Bool) → (b ≡ true → ⊥) → b ≡ false
differs true h = absurd (h refl)
differs false h = refl

no_long : (word : Text) → bytes_eq (take 8 word) (codes "--steps=") ≡ false → bytes_eq (take 9 word) (codes "--player=") ≡ false
    → bytes_eq word (codes "--steps") ≡ false → bytes_eq word (codes "--player") ≡ false
    → (p : Text × Option Text) → long_of word ≡ Some p → arg_by_long play_rules p.0 ≡ None
no_long word h g i j p e =
    let is = long_word_is word p e in
    let s : bytes_eq (codes "steps") p.0 ≡ false = differs _ (λ t. named_steps word p.1 h i (is ∙ ap (λ n. 45 ∷ 45 ∷ (n ++ behind_kind p.1)) (sym ((bytes_eq-Decides (codes "steps") p.0).0 t)))) in
    let q : bytes_eq (codes "player") p.0 ≡ false = differs _ (λ t. named_player word p.1 g j (is ∙ ap (λ n. 45 ∷ 45 ∷ (n ++ behind_kind p.1)) (sym ((bytes_eq-Decides (codes "player") p.0).0 t)))) in
    by (bytes_eq (codes "steps") p.0) (bytes_eq (codes "player") p.0) s q
  where
    by : (b c : Bool) → b ≡ false → c ≡ false → cond (b || false) (Some (play_rule steps)) (cond (c || false) (Some (play_rule player)) None) ≡ None
    by b c s q = rw (s, q) refl

pub kind_of : (word : Text) → WordKind word
kind_of word = by (bytes_eq (take 8 word) (codes "--steps=")) refl (bytes_eq (take 9 word) (codes "--player=")) refl (bytes_eq word (codes "--steps")) refl (bytes_eq word (codes "--player")) refl
  where
    by : (b : Bool) → bytes_eq (take 8 word) (codes "--steps=") ≡ b → (c : Bool) → bytes_eq (take 9 word) (codes "--player=") ≡ c
        → (d : Bool) → bytes_eq word (codes "--steps") ≡ d → (f : Bool) → bytes_eq word (codes "--player") ≡ f → WordKind word
    by true h c g d i f j = joined steps (drop 8 word) (sym (take-append-drop 8 word) ∙ ap (λ l. l ++ drop 8 word) ((bytes_eq-Decides _ _).0 h))
    by false h true g d i f j = joined player (drop 9 word) (sym (take-append-drop 9 word) ∙ ap (λ l. l ++ drop 9 word) ((bytes_eq-Decides _ _).0 g))
    by false h false g true i f j = bare steps ((bytes_eq-Decides _ _).0 i)
    by false h false g false i true j = bare player ((bytes_eq-Decides _ _).0 j)
    by false h false g false i false j = strange (dashed_or_plain play_rules word (λ x. refl) (no_long word h g i j)) i j (rw (h, g) refl)

-- ---- all words

module _ (players : ℕ) where
  abbrev read : List Row → Option Command
  read rs = with_values (first_of (codes "steps") rs) (first_of (codes "player") rs) players

  -- between two options, and behind one that waits for its value
  abbrev BetweenOptions : List Text → Type 0
  BetweenOptions words = has_dashes words ≡ false → (s : SeenOptions) (p : Pending) → after shape read (between_options s p) words ≡ wants (then s p) (pieces words) players

  abbrev Amid : List Text → Type 0
  Amid words = has_dashes words ≡ false → (s : SeenOptions) (x : Which) → after shape read (amid (rows s) x) words ≡ with_options (pieces_of s ++ bare_option x ∷ pieces words) players

  ends : (s : SeenOptions) → level_answer read (or_else (defaults_fault (rows s) play_rules) (check_fault shape (fold with_default (rows s) play_rules) false)) (fold with_default (rows s) play_rules) ≡ with_options (pieces_of s ++ []) players
  unfolding clap_on_literals
  ends none = refl
  ends (one steps v) = refl
  ends (one player v) = refl
  ends (two steps v w) = refl
  ends (two player v w) = refl

  between_end : BetweenOptions []
  unfolding clap_on_literals
  between_end h s p = by (then s p) (settles s p)
    where
      by : (o : Option SeenOptions) → SettlesOptions s p o → after shape read (between_options s p) [] ≡ wants o [] players
      by None e = ap (λ k. level_answer read (or_else k (or_else (defaults_fault (settled play_rules (hold (rows s) (pend p))).rows play_rules)
          (check_fault shape (finished play_rules (hold (rows s) (pend p))) false))) (finished play_rules (hold (rows s) (pend p)))) e
      by (Some t) e = ap₂ (λ k rs. level_answer read (or_else k (or_else (defaults_fault rs play_rules)
          (check_fault shape (fold with_default rs play_rules) false))) (fold with_default rs play_rules)) e.0 e.1 ∙ ends t

  amid_end : Amid []
  unfolding clap_on_literals
  amid_end h s steps = no_value s steps players
  amid_end h s player = no_value s player players

  joined_word_step : (rest : List Text) → BetweenOptions rest → has_dashes rest ≡ false → (s : SeenOptions) (p : Pending) (x : Which) (v : Text)
      → after shape read (between_options s p) (joined_word x v ∷ rest) ≡ wants (then s p) (bare_option x ∷ v ∷ pieces rest) players
  joined_word_step rest next h s p x v = by (then s p) (settles s p)
    where
      then_used : (t : SeenOptions) (o : Option SeenOptions) → SettlesOptions s p (Some t) → UsesSeat t x v o → after shape read (between_options s p) (joined_word x v ∷ rest) ≡ wants o (pieces rest) players
      then_used t None e u = sym (stops shape read (between_options s p) (joined_word x v) rest ArgumentConflict [] (joined_turn (rows s) (pend p) x v ∙ ap₂ (λ k rs. or_else (or_else k (use_fault false (play_rule x) (v ∷ []) rs)) []) e.0 e.1 ∙ ap (λ k. or_else k []) u))
      then_used t (Some q) e u =
          goes shape read (between_options s p) (between_options q nothing) (joined_word x v) rest
          (joined_turn (rows s) (pend p) x v ∙ ap₂ (λ k rs. or_else (or_else k (use_fault false (play_rule x) (v ∷ []) rs)) []) e.0 e.1 ∙ ap (λ k. or_else k []) u.0)
          (joined_walked (rows s) (pend p) x v ∙ ap (λ rs. waiting_walk idle 1 (used (play_rule x) (v ∷ []) rs) None) e.1 ∙ ap (λ rs. waiting_walk idle 1 rs None) u.1)
          ∙ next h q nothing

      by : (o : Option SeenOptions) → SettlesOptions s p o → after shape read (between_options s p) (joined_word x v ∷ rest) ≡ wants o (bare_option x ∷ v ∷ pieces rest) players
      by None e = sym (stops shape read (between_options s p) (joined_word x v) rest ArgumentConflict []
          (joined_turn (rows s) (pend p) x v ∙ ap (λ k. or_else (or_else k (use_fault false (play_rule x) (v ∷ []) (settled play_rules (hold (rows s) (pend p))).rows)) []) e))
      by (Some t) e = then_used t (more_options t x v) e (uses t x v) ∙ one_use t x v (pieces rest) players

  bare_word_step : (rest : List Text) → Amid rest → has_dashes rest ≡ false → (s : SeenOptions) (p : Pending) (x : Which)
      → after shape read (between_options s p) (bare_option x ∷ rest) ≡ wants (then s p) (bare_option x ∷ pieces rest) players
  bare_word_step rest next h s p x = by (then s p) (settles s p)
    where
      by : (o : Option SeenOptions) → SettlesOptions s p o → after shape read (between_options s p) (bare_option x ∷ rest) ≡ wants o (bare_option x ∷ pieces rest) players
      by None e = sym (stops shape read (between_options s p) (bare_option x) rest ArgumentConflict [] (bare_turn (rows s) (pend p) x ∙ ap (λ k. or_else k []) e))
      by (Some t) e =
          goes shape read (between_options s p) (amid (rows t) x) (bare_option x) rest (bare_turn (rows s) (pend p) x ∙ ap (λ k. or_else k []) e.0)
          (bare_walked (rows s) (pend p) x ∙ ap (λ rs. amid rs x) e.1)
          ∙ next h t x

  -- a word that is no option
  stray : (s : SeenOptions) (p : Pending) (word : Text) (rest : List Text) → bytes_eq word (codes "--") ≡ false → IsDashed play_rules word ⊎ IsPlainValue play_rules word
      → None ≡ after shape read (between_options s p) (word ∷ rest)
  stray s p word rest d (inl h) = stops shape read (between_options s p) word rest UnknownArgument [] (dashed_turn shape [] idle 1 (rows s) (pend p) word refl d h)
  stray s p word rest d (inr h) = stops shape read (between_options s p) word rest UnknownArgument [] (plain_turn shape [] idle 1 (rows s) (pend p) word refl d h)

  strange_for : (o : Option SeenOptions) (word : Text) (ps : List Text) → bytes_eq word (codes "--steps") ≡ false → bytes_eq word (codes "--player") ≡ false → None ≡ wants o (word ∷ ps) players
  strange_for None word ps i j = refl
  strange_for (Some t) word ps i j = no_option t word ps players i j

  between_step : (word : Text) (rest : List Text) → BetweenOptions rest → Amid rest → BetweenOptions (word ∷ rest)
  between_step word rest next waits h s p = by (kind_of word)
    where
      d : (bytes_eq word (codes "--") ≡ false) × (has_dashes rest ≡ false)
      d = or_false (bytes_eq word (codes "--")) (has_dashes rest) h

      by : WordKind word → after shape read (between_options s p) (word ∷ rest) ≡ wants (then s p) (pieces (word ∷ rest)) players
      by (bare steps is) = subst (λ w. after shape read (between_options s p) (w ∷ rest) ≡ wants (then s p) (pieces (w ∷ rest)) players) (sym is) (bare_word_step rest waits d.1 s p steps)
      by (bare player is) = subst (λ w. after shape read (between_options s p) (w ∷ rest) ≡ wants (then s p) (pieces (w ∷ rest)) players) (sym is) (bare_word_step rest waits d.1 s p player)
      by (joined steps v is) = subst (λ w. after shape read (between_options s p) (w ∷ rest) ≡ wants (then s p) (pieces (w ∷ rest)) players) (sym is) (joined_word_step rest next d.1 s p steps v)
      by (joined player v is) = subst (λ w. after shape read (between_options s p) (w ∷ rest) ≡ wants (then s p) (pieces (w ∷ rest)) players) (sym is) (joined_word_step rest next d.1 s p player v)
      by (strange k i j a) = sym (stray s p word rest d.0 k) ∙ strange_for (then s p) word (pieces rest) i j ∙ ap (λ l. wants (then s p) (l ++ pieces rest) players) (sym a)

  amid_plain : (rest : List Text) → BetweenOptions rest → has_dashes rest ≡ false → (s : SeenOptions) (x : Which) (word : Text) → bytes_eq word (codes "--") ≡ false → IsPlainValue play_rules word
      → after shape read (amid (rows s) x) (word ∷ rest) ≡ wants (more_options s x word) (pieces rest) players
  amid_plain rest next h s steps word d k =
      goes shape read (amid (rows s) steps) (between_options s (value steps word)) word rest
      (plain_turn shape [] (option (id_of steps)) 1 (rows s) (Some (id_of steps, [])) word refl d k)
      (plain_walked shape [] (option (id_of steps)) 1 (rows s) (Some (id_of steps, [])) word refl d k)
      ∙ next h s (value steps word)
  amid_plain rest next h s player word d k =
      goes shape read (amid (rows s) player) (between_options s (value player word)) word rest
      (plain_turn shape [] (option (id_of player)) 1 (rows s) (Some (id_of player, [])) word refl d k)
      (plain_walked shape [] (option (id_of player)) 1 (rows s) (Some (id_of player, [])) word refl d k)
      ∙ next h s (value player word)

  amid_dashed : (rest : List Text) (s : SeenOptions) (x : Which) (word : Text) → bytes_eq word (codes "--") ≡ false → IsDashed play_rules word
      → None ≡ after shape read (amid (rows s) x) (word ∷ rest)
  amid_dashed rest s x word d k = stops shape read (amid (rows s) x) word rest UnknownArgument [] (dashed_turn shape [] (option (id_of x)) 1 (rows s) (Some (id_of x, [])) word refl d k)

  amid_step : (word : Text) (rest : List Text) → BetweenOptions rest → Amid (word ∷ rest)
  amid_step word rest next h s x = by (kind_of word)
    where
      d : (bytes_eq word (codes "--") ≡ false) × (has_dashes rest ≡ false)
      d = or_false (bytes_eq word (codes "--")) (has_dashes rest) h

      by : WordKind word → after shape read (amid (rows s) x) (word ∷ rest) ≡ with_options (pieces_of s ++ bare_option x ∷ pieces (word ∷ rest)) players
      by (bare steps is) = subst (λ w. after shape read (amid (rows s) x) (w ∷ rest) ≡ with_options (pieces_of s ++ bare_option x ∷ pieces (w ∷ rest)) players) (sym is)
          (sym (stops shape read (amid (rows s) x) (bare_option steps) rest InvalidValue [] (bare_amid (rows s) x steps)) ∙ bad_value s x (bare_option steps) (pieces rest) players (name_no_number steps))
      by (bare player is) = subst (λ w. after shape read (amid (rows s) x) (w ∷ rest) ≡ with_options (pieces_of s ++ bare_option x ∷ pieces (w ∷ rest)) players) (sym is)
          (sym (stops shape read (amid (rows s) x) (bare_option player) rest InvalidValue [] (bare_amid (rows s) x player)) ∙ bad_value s x (bare_option player) (pieces rest) players (name_no_number player))
      by (joined steps v is) = subst (λ w. after shape read (amid (rows s) x) (w ∷ rest) ≡ with_options (pieces_of s ++ bare_option x ∷ pieces (w ∷ rest)) players) (sym is)
          (sym (stops shape read (amid (rows s) x) (joined_word steps v) rest InvalidValue [] (joined_amid (rows s) x steps v)) ∙ bad_value s x (bare_option steps) (v ∷ pieces rest) players (name_no_number steps))
      by (joined player v is) = subst (λ w. after shape read (amid (rows s) x) (w ∷ rest) ≡ with_options (pieces_of s ++ bare_option x ∷ pieces (w ∷ rest)) players) (sym is)
          (sym (stops shape read (amid (rows s) x) (joined_word player v) rest InvalidValue [] (joined_amid (rows s) x player v)) ∙ bad_value s x (bare_option player) (v ∷ pieces rest) players (name_no_number player))
      by (strange (inl k) i j a) = sym (amid_dashed rest s x word d.0 k) ∙ bad_value s x word (pieces rest) players k.number
          ∙ ap (λ l. with_options (pieces_of s ++ bare_option x ∷ (l ++ pieces rest)) players) (sym a)
      by (strange (inr k) i j a) = amid_plain rest next d.1 s x word d.0 k ∙ one_use s x word (pieces rest) players
          ∙ ap (λ l. with_options (pieces_of s ++ bare_option x ∷ (l ++ pieces rest)) players) (sym a)

  walks : (words : List Text) → BetweenOptions words × Amid words
  walks [] = (between_end, amid_end)
  walks (word ∷ rest) = let next = walks rest in (between_step word rest next.0 next.1, amid_step word rest next.0)

  -- the words behind `play` are read as they are meant
  pub play_read : (words : List Text) → has_dashes words ≡ false → after shape read (waiting_walk idle 1 [] None) words ≡ with_options (pieces words) players
  play_read words h = (walks words).0 h none nothing
