-- What clap makes of all the words.
use Rattle.std.proofs.Common.{◌≡◌, ◌∙◌, ℕ, Bool, true, false, true≢false, not, ◌&&◌, refl, sym, ap, ap₂, cond, ◌+◌, subst, List, [], ◌∷◌, ◌++◌, map, option_map, Option, Some, None, is_some, inl, inr, ◌⊎◌}
use Rattle.std.specs.Prelude.{codes, find}
use Rattle.std.specs.List.{fold, list_all}
use Rattle.std.specs.Option.{option_map_or}
use Rattle.std.specs.Str.{bytes_eq}
use Rattle.std.proofs.lemmas.Slice.Eq.{bytes_eq-Decides}
use Rattle.std.proofs.lemmas.Bool.{not-true}
use Rattle.clap.specs.Kinds.{Kinds, or_else}
use Rattle.clap.specs.Faults.{check_fault, defaults_fault, entered_fault, fault_of, is_simple_and_free, level_fault, settle_fault, turn_fault, walk_fault}
use Rattle.clap.specs.Walk.{Names, Row, Rule, Text, Walk, answers_to, finished, first_of, idle, nothing_held, rows_after, settled, subcommand_met, walk_from, walked}
use Rattle.clap.specs.Simple.{App, Shape, built, entered, is_simple, label_of, names_of, new_rule, rows_at, subcommand_of}
use Rattle.clap.specs.declared.builder.ArgAction.TheVariants.{Set}
use Rattle.clap.specs.declared.builder.value_parser.ValueParser.TheVariants as vp
use Rattle.clap.specs.declared.error.kind.ErrorKind.{ErrorKind}
use Rattle.clap.specs.declared.error.kind.ErrorKind.TheVariants.{DisplayHelp, UnknownArgument, InvalidSubcommand}
use Rattle.clap.proofs.WalkLemmas.{walk_stopped}
use Rattle.clap.proofs.OnLiterals.{clap_on_literals}
use Rattle.spi_term.proofs.Counting.{and_true}
use Rattle.spi_term.proofs.Freeness.{or_false}
use Rattle.spi_commands.specs.declared.asked.Command.{Command}
use Rattle.spi_commands.specs.Number.{number_below}
use Rattle.spi_commands.specs.Asked.{NumberedCommands, asked, at_least, number_table, row_of, with_numbers, word_table}
use Rattle.spi_commands.specs.Options.{found_command, has_dashes, read, whole_app, with_count, words_of}
use Rattle.spi_commands.proofs.WordsKinds.{IsDashed, IsPlainValue, dashed_or_plain}
use Rattle.spi_commands.proofs.WordsLevels.{after, level_answer, dashed_turn, goes, plain_turn, plain_walked, waiting_walk, stops}
use Rattle.spi_commands.proofs.WordsTables.{at_word, found_row, no_row}
use Rattle.spi_commands.proofs.WordsPlay.{built_shape, play_read, play_rules, shape as play_shape}

-- ---- no word may stand behind the command

module _ (name : Text) (r : List Row → Option Command) where
  pub leaf_read : (word : Text) (rest : List Text) → has_dashes (word ∷ rest) ≡ false → None ≡ after (built_shape name []) r (waiting_walk idle 1 [] None) (word ∷ rest)
  leaf_read word rest h = by (dashed_or_plain [] word (λ x. refl) (λ p e. refl))
    where
      d : bytes_eq word (codes "--") ≡ false
      d = (or_false (bytes_eq word (codes "--")) (has_dashes rest) h).0

      by : IsDashed [] word ⊎ IsPlainValue [] word → None ≡ after (built_shape name []) r (waiting_walk idle 1 [] None) (word ∷ rest)
      by (inl k) = stops (built_shape name []) r (waiting_walk idle 1 [] None) word rest UnknownArgument [] (dashed_turn (built_shape name []) [] idle 1 [] None word refl d k)
      by (inr k) = stops (built_shape name []) r (waiting_walk idle 1 [] None) word rest UnknownArgument [] (plain_turn (built_shape name []) [] idle 1 [] None word refl d k)

-- ---- one number

abbrev pub count_rule : Rule
count_rule = record (new_rule (codes "count")) {
  index = Some 1;
  action = Some Set;
  required = true;
  parser = Some vp.String;
  range = Some (record { start_inclusive = 1; end_inclusive = 1 });
}

module _ (name : Text) (form_app : NumberedCommands) where
  abbrev pub count_shape : Shape
  count_shape = built_shape name (count_rule ∷ [])

  abbrev count_in : List Row → Option Command
  count_in rs = with_count form_app (first_of (codes "count") rs)

  abbrev counted : Text → Walk
  counted word = waiting_walk idle 2 [] (Some (codes "count", word ∷ []))

  one_count : (word : Text) → after count_shape count_in (counted word) [] ≡ at_least form_app (number_below (form_app.most + 1) word)
  unfolding clap_on_literals
  one_count word = refl

  no_count : after count_shape count_in (waiting_walk idle 1 [] None) [] ≡ None
  unfolding clap_on_literals
  no_count = refl

  no_number : (word : Text) → number_below (form_app.most + 1) word ≡ None → at_least form_app (number_below (form_app.most + 1) word) ≡ None
  no_number word h = ap (at_least form_app) h

  abbrev count_kind : (word : Text) → IsDashed (count_rule ∷ []) word ⊎ IsPlainValue (count_rule ∷ []) word
  count_kind word = dashed_or_plain (count_rule ∷ []) word (λ x. refl) (λ p e. refl)

  two_counts : (word next : Text) (rest : List Text) → bytes_eq next (codes "--") ≡ false → None ≡ after count_shape count_in (counted word) (next ∷ rest)
  two_counts word next rest d = by (count_kind next)
    where
      by : IsDashed (count_rule ∷ []) next ⊎ IsPlainValue (count_rule ∷ []) next → None ≡ after count_shape count_in (counted word) (next ∷ rest)
      by (inl k) = stops count_shape count_in (counted word) next rest UnknownArgument [] (dashed_turn count_shape [] idle 2 [] (Some (codes "count", word ∷ [])) next refl d k)
      by (inr k) = stops count_shape count_in (counted word) next rest UnknownArgument [] (plain_turn count_shape [] idle 2 [] (Some (codes "count", word ∷ [])) next refl d k)

  plain_count : (word : Text) (rest : List Text) → bytes_eq word (codes "--") ≡ false → IsPlainValue (count_rule ∷ []) word
      → after count_shape count_in (waiting_walk idle 1 [] None) (word ∷ rest) ≡ after count_shape count_in (counted word) rest
  plain_count word rest d k = goes count_shape count_in (waiting_walk idle 1 [] None) (counted word) word rest
      (plain_turn count_shape [] idle 1 [] None word refl d k) (plain_walked count_shape [] idle 1 [] None word refl d k)

  dashed_count : (word : Text) (rest : List Text) → bytes_eq word (codes "--") ≡ false → IsDashed (count_rule ∷ []) word
      → None ≡ after count_shape count_in (waiting_walk idle 1 [] None) (word ∷ rest)
  dashed_count word rest d k = stops count_shape count_in (waiting_walk idle 1 [] None) word rest UnknownArgument [] (dashed_turn count_shape [] idle 1 [] None word refl d k)

  pub count_read : (words : List Text) → has_dashes words ≡ false → after count_shape count_in (waiting_walk idle 1 [] None) words ≡ with_numbers (Some form_app) words
  count_read [] h = no_count
  count_read (word ∷ []) h = by (count_kind word)
    where
      d : bytes_eq word (codes "--") ≡ false
      d = (or_false (bytes_eq word (codes "--")) false h).0

      by : IsDashed (count_rule ∷ []) word ⊎ IsPlainValue (count_rule ∷ []) word → after count_shape count_in (waiting_walk idle 1 [] None) (word ∷ []) ≡ at_least form_app (number_below (form_app.most + 1) word)
      by (inl k) = sym (dashed_count word [] d k) ∙ sym (no_number word (k.number (form_app.most + 1)))
      by (inr k) = plain_count word [] d k ∙ one_count word
  count_read (word ∷ next ∷ rest) h = by (count_kind word)
    where
      d : (bytes_eq word (codes "--") ≡ false) × (has_dashes (next ∷ rest) ≡ false)
      d = or_false (bytes_eq word (codes "--")) (has_dashes (next ∷ rest)) h

      by : IsDashed (count_rule ∷ []) word ⊎ IsPlainValue (count_rule ∷ []) word → after count_shape count_in (waiting_walk idle 1 [] None) (word ∷ next ∷ rest) ≡ None
      by (inl k) = sym (dashed_count word (next ∷ rest) d.0 k)
      by (inr k) = plain_count word (next ∷ rest) d.0 k ∙ sym (two_counts word next rest (or_false (bytes_eq next (codes "--")) (has_dashes rest) d.1).0)

-- ---- the first word

abbrev pub form_top : Shape
form_top = record (built_shape (codes "cryptyc") []) { is_leaf = false; subcommand_required = true }

abbrev counted_shapes : List Shape
counted_shapes = map (λ name. built_shape name (count_rule ∷ [])) (words_of number_table) ++ []

abbrev pub form_app : App
form_app = record {
  top = form_top;
  subs = map (λ name. built_shape name []) (words_of word_table) ++ play_shape ∷ counted_shapes;
}

abbrev form_names : Names
form_names = names_of form_app

pub whole_built : built whole_app ≡ form_app
whole_built = refl

pub whole_simple : is_simple whole_app ≡ true
whole_simple = refl

pub whole_free : is_simple_and_free whole_app ≡ true
whole_free = refl

-- what is read where there is no fault
abbrev pub command_told : Kinds → Option (Text × List Row) → ℕ → Option Command
command_told [] sub players = read sub players
command_told (k ∷ ks) sub players = None

abbrev told_by_walk : ℕ → Kinds → Walk → Option Command
told_by_walk players ks w = command_told (or_else ks (or_else (entered_fault form_app w.stopped) (or_else (settle_fault [] false w.held)
    (or_else (defaults_fault (settled [] w.held).rows []) (check_fault form_top (finished [] w.held) (is_some (entered form_app w.stopped)))))))
    (entered form_app w.stopped) players

abbrev told_of : List Text → ℕ → Option Command
told_of words players = told_by_walk players (walk_fault form_top form_names (walk_from nothing_held) words) (fold (walked [] form_names) (walk_from nothing_held) words)

abbrev stopped_walk : Text → List Text → Walk
stopped_walk name words = record (walk_from nothing_held) { stopped = Some (name, words) }

left : (name : Text) (seen words : List Text) → walk_fault form_top form_names (stopped_walk name seen) words ≡ []
unfolding clap_on_literals
left name seen [] = refl
left name seen (word ∷ words) = left name (seen ++ word ∷ []) words

-- at a command's name its form reads what stands behind it
entering : (name : Text) (rest : List Text) (players : ℕ) → turn_fault form_top form_names (walk_from nothing_held) name ≡ [] → walked [] form_names (walk_from nothing_held) name ≡ stopped_walk name []
    → told_of (name ∷ rest) players ≡ told_by_walk players [] (stopped_walk name rest)
unfolding clap_on_literals
entering name rest players e is =
    ap₂ (λ k (w : Walk). told_by_walk players (or_else k (walk_fault form_top form_names w rest)) (fold (walked [] form_names) w rest)) e is
    ∙ ap₂ (λ k (w : Walk). told_by_walk players k w) (left name [] rest) (sym (walk_stopped [] form_names (walk_from nothing_held) name [] rest))

through : (ks : Kinds) (name : Text) (rs : List Row) (players : ℕ) → command_told (or_else ks []) (Some (name, rs)) players ≡ level_answer (λ rs. found_command name rs players) ks rs
through [] name rs players = refl
through (k ∷ ks) name rs players = refl

-- the name that a word has among forms
label_found : (word : Text) (subs : List Shape) → find (answers_to word) (map label_of subs) ≡ option_map label_of (find (λ s. answers_to word (label_of s)) subs)
label_found word [] = refl
label_found word (s ∷ subs) = by (answers_to word (label_of s)) (label_found word subs)
  where
    by : (b : Bool) → find (answers_to word) (map label_of subs) ≡ option_map label_of (find (λ s. answers_to word (label_of s)) subs)
        → cond b (Some (label_of s)) (find (answers_to word) (map label_of subs)) ≡ option_map label_of (cond b (Some s) (find (λ s. answers_to word (label_of s)) subs))
    by true later = refl
    by false later = later

abbrev form_of_text : Text → Option Shape
form_of_text word = find (λ s. answers_to word (label_of s)) form_app.subs

met_is : (word : Text) → subcommand_met form_names idle word ≡ option_map (λ s. s.0) (option_map label_of (form_of_text word))
met_is word = ap (option_map (λ s. s.0)) (label_found word form_app.subs)

no_help : (b : Bool) → or_else (cond (b && false) (DisplayHelp ∷ InvalidSubcommand ∷ []) []) [] ≡ []
no_help true = refl
no_help false = refl

-- a word with this form enters it
module _ (word : Text) (rs : List Rule) (rest : List Text) (players : ℕ) (is : form_of_text word ≡ Some (built_shape word rs)) where
  met : subcommand_met form_names idle word ≡ Some word
  met = met_is word ∙ ap (λ o. option_map (λ s. s.0) (option_map label_of o)) is

  turns : turn_fault form_top form_names (walk_from nothing_held) word ≡ []
  unfolding clap_on_literals
  turns = rw (met) (no_help (bytes_eq word (codes "help")))

  walks : walked [] form_names (walk_from nothing_held) word ≡ stopped_walk word []
  unfolding walked
  walks = rw (met) refl

  -- what is told where the word has this form
  abbrev at_form : Option Shape → Option Command
  at_form o = command_told (or_else (option_map_or (λ s. level_fault s [] nothing_held rest false []) o [])
      (check_fault form_top [] (is_some (option_map (λ s. rows_at s rest) o)))) (option_map (λ s. rows_at s rest) o) players

  pub enters : told_of (word ∷ rest) players ≡ after (built_shape word rs) (λ rs. found_command word rs players) (waiting_walk idle 1 [] None) rest
  unfolding clap_on_literals
  enters = entering word rest players turns walks ∙ ap at_form is
      ∙ through (level_fault (built_shape word rs) [] nothing_held rest false []) word (rows_after rs [] rest) players

-- ---- a word of a table

none_of : {X : Type 0} (o : Option X) → not (is_some o) ≡ true → o ≡ None
none_of None e = refl
none_of (Some x) e = absurd (true≢false (sym e))

-- a word of the first table is none of the others
abbrev is_alone : Text → Bool
is_alone word = not (bytes_eq word (codes "play")) && not (is_some (row_of word number_table))

words_alone : list_all is_alone (words_of word_table) ≡ true
words_alone = refl

module _ (word : Text) (players : ℕ) (command : Command) (is : row_of word word_table ≡ Some command) where
  alone : (bytes_eq word (codes "play") ≡ false) × (row_of word number_table ≡ None)
  alone =
      let e = and_true (not (bytes_eq word (codes "play"))) (not (is_some (row_of word number_table))) (at_word is_alone word word_table command is words_alone) in
      (not-true (bytes_eq word (codes "play")) e.0, none_of (row_of word number_table) e.1)

  word_told : (rest : List Text) → has_dashes rest ≡ false → told_of (word ∷ rest) players ≡ asked (word ∷ rest) players
  unfolding clap_on_literals
  word_told [] h = enters word [] [] players (found_row [] word word_table (play_shape ∷ counted_shapes) command is) ∙ rw (alone.0, alone.1) refl
  word_told (next ∷ more) h = enters word [] (next ∷ more) players (found_row [] word word_table (play_shape ∷ counted_shapes) command is)
      ∙ sym (leaf_read word (λ rs. found_command word rs players) next more h) ∙ rw (alone.0, alone.1) refl

play_told : (rest : List Text) (players : ℕ) → has_dashes rest ≡ false → told_of (codes "play" ∷ rest) players ≡ asked (codes "play" ∷ rest) players
play_told [] players h = enters (codes "play") play_rules [] players refl ∙ play_read players [] h
play_told (next ∷ more) players h = enters (codes "play") play_rules (next ∷ more) players refl ∙ play_read players (next ∷ more) h

flip : (a b : Text) → bytes_eq a b ≡ false → bytes_eq b a ≡ false
flip a b h = by (bytes_eq b a) refl
  where
    by : (c : Bool) → bytes_eq b a ≡ c → c ≡ false
    by true e = absurd (true≢false (sym ((bytes_eq-Decides a b).1 (sym ((bytes_eq-Decides b a).0 e))) ∙ h))
    by false e = refl

module _ (word : Text) (players : ℕ) (none : row_of word word_table ≡ None) (differs : bytes_eq word (codes "play") ≡ false) where
  behind : form_of_text word ≡ find (λ s. answers_to word (label_of s)) counted_shapes
  behind = no_row [] word word_table (play_shape ∷ counted_shapes) none ∙ rw (flip word (codes "play") differs) refl

  number_told : (form_app : NumberedCommands) → row_of word number_table ≡ Some form_app → (rest : List Text) → has_dashes rest ≡ false → told_of (word ∷ rest) players ≡ asked (word ∷ rest) players
  number_told form_app is rest h =
      enters word (count_rule ∷ []) rest players (behind ∙ found_row (count_rule ∷ []) word number_table [] form_app is)
      ∙ (λ i. after (count_shape word form_app) (λ rs. reads rs i) (waiting_walk idle 1 [] None) rest) ∙ count_read word form_app rest h ∙ sym (asks rest)
    where
      reads : (rs : List Row) → found_command word rs players ≡ with_count form_app (first_of (codes "count") rs)
      reads rs = rw (differs, is) refl

      asks : (rest : List Text) → asked (word ∷ rest) players ≡ with_numbers (Some form_app) rest
      asks [] = none
      asks (next ∷ more) = rw (differs, is) refl

  -- a word that names none
  module _ (missing : row_of word number_table ≡ None) (rest : List Text) where
    no_name : subcommand_met form_names idle word ≡ None
    no_name = met_is word ∙ ap (λ o. option_map (λ s. s.0) (option_map label_of o)) (behind ∙ no_row (count_rule ∷ []) word number_table [] missing)

    told_fails : (t : Kinds) (k : ErrorKind) (ks more : Kinds) (w : Walk) → t ≡ k ∷ ks → told_by_walk players (or_else t more) w ≡ None
    told_fails t k ks more w is = ap (λ t. told_by_walk players (or_else t more) w) is

    unknown_told : has_dashes (word ∷ rest) ≡ false → told_of (word ∷ rest) players ≡ None
    unfolding clap_on_literals
    unknown_told h = by (dashed_or_plain [] word (λ x. refl) (λ p e. refl))
      where
        two : bytes_eq word (codes "--") ≡ false
        two = (or_false (bytes_eq word (codes "--")) (has_dashes rest) h).0

        by : IsDashed [] word ⊎ IsPlainValue [] word → told_of (word ∷ rest) players ≡ None
        by (inl k) = told_fails (turn_fault form_top form_names (walk_from nothing_held) word) UnknownArgument [] (walk_fault form_top form_names (walked [] form_names (walk_from nothing_held) word) rest) (fold (walked [] form_names) (walked [] form_names (walk_from nothing_held) word) rest) (dashed_turn form_top form_names idle 1 [] None word no_name two k)
        by (inr k) = told_fails (turn_fault form_top form_names (walk_from nothing_held) word) UnknownArgument (InvalidSubcommand ∷ []) (walk_fault form_top form_names (walked [] form_names (walk_from nothing_held) word) rest) (fold (walked [] form_names) (walked [] form_names (walk_from nothing_held) word) rest) (plain_turn form_top form_names idle 1 [] None word no_name two k)

    unknown_asked : (rest : List Text) → asked (word ∷ rest) players ≡ None
    unknown_asked [] = none
    unknown_asked (next ∷ more) = rw (differs, missing) refl

-- ---- all words

nothing_told : (players : ℕ) → told_of [] players ≡ None
unfolding clap_on_literals
nothing_told players = refl

module _ (players : ℕ) (word : Text) (rest : List Text) (h : has_dashes (word ∷ rest) ≡ false) where
  abbrev IsFormTold : Type 0
  IsFormTold = told_of (word ∷ rest) players ≡ asked (word ∷ rest) players

  behind_none : has_dashes rest ≡ false
  behind_none = (or_false (bytes_eq word (codes "--")) (has_dashes rest) h).1

  by_number : row_of word word_table ≡ None → bytes_eq word (codes "play") ≡ false → (o : Option NumberedCommands) → row_of word number_table ≡ o → IsFormTold
  by_number none differs None is = unknown_told word players none differs is rest h ∙ sym (unknown_asked word players none differs is rest rest)
  by_number none differs (Some form_app) is = number_told word players none differs form_app is rest behind_none

  by_play : row_of word word_table ≡ None → (b : Bool) → bytes_eq word (codes "play") ≡ b → IsFormTold
  by_play none true is = subst (λ w. told_of (w ∷ rest) players ≡ asked (w ∷ rest) players) (sym ((bytes_eq-Decides _ _).0 is)) (play_told rest players behind_none)
  by_play none false is = by_number none is (row_of word number_table) refl

  by_word : (o : Option Command) → row_of word word_table ≡ o → IsFormTold
  by_word None is = by_play is (bytes_eq word (codes "play")) refl
  by_word (Some command) is = word_told word players command is rest behind_none

pub all_told : (players : ℕ) (words : List Text) → has_dashes words ≡ false → command_told (fault_of whole_app words) (subcommand_of whole_app words) players ≡ asked words players
all_told players [] h = nothing_told players
all_told players (word ∷ rest) h = by_word players word rest h (row_of word word_table) refl
