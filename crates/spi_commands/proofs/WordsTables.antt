-- What the tables of words have.
use Rattle.std.proofs.Common.{◌≡◌, ◌∙◌, ◌+◌, ◌≤◌, ◌<◌, ℕ, Bool, true, false, true≢false, cond, ◌&&◌, refl, sym, ap, subst, arith, List, [], ◌∷◌, ◌++◌, map, Option, Some, None, is_some}
use Rattle.std.specs.Prelude.{codes, IfSome, find, nat_lt, ⊤}
use Rattle.std.specs.List.{list_all}
use Rattle.std.specs.Str.{bytes_eq}
use Rattle.std.proofs.lemmas.Bool.Decides.{nat_tests}
use Rattle.std.proofs.lemmas.Slice.Eq.{bytes_eq-Decides}
use Rattle.clap.specs.Walk.{Rule, Text, answers_to}
use Rattle.clap.specs.Simple.{Shape, label_of}
use Rattle.spi_term.proofs.Counting.{and_true}
use Rattle.spi_commands.specs.declared.asked.Command.{Command}
use Rattle.spi_commands.specs.Number.{below_limit, number, number_below}
use Rattle.spi_commands.specs.Asked.{AreNumbersKnown, NumberedCommands, asked, at_least, number_table, pieces, play_all, play_one, row_of, with_numbers, with_options, word_table}
use Rattle.spi_commands.specs.Options.{words_of}
use Rattle.spi_commands.proofs.WordsPlay.{built_shape}

module _ {X : Type 0} where
  -- what holds of all words of a table holds of one that has a row
  pub at_word : (P : Text → Bool) (word : Text) (rows : List (Text × X)) (x : X) → row_of word rows ≡ Some x → list_all P (words_of rows) ≡ true → P word ≡ true
  at_word P word [] x e all = absurd (true≢false (sym (ap is_some e)))
  at_word P word (row ∷ rows) x e all =
      let parts = and_true (P row.0) (list_all P (words_of rows)) all in
      by (bytes_eq row.0 word) refl e (λ f. at_word P word rows x f parts.1)
    where
      by : (b : Bool) → bytes_eq row.0 word ≡ b → cond b (Some row.1) (row_of word rows) ≡ Some x → (row_of word rows ≡ Some x → P word ≡ true) → P word ≡ true
      by true is f later = ap P (sym ((bytes_eq-Decides row.0 word).0 is)) ∙ (and_true (P row.0) (list_all P (words_of rows)) all).0
      by false is f later = later f

  -- what holds of each row holds of that of a word
  abbrev pub EachRow : (X → Type 0) → List (Text × X) → Type 0
  EachRow P [] = ⊤
  EachRow P (row ∷ rows) = P row.1 × EachRow P rows

  pub each_row : (P : X → Type 0) (word : Text) (rows : List (Text × X)) → EachRow P rows → IfSome (row_of word rows) P
  each_row P word [] all = tt
  each_row P word (row ∷ rows) all = by (bytes_eq row.0 word) (each_row P word rows all.1)
    where
      by : (b : Bool) → IfSome (row_of word rows) P → IfSome (cond b (Some row.1) (row_of word rows)) P
      by true later = all.0
      by false later = later

  -- a command of the program whose form stands among those of a table
  pub found_row : (rs : List Rule) (word : Text) (rows : List (Text × X)) (more : List Shape) (x : X) → row_of word rows ≡ Some x
      → find (λ s. answers_to word (label_of s)) (map (λ name. built_shape name rs) (words_of rows) ++ more) ≡ Some (built_shape word rs)
  found_row rs word [] more x e = absurd (true≢false (sym (ap is_some e)))
  found_row rs word (row ∷ rows) more x e = by (bytes_eq row.0 word) refl e (found_row rs word rows more x)
    where
      by : (b : Bool) → bytes_eq row.0 word ≡ b → cond b (Some row.1) (row_of word rows) ≡ Some x
          → (row_of word rows ≡ Some x → find (λ s. answers_to word (label_of s)) (map (λ name. built_shape name rs) (words_of rows) ++ more) ≡ Some (built_shape word rs))
          → find (λ s. answers_to word (label_of s)) (map (λ name. built_shape name rs) (words_of (row ∷ rows)) ++ more) ≡ Some (built_shape word rs)
      by true is f later = rw (is) (ap (λ name. Some (built_shape name rs)) ((bytes_eq-Decides row.0 word).0 is))
      by false is f later = rw (is) (later f)

  -- or behind them
  pub no_row : (rs : List Rule) (word : Text) (rows : List (Text × X)) (more : List Shape) → row_of word rows ≡ None
      → find (λ s. answers_to word (label_of s)) (map (λ name. built_shape name rs) (words_of rows) ++ more) ≡ find (λ s. answers_to word (label_of s)) more
  no_row rs word [] more e = refl
  no_row rs word (row ∷ rows) more e = by (bytes_eq row.0 word) refl e (no_row rs word rows more)
    where
      by : (b : Bool) → bytes_eq row.0 word ≡ b → cond b (Some row.1) (row_of word rows) ≡ None
          → (row_of word rows ≡ None → find (λ s. answers_to word (label_of s)) (map (λ name. built_shape name rs) (words_of rows) ++ more) ≡ find (λ s. answers_to word (label_of s)) more)
          → find (λ s. answers_to word (label_of s)) (map (λ name. built_shape name rs) (words_of (row ∷ rows)) ++ more) ≡ find (λ s. answers_to word (label_of s)) more
      by true is f later = absurd (true≢false (ap is_some f))
      by false is f later = rw (is) (later f)

-- ---- a number within its bounds

below_within : (most : ℕ) (o : Option ℕ) → IfSome (below_limit most o) (λ n. n < most)
below_within most None = tt
below_within most (Some n) = by (nat_lt n most) refl
  where
    by : (b : Bool) → nat_lt n most ≡ b → IfSome (cond b (Some n) None) (λ n. n < most)
    by true e = grind (arith, nat_tests)
    by false e = tt

pub number_within : (most : ℕ) (text : Text) → IfSome (number_below most text) (λ n. n < most)
number_within most text = below_within most (number text)

-- the command keeps what is known of its number
abbrev pub KeepsNumber : ℕ → NumberedCommands → Type 0
KeepsNumber players form = (n : ℕ) → form.least ≤ n → n ≤ form.most → AreNumbersKnown players (form.command n)

at_least_within : (players : ℕ) (form : NumberedCommands) → KeepsNumber players form → (o : Option ℕ) → IfSome o (λ n. n < form.most + 1) → IfSome (at_least form o) (AreNumbersKnown players)
at_least_within players form keeps None few = tt
at_least_within players form keeps (Some n) few = by (nat_lt n form.least) refl
  where
    by : (b : Bool) → nat_lt n form.least ≡ b → IfSome (cond b None (Some (form.command n))) (AreNumbersKnown players)
    by true e = tt
    by false e = keeps n (grind (arith, nat_tests)) (omega (arith, few))

with_number_within : (players : ℕ) (o : Option NumberedCommands) → IfSome o (KeepsNumber players) → (words : List Text) → IfSome (with_numbers o words) (AreNumbersKnown players)
with_number_within players None k words = tt
with_number_within players (Some form) k [] = tt
with_number_within players (Some form) k (n ∷ []) = at_least_within players form k (number_below (form.most + 1) n) (number_within (form.most + 1) n)
with_number_within players (Some form) k (n ∷ m ∷ more) = tt

-- ---- what is known of the commands that are asked for

pub words_within : (players : ℕ) → EachRow (AreNumbersKnown players) word_table
words_within players = search

pub numbers_within : (players : ℕ) → EachRow (KeepsNumber players) number_table
numbers_within players = search

play_one_within : (players : ℕ) (o p : Option ℕ) → IfSome o (λ n. n < 1001) → IfSome p (λ n. n < players) → IfSome (play_one o p) (AreNumbersKnown players)
play_one_within players None p few place = tt
play_one_within players (Some n) None few place = tt
play_one_within players (Some n) (Some m) few place = (omega (arith, few), λ x e. let same : m ≡ x = cc in subst (λ k. k < players) same place)

play_all_within : (players : ℕ) (o : Option ℕ) → IfSome o (λ n. n < 1001) → IfSome (play_all o) (AreNumbersKnown players)
play_all_within players None few = tt
play_all_within players (Some n) few = (omega (arith, few), λ x e. absurd (true≢false (sym (ap is_some e))))

chosen_within : (players : ℕ) (b : Bool) (o p : Option Command) → IfSome o (AreNumbersKnown players) → IfSome p (AreNumbersKnown players) → IfSome (cond b o p) (AreNumbersKnown players)
chosen_within players true o p first second = first
chosen_within players false o p first second = second

options_within : (players : ℕ) (words : List Text) → IfSome (with_options words players) (AreNumbersKnown players)
options_within players [] = tt
options_within players (a ∷ []) = tt
options_within players (a ∷ n ∷ []) = chosen_within players (bytes_eq a (codes "--steps")) _ _ (play_all_within players (number_below 1001 n) (number_within 1001 n)) tt
options_within players (a ∷ n ∷ b ∷ []) = tt
options_within players (a ∷ n ∷ b ∷ m ∷ []) =
    chosen_within players (bytes_eq a (codes "--steps") && bytes_eq b (codes "--player")) _ _ (play_one_within players (number_below 1001 n) (number_below players m) (number_within 1001 n) (number_within players m))
    (chosen_within players (bytes_eq a (codes "--player") && bytes_eq b (codes "--steps")) _ _ (play_one_within players (number_below 1001 m) (number_below players n) (number_within 1001 m) (number_within players n)) tt)
options_within players (a ∷ n ∷ b ∷ m ∷ c ∷ more) = tt

pub asked_within : (words : List Text) (players : ℕ) → IfSome (asked words players) (AreNumbersKnown players)
asked_within [] players = tt
asked_within (word ∷ []) players = each_row (AreNumbersKnown players) word word_table (words_within players)
asked_within (word ∷ other ∷ more) players =
    chosen_within players (bytes_eq word (codes "play")) _ _ (options_within players (pieces (other ∷ more)))
    (with_number_within players (row_of word number_table) (each_row (KeepsNumber players) word number_table (numbers_within players)) (other ∷ more))
