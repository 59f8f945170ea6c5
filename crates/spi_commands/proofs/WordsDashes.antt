-- No command has the word `--`.
use Rattle.std.proofs.Common.{◌≡◌, ℕ, Bool, true, false, true≢false, cond, ◌||◌, ◌&&◌, refl, sym, subst, List, [], ◌∷◌, ◌++◌, take, drop, Option, Some, None}
use Rattle.std.specs.Prelude.{codes}
use Rattle.std.specs.Str.{bytes_eq}
use Rattle.std.proofs.lemmas.Slice.Eq.{bytes_eq-Decides}
use Rattle.clap.specs.Walk.{Text}
use Rattle.spi_term.proofs.Choices.{or_right}
use Rattle.spi_commands.specs.declared.asked.Command.{Command}
use Rattle.spi_commands.specs.Number.{number_below}
use Rattle.spi_commands.specs.Asked.{NumberedCommands, apart, asked, number_table, pieces, play_one, row_of, with_numbers, with_options}
use Rattle.spi_commands.specs.Options.{has_dashes}

-- either the first word is `--`, or one of the others
first_or_rest : (G : Text → Type 0) (word : Text) (more : Bool) → (bytes_eq word (codes "--") || more) ≡ true → G (codes "--") → (more ≡ true → G word) → G word
first_or_rest G word more h first rest = by (bytes_eq word (codes "--")) refl h
  where
    by : (b : Bool) → bytes_eq word (codes "--") ≡ b → (b || more) ≡ true → G word
    by true e h = subst G (sym ((bytes_eq-Decides word (codes "--")).0 e)) first
    by false e h = rest h

piece_behind : (word : Text) (ps : List Text) → has_dashes ps ≡ true → has_dashes (apart word ++ ps) ≡ true
piece_behind word ps h = by (bytes_eq (take 8 word) (codes "--steps=")) (bytes_eq (take 9 word) (codes "--player="))
  where
    by : (b c : Bool) → has_dashes (cond b (codes "--steps" ∷ drop 8 word ∷ []) (cond c (codes "--player" ∷ drop 9 word ∷ []) (word ∷ [])) ++ ps) ≡ true
    by true c = or_right (bytes_eq (drop 8 word) (codes "--")) _ h
    by false true = or_right (bytes_eq (drop 9 word) (codes "--")) _ h
    by false false = or_right (bytes_eq word (codes "--")) _ h

piece_too : (words : List Text) → has_dashes words ≡ true → has_dashes (pieces words) ≡ true
piece_too [] h = h
piece_too (word ∷ rest) h = first_or_rest (λ w. has_dashes (apart w ++ pieces rest) ≡ true) word (has_dashes rest) h refl (λ r. piece_behind word (pieces rest) (piece_too rest r))

never : (h : false ≡ true) → ⊥
never h = true≢false (sym h)

none_either : (b : Bool) (o p : Option Command) → o ≡ None → p ≡ None → cond b o p ≡ None
none_either true o p e f = e
none_either false o p e f = f

last_none : (o : Option ℕ) → play_one o None ≡ None
last_none None = refl
last_none (Some n) = refl

no_options : (ps : List Text) (players : ℕ) → has_dashes ps ≡ true → with_options ps players ≡ None
no_options [] players h = refl
no_options (a ∷ []) players h = refl
no_options (a ∷ n ∷ []) players h = first_or_rest (λ a. with_options (a ∷ n ∷ []) players ≡ None) a (has_dashes (n ∷ [])) h refl
    (λ r. first_or_rest (λ n. with_options (a ∷ n ∷ []) players ≡ None) n false r (none_either (bytes_eq a (codes "--steps")) _ _ refl refl) (λ z. absurd (never z)))
no_options (a ∷ n ∷ b ∷ []) players h = refl
no_options (a ∷ n ∷ b ∷ m ∷ []) players h = first_or_rest (λ a. with_options (a ∷ n ∷ b ∷ m ∷ []) players ≡ None) a (has_dashes (n ∷ b ∷ m ∷ [])) h refl
    (λ r. first_or_rest (λ n. with_options (a ∷ n ∷ b ∷ m ∷ []) players ≡ None) n (has_dashes (b ∷ m ∷ [])) r
    (none_either (bytes_eq a (codes "--steps") && bytes_eq b (codes "--player")) _ _ refl (none_either (bytes_eq a (codes "--player") && bytes_eq b (codes "--steps")) _ _ (last_none (number_below 1001 m)) refl))
    (λ s. first_or_rest (λ b. with_options (a ∷ n ∷ b ∷ m ∷ []) players ≡ None) b (has_dashes (m ∷ [])) s (neither (bytes_eq a (codes "--steps")) (bytes_eq a (codes "--player")) _ _)
    (λ t. first_or_rest (λ m. with_options (a ∷ n ∷ b ∷ m ∷ []) players ≡ None) m false t
    (none_either (bytes_eq a (codes "--steps") && bytes_eq b (codes "--player")) _ _ (last_none (number_below 1001 n)) (none_either (bytes_eq a (codes "--player") && bytes_eq b (codes "--steps")) _ _ refl refl))
    (λ z. absurd (never z)))))
  where
    neither : (b c : Bool) (o p : Option Command) → cond (b && false) o (cond (c && false) p None) ≡ None
    neither true true o p = refl
    neither true false o p = refl
    neither false true o p = refl
    neither false false o p = refl
no_options (a ∷ n ∷ b ∷ m ∷ c ∷ ps) players h = refl

no_count : (form : Option NumberedCommands) (words : List Text) → has_dashes words ≡ true → with_numbers form words ≡ None
no_count None words h = refl
no_count (Some form) [] h = refl
no_count (Some form) (n ∷ []) h = first_or_rest (λ n. with_numbers (Some form) (n ∷ []) ≡ None) n false h refl (λ z. absurd (never z))
no_count (Some form) (n ∷ m ∷ rest) h = refl

pub dashes_ask_nothing : (words : List Text) (players : ℕ) → has_dashes words ≡ true → None ≡ asked words players
dashes_ask_nothing [] players h = refl
dashes_ask_nothing (word ∷ []) players h = first_or_rest (λ w. None ≡ asked (w ∷ []) players) word false h refl (λ z. absurd (never z))
dashes_ask_nothing (word ∷ next ∷ more) players h = first_or_rest (λ w. None ≡ asked (w ∷ next ∷ more) players) word (has_dashes (next ∷ more)) h refl
    (λ r. sym (none_either (bytes_eq word (codes "play")) _ _ (no_options (pieces (next ∷ more)) players (piece_too (next ∷ more) r))
    (no_count (row_of word number_table) (next ∷ more) r)))
