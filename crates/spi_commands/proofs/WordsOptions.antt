-- What the options of a play are, by the pieces of the words.
use Rattle.std.proofs.Common.{◌≡◌, ℕ, Bool, true, false, cond, true≢false, refl, ap, List, [], ◌∷◌, ◌++◌, Option, Some, None}
use Rattle.std.specs.Prelude.{codes}
use Rattle.std.specs.Str.{bytes_eq}
use Rattle.clap.specs.Walk.{Text}
use Rattle.spi_commands.specs.declared.asked.Command.{Command}
use Rattle.spi_commands.specs.Number.{number_below}
use Rattle.spi_commands.specs.Asked.{with_options, play_all, play_one}

pub data Which : Type 0 where
  steps : Which
  player : Which

abbrev pub id_of : Which → Text
id_of steps = codes "steps"
id_of player = codes "player"

-- the option in a word of its own, and with its value
abbrev pub bare_option : Which → Text
bare_option steps = codes "--steps"
bare_option player = codes "--player"

abbrev pub joined_word : Which → Text → Text
joined_word steps v = codes "--steps=" ++ v
joined_word player v = codes "--player=" ++ v

-- the options that were seen, in order
pub data SeenOptions : Type 0 where
  none : SeenOptions
  one : Which → Text → SeenOptions
  two : Which → Text → Text → SeenOptions

abbrev pub other : Which → Which
other steps = player
other player = steps

abbrev pub pieces_of : SeenOptions → List Text
pieces_of none = []
pieces_of (one x v) = bare_option x ∷ v ∷ []
pieces_of (two x v w) = bare_option x ∷ v ∷ bare_option (other x) ∷ w ∷ []

-- one more, which may not be there yet
abbrev pub more_options : SeenOptions → Which → Text → Option SeenOptions
more_options none x v = Some (one x v)
more_options (one steps u) steps v = None
more_options (one steps u) player v = Some (two steps u v)
more_options (one player u) steps v = Some (two player u v)
more_options (one player u) player v = None
more_options (two x u w) y v = None

abbrev pub wants : Option SeenOptions → List Text → ℕ → Option Command
wants None ps players = None
wants (Some s) ps players = with_options (pieces_of s ++ ps) players

pub one_use : (s : SeenOptions) (x : Which) (v : Text) (ps : List Text) (players : ℕ) → wants (more_options s x v) ps players ≡ with_options (pieces_of s ++ bare_option x ∷ v ∷ ps) players
one_use none x v ps players = refl
one_use (one steps u) player v ps players = refl
one_use (one player u) steps v ps players = refl
one_use (one steps u) steps v [] players = refl
one_use (one steps u) steps v (p ∷ ps) players = refl
one_use (one player u) player v [] players = refl
one_use (one player u) player v (p ∷ ps) players = refl
one_use (two steps u w) steps v ps players = refl
one_use (two steps u w) player v ps players = refl
one_use (two player u w) steps v ps players = refl
one_use (two player u w) player v ps players = refl

-- an option with nothing behind it
pub no_value : (s : SeenOptions) (x : Which) (players : ℕ) → None ≡ with_options (pieces_of s ++ bare_option x ∷ []) players
no_value none x players = refl
no_value (one y u) x players = refl
no_value (two y u w) x players = refl

none_all : (o : Option ℕ) → o ≡ None → None ≡ play_all o
none_all None e = refl
none_all (Some n) e = absurd (Rattle.std.proofs.Common.true≢false (ap (λ o. Rattle.std.specs.Option.is_some o) e))

none_first : (o p : Option ℕ) → o ≡ None → None ≡ play_one o p
none_first None p e = refl
none_first (Some n) p e = absurd (Rattle.std.proofs.Common.true≢false (ap (λ o. Rattle.std.specs.Option.is_some o) e))

none_last : (o p : Option ℕ) → p ≡ None → None ≡ play_one o p
none_last None p e = refl
none_last (Some n) None e = refl
none_last (Some n) (Some m) e = absurd (Rattle.std.proofs.Common.true≢false (ap (λ o. Rattle.std.specs.Option.is_some o) e))

either : (b : Bool) (o : Option Command) → None ≡ o → None ≡ cond b o None
either true o e = e
either false o e = refl

-- an option with a value that is no number
pub bad_value : (s : SeenOptions) (x : Which) (w : Text) (ps : List Text) (players : ℕ) → ((most : ℕ) → number_below most w ≡ None) → None ≡ with_options (pieces_of s ++ bare_option x ∷ w ∷ ps) players
bad_value none steps w [] players h = none_all (number_below 1001 w) (h 1001)
bad_value none player w [] players h = refl
bad_value none x w (b ∷ []) players h = refl
bad_value none steps w (b ∷ m ∷ []) players h = either (bytes_eq b (codes "--player")) _ (none_first (number_below 1001 w) (number_below players m) (h 1001))
bad_value none player w (b ∷ m ∷ []) players h = either (bytes_eq b (codes "--steps")) _ (none_last (number_below 1001 m) (number_below players w) (h players))
bad_value none x w (b ∷ m ∷ c ∷ ps) players h = refl
bad_value (one steps u) steps w [] players h = refl
bad_value (one steps u) player w [] players h = none_last (number_below 1001 u) (number_below players w) (h players)
bad_value (one player u) steps w [] players h = none_first (number_below 1001 w) (number_below players u) (h 1001)
bad_value (one player u) player w [] players h = refl
bad_value (one y u) x w (p ∷ ps) players h = refl
bad_value (two y u v) x w ps players h = refl

-- the name of an option is no number
pub name_no_number : (x : Which) (most : ℕ) → number_below most (bare_option x) ≡ None
name_no_number steps most = refl
name_no_number player most = refl

-- a piece that is no option stands for one
pub no_option : (s : SeenOptions) (b : Text) (ps : List Text) (players : ℕ) → bytes_eq b (codes "--steps") ≡ false → bytes_eq b (codes "--player") ≡ false
    → None ≡ with_options (pieces_of s ++ b ∷ ps) players
no_option none b [] players h g = refl
no_option none b (n ∷ []) players h g = rw (h) refl
no_option none b (n ∷ c ∷ []) players h g = refl
no_option none b (n ∷ c ∷ m ∷ []) players h g = rw (h, g) refl
no_option none b (n ∷ c ∷ m ∷ d ∷ ps) players h g = refl
no_option (one y u) b [] players h g = refl
no_option (one steps u) b (m ∷ []) players h g = rw (g) refl
no_option (one player u) b (m ∷ []) players h g = rw (h) refl
no_option (one y u) b (m ∷ c ∷ ps) players h g = refl
no_option (two y u v) b ps players h g = refl
