-- What is read of what clap found.
use Rattle.std.proofs.Common.{◌≡◌, ◌∙◌, ℕ, refl, sym, ap, subst, true, false, true≢false, List, [], ◌∷◌, Option, Some, None, Result, Ok, Err, inl, inr}
use Rattle.std.specs.Prelude.{codes, option_map, is_some}
use Rattle.std.specs.Str.{bytes_eq}
use Rattle.clap.specs.Words.{App, HasKind, IsAmong, Kinds, Row, Text, fault_of, first_of, first_value, found_of, is_simple, is_simple_and_free, kind_of, rows_of, subcommand_name_of, subcommand_of, subcommand_rows_of}
use Rattle.clap.specs.declared.parser.matches.ArgMatches.{ArgMatches}
use Rattle.clap.specs.declared.error.Error.{Error}
use Rattle.clap.specs.declared.error.kind.ErrorKind.{ErrorKind}
use Rattle.clap.specs.declared.error.kind.ErrorKind.TheVariants.{OutOfMemory}
use Rattle.clap.proofs.WalkLemmas.{first_value-rows}
use Rattle.spi_commands.specs.declared.asked.Command.{Command}
use Rattle.spi_commands.specs.Asked.{NumberedCommands, asked, number_table, row_of, word_table}
use Rattle.spi_commands.specs.Options.{found_command, has_dashes, read, whole_app, with_count, with_values}
use Rattle.spi_commands.proofs.WordsForm.{all_told, command_told, whole_free, whole_simple}

-- ---- the subcommand that was found

first_parts : {X A B : Type 0} (f : X → A × B) (o : Option X) → option_map (λ x. (f x).0) o ≡ option_map (λ p. p.0) (option_map f o)
first_parts f None = refl
first_parts f (Some x) = refl

pub names_are : (m : ArgMatches) → subcommand_name_of m ≡ option_map (λ p. p.0) (subcommand_rows_of m)
names_are m = first_parts _ _

by_parts : (o : Option (Text × List Row)) (name : Text) (rs : List Row) (players : ℕ) → Some name ≡ option_map (λ p. p.0) o → Some rs ≡ option_map (λ p. p.1) o → found_command name rs players ≡ read o players
by_parts None name rs players e h = absurd (true≢false (ap is_some e))
by_parts (Some p) name rs players e h =
    let some_name = ap (λ o. Rattle.std.specs.Option.unwrap_or o name) e in
    let some_rows = ap (λ o. Rattle.std.specs.Option.unwrap_or o rs) h in
    λ i. found_command (some_name i) (some_rows i) players

-- the name of the subcommand and what was found of it
pub play_found : (m inner : ArgMatches) (name : Text) (steps player : Option Text) (r : Option Command) (players : ℕ) → Some name ≡ subcommand_name_of m
    → Some (rows_of (found_of inner)) ≡ option_map (λ p. p.1) (subcommand_rows_of m) → name ≡ codes "play"
    → steps ≡ first_value (found_of inner) (codes "steps") → player ≡ first_value (found_of inner) (codes "player")
    → r ≡ with_values steps player players → r ≡ read (subcommand_rows_of m) players
play_found m inner name steps player r players e h is n k value =
    value ∙ (λ i. with_values ((n ∙ first_value-rows (found_of inner) (codes "steps")) i) ((k ∙ first_value-rows (found_of inner) (codes "player")) i) players)
    ∙ ap (λ t. found_command t (rows_of (found_of inner)) players) (sym is) ∙ by_parts (subcommand_rows_of m) name (rows_of (found_of inner)) players (e ∙ names_are m) h

pub number_found : (m inner : ArgMatches) (name : Text) (form : NumberedCommands) (count : Option Text) (r : Option Command) (players : ℕ) → Some name ≡ subcommand_name_of m
    → Some (rows_of (found_of inner)) ≡ option_map (λ p. p.1) (subcommand_rows_of m) → bytes_eq name (codes "play") ≡ false
    → row_of name number_table ≡ Some form
    → count ≡ first_value (found_of inner) (codes "count") → r ≡ with_count form count → r ≡ read (subcommand_rows_of m) players
number_found m inner name form count r players e h differs is n value =
    value ∙ ap (with_count form) (n ∙ first_value-rows (found_of inner) (codes "count"))
    ∙ sym (reads (rows_of (found_of inner))) ∙ by_parts (subcommand_rows_of m) name (rows_of (found_of inner)) players (e ∙ names_are m) h
  where
    reads : (rs : List Row) → found_command name rs players ≡ with_count form (first_of (codes "count") rs)
    reads rs = rw (differs, is) refl

pub word_found : (m inner : ArgMatches) (name : Text) (r : Option Command) (players : ℕ) → Some name ≡ subcommand_name_of m
    → Some (rows_of (found_of inner)) ≡ option_map (λ p. p.1) (subcommand_rows_of m) → bytes_eq name (codes "play") ≡ false
    → row_of name number_table ≡ None → r ≡ row_of name word_table → r ≡ read (subcommand_rows_of m) players
word_found m inner name r players e h differs none value =
    value ∙ sym (reads (rows_of (found_of inner))) ∙ by_parts (subcommand_rows_of m) name (rows_of (found_of inner)) players (e ∙ names_are m) h
  where
    reads : (rs : List Row) → found_command name rs players ≡ row_of name word_table
    reads rs = rw (differs, none) refl

-- ---- all words

pub found_is_asked : (form : App) (words : List Text) (players : ℕ) (sub : Option (Text × List Row)) (rows here : List Row) (r : Option Command) → form ≡ whole_app
    → has_dashes words ≡ false → (is_simple_and_free form ≡ true → fault_of form words ≡ [])
    → (is_simple form ≡ true → (rows ≡ here) × (sub ≡ subcommand_of form words)) → r ≡ read sub players → r ≡ asked words players
found_is_asked form words players sub rows here r is none kinds matches value =
    let no_fault : fault_of whole_app words ≡ [] = sym (ap (λ a. fault_of a words) is) ∙ kinds (ap is_simple_and_free is ∙ whole_free) in
    let sub_is : sub ≡ subcommand_of whole_app words = (matches (ap is_simple is ∙ whole_simple)).1 ∙ ap (λ a. subcommand_of a words) is in
    value ∙ ap (λ o. read o players) sub_is ∙ ap (λ k. command_told k (subcommand_of whole_app words) players) (sym no_fault) ∙ all_told players words none

some_fault : (ks : Kinds) (k : ErrorKind) (sub : Option (Text × List Row)) (players : ℕ) → IsAmong k ks → None ≡ command_told ks sub players
some_fault [] k sub players h = absurd h
some_fault (x ∷ ks) k sub players h = refl

pub fault_asks_nothing : (form : App) (words : List Text) (players : ℕ) (e : Error) → form ≡ whole_app → has_dashes words ≡ false
    → (is_simple_and_free form ≡ true → HasKind (fault_of form words) e) → (kind_of e ≡ OutOfMemory → ⊥) → None ≡ asked words players
fault_asks_nothing form words players e is none kinds memory = by (kinds (ap is_simple_and_free is ∙ whole_free))
  where
    by : HasKind (fault_of form words) e → None ≡ asked words players
    by (inl m) = absurd (memory m)
    by (inr k) = some_fault (fault_of whole_app words) (kind_of e) (subcommand_of whole_app words) players (subst (λ a. IsAmong (kind_of e) (fault_of a words)) is k) ∙ all_told players words none

abbrev kind_in : {T : Type 0} → Result T Error → ErrorKind
kind_in (Ok x) = OutOfMemory
kind_in (Err e) = kind_of e

pub same_kind : {T : Type 0} (r : Result T Error) (e f : Error) → r ≡ Err e → r ≡ Err f → kind_of e ≡ kind_of f
same_kind r e f h g = ap kind_in (sym h ∙ g)
