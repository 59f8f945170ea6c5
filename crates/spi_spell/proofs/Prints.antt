-- Texts that write tokens, each of a kind that the version has: how they are put together from the front.
use Rattle.std.proofs.Common.{◌≡◌, ℕ, ◌<◌, ◌^◌, Bool, true, false, IsTrue, List, [], ◌∷◌, ◌++◌, Some, refl, sym, subst, append_assoc}
use Rattle.std.specs.Fmt.{decimal}
use Rattle.std.specs.List.{AllByRecursion}
use Rattle.spi_lex.specs.declared.token.Kind.{Kind}
use Rattle.spi_lex.specs.declared.token.Kind.TheVariants as kinds
use Rattle.spi_lex.specs.declared.token.Reserved.{Reserved}
use Rattle.spi_lex.specs.declared.token.Reserved.TheVariants.{Hash, EndMany, Many}
use Rattle.spi_lex.specs.declared.token.Mark.{Mark}
use Rattle.spi_lex.specs.Words.{version_1, version_2, words_of, word_bytes, word_of, mark_byte}
use Rattle.spi_lex.specs.Writing.{is_apart, Writes, nothing, blank, token, IsKind}
use Rattle.spi_spell.proofs.Together.{found_on}

pub record Prints (later : Bool) (ks : List Kind) (text : List ℕ) : Type 0 where
  pub writes : Writes ks text
  pub kinds : AllByRecursion (IsKind (words_of later)) ks

pub empty : (later : Bool) → Prints later [] []
empty later = record { writes = nothing; kinds = tt }

-- a text in front is taken together with what follows
pub part : {later : Bool} {ks : List Kind} (x y more : List ℕ) → Prints later ks (x ++ (y ++ more)) → Prints later ks ((x ++ y) ++ more)
part {later = later} {ks = ks} x y more p = subst (Prints later ks) (sym (append_assoc x y more)) p

-- the same text written otherwise
pub rewritten : {later : Bool} {ks : List Kind} (x y : List ℕ) → x ≡ y → Prints later ks x → Prints later ks y
rewritten {later = later} {ks = ks} x y e p = subst (Prints later ks) e p

pub space : {later : Bool} {ks : List Kind} {text : List ℕ} → Prints later ks text → Prints later ks (32 ∷ text)
space p = record { writes = blank 32 refl p.writes; kinds = p.kinds }

pub line : {later : Bool} {ks : List Kind} {text : List ℕ} → Prints later ks text → Prints later ks (10 ∷ text)
line p = record { writes = blank 10 refl p.writes; kinds = p.kinds }

pub mark : {later : Bool} {ks : List Kind} {text : List ℕ} (m : Mark) → Prints later ks text → Prints later (kinds.Mark m ∷ ks) (mark_byte m ∷ text)
mark m p = record { writes = token (kinds.Mark m) tt p.writes; kinds = (tt, p.kinds) }

pub number : {later : Bool} {ks : List Kind} {text : List ℕ} (i : ℕ) → i < 2 ^ 32 → IsTrue (is_apart text) → Prints later ks text → Prints later (kinds.Number i ∷ ks) (decimal i ++ text)
number i low apart p = record { writes = token (kinds.Number i) apart p.writes; kinds = (low, p.kinds) }

pub spelling : {later : Bool} {ks : List Kind} {text : List ℕ} (w : List ℕ) → IsKind (words_of later) (kinds.Word w) → IsTrue (is_apart text) → Prints later ks text → Prints later (kinds.Word w ∷ ks) (w ++ text)
spelling w fit apart p = record { writes = token (kinds.Word w) apart p.writes; kinds = (fit, p.kinds) }

-- a word that is reserved in both versions, or in the later one alone
in_both : (later : Bool) (w : Reserved) → word_of version_1 (word_bytes w) ≡ Some w → IsKind (words_of later) (kinds.Reserved w)
in_both true w first = found_on version_1 (Hash ∷ EndMany ∷ Many ∷ []) (word_bytes w) w first
in_both false w first = first

in_later : (later : Bool) (w : Reserved) → word_of version_2 (word_bytes w) ≡ Some w → later ≡ true → IsKind (words_of later) (kinds.Reserved w)
in_later true w second h = second
in_later false w second h = absurd cc

pub keyword : {later : Bool} {ks : List Kind} {text : List ℕ} (w : Reserved) → word_of version_1 (word_bytes w) ≡ Some w → IsTrue (is_apart text) → Prints later ks text → Prints later (kinds.Reserved w ∷ ks) (word_bytes w ++ text)
keyword {later = later} w first apart p = record { writes = token (kinds.Reserved w) apart p.writes; kinds = (in_both later w first, p.kinds) }

pub late_keyword : {later : Bool} {ks : List Kind} {text : List ℕ} (w : Reserved) → word_of version_2 (word_bytes w) ≡ Some w → later ≡ true → IsTrue (is_apart text) → Prints later ks text → Prints later (kinds.Reserved w ∷ ks) (word_bytes w ++ text)
late_keyword {later = later} w second h apart p = record { writes = token (kinds.Reserved w) apart p.writes; kinds = (in_later later w second h, p.kinds) }
