-- The tokens that longest match gives from a text on, up to its end or to what gives no token.
use Rattle.std.specs.Prelude.{ℕ, zero, suc, ◌+◌, ◌^◌, ◌==◌, Bool, true, false, Option, Some, None, List, [], ◌∷◌, length, take, drop, slice_index, nat_le, nat_lt, if◌then◌else◌}
use Rattle.std.specs.List.{prefix_len, position_or_len}
use Rattle.std.specs.Char.{is_ascii_digit}
use Rattle.std.specs.Str.{chars, encode_utf8_all}
use Rattle.unicode_ident.specs.Ident.{is_xid_continue}
use Rattle.spi_lex.specs.declared.scan.Class.{Class}
use Rattle.spi_lex.specs.declared.scan.Class.TheVariants as classes
use Rattle.spi_lex.specs.declared.scan.Shape.{Shape}
use Rattle.spi_lex.specs.declared.scan.Shape.TheVariants as shapes
use Rattle.spi_lex.specs.declared.token.Token.{Token}
use Rattle.spi_lex.specs.Words.{words_of}
use Rattle.spi_lex.specs.Lexeme.{Lexeme, identifier, number, mark, starts_name}
use Rattle.spi_lex.specs.Lexing.{Leads, token_of, kinds_of, is_version_2}
use Rattle.spi_lex.specs.Front.{class_of, lexeme_of}

-- what stands at the front, and how many bytes it has
pub record Found : Type 0 where
  pub shape : Shape
  pub n : ℕ

-- two slashes, and the bytes up to the first LF
abbrev pub comment_at : List ℕ → Option Found
comment_at text =
    if slice_index text 1 == 47
    then Some (record { shape = shapes.Gap; n = 2 + position_or_len (λ b. b == 10) (drop 2 text) })
    else None

-- a name: the first of the characters, and those behind it that continue a name
abbrev pub name_at : List ℕ → Option Found
name_at [] = None
name_at (c ∷ cs) =
    if starts_name c
    then Some (record {
      shape = shapes.Identifier;
      n = length (encode_utf8_all (c ∷ take (prefix_len is_xid_continue cs) cs));
    })
    else None

-- the same, by what the first byte may begin
abbrev pub found_by : Class → List ℕ → Option Found
found_by classes.Blank text = Some (record { shape = shapes.Gap; n = 1 })
found_by classes.Slash text = comment_at text
found_by classes.Digit text = Some (record { shape = shapes.Number; n = prefix_len is_ascii_digit text })
found_by (classes.Sign m) text = Some (record { shape = shapes.Sign m; n = 1 })
found_by classes.Other text = name_at (chars text)

unfoldable pub front_at : List ℕ → Option Found
front_at text = found_by (class_of (slice_index text 0)) text

-- whether a lexeme gives a token
abbrev pub is_allowed : Lexeme → Bool
is_allowed (identifier name) = nat_le (length name) 255
is_allowed (number value) = nat_lt value (2 ^ 32)
is_allowed (mark m) = true

-- The tokens from the offset `at` on, where `behind n` are those behind the next n bytes: a gap is passed,
-- and a lexeme gives its token, or ends them all.
abbrev pub tokens_by : Bool → ℕ → (ℕ → List Token) → ℕ → Option Lexeme → List Token
tokens_by later at behind n None = behind n
tokens_by later at behind n (Some lexeme) =
    if is_allowed lexeme
    then token_of (words_of later) (record { lexeme = lexeme; from = at; to = at + n }) ∷ behind n
    else []

abbrev pub tokens_at : Bool → ℕ → List ℕ → (ℕ → List Token) → Option Found → List Token
tokens_at later at text behind None = []
tokens_at later at text behind (Some found) =
    tokens_by later at behind found.n (lexeme_of found.shape (take found.n text))

-- the tokens of a text that stands at the offset `at`, in at most so many turns
unfoldable pub left : ℕ → Bool → ℕ → List ℕ → List Token
left zero later at text = []
left (suc turns) later at text =
    tokens_at later at text (λ n. left turns later (at + n) (drop n text)) (front_at text)

-- Each turn takes a byte or more, so there are never more turns than bytes. The words of version 2 are
-- reserved where `later` is true.
abbrev pub left_of : Bool → ℕ → List ℕ → List Token
left_of later at text = left (length text) later at text

-- Whether the words of version 2 are reserved in a text: where its first three tokens are the word `version`, the
-- number 2 and a semicolon. These three are the same in both versions.
abbrev pub later_in : List ℕ → Bool
later_in text = is_version_2 (kinds_of (left_of false 0 text))

-- the tokens of a whole text
abbrev pub tokens_in : List ℕ → List Token
tokens_in text = left_of (later_in text) 0 text

-- gaps alone lead to the end of a text
abbrev pub OnlyGaps : List ℕ → Type 0
OnlyGaps text = (at : ℕ) × (to : ℕ) × Leads at text [] to []

-- where the last of the tokens ends, and so far where there are none
abbrev pub end_of : ℕ → List Token → ℕ
end_of so_far [] = so_far
end_of so_far (token ∷ rest) = end_of token.span.to rest
