-- The tokens of bytes with a text behind them.
use Rattle.std.proofs.Common.{◌≡◌, ℕ, ◌+◌, Bool, true, false, cond, ◌&&◌, List, [], ◌∷◌, ◌++◌, map, Option, Some, None, Result, Ok, refl, sym, ◌∙◌, ap, subst, arith}
use Rattle.std.proofs.Math.Bool.{and-false}
use Rattle.std.proofs.lemmas.Bool.{cond-false, and_parts}
use Rattle.std.proofs.lemmas.List.{map-append}
use Rattle.std.proofs.lemmas.Str.{IsUtf8-append}
use Rattle.std.specs.List.{AllByRecursion}
use Rattle.std.specs.Str.{IsUtf8, bytes_eq}
use Rattle.spi_lex.specs.declared.token.Token.{Token}
use Rattle.spi_lex.specs.declared.token.Kind.{Kind}
use Rattle.spi_lex.specs.declared.token.Kind.TheVariants as kinds
use Rattle.spi_lex.specs.declared.token.Reserved.{Reserved}
use Rattle.spi_lex.specs.declared.token.Reserved.TheVariants.{Hash, EndMany, Many}
use Rattle.spi_lex.specs.declared.fault.LexFault.{LexFault}
use Rattle.spi_lex.specs.Words.{version_1, version_2, words_of, word_bytes, word_of}
use Rattle.spi_lex.specs.Lexeme.{Lexeme, identifier, number, mark}
use Rattle.spi_lex.specs.Lexing.{LexPiece, Leads, word_kind, kind_of, token_of, tokens_lexed, kinds_of, is_version_2, is_version, is_two, is_semicolon, Lexes, to_tokens, not_utf8, bad_char, bad_number, name_too_long}
use Rattle.spi_lex.specs.Writing.{Writes, blank, IsKind, first_version}
use Rattle.spi_lex.proofs.Reached.{joined}
use Rattle.spi_lex.proofs.Writing.{reads_back}
use Rattle.spi_parse.proofs.Versions.{reserved_first}
use Rattle.spi_spell.proofs.Feeds.{leads_on, moved_piece, leads_moved}

-- the pieces of bytes that have these tokens
pub record IsLexed (bytes : List ℕ) (tokens : List Token) : Type 0 where
  pub pieces : List LexPiece
  pub end : ℕ
  pub utf8 : IsUtf8 bytes
  pub leads : Leads 0 bytes pieces end []
  pub tokens_are : tokens_lexed pieces ≡ tokens

view : {bytes : List ℕ} {a : Result (List Token) LexFault} (tokens : List Token) → Lexes bytes a → a ≡ Ok tokens → IsLexed bytes tokens
view tokens (to_tokens {pieces = ps} {at = at} u h) e = record { pieces = ps; end = at; utf8 = u; leads = h; tokens_are = cc }
view tokens (not_utf8 v) e = absurd cc
view tokens (bad_char u h none) e = absurd cc
view tokens (bad_number n value u h l s most) e = absurd cc
view tokens (name_too_long n name u h l s long) e = absurd cc

-- ---- which words are reserved

reserved_second : (k : Kind) (w : Reserved) (ks : List Kind) → is_version_2 (k ∷ kinds.Reserved w ∷ ks) ≡ false
reserved_second k w [] = refl
reserved_second k w (c ∷ ks) = ap (λ (b : Bool). b && is_semicolon c) (and-false (is_version k))

reserved_third : (j k : Kind) (w : Reserved) (ks : List Kind) → is_version_2 (j ∷ k ∷ kinds.Reserved w ∷ ks) ≡ false
reserved_third j k w ks = and-false (is_version j && is_two k)

abbrev first_token : LexPiece → Token
first_token = token_of version_1

abbrev later_token : LexPiece → Token
later_token = token_of version_2

by_version : (v : Bool) (a b c : LexPiece) (ps qs : List LexPiece)
    → cond v (first_token a ∷ first_token b ∷ first_token c ∷ map later_token (ps ++ qs)) (first_token a ∷ first_token b ∷ first_token c ∷ map first_token (ps ++ qs))
    ≡ cond v (first_token a ∷ first_token b ∷ first_token c ∷ map later_token ps) (first_token a ∷ first_token b ∷ first_token c ∷ map first_token ps) ++ map (token_of (words_of v)) qs
by_version true a b c ps qs = ap (λ (ts : List Token). first_token a ∷ first_token b ∷ first_token c ∷ ts) (map-append later_token ps qs)
by_version false a b c ps qs = ap (λ (ts : List Token). first_token a ∷ first_token b ∷ first_token c ∷ ts) (map-append first_token ps qs)

-- a reserved word behind the tokens of pieces leaves those tokens as they are
tokens_joined : (ps qs : List LexPiece) (w : Reserved) (ks : List Kind) → kinds_of (map first_token qs) ≡ kinds.Reserved w ∷ ks
    → (v : Bool) × (tokens_lexed (ps ++ qs) ≡ tokens_lexed ps ++ map (token_of (words_of v)) qs)
tokens_joined [] qs w ks e = (false, cond-false _ _ (map first_token qs) (ap is_version_2 e ∙ reserved_first w ks))
tokens_joined (a ∷ []) qs w ks e =
    (false, cond-false _ _ (map first_token (a ∷ qs)) (ap (λ (l : List Kind). is_version_2 ((first_token a).kind ∷ l)) e ∙ reserved_second (first_token a).kind w ks))
tokens_joined (a ∷ b ∷ []) qs w ks e =
    (false, cond-false _ _ (map first_token (a ∷ b ∷ qs)) (ap (λ (l : List Kind). is_version_2 ((first_token a).kind ∷ (first_token b).kind ∷ l)) e ∙ reserved_third (first_token a).kind (first_token b).kind w ks))
tokens_joined (a ∷ b ∷ c ∷ ps) qs w ks e =
    let v : Bool = is_version (first_token a).kind && is_two (first_token b).kind && is_semicolon (first_token c).kind in
    (v, by_version v a b c ps qs)

-- ---- words that are no other in version 2

pub found_on : (l more : List Reserved) (name : List ℕ) (w : Reserved) → word_of l name ≡ Some w → word_of (l ++ more) name ≡ Some w
found_on [] more name w e = absurd cc
found_on (x ∷ l) more name w e = go (bytes_eq (word_bytes x) name) e (λ k. found_on l more name w k)
  where
    go : (b : Bool) → cond b (Some x) (word_of l name) ≡ Some w → (word_of l name ≡ Some w → word_of (l ++ more) name ≡ Some w) → cond b (Some x) (word_of (l ++ more) name) ≡ Some w
    go true k ih = k
    go false k ih = ih k

later_word : (name : List ℕ) (k : Kind) (o : Option Reserved) → word_of version_1 name ≡ o → word_kind name o ≡ k → IsKind version_2 k → word_kind name (word_of version_2 name) ≡ k
later_word name k None e is h =
    let fit : IsKind version_2 (kinds.Word name) = subst (IsKind version_2) (sym is) h in
    ap (word_kind name) fit.2 ∙ is
later_word name k (Some w) e is h = ap (word_kind name) (found_on version_1 (Hash ∷ EndMany ∷ Many ∷ []) name w e) ∙ is

later_kind : (l : Lexeme) (k : Kind) → kind_of version_1 l ≡ k → IsKind version_2 k → kind_of version_2 l ≡ k
later_kind (identifier name) k e h = later_word name k (word_of version_1 name) refl e h
later_kind (number value) k e h = e
later_kind (mark m) k e h = e

later_kinds : (qs : List LexPiece) (ks : List Kind) → kinds_of (map first_token qs) ≡ ks → AllByRecursion (IsKind version_2) ks → kinds_of (map later_token qs) ≡ ks
later_kinds [] ks e h = e
later_kinds (q ∷ qs) [] e h = absurd cc
later_kinds (q ∷ qs) (k ∷ ks) e h =
    let one : kind_of version_1 q.lexeme ≡ k = cc in
    let rest : kinds_of (map first_token qs) ≡ ks = cc in
    let a = later_kind q.lexeme k one h.0 in
    let b = later_kinds qs ks rest h.1 in
    ap (λ (x : Kind). x ∷ kinds_of (map later_token qs)) a ∙ ap (λ (l : List Kind). k ∷ l) b

kinds_in_version : (v : Bool) (qs : List LexPiece) (ks : List Kind) → kinds_of (map first_token qs) ≡ ks → AllByRecursion (IsKind version_2) ks → kinds_of (map (token_of (words_of v)) qs) ≡ ks
kinds_in_version true qs ks e h = later_kinds qs ks e h
kinds_in_version false qs ks e h = e

-- ---- the text alone

-- pieces whose tokens don't begin a file of version 2 have the tokens of version 1
first_kinds : (qs : List LexPiece) (w : Reserved) (ks : List Kind) → kinds_of (tokens_lexed qs) ≡ kinds.Reserved w ∷ ks → kinds_of (map first_token qs) ≡ kinds.Reserved w ∷ ks
first_kinds [] w ks e = e
first_kinds (a ∷ []) w ks e = e
first_kinds (a ∷ b ∷ []) w ks e = e
first_kinds (a ∷ b ∷ c ∷ qs) w ks e = go (is_version (first_token a).kind && is_two (first_token b).kind && is_semicolon (first_token c).kind) refl e
  where
    go : (v : Bool) → (is_version (first_token a).kind && is_two (first_token b).kind && is_semicolon (first_token c).kind) ≡ v → kinds_of (cond v (first_token a ∷ first_token b ∷ first_token c ∷ map later_token qs) (first_token a ∷ first_token b ∷ first_token c ∷ map first_token qs)) ≡ kinds.Reserved w ∷ ks
        → kinds_of (map first_token (a ∷ b ∷ c ∷ qs)) ≡ kinds.Reserved w ∷ ks
    go true says h =
        let is : (first_token a).kind ≡ kinds.Reserved w = cc in
        let yes_it_is = (and_parts _ _ (and_parts _ _ says).0).0 in
        let not_one : false ≡ true = sym (ap is_version is) ∙ yes_it_is in
        absurd cc
    go false says h = h

moved_kinds : (words : List Reserved) (k : ℕ) (qs : List LexPiece) → kinds_of (map (token_of words) (map (moved_piece k) qs)) ≡ kinds_of (map (token_of words) qs)
moved_kinds words k [] = refl
moved_kinds words k (q ∷ qs) = ap (λ (l : List Kind). kind_of words q.lexeme ∷ l) (moved_kinds words k qs)

-- a text of tokens behind a line feed
pub record IsBehind (bytes text : List ℕ) (tokens : List Token) (ks : List Kind) : Type 0 where
  pub more : List Token
  pub lexed : Lexes (bytes ++ 10 ∷ text) (Ok (tokens ++ more))
  pub kinds_are : kinds_of more ≡ ks

pub text_behind : (bytes text : List ℕ) (tokens : List Token) (w : Reserved) (ks : List Kind) → Lexes bytes (Ok tokens) → Writes (kinds.Reserved w ∷ ks) text
    → AllByRecursion (IsKind version_1) (kinds.Reserved w ∷ ks) → AllByRecursion (IsKind version_2) (kinds.Reserved w ∷ ks) → IsBehind bytes text tokens (kinds.Reserved w ∷ ks)
text_behind bytes text tokens w ks lexes writes old new =
    let b = view tokens lexes refl in
    let r = reads_back (kinds.Reserved w ∷ ks) (10 ∷ text) (blank 10 refl writes) (first_version (reserved_first w ks) old) in
    let t = view r.0 r.1 refl in
    let first : kinds_of (map first_token t.pieces) ≡ kinds.Reserved w ∷ ks = first_kinds t.pieces w ks (ap kinds_of t.tokens_are ∙ r.2) in
    let qs : List LexPiece = map (moved_piece b.end) t.pieces in
    let there : kinds_of (map first_token qs) ≡ kinds.Reserved w ∷ ks = moved_kinds version_1 b.end t.pieces ∙ first in
    let j = tokens_joined b.pieces qs w ks there in
    let start : b.end + 0 ≡ b.end = omega arith in
    let on : Leads b.end (10 ∷ text) qs (b.end + t.end) [] = subst (λ (i : ℕ). Leads i (10 ∷ text) qs (b.end + t.end) []) start (leads_moved b.end t.leads) in
    let all : Leads 0 (bytes ++ 10 ∷ text) (b.pieces ++ qs) (b.end + t.end) [] = joined (leads_on text b.leads refl) on in
    let more : List Token = map (token_of (words_of j.0)) qs in
    let same : tokens_lexed (b.pieces ++ qs) ≡ tokens ++ more = j.1 ∙ ap (λ (ts : List Token). ts ++ more) b.tokens_are in
    record {
      more = more;
      lexed = subst (λ (ts : List Token). Lexes (bytes ++ 10 ∷ text) (Ok ts)) same (to_tokens (IsUtf8-append bytes (10 ∷ text) b.utf8 t.utf8) all);
      kinds_are = kinds_in_version j.0 qs (kinds.Reserved w ∷ ks) there new;
    }
