-- What bytes are refused for, and where.
use Rattle.std.proofs.Common.{◌≡◌, ◌⊎◌, inl, inr, ℕ, zero, suc, ◌+◌, ◌-◌, ◌≤◌, List, [], ◌∷◌, ◌++◌, Option, Some, Result, Ok, Err, IfSome, IsSome, length, ◌∙◌, drop, refl, sym, ap, subst, arith, length-drop, append-nil}
use Rattle.std.specs.Prelude.{⊤}
use Rattle.spi_lex.specs.declared.token.Token.{Token}
use Rattle.spi_lex.specs.declared.fault.LexFault.{LexFault}
use Rattle.spi_lex.specs.declared.fault.LexFault.TheVariants as faults
use Rattle.spi_lex.specs.Lexing as L
use Rattle.spi_lex.specs.Lexing.{LexPiece, Leads, here, past_gap, past_piece, Lexes, kinds_of}
use Rattle.spi_lex.specs.Writing.{AreSpans, spans_of}
use Rattle.spi_lex.proofs.Lexed.{lexed}
use Rattle.spi_lex.specs.declared.token.Kind.{Kind}
use Rattle.spi_text.specs.declared.lines.Span.{Span}
use Rattle.spi_tree.specs.Trees as t
use Rattle.spi_tree.specs.Pieces.{Piece as Part, opens, cell, closes, kinds_in}
use Rattle.spi_parse.specs.Formed.{IsFile, whole_file}
use Rattle.spi_parse.proofs.Counted.{few_tokens}
use Rattle.spi_parse.specs.Exact.{Spells, IsWithin, ItemStops, IsSyntaxAt}
use Rattle.spi_scope.specs.declared.fault.ScopeFault.{ScopeFault}
use Rattle.spi_scope.specs.declared.fault.ScopeFault.TheVariants as scope
use Rattle.spi_scope.specs.StandsFor.{Meant, StandsFor}
use Rattle.spi_scope.specs.First.{HasFirst}
use Rattle.spi_scope.specs.FaultPlaces.{span_from, StartsAt}
use Rattle.spi_term.specs.Lists.{In, in_first, in_later}
use Rattle.spi_report.specs.Names.{name_of}
use Rattle.spi_commands.specs.declared.reading.Unread.{Unread}
use Rattle.spi_commands.specs.declared.reading.Unread.TheVariants as unread
use Rattle.spi_commands.specs.Reading.{HasTokens, IsUnreadBy, StandsNamed, TellsRefusal}
use Rattle.spi_commands.specs.Spelled.{limit, IsTreeOf, SpellsNone}
use Rattle.spi_commands.specs.Refusals.{start_of_fault, scope_number, IsUnlexed, IsUnparsed, IsUnscopedAt, Refuses, too_long, not_utf8, bad_char, bad_number, name_too_long, syntax, too_deep, out_of_scope}

-- the way of lexemes goes through the bytes
leads_within : {at to : ℕ} {text rest : List ℕ} {pieces : List LexPiece} → Leads at text pieces to rest → to + length rest ≡ at + length text
leads_within here = refl
leads_within {at} {text = text} (past_gap n l g h) =
    let d : length (drop n text) ≡ length text - n = length-drop n text in
    omega (arith, leads_within h, l.within)
leads_within {at} {text = text} (past_piece n lexeme l s a h) =
    let d : length (drop n text) ≡ length text - n = length-drop n text in
    omega (arith, leads_within h, l.within)

-- a fault stands in the bytes
abbrev StandsWithin : ℕ → Result (List Token) LexFault → Type 0
StandsWithin n (Ok tokens) = ⊤
StandsWithin n (Err (faults.NotUtf8 at)) = at ≤ n
StandsWithin n (Err (faults.BadChar at)) = at ≤ n
StandsWithin n (Err (faults.BadNumber at)) = at ≤ n
StandsWithin n (Err (faults.NameTooLong at)) = at ≤ n
StandsWithin n (Err faults.NoMemory) = ⊤

stands_within : {bytes : List ℕ} {a : Result (List Token) LexFault} → Lexes bytes a → StandsWithin (length bytes) a
stands_within (L.to_tokens u h) = tt
stands_within (L.not_utf8 v) = omega (arith, v.short)
stands_within (L.bad_char u h none) = omega (arith, leads_within h)
stands_within (L.bad_number n value u h l s most) = omega (arith, leads_within h)
stands_within (L.name_too_long n name u h l s long) = omega (arith, leads_within h)

-- a list of spans ends where it ends or before
pub spans_end : (at end : ℕ) (spans : List Span) → AreSpans at spans end → at ≤ end
spans_end at end [] h = h
spans_end at end (span ∷ spans) h = let m = spans_end span.to end spans h.2 in omega (arith, h.0, h.1, m)

-- a token stands in the bytes
starts_within : (at end : ℕ) (bytes : List ℕ) (tokens : List Token) → AreSpans at (spans_of tokens) end → end ≤ length bytes → (i : ℕ) → start_of_fault bytes (drop i tokens) ≤ length bytes
starts_within at end bytes [] h l zero = omega arith
starts_within at end bytes [] h l (suc i) = omega arith
starts_within at end bytes (token ∷ tokens) h l zero = let m = spans_end token.span.to end (spans_of tokens) h.2 in omega (arith, h.1, l, m)
starts_within at end bytes (token ∷ tokens) h l (suc i) = starts_within token.span.to end bytes tokens h.2 l i

token_within : (bytes : List ℕ) (tokens : List Token) (i : ℕ) → Lexes bytes (Ok tokens) → start_of_fault bytes (drop i tokens) ≤ length bytes
token_within bytes tokens i h = starts_within 0 (length bytes) bytes tokens (lexed bytes tokens h).1 (let z : length bytes ≤ length bytes = omega arith in z) i

-- a node or a word of a tree that is spelled starts in the bytes
pub opens_within : (end at e from : ℕ) (ps : List Part) (ts : List Token) → Spells [] e ps ts → AreSpans at (spans_of ts) end → In (opens from) ps → from ≤ end
opens_within end at e from [] ts h spans i = elim i [ ]
opens_within end at e from (opens other ∷ ps) [] h spans i = absurd h
opens_within end at e from (opens other ∷ ps) (tok ∷ ts) h spans in_first = let m = spans_end tok.span.to end (spans_of ts) spans.2 in let f = h.0 in omega (arith, f, m, spans.1)
opens_within end at e from (opens other ∷ ps) (tok ∷ ts) h spans (in_later i) = opens_within end at e from ps (tok ∷ ts) h.1 spans i
opens_within end at e from (cell k deep ∷ ps) [] h spans i = absurd h
opens_within end at e from (cell k deep ∷ ps) (tok ∷ ts) h spans (in_later i) = opens_within end tok.span.to tok.span.to from ps ts h.2 spans.2 i
opens_within end at e from (closes to ∷ ps) ts h spans (in_later i) = opens_within end at e from ps ts h.1 spans i

-- what is refused stands in the bytes
pub unlexed_within : {bytes : List ℕ} {number : ℕ} {offset : Option ℕ} {shown : List ℕ} → IsUnlexed bytes number offset shown → IfSome offset (λ at. at ≤ length bytes)
unlexed_within (too_long l) = tt
unlexed_within (not_utf8 l h) = stands_within h
unlexed_within (bad_char l h) = stands_within h
unlexed_within (bad_number l h) = stands_within h
unlexed_within (name_too_long l h) = stands_within h

pub unparsed_within : {X : Type 0} {pieces : X → List Part} {IsFormed : X → Type 0} {bytes : List ℕ} {number : ℕ} {offset : Option ℕ} {shown : List ℕ} → IsUnparsed pieces IsFormed bytes number offset shown → IfSome offset (λ at. at ≤ length bytes)
unparsed_within {bytes = bytes} (syntax {tokens = tokens} {i = i} l h f) = token_within bytes tokens i h
unparsed_within {bytes = bytes} (too_deep {tokens = tokens} {i = i} l h f) = token_within bytes tokens i h

unscoped_within : {bytes : List ℕ} {tree : t.File} {number : ℕ} {offset : Option ℕ} {shown : List ℕ} → ((tree : t.File) (fault : ScopeFault) → HasFirst tree fault → StartsAt tree (span_from fault)) → IsTreeOf bytes tree → IsUnscopedAt tree number offset shown → IfSome offset (λ at. at ≤ length bytes)
unscoped_within {bytes} {tree} at is (out_of_scope {fault = fault} f) =
    opens_within (length bytes) 0 0 (span_from fault) (whole_file tree) is.tokens is.spelled (lexed bytes is.tokens is.lexed).1 (at tree fault f)

pub refused_within : {bytes : List ℕ} {number : ℕ} {offset : Option ℕ} {shown : List ℕ} → ((tree : t.File) (fault : ScopeFault) → HasFirst tree fault → StartsAt tree (span_from fault)) → Refuses bytes number offset shown → IfSome offset (λ at. at ≤ length bytes)
refused_within at (inl h) = unlexed_within h
refused_within at (inr (inl h)) = unparsed_within h
refused_within at (inr (inr (tree, is, h))) = unscoped_within at is h

pub scope_named : (fault : ScopeFault) → ¬ (fault ≡ scope.NoMemory) → IsSome (name_of (scope_number fault))
scope_named (scope.UnknownName s w) n = refl
scope_named (scope.UnknownType s w) n = refl
scope_named (scope.NameTwice s w) n = refl
scope_named (scope.TypeTwice s w) n = refl
scope_named (scope.MessageTooLarge s c) n = refl
scope_named (scope.TypeTooLarge s c) n = refl
scope_named (scope.FileTooLarge s c) n = refl
scope_named (scope.ScheduleTooLong s c) n = refl
scope_named scope.NoMemory n = absurd (n refl)

-- the number has a name
pub unlexed_named : {bytes : List ℕ} {number : ℕ} {offset : Option ℕ} {shown : List ℕ} → IsUnlexed bytes number offset shown → IsSome (name_of number)
unlexed_named (too_long l) = refl
unlexed_named (not_utf8 l h) = refl
unlexed_named (bad_char l h) = refl
unlexed_named (bad_number l h) = refl
unlexed_named (name_too_long l h) = refl

pub unparsed_named : {X : Type 0} {pieces : X → List Part} {IsFormed : X → Type 0} {bytes : List ℕ} {number : ℕ} {offset : Option ℕ} {shown : List ℕ} → IsUnparsed pieces IsFormed bytes number offset shown → IsSome (name_of number)
unparsed_named (syntax l h f) = refl
unparsed_named (too_deep l h f) = refl

unscoped_named : {tree : t.File} {number : ℕ} {offset : Option ℕ} {shown : List ℕ} → ((tree : t.File) (fault : ScopeFault) → HasFirst tree fault → ¬ (fault ≡ scope.NoMemory)) → IsUnscopedAt tree number offset shown → IsSome (name_of number)
unscoped_named {tree} never (out_of_scope {fault = fault} f) = scope_named fault (never tree fault f)

pub refused_named : {bytes : List ℕ} {number : ℕ} {offset : Option ℕ} {shown : List ℕ} → ((tree : t.File) (fault : ScopeFault) → HasFirst tree fault → ¬ (fault ≡ scope.NoMemory)) → Refuses bytes number offset shown → IsSome (name_of number)
refused_named never (inl h) = unlexed_named h
refused_named never (inr (inl h)) = unparsed_named h
refused_named never (inr (inr (tree, is, h))) = unscoped_named never h

-- few bytes have few tokens
pub few_lexed : (bytes : List ℕ) (tokens : List Token) → HasTokens bytes tokens → length tokens ≤ limit
few_lexed bytes tokens h =
    let few = few_tokens tokens (length bytes) h.3 in
    let low = h.0 in
    omega (arith, few, low)

-- so many of the pieces have a token each
abbrev pub HaveOwnTokens : ℕ → List Part → Type 0
HaveOwnTokens k r = k ≤ length (kinds_in r)

pub longer_on : (k : ℕ) (a : Part) (r : List Part) → HaveOwnTokens k r → HaveOwnTokens k (a ∷ r)
longer_on k (opens from) r h = h
longer_on k (cell kind deep) r h = omega (arith, h)
longer_on k (closes to) r h = h

-- what spelled pieces tell
pub spells_kinds : (e : ℕ) (ps : List Part) (ts : List Token) → Spells [] e ps ts → kinds_in ps ≡ kinds_of ts
spells_kinds e [] ts h = ap kinds_of (sym h)
spells_kinds e (opens from ∷ ps) [] h = absurd h
spells_kinds e (opens from ∷ ps) (tok ∷ ts) h = spells_kinds e ps (tok ∷ ts) h.1
spells_kinds e (cell k deep ∷ ps) [] h = absurd h
spells_kinds e (cell k deep ∷ ps) (tok ∷ ts) h = ap (λ l. k ∷ l) (spells_kinds tok.span.to ps ts h.2) ∙ ap (λ k. k ∷ kinds_of ts) (sym h.0)
spells_kinds e (closes to ∷ ps) ts h = spells_kinds e ps ts h.1

pub spells_within : (e : ℕ) (ps : List Part) (ts : List Token) → Spells [] e ps ts → IsWithin ps
spells_within e [] ts h = tt
spells_within e (opens from ∷ ps) [] h = absurd h
spells_within e (opens from ∷ ps) (tok ∷ ts) h = spells_within e ps (tok ∷ ts) h.1
spells_within e (cell k deep ∷ ps) [] h = absurd h
spells_within e (cell k deep ∷ ps) (tok ∷ ts) h = (h.1, spells_within tok.span.to ps ts h.2)
spells_within e (closes to ∷ ps) ts h = spells_within e ps ts h.1

-- what is refused for one of these causes stands in the bytes, and has a name
pub stands_named : (bytes : List ℕ) (causes : ℕ → Option ℕ → List ℕ → Type 0) → ((n : ℕ) (o : Option ℕ) (s : List ℕ) → causes n o s → IsSome (name_of n)) → ((n : ℕ) (o : Option ℕ) (s : List ℕ) → causes n o s → IfSome o (λ at. at ≤ length bytes)) → (u : Unread) → IsUnreadBy causes u → IsUnreadBy (StandsNamed bytes) u
stands_named bytes causes named within (unread.Refused r) h = (named r.number r.offset r.shown.items h, within r.number r.offset r.shown.items h)
stands_named bytes causes named within unread.NoMemory h = tt

-- what is known of each list of bytes and of each tree
abbrev pub OneLexing : Type 0
OneLexing = (bytes : List ℕ) (a b : Result (List Token) LexFault) → Lexes bytes a → Lexes bytes b → a ≡ b

abbrev pub OnePlaced : Type 0
OnePlaced = (f g : t.File) (ts : List Token) → IsFile f → IsFile g → Spells [] 0 (whole_file f) ts → Spells [] 0 (whole_file g) ts → f ≡ g

abbrev pub OneMeant : Type 0
OneMeant = (tree : t.File) (file other : Meant) → StandsFor tree file → StandsFor tree other → file ≡ other

abbrev pub NeverBoth : Type 0
NeverBoth = (tree : t.File) (file : Meant) (fault : ScopeFault) → StandsFor tree file → HasFirst tree fault → ⊥

pub same_tokens : OneLexing → (bytes : List ℕ) (ts us : List Token) → Lexes bytes (Ok ts) → Lexes bytes (Ok us) → ts ≡ us
same_tokens one bytes ts us h k = let e : Ok ts ≡ Ok us = one bytes (Ok ts) (Ok us) h k in cc

-- bytes have one tree at most
pub one_tree : OneLexing → OnePlaced → (bytes : List ℕ) (f g : t.File) → IsTreeOf bytes f → IsTreeOf bytes g → f ≡ g
one_tree lexing placed bytes f g a b =
    let e : b.tokens ≡ a.tokens = same_tokens lexing bytes b.tokens a.tokens b.lexed a.lexed in
    placed f g a.tokens a.formed b.formed a.spelled (subst (Spells [] 0 (whole_file g)) e b.spelled)

-- bytes that have no tokens have none
pub unlexed_never : OneLexing → {bytes : List ℕ} {number : ℕ} {offset : Option ℕ} {shown : List ℕ} → IsUnlexed bytes number offset shown → length bytes ≤ limit → (tokens : List Token) → Lexes bytes (Ok tokens) → ⊥
unlexed_never lexing (too_long l) within tokens lexes = omega arith
unlexed_never lexing {bytes} (not_utf8 l h) within tokens lexes = let e = lexing bytes _ _ h lexes in cc
unlexed_never lexing {bytes} (bad_char l h) within tokens lexes = let e = lexing bytes _ _ h lexes in cc
unlexed_never lexing {bytes} (bad_number l h) within tokens lexes = let e = lexing bytes _ _ h lexes in cc
unlexed_never lexing {bytes} (name_too_long l h) within tokens lexes = let e = lexing bytes _ _ h lexes in cc

-- tokens of a formed text aren't those of none
module _ {X : Type 0} (pieces : X → List Part) (IsFormed : X → Type 0) where
  not_at : (x : X) (ks : List Kind) (i : ℕ) → IsFormed x → kinds_in (pieces x) ≡ ks → IsSyntaxAt pieces IsFormed ks i → ⊥
  not_at x ks i formed e at = go at.rest (e ∙ at.split) at.stops
    where
      go : (rest : List Kind) → kinds_in (pieces x) ≡ at.pre ++ rest → ItemStops pieces IsFormed at.pre rest → ⊥
      go [] f stops = stops x formed (f ∙ append-nil at.pre)
      go (k ∷ rest) f stops = stops x formed rest f

  spelled_kinds : OneLexing → (bytes : List ℕ) (tokens others : List Token) (x : X) → Lexes bytes (Ok tokens) → Lexes bytes (Ok others) → Spells [] 0 (pieces x) others → kinds_in (pieces x) ≡ kinds_of tokens
  spelled_kinds lexing bytes tokens others x h lexes spelled =
      spells_kinds 0 (pieces x) others spelled ∙ ap kinds_of (same_tokens lexing bytes others tokens lexes h)

  pub unparsed_never : OneLexing → {bytes : List ℕ} {number : ℕ} {offset : Option ℕ} {shown : List ℕ} → IsUnparsed pieces IsFormed bytes number offset shown
      → (x : X) → IsFormed x → (tokens : List Token) → Lexes bytes (Ok tokens) → Spells [] 0 (pieces x) tokens → ⊥
  unparsed_never lexing {bytes} (syntax {tokens = tokens} {i = i} l h at) x formed others lexes spelled =
      not_at x (kinds_of tokens) i formed (spelled_kinds lexing bytes tokens others x h lexes spelled) at
  unparsed_never lexing {bytes} (too_deep {tokens = tokens} {i = i} l h at) x formed others lexes spelled =
      at.every x formed at.rest (spelled_kinds lexing bytes tokens others x h lexes spelled ∙ at.split) (spells_within 0 (pieces x) others spelled)

-- bytes that are refused spell no file
unlexed_none : OneLexing → {bytes : List ℕ} {number : ℕ} {offset : Option ℕ} {shown : List ℕ} → IsUnlexed bytes number offset shown → SpellsNone bytes
unlexed_none lexing h file (tree, is, stands) = unlexed_never lexing h is.within is.tokens is.lexed

unparsed_none : OneLexing → {bytes : List ℕ} {number : ℕ} {offset : Option ℕ} {shown : List ℕ} → IsUnparsed whole_file IsFile bytes number offset shown → SpellsNone bytes
unparsed_none lexing h file (tree, is, stands) = unparsed_never whole_file IsFile lexing h tree is.formed is.tokens is.lexed is.spelled

unscoped_none : OneLexing → OnePlaced → NeverBoth → {bytes : List ℕ} {other : t.File} {number : ℕ} {offset : Option ℕ} {shown : List ℕ} → IsTreeOf bytes other → IsUnscopedAt other number offset shown → SpellsNone bytes
unscoped_none lexing placed never {bytes} {other} is (out_of_scope {fault = fault} f) file (tree, that, stands) =
    never tree file fault stands (subst (λ t. HasFirst t fault) (one_tree lexing placed bytes other tree is that) f)

pub refused_none : OneLexing → OnePlaced → NeverBoth → {bytes : List ℕ} {number : ℕ} {offset : Option ℕ} {shown : List ℕ} → Refuses bytes number offset shown → SpellsNone bytes
refused_none lexing placed never (inl h) = unlexed_none lexing h
refused_none lexing placed never (inr (inl h)) = unparsed_none lexing h
refused_none lexing placed never (inr (inr (tree, is, h))) = unscoped_none lexing placed never is h

-- what a call tells of a refusal is one of these causes
pub unread_as : (causes : ℕ → Option ℕ → List ℕ → Type 0) (number offset : ℕ) (shown : List ℕ) (u : Unread) → causes number (Some offset) shown → TellsRefusal number offset shown u → IsUnreadBy causes u
unread_as causes number offset shown (unread.Refused r) h t = rw (t.0, t.1, t.2) h
unread_as causes number offset shown unread.NoMemory h t = tt

-- the fault is this one, since memory didn't run out
pub lexed_fault : (bytes : List ℕ) (fault wanted : LexFault) → fault ≡ wanted → ¬ (wanted ≡ faults.NoMemory) → (fault ≡ faults.NoMemory) ⊎ Lexes bytes (Err fault) → Lexes bytes (Err wanted)
lexed_fault bytes fault wanted e other (inl none) = absurd (other (sym e ∙ none))
lexed_fault bytes fault wanted e other (inr h) = rw (← e) h

-- each token has a byte of its own
pub tokens_within : (start end : ℕ) (tokens : List Token) → AreSpans start (spans_of tokens) end → length tokens + start ≤ end
tokens_within start end [] h = omega (arith, h)
tokens_within start end (token ∷ tokens) h =
    let ih = tokens_within token.span.to end tokens h.2 in
    omega (arith, h.0, h.1)
