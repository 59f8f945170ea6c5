-- Rows that are read symbol by symbol: how far they are read, and what is left of them.
use Rattle.std.proofs.Common.{◌≡◌, ℕ, ◌+◌, ◌≤◌, ◌<◌, Bool, List, [], ◌∷◌, ◌++◌, length, drop, Ok, Err}
use Rattle.spi_lex.specs.declared.token.Token.{Token}
use Rattle.spi_lex.specs.Lexing.{kinds_of}
use Rattle.spi_tree.specs.declared.tree.SWord.{SWord}
use Rattle.spi_tree.specs.Trees as t
use Rattle.spi_tree.specs.Formed.{AreWordsFit}
use Rattle.spi_parse.specs.declared.fault.ParseFault.{ParseFault}
use Rattle.spi_parse.specs.Formed.{whole_type, whole_message, IsWholeType, IsWholeMessage}
use Rattle.spi_parse.specs.Exact as exact
use Rattle.spi_heading.specs.Spans.{start_of_token, end_before}
use Rattle.spi_heading.specs.Taking.{TakesOneToken, TakesWord}
use Rattle.spi_heading.proofs.Failing.{FailsAt, fails_from}
use Rattle.spi_heading.proofs.Symbols.{HeadingSym, HeadingTok, kind_of_token, Value, SymbolItem, token, name, message, ty, opening, closing}
use Rattle.spi_heading.proofs.Rows.{Values, ItemAt, RowAt, RowFails, join, row_end, row_more, rows_more, fails_first, fails_behind, rows_first, rows_behind, opened, closed}
use Rattle.spi_heading.proofs.Calls.{took, untaken, took_word, untaken_word, read_message, read_type}

-- The tokens from number i up to number j are the front of the row, and `left` is what is left of it. `put` has the values of
-- the row from those of what is left.
pub record RowReached (v : Bool) (ts : List Token) (i : ℕ) (row left : List HeadingSym) (put : Values left → Values row) (j : ℕ) : Type 0 where
  pub fit : AreWordsFit v (kinds_of ts)
  pub fails : (f : ParseFault) → RowFails v ts j left f → RowFails v ts i row f
  pub stands : (xs : Values left) (k : ℕ) → RowAt v ts j left xs k → RowAt v ts i row (put xs) k

pub begun : (v : Bool) (ts : List Token) (i : ℕ) (row : List HeadingSym) → AreWordsFit v (kinds_of ts) → RowReached v ts i row row (λ xs. xs) i
begun v ts i row fit = record { fit = fit; fails = λ f h. h; stands = λ xs k h. h }

pub ended : {v : Bool} {ts : List Token} {i j : ℕ} {row : List HeadingSym} {put : Values [] → Values row} → RowReached v ts i row [] put j → RowAt v ts i row (put tt) j
ended {v = v} {ts = ts} {j = j} r = r.stands tt j (row_end v ts j)

-- ---- one symbol more

pub then_item : {v : Bool} {ts : List Token} {i j : ℕ} {row left : List HeadingSym} {s : HeadingSym} {put : Values (s ∷ left) → Values row} → RowReached v ts i row (s ∷ left) put j → (x : Value s) (k : ℕ) → ItemAt v ts j s x k
    → RowReached v ts i row left (λ (xs : Values left). put (x, xs)) k
then_item {v = v} {ts = ts} {j = j} {left = left} {s = s} r x k h = record {
  fit = r.fit;
  fails = λ f g. r.fails f (fails_behind v ts j k s left x f r.fit h g);
  stands = λ xs n g. r.stands (x, xs) n (row_more v ts j k n s left x xs h g);
}

pub then_row : {v : Bool} {ts : List Token} {i j : ℕ} {row : List HeadingSym} (more left : List HeadingSym) {put : Values (more ++ left) → Values row} → RowReached v ts i row (more ++ left) put j → (x : Values more) (k : ℕ) → RowAt v ts j more x k
    → RowReached v ts i row left (λ (xs : Values left). put (join more left x xs)) k
then_row {v = v} {ts = ts} {j = j} more left r x k h = record {
  fit = r.fit;
  fails = λ f g. r.fails f (rows_behind v ts j k more left x f r.fit h g);
  stands = λ xs n g. r.stands (join more left x xs) n (rows_more v ts j k n more left x xs h g);
}

pub then_token : {v : Bool} {ts : List Token} {i j : ℕ} {row left : List HeadingSym} {x : HeadingTok} {put : Values (token x ∷ left) → Values row} → RowReached v ts i row (token x ∷ left) put j → (k : ℕ) → TakesOneToken (kind_of_token x) (Ok k) ts j
    → RowReached v ts i row left (λ (xs : Values left). put (tt, xs)) k
then_token {v = v} {ts = ts} {j = j} {x = x} r k h = then_item r tt k (took v ts j k x h)

pub then_word : {v : Bool} {ts : List Token} {i j : ℕ} {row left : List HeadingSym} {put : Values (name ∷ left) → Values row} → RowReached v ts i row (name ∷ left) put j → (w : SWord) (k : ℕ) → TakesWord (Ok (w, k)) ts j
    → RowReached v ts i row left (λ (xs : Values left). put (w, xs)) k
then_word {v = v} {ts = ts} {j = j} r w k h = then_item r w k (took_word v ts j (w, k) h)

pub then_message : {v : Bool} {ts : List Token} {i j : ℕ} {row left : List HeadingSym} {put : Values (message ∷ left) → Values row} → RowReached v ts i row (message ∷ left) put j → (m : t.Msg) (k : ℕ) → j ≤ length ts
    → (h : (n : ℕ) × (k ≡ j + n) × exact.IsPartAt whole_message (IsWholeMessage v) m (drop j ts) n) → RowReached v ts i row left (λ (xs : Values left). put (m, xs)) k
then_message {v = v} {ts = ts} {j = j} r m k w h = then_item r m k (read_message v ts j m k w h)

pub then_type : {v : Bool} {ts : List Token} {i j : ℕ} {row left : List HeadingSym} {put : Values (ty ∷ left) → Values row} → RowReached v ts i row (ty ∷ left) put j → (a : t.Ty) (k : ℕ) → j ≤ length ts
    → (h : (n : ℕ) × (k ≡ j + n) × exact.IsPartAt whole_type (IsWholeType v) a (drop j ts) n) → RowReached v ts i row left (λ (xs : Values left). put (a, xs)) k
then_type {v = v} {ts = ts} {j = j} r a k w h = then_item r a k (read_type v ts j a k w h)

-- where a node begins and ends
pub then_opening : {v : Bool} {ts : List Token} {i j : ℕ} {row left : List HeadingSym} {put : Values (opening ∷ left) → Values row} → RowReached v ts i row (opening ∷ left) put j → j < length ts
    → RowReached v ts i row left (λ (xs : Values left). put (start_of_token ts j, xs)) j
then_opening {v = v} {ts = ts} {j = j} r lt = then_item r (start_of_token ts j) j (opened v ts j lt)

pub then_closing : {v : Bool} {ts : List Token} {i j : ℕ} {row left : List HeadingSym} {put : Values (closing ∷ left) → Values row} → RowReached v ts i row (closing ∷ left) put j → RowReached v ts i row left (λ (xs : Values left). put (end_before ts j, xs)) j
then_closing {v = v} {ts = ts} {j = j} r = then_item r (end_before ts j) j (closed v ts j)

-- ---- what is left does not stand there

pub no_item : {v : Bool} {ts : List Token} {i j : ℕ} {row left : List HeadingSym} {s : HeadingSym} {put : Values (s ∷ left) → Values row} → RowReached v ts i row (s ∷ left) put j → (f : ParseFault) → FailsAt (SymbolItem v s) ts j f → RowFails v ts i row f
no_item {v = v} {ts = ts} {j = j} {left = left} {s = s} r f h = r.fails f (fails_first v ts j s left f h)

pub no_row : {v : Bool} {ts : List Token} {i j : ℕ} {row : List HeadingSym} (more left : List HeadingSym) {put : Values (more ++ left) → Values row} → RowReached v ts i row (more ++ left) put j → (f : ParseFault) → RowFails v ts j more f → RowFails v ts i row f
no_row {v = v} {ts = ts} {j = j} more left r f h = r.fails f (rows_first v ts j more left f h)

pub no_token : {v : Bool} {ts : List Token} {i j : ℕ} {row left : List HeadingSym} {x : HeadingTok} {put : Values (token x ∷ left) → Values row} → RowReached v ts i row (token x ∷ left) put j → (f : ParseFault) → TakesOneToken (kind_of_token x) (Err f) ts j → RowFails v ts i row f
no_token {v = v} {ts = ts} {j = j} {x = x} r f h = no_item r f (untaken v ts j x f h)

pub no_word : {v : Bool} {ts : List Token} {i j : ℕ} {row left : List HeadingSym} {put : Values (name ∷ left) → Values row} → RowReached v ts i row (name ∷ left) put j → (f : ParseFault) → TakesWord (Err f) ts j → RowFails v ts i row f
no_word {v = v} {ts = ts} {j = j} r f h = no_item r f (untaken_word v ts j f h)

pub no_message : {v : Bool} {ts : List Token} {i j : ℕ} {row left : List HeadingSym} {put : Values (message ∷ left) → Values row} {V : Type 0} → RowReached v ts i row (message ∷ left) put j → (view : V → t.Msg) (f : ParseFault)
    → exact.Reads view whole_message (IsWholeMessage v) (Err f) ts j → RowFails v ts i row f
no_message {v = v} {ts = ts} {j = j} r view f h = no_item r f (fails_from view whole_message (IsWholeMessage v) ts j f h)

pub no_type : {v : Bool} {ts : List Token} {i j : ℕ} {row left : List HeadingSym} {put : Values (ty ∷ left) → Values row} {V : Type 0} → RowReached v ts i row (ty ∷ left) put j → (view : V → t.Ty) (f : ParseFault)
    → exact.Reads view whole_type (IsWholeType v) (Err f) ts j → RowFails v ts i row f
no_type {v = v} {ts = ts} {j = j} r view f h = no_item r f (fails_from view whole_type (IsWholeType v) ts j f h)
