-- The lines of some events, and the first unpaid one, by one event more at a time.
use Rattle.std.proofs.Common.{◌≡◌, refl, sym, ap, ◌∙◌, ℕ, zero, suc, ◌+◌, ◌<◌, Bool, true, false, if◌then◌else◌, List, [], ◌∷◌, ◌++◌, append_assoc, append-nil, Option, Some, None, length, map, take, get_or, arith}
use Rattle.std.proofs.lemmas.List.{length-map}
use Rattle.spi_run.specs.declared.step.Event as declared
use Rattle.spi_run.specs.View.{event}
use Rattle.spi_run.specs.Reduction.{Event}
use Rattle.spi_trace.specs.Pairing.{Pairs, pairs_none, pairs_begin, pairs_end, pairs_unpaid, pairs_end_many, pairs_unpaid_many, IsPairing}
use Rattle.spi_report.specs.Events.{event_line, event_lines, is_unpaid, first_unpaid}

-- the first n of the events, and the event behind them
abbrev lines_of : List (List ℕ) → ℕ → ℕ → List declared.Event → List (Option ℕ) → List ℕ
lines_of names k n events from = event_lines names k (map event (take n events)) (take n from)

abbrev unpaid_of : ℕ → ℕ → List declared.Event → List (Option ℕ) → Option ℕ
unpaid_of k n events from = first_unpaid k (map event (take n events)) (take n from)

-- a line more
suc_lines : (names : List (List ℕ)) (k n : ℕ) (events : List declared.Event) (from : List (Option ℕ)) (d : declared.Event) (o : Option ℕ) → n < length events → n < length from → lines_of names k (suc n) events from ≡ lines_of names k n events from ++ event_line names (k + n) (event (get_or events n d)) (get_or from n o)
suc_lines names k n [] from d o h g = absurd (omega arith)
suc_lines names k n (e ∷ events) [] d o h g = absurd (omega arith)
suc_lines names k zero (e ∷ events) (i ∷ from) d o h g =
    let same : k ≡ k + 0 = omega arith in
    append-nil (event_line names k (event e) i) ∙ ap (λ (j : ℕ). event_line names j (event e) i) same
suc_lines names k (suc n) (e ∷ events) (i ∷ from) d o h g =
    let here = event_line names k (event e) i in
    let next = event_line names (k + suc n) (event (get_or events n d)) (get_or from n o) in
    let same : suc k + n ≡ k + suc n = omega arith in
    let more = suc_lines names (suc k) n events from d o (omega arith) (omega arith) in
    ap (λ (t : List ℕ). here ++ t) (more ∙ ap (λ (j : ℕ). lines_of names (suc k) n events from ++ event_line names j (event (get_or events n d)) (get_or from n o)) same) ∙ sym (append_assoc here (lines_of names (suc k) n events from) next)

more_lines : (names : List (List ℕ)) (n : ℕ) (events : List declared.Event) (from : List (Option ℕ)) (e : declared.Event) (i o : Option ℕ) → n < length events → length from ≡ length events → e ≡ get_or events n e → i ≡ get_or from n o → event_lines names 0 (map event (take (n + 1) events)) (take (n + 1) from) ≡ event_lines names 0 (map event (take n events)) (take n from) ++ event_line names n (event e) i
more_lines names n events from e i o h l f g =
    let same : 0 + n ≡ n = omega arith in
    let one : n + 1 ≡ suc n = omega arith in
    ap (λ (m : ℕ). lines_of names 0 m events from) one ∙ suc_lines names 0 n events from e o h (omega arith)
    ∙ ap (λ (j : ℕ). lines_of names 0 n events from ++ event_line names j (event (get_or events n e)) (get_or from n o)) same
    ∙ ap (λ (x : declared.Event). lines_of names 0 n events from ++ event_line names n (event x) (get_or from n o)) (sym f)
    ∙ ap (λ (x : Option ℕ). lines_of names 0 n events from ++ event_line names n (event e) x) (sym g)

pub put_more : (names : List (List ℕ)) (n : ℕ) (events : List declared.Event) (from : List (Option ℕ)) (e : declared.Event) (i o : Option ℕ) (old new : List ℕ) → n < length events → length from ≡ length events → e ≡ get_or events n e → i ≡ get_or from n o → old ≡ event_lines names 0 (map event (take n events)) (take n from) → new ≡ old ++ event_line names n (event e) i → new ≡ event_lines names 0 (map event (take (n + 1) events)) (take (n + 1) from)
put_more names n events from e i o old new h l f g was put =
    put ∙ ap (λ (t : List ℕ). t ++ event_line names n (event e) i) was ∙ sym (more_lines names n events from e i o h l f g)

-- a choice that gives nothing, and one that isn't made
none_chosen : (b : Bool) (k : ℕ) (o : Option ℕ) → (if b then Some k else o) ≡ None → (b ≡ false) × (o ≡ None)
none_chosen true k o h = absurd (cc)
none_chosen false k o h = (refl, h)

not_chosen : (b : Bool) (k : ℕ) (o : Option ℕ) → b ≡ false → (if b then Some k else o) ≡ o
not_chosen b k o h = ap (λ (c : Bool). if c then Some k else o) h

chosen : (b : Bool) (k : ℕ) (o : Option ℕ) → b ≡ true → (if b then Some k else o) ≡ Some k
chosen b k o h = ap (λ (c : Bool). if c then Some k else o) h

-- the first n are paid, and the event behind them is paid too, or isn't
suc_none : (k n : ℕ) (events : List declared.Event) (from : List (Option ℕ)) (d : declared.Event) (o : Option ℕ) → n < length events → n < length from → unpaid_of k n events from ≡ None → is_unpaid (event (get_or events n d)) (get_or from n o) ≡ false → unpaid_of k (suc n) events from ≡ None
suc_none k n [] from d o h g none paid = absurd (omega arith)
suc_none k n (e ∷ events) [] d o h g none paid = absurd (omega arith)
suc_none k zero (e ∷ events) (i ∷ from) d o h g none paid = not_chosen (is_unpaid (event e) i) k None paid
suc_none k (suc n) (e ∷ events) (i ∷ from) d o h g none paid =
    let (here, later) = none_chosen (is_unpaid (event e) i) k (unpaid_of (suc k) n events from) none in
    not_chosen (is_unpaid (event e) i) k (unpaid_of (suc k) (suc n) events from) here ∙ suc_none (suc k) n events from d o (omega arith) (omega arith) later paid

first_at : (k n : ℕ) (events : List declared.Event) (from : List (Option ℕ)) (d : declared.Event) (o : Option ℕ) → n < length events → n < length from → unpaid_of k n events from ≡ None → is_unpaid (event (get_or events n d)) (get_or from n o) ≡ true → first_unpaid k (map event events) from ≡ Some (k + n)
first_at k n [] from d o h g none unpaid = absurd (omega arith)
first_at k n (e ∷ events) [] d o h g none unpaid = absurd (omega arith)
first_at k zero (e ∷ events) (i ∷ from) d o h g none unpaid =
    let same : k ≡ k + 0 = omega arith in
    chosen (is_unpaid (event e) i) k (first_unpaid (suc k) (map event events) from) unpaid ∙ ap Some same
first_at k (suc n) (e ∷ events) (i ∷ from) d o h g none unpaid =
    let (here, later) = none_chosen (is_unpaid (event e) i) k (unpaid_of (suc k) n events from) none in
    let same : suc k + n ≡ k + suc n = omega arith in
    not_chosen (is_unpaid (event e) i) k (first_unpaid (suc k) (map event events) from) here ∙ first_at (suc k) n events from d o (omega arith) (omega arith) later unpaid ∙ ap Some same

pub more_none : (n : ℕ) (events : List declared.Event) (from : List (Option ℕ)) (e : declared.Event) (i o : Option ℕ) → n < length events → length from ≡ length events → e ≡ get_or events n e → i ≡ get_or from n o → first_unpaid 0 (map event (take n events)) (take n from) ≡ None → is_unpaid (event e) i ≡ false → first_unpaid 0 (map event (take (n + 1) events)) (take (n + 1) from) ≡ None
more_none n events from e i o h l f g none paid =
    let one : n + 1 ≡ suc n = omega arith in
    ap (λ (m : ℕ). unpaid_of 0 m events from) one ∙ suc_none 0 n events from e o h (omega arith) none (ap (λ (x : declared.Event). is_unpaid (event x) (get_or from n o)) (sym f) ∙ ap (λ (x : Option ℕ). is_unpaid (event e) x) (sym g) ∙ paid)

pub found_at : (n : ℕ) (events : List declared.Event) (from : List (Option ℕ)) (e : declared.Event) (i o : Option ℕ) → n < length events → length from ≡ length events → e ≡ get_or events n e → i ≡ get_or from n o → first_unpaid 0 (map event (take n events)) (take n from) ≡ None → is_unpaid (event e) i ≡ true → Some n ≡ first_unpaid 0 (map event events) from
found_at n events from e i o h l f g none unpaid =
    let same : 0 + n ≡ n = omega arith in
    sym (first_at 0 n events from e o h (omega arith) none (ap (λ (x : declared.Event). is_unpaid (event x) (get_or from n o)) (sym f) ∙ ap (λ (x : Option ℕ). is_unpaid (event e) x) (sym g) ∙ unpaid) ∙ ap Some same)

-- a pairing has an entry for each event
as_long : {seen es : List Event} {taken : List ℕ} {is : List (Option ℕ)} → Pairs seen taken es is → length is ≡ length es
as_long pairs_none = refl
as_long (pairs_begin p) = ap suc (as_long p)
as_long (pairs_end h p) = ap suc (as_long p)
as_long (pairs_unpaid n p) = ap suc (as_long p)
as_long (pairs_end_many h p) = ap suc (as_long p)
as_long (pairs_unpaid_many n p) = ap suc (as_long p)

pub each_paired : (events : List declared.Event) (from : List (Option ℕ)) → IsPairing (map event events) from → length from ≡ length events
each_paired events from p = as_long p ∙ length-map events event
