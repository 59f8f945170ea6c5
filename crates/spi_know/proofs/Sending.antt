-- What is sent is among what is shown.
use Rattle.std.proofs.Common.{◌≡◌, refl, ap, subst, ◌∙◌, sym, ℕ, zero, suc, ◌<◌, ◌⊎◌, inl, inr, ⊎_elim, List, [], ◌∷◌, ◌++◌, Some, slice_get, get_or, length, arith}
use Rattle.std.proofs.lemmas.List.{length_push, get_or_push, get_or_append_left}
use Rattle.std.proofs.lemmas.Option.{slice_get-get_or, get_or_from_slice_get}
use Rattle.spi_term.specs.Lists.{In, in_first, in_later}
use Rattle.spi_term.proofs.Lists.{in_append, in_cases, in_left, in_right}
use Rattle.spi_term.specs.Term.{Message, name}
use Rattle.spi_run.specs.Reduction.{Configuration, Step, act, talk, Event, Runs, runs_none, runs_silent, runs_event}
use Rattle.spi_run.specs.Knowledge.{shown, shown_in, names_below}
use Rattle.spi_know.specs.Sent.{names_up, handed, handed_in, sent_in}

pub count_up : (n : ℕ) → length (names_up n) ≡ n
count_up zero = refl
count_up (suc n) = let e = length_push (names_up n) (name n) in let f = count_up n in omega (arith, e, f)

less_or_last : (i n : ℕ) → i < suc n → (i < n) ⊎ (i ≡ n)
less_or_last zero zero lt = inr refl
less_or_last zero (suc n) lt = inl (omega arith)
less_or_last (suc i) zero lt = absurd (omega (arith, lt))
less_or_last (suc i) (suc n) lt = ⊎_elim (λ l. inl (omega (arith, l))) (λ e. inr (ap suc e)) (less_or_last i n (omega (arith, lt)))

pub name_up : (n i : ℕ) → i < n → slice_get (names_up n) i ≡ Some (name i)
name_up zero i lt = absurd (omega (arith, lt))
name_up (suc n) i lt =
    let all = names_up n ++ name n ∷ [] in
    let l = length_push (names_up n) (name n) in
    let c = count_up n in
    let at : slice_get all i ≡ Some (get_or all i (name i)) = slice_get-get_or all i (name i) (omega (arith, l, c, lt)) in
    ⊎_elim
    (λ (less : i < n).
    let e = name_up n i less in
    let f : get_or all i (name i) ≡ get_or (names_up n) i (name i) = get_or_append_left (names_up n) (name n ∷ []) (name i) i (omega (arith, c, less)) in
    at ∙ ap (λ m. Some m) (f ∙ get_or_from_slice_get (names_up n) i (name i) (name i) e))
    (λ (e : i ≡ n).
    let f : get_or all i (name i) ≡ name n = get_or_push (names_up n) (name n) (name i) i (omega (arith, c, e)) in
    at ∙ ap (λ m. Some m) (f ∙ ap name (sym e)))
    (less_or_last i n lt)

up_below : (n : ℕ) (m : Message) → In m (names_up n) → In m (names_below n)
up_below zero m i = i
up_below (suc n) m i = ⊎_elim
    (λ j. in_later (up_below n m j))
    (λ j. ⊎_elim (λ e. subst (λ x. In x (name n ∷ names_below n)) (sym e) in_first) (λ k. elim k [ ]) (in_cases j))
    (in_append (names_up n) i)

handed_shown : (c : Configuration) (s : Step) (m : Message) → In m (handed c s) → In m (shown c s)
handed_shown c (act i) m j = elim j [ ]
handed_shown c (talk i k) m j = j

handed_in_shown : {c d : Configuration} {ss : List Step} {es : List Event} (r : Runs c ss es d) (m : Message) → In m (handed_in r) → In m (shown_in r)
handed_in_shown runs_none m i = i
handed_in_shown (runs_silent {c} {s = s} t r) m i = ⊎_elim
    (λ j. in_left (shown_in r) (handed_shown c s m j))
    (λ j. in_right (shown c s) (handed_in_shown r m j))
    (in_append (handed c s) i)
handed_in_shown (runs_event {c} {s = s} t r) m i = ⊎_elim
    (λ j. in_left (shown_in r) (handed_shown c s m j))
    (λ j. in_right (shown c s) (handed_in_shown r m j))
    (in_append (handed c s) i)

pub sent_shown : (n : ℕ) {c d : Configuration} {ss : List Step} {es : List Event} (r : Runs c ss es d) (m : Message) → In m (sent_in n r) → In m (names_below n ++ shown_in r)
sent_shown n r m i = ⊎_elim
    (λ j. in_left (shown_in r) (up_below n m j))
    (λ j. in_right (names_below n) (handed_in_shown r m j))
    (in_append (names_up n) i)
