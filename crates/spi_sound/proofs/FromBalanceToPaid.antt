-- Along a run from a balanced account, each end is paid: so a derivable process is robustly safe.
use Rattle.std.proofs.Common.{◌≡◌, sym, ◌∙◌, ap, subst, ℕ, ◌+◌, ◌<◌, ◌≤◌, ◌⊎◌, inl, inr, List, [], ◌∷◌, ◌++◌, length, ⊎_elim, arith, if◌then◌else◌, Some, zero-le}
use Rattle.spi_term.proofs.Lists.{in_cases}
use Rattle.spi_term.specs.Lists.{At, In, in_first, in_later}
use Rattle.spi_term.specs.Term.{Message, same_message, Ty, Process}
use Rattle.spi_term.specs.Names.{TyOver, ProcessOver}
use Rattle.spi_effect.proofs.Laws.{within_refl, within_tally}
use Rattle.spi_rules.specs.Environment.{untrusted}
use Rattle.spi_rules.specs.Processes.{IsGenerative}
use Rattle.spi_rules.specs.Derivations.{Derivable}
use Rattle.spi_rules.proofs.Typing.{length_untrusted, at_untrusted, at_below}
use Rattle.spi_run.specs.Reduction.{Configuration, Step, Event, begun, ended, ended_many, Runs, runs_none, runs_silent, runs_event}
use Rattle.spi_run.specs.Safety.{begins_of, ends_of, RobustlySafe, RobustlySafeMany}
use Rattle.spi_run.specs.Opponent.{IsOpponent}
use Rattle.spi_sound.specs.Account.{Account, IsAccount, first_account}
use Rattle.spi_rules.proofs.Paying.{Pays, has_pays}
use Rattle.spi_sound.proofs.Opponents.{all_un_untrusted, opponent_derivable}
use Rattle.spi_sound.proofs.Weakening.{pays_lifted}
use Rattle.spi_sound.proofs.Places.{pay_none, pay_one}
use Rattle.spi_sound.proofs.BalanceOfActs.{Books, scoped}
use Rattle.spi_sound.proofs.BalanceOfSteps.{HeldByPlaces, held_step}

-- how often a label stands in a list
abbrev how_many : Message → List Message → ℕ
how_many m [] = 0
how_many m (l ∷ ls) = (if same_message m l then 1 else 0) + how_many m ls

how_many_append : (m : Message) (ks ls : List Message) → how_many m (ks ++ ls) ≡ how_many m ks + how_many m ls
how_many_append m [] ls = omega arith
how_many_append m (k ∷ ks) ls = omega (arith, how_many_append m ks ls)

-- the ends of a run are paid by its begins and by what was begun before
abbrev PaidFrom : List Message → List Event → Type 0
PaidFrom ms es = (early late : List Event) (m : Message) → es ≡ early ++ late → ends_of m early ≤ begins_of m early + how_many m ms

abbrev ManyFrom : List Message → List Event → Type 0
ManyFrom ms es = (early late : List Event) (m : Message) → es ≡ early ++ ended_many m ∷ late → In (begun m) early ⊎ In m ms

-- the two along an event
paid_event : (a b : Account) (e : Event) {es : List Event} → Books a (Some e) b → PaidFrom b.begun es → PaidFrom a.begun (e ∷ es)
paid_event a b e k ih [] late m f = zero-le
paid_event a b (begun l) {es} k ih (x ∷ early) late m f =
    let ex : begun l ≡ x = cc in
    let h : ends_of m early ≤ begins_of m early + how_many m (l ∷ a.begun) = subst (λ ms. ends_of m early ≤ begins_of m early + how_many m ms) k.0 (ih early late m cc) in
    subst (λ y. ends_of m (y ∷ early) ≤ begins_of m (y ∷ early) + how_many m a.begun) ex (omega arith)
paid_event a b (ended l) {es} k ih (x ∷ early) late m f =
    let (pre, post, u, v, w) = k in
    let ex : ended l ≡ x = cc in
    let h = ih early late m cc in
    let p : how_many m b.begun ≡ how_many m pre + how_many m post = ap (how_many m) v ∙ how_many_append m pre post in
    let q : how_many m a.begun ≡ how_many m pre + how_many m (l ∷ post) = ap (how_many m) u ∙ how_many_append m pre (l ∷ post) in
    subst (λ y. ends_of m (y ∷ early) ≤ begins_of m (y ∷ early) + how_many m a.begun) ex (omega arith)
paid_event a b (ended_many l) {es} k ih (x ∷ early) late m f =
    let ex : ended_many l ≡ x = cc in
    let h : ends_of m early ≤ begins_of m early + how_many m a.begun = subst (λ ms. ends_of m early ≤ begins_of m early + how_many m ms) k.0 (ih early late m cc) in
    subst (λ y. ends_of m (y ∷ early) ≤ begins_of m (y ∷ early) + how_many m a.begun) ex h

many_event : (a b : Account) (e : Event) {es : List Event} → Books a (Some e) b → ManyFrom b.ever es → ManyFrom a.ever (e ∷ es)
many_event a b (begun l) k ih [] late m f = cc
many_event a b (ended l) k ih [] late m f = cc
many_event a b (ended_many l) k ih [] late m f = let g : l ≡ m = cc in inr (subst (λ n. In n a.ever) g k.2)
many_event a b (begun l) {es} k ih (x ∷ early) late m f =
    let ex : begun l ≡ x = cc in
    ⊎_elim (λ i. inl (in_later i))
    (λ i. ⊎_elim (λ g. inl (subst (λ y. In (begun m) (y ∷ early)) (ap begun g ∙ ex) in_first)) (λ j. inr j)
    (in_cases (subst (λ ms. In m ms) k.1 i)))
    (ih early late m cc)
many_event a b (ended l) {es} k ih (x ∷ early) late m f =
    let (pre, post, u, v, w) = k in
    ⊎_elim (λ i. inl (in_later i)) (λ i. inr (subst (λ ms. In m ms) w i)) (ih early late m cc)
many_event a b (ended_many l) {es} k ih (x ∷ early) late m f =
    ⊎_elim (λ i. inl (in_later i)) (λ i. inr (subst (λ ms. In m ms) k.1 i)) (ih early late m cc)

-- along a run from places that pay
run_paid : {c d : Configuration} {ss : List Step} {es : List Event} {a : Account} → HeldByPlaces c.places a → length a.types ≡ c.names → Runs c ss es d → PaidFrom a.begun es
run_paid h f runs_none [] late m g = zero-le
run_paid h f runs_none (x ∷ early) late m g = cc
run_paid {es = es} {a = a} h f (runs_silent t r) early late m g =
    let after = held_step h f t in
    subst (λ ms. ends_of m early ≤ begins_of m early + how_many m ms) after.books.0 (run_paid after.held after.names r early late m g)
run_paid {a = a} h f (runs_event {e = e} t r) early late m g =
    let after = held_step h f t in
    paid_event a after.account e after.books (run_paid after.held after.names r) early late m g

run_many : {c d : Configuration} {ss : List Step} {es : List Event} {a : Account} → HeldByPlaces c.places a → length a.types ≡ c.names → Runs c ss es d → ManyFrom a.ever es
run_many h f runs_none [] late m g = cc
run_many h f runs_none (x ∷ early) late m g = cc
run_many {es = es} {a = a} h f (runs_silent t r) early late m g =
    let after = held_step h f t in
    subst (λ ms. In (begun m) early ⊎ In m ms) after.books.1 (run_many after.held after.names r early late m g)
run_many {a = a} h f (runs_event {e = e} t r) early late m g =
    let after = held_step h f t in
    many_event a after.account e after.books (run_many after.held after.names r) early late m g

pub is_first : (n : ℕ) → IsAccount (first_account n)
is_first n = record {
  types = λ x t b. subst (λ u. IsGenerative u × TyOver (length (untrusted n)) u) (sym (at_untrusted n b)) (tt, tt);
  casts = λ m fs i. elim i [ ];
  unchecked = λ x h. cc;
}

-- a derivable process pays with nothing, over more names too
pub derivable_pays : (k n : ℕ) (p : Process) → k ≤ n → Derivable (untrusted k) p [] → Pays [] (untrusted n) p []
derivable_pays k n p le d =
    pays_lifted (scoped (is_first k)) (λ c i. i)
    (λ x t b. subst (λ u. At (untrusted n) x u) (sym (at_untrusted k b)) ((all_un_untrusted n).at x (lower b)))
    (subst (λ j. j ≤ length (untrusted n)) (sym (length_untrusted k)) (subst (λ j. k ≤ j) (sym (length_untrusted n)) le))
    d.over tt (has_pays d.has)
  where
    lower : {x : ℕ} {t : Ty} → At (untrusted k) x t → x < length (untrusted n)
    lower b = let h = at_below b in let e = length_untrusted k in let f = length_untrusted n in omega arith

-- the places at the start
pub held_first : (k n : ℕ) (p o : Process) → k ≤ n → Derivable (untrusted k) p [] → IsOpponent o → ProcessOver n p → ProcessOver n o → HeldByPlaces (p ∷ o ∷ []) (first_account n)
held_first k n p o le d io op oo =
    let e = sym (length_untrusted n) in
    record {
      is = is_first n;
      over = (subst (λ j. ProcessOver j p) e op, (subst (λ j. ProcessOver j o) e oo, tt));
      effect = [];
      over_effect = tt;
      pays = pay_one (derivable_pays k n p le d) (pay_one (has_pays (opponent_derivable n o io oo).has) pay_none (within_refl [])) (within_refl []);
      within = within_tally (λ x. zero-le);
    }

pub safe : (k : ℕ) (p : Process) → Derivable (untrusted k) p [] → RobustlySafe k p
safe k p d o n steps events c io le op oo r early late m f =
    let h = run_paid (held_first k n p o le d io op oo) (length_untrusted n) r early late m f in omega arith

pub safe_many : (k : ℕ) (p : Process) → Derivable (untrusted k) p [] → RobustlySafeMany k p
safe_many k p d o n steps events c io le op oo r early late m f =
    ⊎_elim (λ i. i) (λ i. elim i [ ]) (run_many (held_first k n p o le d io op oo) (length_untrusted n) r early late m f)
