-- The points of a tree taken in order: nothing is wrong, or there is one first fault.
use Rattle.std.proofs.Common.{◌≡◌, ℕ, ◌+◌, ◌≤◌, List, [], ◌∷◌, ◌++◌, refl, sym, ap, ◌∙◌, arith, add-zero, inl, inr, ⊎_elim}
use Rattle.std.specs.Prelude.{◌⊎◌, Option, Some, None, Ok, Err, nat_lt, if◌then◌else◌}
use Rattle.std.proofs.lemmas.Bool.{cases_Bool, cond-true, ltb-false}
use Rattle.spi_scope.specs.declared.fault.ScopeFault.{ScopeFault}
use Rattle.spi_scope.specs.Points.{Point, uses_name, uses_type, declares_name, declares_type, ends_message, ends_type, adds, starts_step, Points, none, one, ◌⨾◌, in_order, fault_at, added}
use Rattle.spi_scope.specs.First.{count_points, Clean, IsFirst}
use Rattle.spi_scope.specs.Gives.{Ran, after, unless, run, FailsWith}
use Rattle.spi_scope.specs.declared.fault.ScopeFault.TheVariants.{NoMemory}

abbrev pub run_list : List Point → ℕ → Ran
run_list [] c = Ok c
run_list (p ∷ ps) c = after (unless (fault_at c p) (c + added p)) (run_list ps)

after_all : (r : Ran) (f g : ℕ → Ran) → after (after r f) g ≡ after r (λ c. after (f c) g)
after_all (Ok c) f g = refl
after_all (Err e) f g = refl

same_after : (r : Ran) (f g : ℕ → Ran) → ((c : ℕ) → f c ≡ g c) → after r f ≡ after r g
same_after (Ok c) f g h = h c
same_after (Err e) f g h = refl

same_first : (r s : Ran) (f : ℕ → Ran) → r ≡ s → after r f ≡ after s f
same_first r s f e = ap (λ x. after x f) e

run_more : (ps qs : List Point) (c : ℕ) → run_list (ps ++ qs) c ≡ after (run_list ps c) (run_list qs)
run_more [] qs c = refl
run_more (p ∷ ps) qs c =
    same_after (unless (fault_at c p) (c + added p)) (run_list (ps ++ qs)) (λ d. after (run_list ps d) (run_list qs)) (λ d. run_more ps qs d)
    ∙ sym (after_all (unless (fault_at c p) (c + added p)) (run_list ps) (run_list qs))

last_after : (r : Ran) → after r (λ c. Ok c) ≡ r
last_after (Ok c) = refl
last_after (Err e) = refl

pub run_in_order : (ps : Points) (c : ℕ) → run ps c ≡ run_list (in_order ps) c
run_in_order none c = refl
run_in_order (one p) c = sym (last_after (unless (fault_at c p) (c + added p)))
run_in_order (ps ⨾ qs) c =
    same_first (run ps c) (run_list (in_order ps) c) (run qs) (run_in_order ps c)
    ∙ same_after (run_list (in_order ps) c) (run qs) (run_list (in_order qs)) (λ d. run_in_order qs d)
    ∙ sym (run_more (in_order ps) (in_order qs) c)

pub clean_from : (ps : List Point) (c d : ℕ) → run_list ps c ≡ Ok d → Clean c ps × (d ≡ c + count_points ps)
clean_from [] c d e = let f : c ≡ d = cc in (tt, omega (arith, f))
clean_from (p ∷ ps) c d e = by (fault_at c p) refl (λ k. clean_from ps (c + added p) d k)
  where
    by : (o : Option ScopeFault) → fault_at c p ≡ o → (run_list ps (c + added p) ≡ Ok d → Clean (c + added p) ps × (d ≡ c + added p + count_points ps)) → Clean c (p ∷ ps) × (d ≡ c + count_points (p ∷ ps))
    by None h k =
        let r = k (sym (ap (λ o. after (unless o (c + added p)) (run_list ps)) h) ∙ e) in
        ((h, r.0), omega (arith, r.1))
    by (Some f) h k = let z : Err f ≡ Ok d = sym (ap (λ o. after (unless o (c + added p)) (run_list ps)) h) ∙ e in absurd (cc)

pub clean_run : (ps : List Point) (c : ℕ) → Clean c ps → run_list ps c ≡ Ok (c + count_points ps)
clean_run [] c h = ap (λ d. Ok d) (sym (add-zero c))
clean_run (p ∷ ps) c h =
    let e : c + added p + count_points ps ≡ c + (added p + count_points ps) = omega arith in
    ap (λ o. after (unless o (c + added p)) (run_list ps)) h.0 ∙ clean_run ps (c + added p) h.1 ∙ ap (λ d. Ok d) e

-- the running count of points at which nothing is wrong is at most 100,000
total : (c n : ℕ) (f : ScopeFault) → (if nat_lt 100000 (c + n) then Some f else None) ≡ None → c + n ≤ 100000
total c n f h = elim (cases_Bool (nat_lt 100000 (c + n))) [
  | inl over ↦ (let z : Some f ≡ None = sym (cond-true (nat_lt 100000 (c + n)) (Some f) None over) ∙ h in absurd cc)
  | inr within ↦ ltb-false 100000 (c + n) within
]

still_few : (c : ℕ) (p : Point) → c ≤ 100000 → fault_at c p ≡ None → c + added p ≤ 100000
still_few c (uses_name xs w) l h = omega (arith, l)
still_few c (uses_type ts w) l h = omega (arith, l)
still_few c (declares_name xs w) l h = omega (arith, l)
still_few c (declares_type ts w) l h = omega (arith, l)
still_few c (ends_message n s) l h = omega (arith, l)
still_few c (ends_type n s) l h = omega (arith, l)
still_few c (adds n s) l h = total c n _ h
still_few c (starts_step i n s) l h = omega (arith, l)

pub counted_few : (ps : List Point) (c : ℕ) → c ≤ 100000 → Clean c ps → c + count_points ps ≤ 100000
counted_few [] c l h = omega (arith, l)
counted_few (p ∷ ps) c l h = omega (arith, counted_few ps (c + added p) (still_few c p l h.0) h.1)

-- the first fault where the count is c before the first point
pub record FirstFrom (c : ℕ) (points : List Point) (f : ScopeFault) : Type 0 where
  pub before : List Point
  pub at : Point
  pub after : List Point
  pub cut : points ≡ before ++ at ∷ after
  pub clean : Clean c before
  pub wrong : fault_at (c + count_points before) at ≡ Some f

pub first_from : (ps : List Point) (c : ℕ) (f : ScopeFault) → run_list ps c ≡ Err f → FirstFrom c ps f
first_from [] c f e = absurd (cc)
first_from (p ∷ ps) c f e = by (fault_at c p) refl (λ k. first_from ps (c + added p) f k)
  where
    by : (o : Option ScopeFault) → fault_at c p ≡ o → (run_list ps (c + added p) ≡ Err f → FirstFrom (c + added p) ps f) → FirstFrom c (p ∷ ps) f
    by None h k =
        let r = k (sym (ap (λ o. after (unless o (c + added p)) (run_list ps)) h) ∙ e) in
        let n : c + (added p + count_points r.before) ≡ c + added p + count_points r.before = omega arith in
        record {
          before = p ∷ r.before;
          at = r.at;
          after = r.after;
          cut = ap (λ l. p ∷ l) r.cut;
          clean = (h, r.clean);
          wrong = ap (λ d. fault_at d r.at) n ∙ r.wrong;
        }
    by (Some g) h k =
        let z : Err g ≡ Err f = sym (ap (λ o. after (unless o (c + added p)) (run_list ps)) h) ∙ e in
        let q : g ≡ f = cc in
        record {
          before = [];
          at = p;
          after = ps;
          cut = refl;
          clean = tt;
          wrong = ap (λ d. fault_at d p) (add-zero c) ∙ h ∙ ap (λ x. Some x) q;
        }

pub is_first : (ps : Points) (f : ScopeFault) → run ps 0 ≡ Err f → IsFirst (in_order ps) f
is_first ps f e =
    let r = first_from (in_order ps) 0 f (sym (run_in_order ps 0) ∙ e) in
    let n : count_points r.before ≡ 0 + count_points r.before = omega arith in
    record { before = r.before; at = r.at; after = r.after; cut = r.cut; clean = r.clean; wrong = ap (λ d. fault_at d r.at) n ∙ r.wrong }

pub is_clean : (ps : Points) (d : ℕ) → run ps 0 ≡ Ok d → Clean 0 (in_order ps) × (d ≡ count_points (in_order ps))
is_clean ps d e =
    let r = clean_from (in_order ps) 0 d (sym (run_in_order ps 0) ∙ e) in
    (r.0, omega (arith, r.1))

pub first_run : (ps : List Point) (f : ScopeFault) → IsFirst ps f → run_list ps 0 ≡ Err f
first_run ps f r =
    let n : 0 + count_points r.before ≡ count_points r.before = omega arith in
    ap (λ l. run_list l 0) r.cut ∙ run_more r.before (r.at ∷ r.after) 0 ∙ ap (λ x. after x (run_list (r.at ∷ r.after))) (clean_run r.before 0 r.clean ∙ ap (λ d. Ok d) n)
    ∙ ap (λ o. after (unless o (count_points r.before + added r.at)) (run_list r.after)) r.wrong

-- a list of points is clean or has a first fault, never both, and no two first faults
pub one_of : (ps : List Point) → Clean 0 ps ⊎ ((f : ScopeFault) × IsFirst ps f)
one_of ps = by (run_list ps 0) refl
  where
    by : (r : Ran) → run_list ps 0 ≡ r → Clean 0 ps ⊎ ((f : ScopeFault) × IsFirst ps f)
    by (Ok d) e = inl (clean_from ps 0 d e).0
    by (Err f) e =
        let r = first_from ps 0 f e in
        let n : count_points r.before ≡ 0 + count_points r.before = omega arith in
        inr (f, record { before = r.before; at = r.at; after = r.after; cut = r.cut; clean = r.clean; wrong = ap (λ d. fault_at d r.at) n ∙ r.wrong })

pub never_both : (ps : List Point) (f : ScopeFault) → Clean 0 ps → IsFirst ps f → ⊥
never_both ps f h r = let e = sym (clean_run ps 0 h) ∙ first_run ps f r in cc

pub one_first : (ps : List Point) (f g : ScopeFault) → IsFirst ps f → IsFirst ps g → f ≡ g
one_first ps f g r s = let e = sym (first_run ps f r) ∙ first_run ps g s in cc

-- what was run into is the first fault, unless memory ran out
pub faulted : (e : ScopeFault) (ps : Points) → FailsWith e (run ps 0) → (e ≡ NoMemory) ⊎ IsFirst (in_order ps) e
faulted e ps h = ⊎_elim (λ m. inl m) (λ f. inr (is_first ps e f)) h
