-- The roles stand at their places, and no line was told yet.
use Rattle.std.proofs.Common.{◌≡◌, ℕ, zero, suc, ◌+◌, ◌≤◌, List, [], ◌∷◌, ◌++◌, length, refl, sym, ap, ◌∙◌, subst, arith, Some}
use Rattle.std.proofs.lemmas.List.{append-nil}
use Rattle.spi_tree.specs.declared.tree.SWord.{SWord}
use Rattle.spi_narrate.specs.Narrations as n
use Rattle.spi_term.specs.Lists.{At, at_first, at_later, In, in_first, in_later}
use Rattle.spi_term.proofs.Lists.{at_unique, get_at, in_at}
use Rattle.spi_term.specs.Term.{Message, Process, stop}
use Rattle.spi_run.specs.Reduction.{Step}
use Rattle.spi_rules.proofs.Typing.{at_below}
use Rattle.spi_replay.specs.Stepping.{Pooled}
use Rattle.spi_scope.specs.Scope.{Word, Names}
use Rattle.spi_scope.specs.Points.{all_types}
use Rattle.spi_scope.specs.StandsFor.{Meant, StandsFor}
use Rattle.spi_weave.specs.Woven.{role_process, roles_beside, roles_together, sharing, woven}
use Rattle.spi_honest.specs.Reading.{word_in, names_numbered}
use Rattle.spi_honest.specs.Narrated.{narrates_none, free_of, narrated_begin}
use Rattle.spi_honest.specs.Schedule.{line_steps, role_steps, places_from, places_of, others}
use Rattle.spi_honest.specs.Holds.{Holds}
use Rattle.spi_honest.specs.Roles.{AreRolesDistinct, IsTellable}
use Rattle.spi_honest.specs.Standing.{AreApart, StandRoles, StoppedRoles, Locates, left}
use Rattle.spi_honest.specs.Honest.{replays_none, opening}
use Rattle.spi_honest.specs.Progress.{Progress, place_number, beside_stop, steps_behind, Shares, EachRole, each_none, each_role, SpreadsRoles, AreRolePlaces}
use Rattle.spi_honest.proofs.Meant.{holds_meaning, names_closed}
use Rattle.spi_honest.proofs.Standing.{chosen, not_chosen}
use Rattle.spi_honest.proofs.Opened.{place_at, each_length, each_more}
use Rattle.spi_heading.specs.Headings.{with_shared}

-- where an element stands
pub at_in : {A : Type 0} {x : A} {xs : List A} {j : ℕ} → At xs j x → In x xs
at_in at_first = in_first
at_in (at_later h) = in_later (at_in h)

-- the first role's process, before anything is taken apart
together_beside : (ls : List n.Line) (r : SWord) (rs : List SWord) (bs : Names) (f : Word → Message) (p : Process) → Holds (roles_together ls (r ∷ rs)) bs f p → Holds (roles_beside ls r rs) bs f p
together_beside ls r [] bs f p h = h
together_beside ls r (q ∷ qs) bs f p h = h

pub share_first : {x : n.Narration} {file : Meant} {pool : Pooled} → StandsFor (woven x) file → file.process.names ≤ 100000 → pool ≡ opening file → Shares x file [] x.shared pool []
share_first {x} {file} {pool} h few e = subst (λ p. Shares x file [] x.shared p []) (sym e) (record {
  cut = refl;
  process = file.process.process;
  places = refl;
  names = ap (λ s. s.names) h.process;
  holds = subst (λ s. Holds (sharing x.shared (roles_together x.lines x.roles)) [] (word_in (names_numbered (free_of x))) s.process) (sym h.process) (holds_meaning (length (free_of x)) (all_types [] [] x.decls) (free_of x) refl (sharing x.shared (roles_together x.lines x.roles)) []);
  replays = replays_none;
  order = refl;
  few_names = omega (arith, few);
  most = refl;
})

pub spread_first : {x : n.Narration} {file : Meant} {before : List Rattle.spi_heading.specs.Headings.Shared} {pool : Pooled} {steps : List Step} (r : SWord) (rs : List SWord) → x.roles ≡ r ∷ rs → length x.shared ≤ 16 → Shares x file before [] pool steps → SpreadsRoles x file [] r rs pool steps
spread_first {x} {file} {before} {pool} {steps} r rs e few h =
    let c : x.shared ≡ before = h.cut ∙ append-nil before in
    record {
      cut = e;
      apart = [];
      last = h.process;
      each = each_none;
      holds =
          together_beside x.lines r rs [] (word_in (names_numbered (with_shared (free_of x) x.shared))) h.process
          (subst (λ qs. Holds (roles_together x.lines qs) [] (word_in (names_numbered (with_shared (free_of x) x.shared))) h.process) e
          (subst (λ ss. Holds (roles_together x.lines x.roles) [] (word_in (names_numbered (with_shared (free_of x) ss))) h.process) (sym c) h.holds));
      places = h.places;
      names = h.names ∙ ap (λ ss. length (with_shared (free_of x) ss)) (sym c);
      replays = h.replays;
      order = h.order ∙ ap (λ qs. steps ++ (role_steps 0 2 (others qs) ++ steps_behind x)) e;
      few_names = let z = ap length c in omega (arith, h.few_names, few, z);
      most = h.most;
    }

placed_from : (k : ℕ) (rs : List SWord) {j : ℕ} {r : SWord} → AreRolesDistinct rs → At rs j r → places_from k rs r.word ≡ k + j
placed_from k [] d h = elim h [ ]
placed_from k (q ∷ qs) {r = r} d at_first = chosen k (places_from (suc k) qs r.word) r.word r.word refl ∙ (let z : k ≡ k + 0 = omega arith in z)
placed_from k (q ∷ qs) {j = suc j} {r = r} d (at_later h) = not_chosen k (places_from (suc k) qs r.word) q.word r.word (d.0 r (at_in h)) ∙ placed_from (suc k) qs d.1 h ∙ (let z : suc k + j ≡ k + suc j = omega arith in z)

pub placed : (rs : List SWord) {j : ℕ} {r : SWord} → AreRolesDistinct rs → At rs j r → places_of rs r.word ≡ place_number j
placed [] d h = elim h [ ]
placed (q ∷ qs) {r = r} d at_first = chosen 0 (places_from 2 qs r.word) r.word r.word refl
placed (q ∷ qs) {j = suc j} {r = r} d (at_later h) = not_chosen 0 (places_from 2 qs r.word) q.word r.word (d.0 r (at_in h)) ∙ placed_from 2 qs d.1 h ∙ (let z : 2 + j ≡ suc (suc j) = omega arith in z)

number_one : (i j : ℕ) → place_number i ≡ place_number j → i ≡ j
number_one zero zero e = refl
number_one zero (suc j) e = absurd (omega (arith, e))
number_one (suc i) zero e = absurd (omega (arith, e))
number_one (suc i) (suc j) e = omega (arith, e)

-- roles with one word are one
pub distinct_at : (rs : List SWord) (i j : ℕ) {r q : SWord} → AreRolesDistinct rs → At rs i r → At rs j q → r.word ≡ q.word → i ≡ j
distinct_at [] i j d a b e = elim a [ ]
distinct_at (x ∷ xs) zero zero d a b e = refl
distinct_at (x ∷ xs) zero (suc j) d at_first (at_later b) e = absurd (d.0 _ (at_in b) e)
distinct_at (x ∷ xs) (suc i) zero d (at_later a) at_first e = absurd (d.0 _ (at_in a) (sym e))
distinct_at (x ∷ xs) (suc i) (suc j) d (at_later a) (at_later b) e = ap suc (distinct_at xs i j d.1 a b e)

pub apart_of : (rs : List SWord) → AreRolesDistinct rs → AreApart rs
apart_of rs d = record { once = λ r q i j e. let a = in_at i in let b = in_at j in at_unique a.1 (subst (λ k. At rs k q) (sym (distinct_at rs a.0 b.0 d a.1 b.1 e)) b.1) }

pub record RoleAt (x : n.Narration) (zs : List Process) (j : ℕ) (r : SWord) : Type 0 where
  pub process : Process
  pub there : At zs j process
  pub holds : Holds (role_process r x.lines) [] (word_in ((narrated_begin x).has r.word)) process

each_at : {x : n.Narration} {rs : List SWord} {zs : List Process} {j : ℕ} {r : SWord} → EachRole x rs zs → At rs j r → RoleAt x zs j r
each_at each_none h = elim h [ ]
each_at (each_role h e) at_first = record { process = _; there = at_first; holds = h }
each_at (each_role h e) (at_later a) = let b = each_at e a in record { process = b.process; there = at_later b.there; holds = b.holds }

each_role_at : {x : n.Narration} {rs : List SWord} {zs : List Process} {j : ℕ} {p : Process} → EachRole x rs zs → At zs j p → (r : SWord) × At rs j r
each_role_at each_none h = elim h [ ]
each_role_at (each_role {r = r} h e) at_first = (r, at_first)
each_role_at (each_role h e) (at_later a) = let b = each_role_at e a in (b.0, at_later b.1)

-- a place has a role's process, or it is the opponent's
idle_at : (x : n.Narration) (rs : List SWord) (zs : List Process) → EachRole x rs zs → AreRolesDistinct rs → (i : ℕ) (p : Process) → At (beside_stop zs) i p → ((r : SWord) → In r rs → places_of rs r.word ≡ i → ⊥) → p ≡ stop
idle_at x rs [] e d zero p at_first away = refl
idle_at x rs [] e d (suc i) p (at_later a) away = elim a [ ]
idle_at x rs (z ∷ zs) e d zero p at_first away = let b = each_role_at {j = 0} e at_first in absurd (away b.0 (at_in b.1) (placed rs d b.1))
idle_at x rs (z ∷ zs) e d (suc zero) p (at_later at_first) away = refl
idle_at x rs (z ∷ zs) e d (suc (suc i)) p (at_later (at_later a)) away = let b = each_role_at e (at_later a) in absurd (away b.0 (at_in b.1) (placed rs d b.1))

each_stands : {x : n.Narration} (rs : List SWord) (zs : List Process) → EachRole x rs zs → AreRolesDistinct rs → StandRoles rs (places_of rs) (left x.lines) (narrated_begin x).has StoppedRoles (beside_stop zs)
each_stands {x} rs zs e d = record {
  closed = λ w. names_closed (with_shared (free_of x) x.shared);
  there = λ r i. let a = in_at i in let b = each_at e a.1 in record { process = b.process; there = subst (λ k. At (beside_stop zs) k b.process) (sym (placed rs d a.1)) (place_at a.0 b.there); holds = b.holds };
  apart = λ r q i j f. let a = in_at i in let b = in_at j in at_unique a.1 (subst (λ k. At rs k q) (sym (number_one a.0 b.0 (sym (placed rs d a.1) ∙ f ∙ placed rs d b.1))) b.1);
  others = idle_at x rs zs e d;
}

pub located : (rs : List SWord) (is : List ℕ) → AreRolesDistinct rs → AreRolePlaces (length rs) is → Locates rs (places_of rs) is
located rs is d h = record {
  many = h.many;
  each = λ j r e. let a = get_at rs j e in h.each j (at_below a) ∙ ap Some (sym (placed rs d a));
}

others_many : (rs : List SWord) {r : SWord} → In r rs → length rs ≡ suc (length (others rs))
others_many [] i = elim i [ ]
others_many (q ∷ qs) i = refl

pub settled : {x : n.Narration} {file : Meant} {before : List SWord} {r : SWord} {pool : Pooled} {steps : List Step} (is : List ℕ) → IsTellable x → AreRolePlaces (length x.roles) is → SpreadsRoles x file before r [] pool steps → Progress x file [] x.lines pool steps [] is
settled {x} {file} {before} {r} {pool} {steps} is ok h s =
    let e : EachRole x (before ++ r ∷ []) (s.apart ++ s.last ∷ []) = each_more r s.last s.each s.holds in
    let stands : StandRoles x.roles (places_of x.roles) (left x.lines) (narrated_begin x).has StoppedRoles pool.configuration.places =
    subst (λ ps. StandRoles x.roles (places_of x.roles) (left x.lines) (narrated_begin x).has StoppedRoles ps) (sym s.places)
    (each_stands x.roles (s.apart ++ s.last ∷ []) (subst (λ rs. EachRole x rs (s.apart ++ s.last ∷ [])) (sym s.cut) e) ok.distinct) in
    let many : length pool.configuration.places ≡ suc (length x.roles) =
    ap length s.places ∙ beside_many s.apart s.last ∙ ap suc (each_length (subst (λ rs. EachRole x rs (s.apart ++ s.last ∷ [])) (sym s.cut) e)) in
    let last : length x.roles ≡ suc (length (others x.roles)) = others_many x.roles (subst (λ rs. In r rs) (sym s.cut) (behind before)) in
    record {
      cut = refl;
      told = narrated_begin x;
      place = places_of x.roles;
      narrates = record { narrates = narrates_none; small = tt };
      replays = s.replays;
      names = s.names;
      stands = stands;
      located = located x.roles is ok.distinct h;
      order = s.order ∙ ap (λ k. steps ++ line_steps (places_of x.roles) k x.lines) (let z : 2 + length (others x.roles) ≡ length pool.configuration.places = omega (arith, many, last) in z);
      few = omega (arith, many, ok.roles);
      few_names = omega (arith, s.few_names);
      most = s.most;
    }
  where
    beside_many : (ps : List Process) (p : Process) → length (beside_stop (ps ++ p ∷ [])) ≡ suc (length (ps ++ p ∷ []))
    beside_many [] p = refl
    beside_many (q ∷ qs) p = refl

    behind : (qs : List SWord) → In r (qs ++ r ∷ [])
    behind [] = in_first
    behind (q ∷ qs) = in_later (behind qs)
