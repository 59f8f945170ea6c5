-- Roles that stand at places, each with what is left of its process.
use Rattle.std.proofs.Common.{◌≡◌, ℕ, Bool, true, false, List, [], ◌∷◌, ◌++◌, length, slice_set, refl, sym, ap, ◌∙◌, subst, arith, ⊎_elim, true≢false}
use Rattle.std.specs.Prelude.{if◌then◌else◌}
use Rattle.std.specs.Str.{bytes_eq}
use Rattle.std.proofs.lemmas.Slice.Eq.{bytes_eq-Decides}
use Rattle.std.proofs.lemmas.Bool.{cases_eq, false_from_ne_true}
use Rattle.std.proofs.lemmas.List.{length-set}
use Rattle.spi_tree.specs.declared.tree.SWord.{SWord}
use Rattle.spi_tree.specs.Trees as t
use Rattle.spi_term.specs.Lists.{At, In}
use Rattle.spi_term.proofs.Lists.{at_unique}
use Rattle.spi_term.specs.Term.{Process, stop}
use Rattle.spi_scope.specs.Scope.{Word}
use Rattle.spi_honest.specs.Reading.{Map, word_in}
use Rattle.spi_honest.specs.Narrated.{giving}
use Rattle.spi_honest.specs.Schedule.{moved}
use Rattle.spi_honest.specs.Holds.{Holds, AreClosed}
use Rattle.spi_honest.specs.Roles.{IsRole}
use Rattle.spi_honest.specs.Standing.{AreApart, StoodRole, StandRoles, StoppedRoles, StoppedBut}
use Rattle.spi_rules.proofs.Typing.{at_below, at_more, at_last, at_cases}
use Rattle.spi_honest.proofs.Places.{at_set, at_set_other, set_other}

-- a choice by two words
pub chosen : {X : Type 0} (a b : X) (v w : Word) → v ≡ w → (if bytes_eq v w then a else b) ≡ a
chosen a b v w e = let f : bytes_eq v w ≡ true = (bytes_eq-Decides v w).1 e in rw f refl

pub not_chosen : {X : Type 0} (a b : X) (v w : Word) → (v ≡ w → ⊥) → (if bytes_eq v w then a else b) ≡ b
not_chosen a b v w d = let f : bytes_eq v w ≡ false = false_from_ne_true (bytes_eq v w) (λ e. d ((bytes_eq-Decides v w).0 e)) in rw f refl

pub given_own : (w : Word) (more : Map) (has : Word → Map) (v : Word) → w ≡ v → giving w more has v ≡ more ++ has w
given_own w more has v e = chosen (more ++ has v) (has v) w v e ∙ ap (λ u. more ++ has u) (sym e)

pub given_other : (w : Word) (more : Map) (has : Word → Map) (v : Word) → (w ≡ v → ⊥) → giving w more has v ≡ has v
given_other w more has v d = not_chosen (more ++ has v) (has v) w v d

pub moved_own : (w : Word) (i : ℕ) (place : Word → ℕ) (v : Word) → w ≡ v → moved w i place v ≡ i
moved_own w i place v e = chosen i (place v) w v e

pub moved_other : (w : Word) (i : ℕ) (place : Word → ℕ) (v : Word) → (w ≡ v → ⊥) → moved w i place v ≡ place v
moved_other w i place v d = not_chosen i (place v) w v d

pub by_words : {X : Type 0} (v w : Word) → (v ≡ w → X) → ((v ≡ w → ⊥) → X) → X
by_words {X} v w same apart = by (bytes_eq v w) refl
  where
    by : (b : Bool) → bytes_eq v w ≡ b → X
    by true e = same ((bytes_eq-Decides v w).0 e)
    by false e = apart (λ q. true≢false (sym ((bytes_eq-Decides v w).1 q) ∙ e))

module _ {roles : List SWord} {place : Word → ℕ} {tree : SWord → t.Proc} {has : Word → Map} (once : AreApart roles) (w : Word) (k : IsRole roles w) (tree' : SWord → t.Proc) (kept : (q : SWord) → In q roles → (q.word ≡ w → ⊥) → tree' q ≡ tree q) where
  -- a role goes on where it stands, with more
  pub goes_on : {Idle : ℕ → Process → Type 0} {ps : List Process} (now : Process) (more : Map) → AreClosed (word_in (more ++ has w))
      → ((q : SWord) → In q roles → q.word ≡ w → Holds (tree' q) [] (word_in (more ++ has w)) now)
      → StandRoles roles place tree has Idle ps → StandRoles roles place tree' (giving w more has) Idle (slice_set ps (place w) now)
  goes_on {Idle} {ps} now more c own h = record {
    closed = λ v. by_words w v (λ e. subst (λ g. AreClosed (word_in g)) (sym (given_own w more has v e)) c) (λ d. subst (λ g. AreClosed (word_in g)) (sym (given_other w more has v d)) (h.closed v));
    there = λ r i. by_words w r.word (mine r i) (other r i);
    apart = h.apart;
    others = λ i p a no. h.others i p (set_other ps (place w) i now (λ e. no k.role k.is (ap place k.word ∙ e)) a) no;
  }
    where
      mine : (r : SWord) → In r roles → w ≡ r.word → StoodRole place tree' (giving w more has) (slice_set ps (place w) now) r
      mine r i e =
          let s = h.there r i in
          let f : place r.word ≡ place w = ap place (sym e) in
          record {
            process = now;
            there = subst (λ j. At (slice_set ps j now) (place r.word) now) f (at_set now s.there);
            holds = subst (λ g. Holds (tree' r) [] (word_in g) now) (sym (given_own w more has r.word e)) (own r i (sym e));
          }

      other : (r : SWord) → In r roles → (w ≡ r.word → ⊥) → StoodRole place tree' (giving w more has) (slice_set ps (place w) now) r
      other r i d =
          let s = h.there r i in
          record {
            process = s.process;
            there = at_set_other (place w) now (λ e. d (sym k.word ∙ ap (λ q. q.word) (h.apart k.role r k.is i (ap place k.word ∙ e)))) s.there;
            holds = subst (λ g. Holds (tree' r) [] (word_in g) s.process) (sym (given_other w more has r.word d)) (subst (λ p. Holds p [] (word_in (has r.word)) s.process) (sym (kept r i (λ e. d (sym e)))) s.holds);
          }

  -- a role's process comes apart, and its further process is appended
  pub forks : {ps : List Process} (left right : Process) → ((q : SWord) → In q roles → q.word ≡ w → Holds (tree' q) [] (word_in (has w)) right)
      → StandRoles roles place tree has StoppedRoles ps → StandRoles roles (moved w (length ps) place) tree' has (StoppedBut (place w)) (slice_set ps (place w) left ++ right ∷ [])
  forks {ps} left right own h = record {
    closed = h.closed;
    there = λ r i. by_words w r.word (mine r i) (other r i);
    apart = λ r q i j e. by_words w r.word (λ f. by_words w q.word (λ g. once.once r q i j (sym f ∙ g)) (λ d. absurd (far q j (sym (moved_own w (length ps) place r.word f) ∙ e ∙ moved_other w (length ps) place q.word d)))) (λ d. by_words w q.word (λ g. absurd (far r i (sym (moved_own w (length ps) place q.word g) ∙ sym e ∙ moved_other w (length ps) place r.word d))) (λ g. h.apart r q i j (sym (moved_other w (length ps) place r.word d) ∙ e ∙ moved_other w (length ps) place q.word g)));
    others = λ i p a no d. h.others i p (before i p a no d) (λ q j e. by_words w q.word (λ f. d (ap place f ∙ e)) (λ f. no q j (moved_other w (length ps) place q.word f ∙ e)));
  }
    where
      far : (q : SWord) → In q roles → length ps ≡ place q.word → ⊥
      far q j e = let b = at_below (h.there q j).there in omega (arith, b, e)

      now : List Process
      now = slice_set ps (place w) left ++ right ∷ []

      behind : At (slice_set ps (place w) left ++ right ∷ []) (length ps) right
      behind = subst (λ n. At (slice_set ps (place w) left ++ right ∷ []) n right) (length-set ps (place w) left) (at_last (slice_set ps (place w) left) right)

      mine : (r : SWord) → In r roles → w ≡ r.word → StoodRole (moved w (length ps) place) tree' has (slice_set ps (place w) left ++ right ∷ []) r
      mine r i e = record {
        process = right;
        there = subst (λ n. At (slice_set ps (place w) left ++ right ∷ []) n right) (sym (moved_own w (length ps) place r.word e)) behind;
        holds = subst (λ v. Holds (tree' r) [] (word_in (has v)) right) e (own r i (sym e));
      }

      other : (r : SWord) → In r roles → (w ≡ r.word → ⊥) → StoodRole (moved w (length ps) place) tree' has (slice_set ps (place w) left ++ right ∷ []) r
      other r i d =
          let s = h.there r i in
          record {
            process = s.process;
            there = subst (λ n. At (slice_set ps (place w) left ++ right ∷ []) n s.process) (sym (moved_other w (length ps) place r.word d)) (at_more (right ∷ []) (at_set_other (place w) left (λ e. d (sym k.word ∙ ap (λ q. q.word) (h.apart k.role r k.is i (ap place k.word ∙ e)))) s.there));
            holds = subst (λ p. Holds p [] (word_in (has r.word)) s.process) (sym (kept r i (λ e. d (sym e)))) s.holds;
          }

      before : (i : ℕ) (p : Process) → At (slice_set ps (place w) left ++ right ∷ []) i p → ((r : SWord) → In r roles → moved w (length ps) place r.word ≡ i → ⊥) → (place w ≡ i → ⊥) → At ps i p
      before i p a away d =
          ⊎_elim (λ b. set_other ps (place w) i left d b) (λ e. absurd (away k.role k.is (moved_own w (length ps) place k.role.word (sym k.word) ∙ sym (length-set ps (place w) left) ∙ sym e.0))) (at_cases (slice_set ps (place w) left) right a)

-- what stood apart stops
pub stops : {roles : List SWord} {place : Word → ℕ} {tree : SWord → t.Proc} {has : Word → Map} {ps : List Process} (i : ℕ) {x : Process} → At ps i x → ((r : SWord) → In r roles → place r.word ≡ i → ⊥)
    → StandRoles roles place tree has (StoppedBut i) ps → StandRoles roles place tree has StoppedRoles (slice_set ps i stop)
stops {roles} {place} {tree} {has} {ps} i x none h = record {
  closed = h.closed;
  there = λ r j. let s = h.there r j in record { process = s.process; there = at_set_other i stop (λ e. none r j (sym e)) s.there; holds = s.holds };
  apart = h.apart;
  others = λ j p a no. ⊎_elim (λ e. at_unique (subst (λ n. At (slice_set ps i stop) n p) (sym e) a) (at_set stop x)) (λ d. h.others j p (set_other ps i j stop d a) no d) (cases_eq i j);
}
