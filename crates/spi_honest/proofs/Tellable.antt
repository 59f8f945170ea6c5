-- A narration in which nothing is wrong behind its grammar can be told.
use Rattle.std.proofs.Common.{◌≡◌, ℕ, ◌+◌, ◌<◌, ◌≤◌, List, [], ◌∷◌, ◌++◌, length, subst, arith, ◌⊎◌, inl, inr, ⊎_elim}
use Rattle.spi_tree.specs.declared.tree.SWord.{SWord}
use Rattle.spi_heading.specs.Headings.{Shared}
use Rattle.spi_narrate.specs.Narrations as n
use Rattle.spi_narrate.specs.Faults.{FaultItem, IsAmong, shared_items, role_items, line_items, items_of, IsFaultless}
use Rattle.spi_term.specs.Lists.{In, in_first, in_later}
use Rattle.spi_term.proofs.Lists.{in_cases}
use Rattle.spi_honest.specs.Roles.{IsRole, HaveRoles, AreRolesDistinct, IsTellable}
use Rattle.spi_honest.proofs.Standing.{by_words}

parts : (xs ys : List FaultItem) → IsFaultless (xs ++ ys) → IsFaultless xs × IsFaultless ys
parts [] ys h = (tt, h)
parts (x ∷ xs) ys h = let i = parts xs ys h.1 in ((h.0, i.0), i.1)

below : (i k : ℕ) → (k ≤ i → ⊥) → i < k
below i k h = ⊎_elim (λ l. l) (λ l. absurd (h l)) (Rattle.std.proofs.lemmas.Bool.cases_lt i k)

shared_few : (i all : ℕ) (ss : List Shared) → i ≤ 16 → IsFaultless (shared_items i all ss) → i + length ss ≤ 16
shared_few i all [] l h = omega arith
shared_few i all (s ∷ ss) l h = let b = below i 16 h.0 in let r = shared_few (i + 1) all ss (omega (arith, b)) h.1 in omega (arith, r)

roles_few : (i all : ℕ) (before ws : List SWord) → i ≤ 8 → IsFaultless (role_items i all before ws) → i + length ws ≤ 8
roles_few i all before [] l h = omega arith
roles_few i all before (w ∷ ws) l h = let b = below i 8 h.1.0 in let r = roles_few (i + 1) all (before ++ w ∷ []) ws (omega (arith, b)) h.1.1 in omega (arith, r)

lines_few : (i all : ℕ) (roles : List SWord) (ls : List n.Line) → i ≤ 200 → IsFaultless (line_items i all roles ls) → i + length ls ≤ 200
lines_few i all roles [] l h = omega arith
lines_few i all roles (n.local s role f ∷ ls) l h = let b = below i 200 h.1.0 in let r = lines_few (i + 1) all roles ls (omega (arith, b)) h.1.1 in omega (arith, r)
lines_few i all roles (n.pass s from to c m x ∷ ls) l h = let b = below i 200 h.1.0 in let r = lines_few (i + 1) all roles ls (omega (arith, b)) h.1.1.1 in omega (arith, r)

among_more : (xs : List SWord) (y w : SWord) → IsAmong xs w → IsAmong (xs ++ y ∷ []) w
among_more [] y w h = absurd h
among_more (x ∷ xs) y w h = ⊎_elim (λ e. inl e) (λ a. inr (among_more xs y w a)) h

among_last : (xs : List SWord) (y w : SWord) → y.word ≡ w.word → IsAmong (xs ++ y ∷ []) w
among_last [] y w e = inl e
among_last (x ∷ xs) y w e = inr (among_last xs y w e)

new_words : (i all : ℕ) (before ws : List SWord) → IsFaultless (role_items i all before ws) → (q : SWord) → In q ws → IsAmong before q → ⊥
new_words i all before [] h q m a = elim m [ ]
new_words i all before (w ∷ ws) h q m a =
    ⊎_elim (λ e. h.0 (subst (IsAmong before) e a)) (λ k. new_words (i + 1) all (before ++ w ∷ []) ws h.1.1 q k (among_more before w q a)) (in_cases m)

distinct : (i all : ℕ) (before ws : List SWord) → IsFaultless (role_items i all before ws) → AreRolesDistinct ws
distinct i all before [] h = tt
distinct i all before (w ∷ ws) h =
    ((λ q m e. new_words (i + 1) all (before ++ w ∷ []) ws h.1.1 q m (among_last before w q e)), distinct (i + 1) all (before ++ w ∷ []) ws h.1.1)

role_or_not : (roles : List SWord) (w : SWord) → IsRole roles w.word ⊎ (IsAmong roles w → ⊥)
role_or_not [] w = inr (λ a. a)
role_or_not (x ∷ xs) w =
    by_words x.word w.word (λ e. inl (record { role = x; is = in_first; word = e }))
    (λ d. ⊎_elim (λ k. inl (record { role = k.role; is = in_later k.is; word = k.word })) (λ g. inr (λ a. ⊎_elim d g a)) (role_or_not xs w))

is_role : (roles : List SWord) (w : SWord) → ((IsAmong roles w → ⊥) → ⊥) → IsRole roles w.word
is_role roles w h = ⊎_elim (λ k. k) (λ d. absurd (h d)) (role_or_not roles w)

known : (i all : ℕ) (roles : List SWord) (ls : List n.Line) → IsFaultless (line_items i all roles ls) → HaveRoles roles ls
known i all roles [] h = tt
known i all roles (n.local s role f ∷ ls) h = (is_role roles role h.0, known (i + 1) all roles ls h.1.1)
known i all roles (n.pass s from to c m x ∷ ls) h = ((is_role roles from h.0, is_role roles to h.1.1.0), known (i + 1) all roles ls h.1.1.1)

pub tellable : (x : n.Narration) → IsFaultless (items_of x) → IsTellable x
tellable x h =
    let a = parts (shared_items 0 (length x.shared) x.shared) _ h in
    let b = parts (role_items 0 (length x.roles) [] x.roles) _ a.1 in
    record {
      known = known 0 (length x.lines) x.roles x.lines b.1;
      distinct = distinct 0 (length x.roles) [] x.roles b.0;
      shared = let z = shared_few 0 (length x.shared) x.shared (omega arith) a.0 in omega (arith, z);
      roles = let z = roles_few 0 (length x.roles) [] x.roles (omega arith) b.0 in omega (arith, z);
      lines = let z = lines_few 0 (length x.lines) x.roles x.lines (omega arith) b.1 in omega (arith, z);
    }
