-- The first fault of items, in order.
use Rattle.std.proofs.Common.{◌≡◌, ◌⊎◌, inl, inr, ℕ, zero, suc, ◌+◌, ◌<◌, ◌≤◌, true, false, List, [], ◌∷◌, ◌++◌, length, map, take, get_or, slice_get, Some, Result, Ok, Err, refl, sym, ap, ◌∙◌, subst, arith}
use Rattle.std.specs.Result.{IsErrAnd}
use Rattle.std.specs.Str.{bytes_eq}
use Rattle.std.proofs.lemmas.List.{take_more, append_assoc, append-nil, length-take-le, take_all, length-map, map-id}
use Rattle.std.proofs.lemmas.Slice.Eq.{bytes_eq-Decides}
use Rattle.spi_lex.specs.declared.token.Token.{Token}
use Rattle.spi_text.specs.declared.lines.Span.{Span}
use Rattle.spi_tree.specs.declared.tree.SWord.{SWord}
use Rattle.spi_heading.specs.Headings.{Shared}
use Rattle.spi_heading.specs.Views.{shared_of}
use Rattle.spi_narrate.specs.Narrations as n
use Rattle.spi_narrate.specs.declared.fault.NarrateFault.{NarrateFault}
use Rattle.spi_narrate.specs.declared.fault.NarrateFault.TheVariants as faults
use Rattle.spi_narrate.specs.Faults.{FaultItem, declares, speaks, counts, IsAmong, HasFault, fault_of, shared_items, role_items, line_items, items_of, IsFirstFault, IsFaultless}
use Rattle.spi_narrate.specs.declared.tree.Narration.{Narration}
use Rattle.spi_narrate.specs.Views.{line_of, narration_of}
use Rattle.spi_narrate.specs.Reads.{IsNarrationSpelled, IsTested, FailsNarration, ReadsNarration}

-- ---- items behind others

pub first_front : (xs ys : List FaultItem) (f : NarrateFault) → IsFirstFault xs f → IsFirstFault (xs ++ ys) f
first_front [] ys f h = absurd h
first_front (x ∷ xs) ys f (inl h) = inl h
first_front (x ∷ xs) ys f (inr h) = inr (h.0, first_front xs ys f h.1)

pub first_behind : (xs ys : List FaultItem) (f : NarrateFault) → IsFaultless xs → IsFirstFault ys f → IsFirstFault (xs ++ ys) f
first_behind [] ys f h g = g
first_behind (x ∷ xs) ys f h g = inr (h.0, first_behind xs ys f h.1 g)

pub both_faultless : (xs ys : List FaultItem) → IsFaultless xs → IsFaultless ys → IsFaultless (xs ++ ys)
both_faultless [] ys h g = g
both_faultless (x ∷ xs) ys h g = (h.0, both_faultless xs ys h.1 g)

-- memory ran out, or this is the first fault
abbrev pub IsFailed : NarrateFault → List FaultItem → Type 0
IsFailed f xs = (f ≡ faults.NoMemory) ⊎ IsFirstFault xs f

-- a fault of the items in front, or of those behind faultless ones
pub tested_front : {V : Type 0} (r : Result V NarrateFault) (f : NarrateFault) (xs ys : List FaultItem) → IsErrAnd r (λ e. e ≡ f) → IsFailed f xs → IsTested r (xs ++ ys)
tested_front (Ok x) f xs ys is h = absurd is
tested_front (Err e) f xs ys is (inl none) = inl (is ∙ none)
tested_front (Err e) f xs ys is (inr h) = inr (subst (IsFirstFault (xs ++ ys)) (sym is) (first_front xs ys f h))

pub tested_behind : {V : Type 0} (r : Result V NarrateFault) (xs ys : List FaultItem) → IsFaultless xs → IsTested r ys → IsTested r (xs ++ ys)
tested_behind (Ok x) xs ys h g = both_faultless xs ys h g
tested_behind (Err e) xs ys h (inl none) = inl none
tested_behind (Err e) xs ys h (inr g) = inr (first_behind xs ys e h g)

-- one item
pub one_faultless : (x : FaultItem) → (HasFault x → ⊥) → IsFaultless (x ∷ [])
one_faultless x h = (h, tt)

pub one_fault : (x : FaultItem) (f : NarrateFault) → HasFault x → f ≡ fault_of x → IsFirstFault (x ∷ []) f
one_fault x f h e = inl (h, e)

-- ---- lists by their items

more_taken : {A : Type 0} (xs : List A) (i : ℕ) (x : A) → x ≡ get_or xs i x → i < length xs → take (i + 1) xs ≡ take i xs ++ x ∷ []
more_taken xs i x e l = take_more xs i x l ∙ ap (λ y. take i xs ++ y ∷ []) (sym e)

map_both : {A B : Type 0} (f : A → B) (xs ys : List A) → map f (xs ++ ys) ≡ map f xs ++ map f ys
map_both f [] ys = refl
map_both f (x ∷ xs) ys = ap (λ (r : List _). f x ∷ r) (map_both f xs ys)

mapped : {A B : Type 0} (f : A → B) (xs : List A) (i : ℕ) (x : A) → x ≡ get_or xs i x → i < length xs → map f (take (i + 1) xs) ≡ map f (take i xs) ++ f x ∷ []
mapped f xs i x e l = ap (λ (r : List _). map f r) (more_taken xs i x e l) ∙ map_both f (take i xs) (x ∷ [])

pub cut_at : {A B : Type 0} (f : A → B) (xs : List A) (i : ℕ) (x : A) → x ≡ get_or xs i x → i < length xs → (after : List B) × (map f xs ≡ map f (take i xs) ++ f x ∷ after)
cut_at f [] i x e l = absurd (omega (arith, l))
cut_at f (y ∷ ys) zero x e l = (map f ys, ap (λ z. f z ∷ map f ys) (sym e))
cut_at f (y ∷ ys) (suc i) x e l = let h = cut_at f ys i x e (omega (arith, l)) in (h.0, ap (λ (r : List _). f y ∷ r) h.1)

-- ---- words among others

pub among_in : (xs : List SWord) (i : ℕ) (x w : SWord) → x ≡ get_or xs i x → i < length xs → bytes_eq x.word w.word ≡ true → IsAmong xs w
among_in [] i x w e l h = absurd (omega (arith, l))
among_in (y ∷ ys) zero x w e l h = inl (ap (λ (z : SWord). z.word) (sym e) ∙ (bytes_eq-Decides x.word w.word).0 h)
among_in (y ∷ ys) (suc i) x w e l h = inr (among_in ys i x w e (omega (arith, l)) h)

among_cases : (xs ys : List SWord) (w : SWord) → IsAmong (xs ++ ys) w → IsAmong xs w ⊎ IsAmong ys w
among_cases [] ys w h = inr h
among_cases (x ∷ xs) ys w (inl e) = inl (inl e)
among_cases (x ∷ xs) ys w (inr h) = elim (among_cases xs ys w h) [ inl a ↦ inl (inr a) | inr b ↦ inr b ]

pub other : (x w : List ℕ) → bytes_eq x w ≡ false → x ≡ w → ⊥
other x w f e = let g : true ≡ false = sym ((bytes_eq-Decides x w).1 e) ∙ f in absurd cc

pub among_more : (xs : List SWord) (i : ℕ) (x w : SWord) → x ≡ get_or xs i x → i < length xs → bytes_eq x.word w.word ≡ false → (IsAmong (take i xs) w → ⊥) → IsAmong (take (i + 1) xs) w → ⊥
among_more xs i x w e l f none h = last (among_cases (take i xs) (x ∷ []) w (subst (λ (r : List SWord). IsAmong r w) (more_taken xs i x e l) h))
  where
    last : IsAmong (take i xs) w ⊎ IsAmong (x ∷ []) w → ⊥
    last (inl a) = none a
    last (inr (inl b)) = other x.word w.word f b
    last (inr (inr b)) = b

-- ---- shared names

shared_few : (i all : ℕ) (ss : List Shared) → i + length ss ≤ 16 → IsFaultless (shared_items i all ss)
shared_few i all [] h = tt
shared_few i all (s ∷ ss) h = ((λ l. absurd (omega (arith, h, l))), shared_few (i + 1) all ss (omega (arith, h)))

shared_many : {A : Type 0} (f : A → Shared) (i all k : ℕ) (xs : List A) (x : A) → i + k ≡ 16 → slice_get xs k ≡ Some x → IsFirstFault (shared_items i all (map f xs)) (faults.NarrationTooLarge (f x).span all)
shared_many f i all k [] x e h = absurd (let z = h in cc)
shared_many f i all zero (y ∷ ys) x e h = inl (omega (arith, e), let z : y ≡ x = cc in ap (λ q. faults.NarrationTooLarge (f q).span all) (sym z))
shared_many f i all (suc k) (y ∷ ys) x e h = inr ((λ l. absurd (omega (arith, e, l))), shared_many f (i + 1) all k ys x (omega (arith, e)) h)

pub shared_faultless : {A : Type 0} (f : A → Shared) (xs : List A) → length xs ≤ 16 → IsFaultless (shared_items 0 (length xs) (map f xs))
shared_faultless f xs h = let e = length-map xs f in shared_few 0 (length xs) (map f xs) (omega (arith, h, e))

pub shared_fault : {A : Type 0} (f : A → Shared) (xs : List A) (x : A) (s : Span) (count : ℕ) → slice_get xs 16 ≡ Some x → s ≡ (f x).span → count ≡ length xs → IsFirstFault (shared_items 0 (length xs) (map f xs)) (faults.NarrationTooLarge s count)
shared_fault f xs x s count h e c = subst (λ t. IsFirstFault (shared_items 0 (length xs) (map f xs)) (faults.NarrationTooLarge t count)) (sym e)
    (subst (λ k. IsFirstFault (shared_items 0 (length xs) (map f xs)) (faults.NarrationTooLarge (f x).span k)) (sym c) (shared_many f 0 (length xs) 16 xs x refl h))

-- ---- roles

roles_both : (k all : ℕ) (before ws more : List SWord) → role_items k all before (ws ++ more) ≡ role_items k all before ws ++ role_items (k + length ws) all (before ++ ws) more
roles_both k all before [] more =
    let e : k ≡ k + 0 = omega arith in
    ap (λ (i : ℕ). role_items i all before more) e ∙ ap (λ (l : List SWord). role_items (k + 0) all l more) (sym (append-nil before))
roles_both k all before (w ∷ ws) more =
    let e : k + 1 + length ws ≡ k + suc (length ws) = omega arith in
    ap (λ (l : List FaultItem). declares before w ∷ counts k 8 all w.span ∷ l)
    (roles_both (k + 1) all (before ++ w ∷ []) ws more
    ∙ ap (λ (l : List FaultItem). role_items (k + 1) all (before ++ w ∷ []) ws ++ l)
    (ap (λ (i : ℕ). role_items i all ((before ++ w ∷ []) ++ ws) more) e ∙ ap (λ (l : List SWord). role_items (k + suc (length ws)) all l more) (append_assoc before (w ∷ []) ws)))

abbrev pub AreNewRoles : ℕ → SWord → List SWord → Type 0
AreNewRoles all first ws = IsFaultless (role_items 1 all (first ∷ []) ws)

-- the role with a number behind the first
abbrev pub role_behind : ℕ → SWord → List SWord → SWord → List FaultItem
role_behind all first before w = role_items (length (first ∷ before)) all (first ∷ before) (w ∷ [])

role_at : (all : ℕ) (first : SWord) (more : List SWord) (i : ℕ) (w : SWord) (after : List SWord) → i < length more → role_items 1 all (first ∷ []) (take i more ++ w ∷ after) ≡ role_items 1 all (first ∷ []) (take i more) ++ role_items (length (first ∷ take i more)) all (first ∷ take i more) (w ∷ after)
role_at all first more i w after l =
    let e : 1 + length (take i more) ≡ suc (length (take i more)) = omega arith in
    roles_both 1 all (first ∷ []) (take i more) (w ∷ after) ∙ ap (λ (k : ℕ). role_items 1 all (first ∷ []) (take i more) ++ role_items k all (first ∷ take i more) (w ∷ after)) e

pub roles_more : (all : ℕ) (first : SWord) (more : List SWord) (i : ℕ) (w : SWord) → w ≡ get_or more i w → i < length more → AreNewRoles all first (take i more) → IsFaultless (role_behind all first (take i more) w) → AreNewRoles all first (take (i + 1) more)
roles_more all first more i w e l h g =
    subst (AreNewRoles all first) (sym (more_taken more i w e l))
    (subst IsFaultless (sym (role_at all first more i w [] l)) (both_faultless (role_items 1 all (first ∷ []) (take i more)) (role_behind all first (take i more) w) h g))

first_role : (all : ℕ) (first : SWord) → IsFaultless (declares [] first ∷ counts 0 8 all first.span ∷ [])
first_role all first = ((λ a. a), ((λ l. absurd (omega (arith, l))), tt))

pub roles_faultless : (first : SWord) (more : List SWord) (all i : ℕ) → length more ≤ i → AreNewRoles all first (take i more) → IsFaultless (role_items 0 all [] (first ∷ more))
roles_faultless first more all i l h = both_faultless (declares [] first ∷ counts 0 8 all first.span ∷ []) (role_items 1 all (first ∷ []) more) (first_role all first) (subst (AreNewRoles all first) (take_all i more l) h)

pub roles_fault : {V : Type 0} (r : Result V NarrateFault) (f : NarrateFault) (all : ℕ) (first : SWord) (more : List SWord) (i : ℕ) (w : SWord) → w ≡ get_or more i w → i < length more → AreNewRoles all first (take i more)
    → IsErrAnd r (λ e. e ≡ f) → IsFailed f (role_behind all first (take i more) w) → IsTested r (role_items 0 all [] (first ∷ more))
roles_fault r f all first more i w e l h is g =
    let c = cut_at (λ (x : SWord). x) more i w e l in
    let after = c.0 in
    let whole : more ≡ take i more ++ w ∷ after = sym (map-id more) ∙ c.1 ∙ ap (λ (r : List SWord). r ++ w ∷ after) (map-id (take i more)) in
    let rest : role_items (length (first ∷ take i more)) all (first ∷ take i more) (w ∷ after) ≡ role_behind all first (take i more) w ++ role_items (length (first ∷ take i more) + 1) all ((first ∷ take i more) ++ w ∷ []) after = refl in
    tested_behind r (declares [] first ∷ counts 0 8 all first.span ∷ []) (role_items 1 all (first ∷ []) more) (first_role all first)
    (subst (λ (ws : List SWord). IsTested r (role_items 1 all (first ∷ []) ws)) (sym whole)
    (subst (IsTested r) (sym (role_at all first more i w after l))
    (tested_behind r (role_items 1 all (first ∷ []) (take i more)) (role_items (length (first ∷ take i more)) all (first ∷ take i more) (w ∷ after)) h
    (subst (IsTested r) (sym rest) (tested_front r f (role_behind all first (take i more) w) (role_items (length (first ∷ take i more) + 1) all ((first ∷ take i more) ++ w ∷ []) after) is g)))))

-- ---- lines

line_then : (k all : ℕ) (roles : List SWord) (l : n.Line) (ls : List n.Line) → line_items k all roles (l ∷ ls) ≡ line_items k all roles (l ∷ []) ++ line_items (k + 1) all roles ls
line_then k all roles (n.local s w x) ls = refl
line_then k all roles (n.pass s from to c m x) ls = refl

lines_both : (k all : ℕ) (roles : List SWord) (ls ms : List n.Line) → line_items k all roles (ls ++ ms) ≡ line_items k all roles ls ++ line_items (k + length ls) all roles ms
lines_both k all roles [] ms = let e : k ≡ k + 0 = omega arith in ap (λ (i : ℕ). line_items i all roles ms) e
lines_both k all roles (l ∷ ls) ms =
    let e : k + 1 + length ls ≡ k + suc (length ls) = omega arith in
    let one = line_items k all roles (l ∷ []) in
    line_then k all roles l (ls ++ ms)
    ∙ ap (λ (r : List FaultItem). one ++ r) (lines_both (k + 1) all roles ls ms ∙ ap (λ (i : ℕ). line_items (k + 1) all roles ls ++ line_items i all roles ms) e)
    ∙ sym (append_assoc one (line_items (k + 1) all roles ls) (line_items (k + suc (length ls)) all roles ms))
    ∙ ap (λ (r : List FaultItem). r ++ line_items (k + suc (length ls)) all roles ms) (sym (line_then k all roles l ls))

taken_length : {A : Type 0} (xs : List A) (i : ℕ) → i < length xs → length (take i xs) ≡ i
taken_length xs i l = length-take-le i xs (omega (arith, l))

lines_at : {A : Type 0} (f : A → n.Line) (all : ℕ) (roles : List SWord) (xs : List A) (i : ℕ) (ls : List n.Line) → i < length xs → line_items 0 all roles (map f (take i xs) ++ ls) ≡ line_items 0 all roles (map f (take i xs)) ++ line_items i all roles ls
lines_at f all roles xs i ls l =
    let few : length (map f (take i xs)) ≡ i = length-map (take i xs) f ∙ taken_length xs i l in
    let e : 0 + length (map f (take i xs)) ≡ i = omega (arith, few) in
    lines_both 0 all roles (map f (take i xs)) ls ∙ ap (λ (k : ℕ). line_items 0 all roles (map f (take i xs)) ++ line_items k all roles ls) e

pub lines_more : {A : Type 0} (f : A → n.Line) (all : ℕ) (roles : List SWord) (xs : List A) (i : ℕ) (x : A) → x ≡ get_or xs i x → i < length xs → IsFaultless (line_items 0 all roles (map f (take i xs))) → IsFaultless (line_items i all roles (f x ∷ [])) → IsFaultless (line_items 0 all roles (map f (take (i + 1) xs)))
lines_more f all roles xs i x e l h g =
    subst (λ (ls : List n.Line). IsFaultless (line_items 0 all roles ls)) (sym (mapped f xs i x e l))
    (subst IsFaultless (sym (lines_at f all roles xs i (f x ∷ []) l)) (both_faultless (line_items 0 all roles (map f (take i xs))) (line_items i all roles (f x ∷ [])) h g))

pub lines_faultless : {A : Type 0} (f : A → n.Line) (all : ℕ) (roles : List SWord) (xs : List A) (i : ℕ) → length xs ≤ i → IsFaultless (line_items 0 all roles (map f (take i xs))) → IsFaultless (line_items 0 all roles (map f xs))
lines_faultless f all roles xs i l h = subst (λ (ys : List _). IsFaultless (line_items 0 all roles (map f ys))) (take_all i xs l) h

pub lines_fault : {A V : Type 0} (f : A → n.Line) (r : Result V NarrateFault) (fault : NarrateFault) (all : ℕ) (roles : List SWord) (xs : List A) (i : ℕ) (x : A) → x ≡ get_or xs i x → i < length xs → IsFaultless (line_items 0 all roles (map f (take i xs)))
    → IsErrAnd r (λ e. e ≡ fault) → IsFailed fault (line_items i all roles (f x ∷ [])) → IsTested r (line_items 0 all roles (map f xs))
lines_fault f r fault all roles xs i x e l h is g =
    let c = cut_at f xs i x e l in
    let after = c.0 in
    subst (λ (ls : List n.Line). IsTested r (line_items 0 all roles ls)) (sym c.1)
    (subst (IsTested r) (sym (lines_at f all roles xs i (f x ∷ after) l))
    (tested_behind r (line_items 0 all roles (map f (take i xs))) (line_items i all roles (f x ∷ after)) h
    (subst (IsTested r) (sym (line_then i all roles (f x) after)) (tested_front r fault (line_items i all roles (f x ∷ [])) (line_items (i + 1) all roles after) is g))))

-- ---- one fault at most

pub fault_once : (xs : List FaultItem) (f g : NarrateFault) → IsFirstFault xs f → IsFirstFault xs g → f ≡ g
fault_once [] f g a b = absurd a
fault_once (x ∷ xs) f g (inl a) (inl b) = a.1 ∙ sym b.1
fault_once (x ∷ xs) f g (inl a) (inr b) = absurd (b.0 a.0)
fault_once (x ∷ xs) f g (inr a) (inl b) = absurd (a.0 b.0)
fault_once (x ∷ xs) f g (inr a) (inr b) = fault_once xs f g a.1 b.1

pub fault_never : (xs : List FaultItem) (f : NarrateFault) → IsFirstFault xs f → IsFaultless xs → ⊥
fault_never [] f a b = a
fault_never (x ∷ xs) f (inl a) b = b.0 a.0
fault_never (x ∷ xs) f (inr a) b = fault_never xs f a.1 b.1

-- ---- the whole

pub whole : {V : Type 0} (r : Result V NarrateFault) (x : Narration)
    → IsTested r (shared_items 0 (length x.shared.items) (map shared_of x.shared.items)
    ++ (role_items 0 (length (x.first ∷ x.more.items)) [] (x.first ∷ x.more.items) ++ line_items 0 (length x.lines.items) (x.first ∷ x.more.items) (map line_of x.lines.items)))
    → IsTested r (items_of (narration_of x))
whole r x h =
    let roles = x.first ∷ x.more.items in
    let behind : ℕ → List FaultItem = λ k. role_items 0 (length roles) [] roles ++ line_items 0 k roles (map line_of x.lines.items) in
    subst (λ (k : ℕ). IsTested r (shared_items 0 k (map shared_of x.shared.items) ++ behind (length (map line_of x.lines.items)))) (sym (length-map x.shared.items shared_of))
    (subst (λ (k : ℕ). IsTested r (shared_items 0 (length x.shared.items) (map shared_of x.shared.items) ++ behind k)) (sym (length-map x.lines.items line_of)) h)

-- the faults of reading, which no test tells
abbrev IsOfReading : NarrateFault → Type 0
IsOfReading (faults.Syntax token) = Unit {0}
IsOfReading (faults.TooDeep token) = Unit {0}
IsOfReading (faults.UnknownRole s w) = ⊥
IsOfReading (faults.RoleTwice s w) = ⊥
IsOfReading (faults.NarrationTooLarge s count) = ⊥
IsOfReading faults.NoMemory = ⊥

never_of_reading : (xs : List FaultItem) (f : NarrateFault) → IsOfReading f → IsFirstFault xs f → ⊥
never_of_reading [] f is h = h
never_of_reading (declares before w ∷ xs) f is (inl h) = subst IsOfReading h.1 is
never_of_reading (speaks roles w ∷ xs) f is (inl h) = subst IsOfReading h.1 is
never_of_reading (counts i limit all s ∷ xs) f is (inl h) = subst IsOfReading h.1 is
never_of_reading (x ∷ xs) f is (inr h) = never_of_reading xs f is h.1

fails_of : (x : n.Narration) (f : NarrateFault) (ts : List Token) → IsNarrationSpelled x ts → IsFailed f (items_of x) → FailsNarration f ts
fails_of x (faults.Syntax token) ts is (inl e) = absurd cc
fails_of x (faults.Syntax token) ts is (inr h) = absurd (never_of_reading (items_of x) (faults.Syntax token) tt h)
fails_of x (faults.TooDeep token) ts is (inl e) = absurd cc
fails_of x (faults.TooDeep token) ts is (inr h) = absurd (never_of_reading (items_of x) (faults.TooDeep token) tt h)
fails_of x (faults.UnknownRole s w) ts is (inl e) = absurd cc
fails_of x (faults.UnknownRole s w) ts is (inr h) = (x, is, h)
fails_of x (faults.RoleTwice s w) ts is (inl e) = absurd cc
fails_of x (faults.RoleTwice s w) ts is (inr h) = (x, is, h)
fails_of x (faults.NarrationTooLarge s count) ts is (inl e) = absurd cc
fails_of x (faults.NarrationTooLarge s count) ts is (inr h) = (x, is, h)
fails_of x faults.NoMemory ts is h = tt

pub test_fails : {V : Type 0} (view : V → n.Narration) (r : Result V NarrateFault) (f : NarrateFault) (x : n.Narration) (ts : List Token) → IsErrAnd r (λ e. e ≡ f) → IsNarrationSpelled x ts → IsFailed f (items_of x) → ReadsNarration view r ts
test_fails view (Ok v) f x ts is spelled h = absurd is
test_fails view (Err e) f x ts is spelled h = subst (λ (g : NarrateFault). FailsNarration g ts) (sym is) (fails_of x f ts spelled h)
