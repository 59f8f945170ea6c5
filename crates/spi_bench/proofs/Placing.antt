-- Slots under names, as they change.
use Rattle.std.proofs.Common.{◌≡◌, ◌≢◌, ◌⊎◌, inl, inr, refl, sym, ap, ◌∙◌, subst, ℕ, zero, suc, ◌<◌, Bool, true, false, List, [], ◌∷◌, ◌++◌, length, Option, Some, None, arith, length-append}
use Rattle.std.proofs.lemmas.Bool.{cases_eq}
use Rattle.std.specs.Prelude.{slice_get, slice_set, Result, Ok, Err, IfOk, OnErr}
use Rattle.std.specs.Str.{bytes_eq}
use Rattle.std.specs.HashMap.{HashMap}
use Rattle.std.specs.Map.{lookup}
use Rattle.indexmap.specs.IndexMap.{get}
use Rattle.std.specs.Cmp.Lexicographic.{bytes_decides}
use Rattle.spi_term.specs.Spelling.{Spelling}
use Rattle.spi_rules.specs.Environment.{Env}
use Rattle.spi_bench.specs.Parts.{Part, part_named, with_part, without}
use Rattle.std.proofs.lemmas.List.{length-set, get_or-set_same, set-get_or, set_at, nil_from_length}
use Rattle.std.proofs.lemmas.Option.{slice_get_within, slice_get-get_or, get_or_from_slice_get}
use Rattle.spi_term.specs.declared.term.Effect as D
use Rattle.spi_bench.specs.Slots.{SetsPart, sets_part, sets_none, IsPadded, PutsPart, Drops, Stays}
use Rattle.spi_bench.specs.Slots.{part_of, slot_parts, SlotStandsAt, AreNamed, IsPartOver, IsInferred, AreInferred}
use Rattle.spi_bench.specs.declared.slot.Slot.{Slot}

-- texts
same_text : (n m : List ℕ) → n ≡ m → bytes_eq n m ≡ true
same_text n m e = (bytes_decides n m).1 e

told_text : (n m : List ℕ) (b : Bool) → bytes_eq n m ≡ b → (n ≡ m) ⊎ ((n ≢ m) × (bytes_eq n m ≡ false))
told_text n m true e = inl ((bytes_decides n m).0 e)
told_text n m false e = inr (λ q. let f : true ≡ false = sym (same_text n m q) ∙ e in absurd (cc), e)

pub other_text : (n m : List ℕ) → n ≢ m → bytes_eq n m ≡ false
other_text n m h = other (told_text n m (bytes_eq n m) refl)
  where
    other : (n ≡ m) ⊎ ((n ≢ m) × (bytes_eq n m ≡ false)) → bytes_eq n m ≡ false
    other (inl e) = absurd (h e)
    other (inr p) = p.1

-- elements
get_here : {A : Type 0} (xs : List A) (i : ℕ) (a : A) → i < length xs → slice_get (slice_set xs i a) i ≡ Some a
get_here xs i a h = slice_get-get_or (slice_set xs i a) i a (omega (arith, length-set xs i a, h)) ∙ ap Some (get_or-set_same xs i a a h)

get_there : {A : Type 0} (xs : List A) (i j : ℕ) (a : A) → j ≢ i → slice_get (slice_set xs i a) j ≡ slice_get xs j
get_there [] i j a h = refl
get_there (x ∷ xs) zero zero a h = absurd (h refl)
get_there (x ∷ xs) zero (suc j) a h = refl
get_there (x ∷ xs) (suc i) zero a h = refl
get_there (x ∷ xs) (suc i) (suc j) a h = get_there xs i j a (λ e. h (ap suc e))

get_padded : (ss : List (Option Slot)) (j : ℕ) (u : Slot) → slice_get (ss ++ None ∷ []) j ≡ Some (Some u) → slice_get ss j ≡ Some (Some u)
get_padded [] zero u e = absurd (cc)
get_padded [] (suc j) u e = absurd (cc)
get_padded (x ∷ ss) zero u e = e
get_padded (x ∷ ss) (suc j) u e = get_padded ss j u e

get_kept : (ss : List (Option Slot)) (j : ℕ) (u : Slot) → slice_get ss j ≡ Some (Some u) → slice_get (ss ++ None ∷ []) j ≡ Some (Some u)
get_kept [] j u e = absurd (cc)
get_kept (x ∷ ss) zero u e = e
get_kept (x ∷ ss) (suc j) u e = get_kept ss j u e

-- a slot named n stands at i, if any does
abbrev pub Only : List ℕ → ℕ → List (Option Slot) → Type 0
Only n i ss = (j : ℕ) (u : Slot) → slice_get ss j ≡ Some (Some u) → u.name ≡ n → j ≡ i

abbrev pub NoName : List ℕ → List (Option Slot) → Type 0
NoName n ss = (j : ℕ) (u : Slot) → slice_get ss j ≡ Some (Some u) → u.name ≢ n

pub only_one : (n : List ℕ) (i : ℕ) (ss : List (Option Slot)) (at : List ℕ → Option ℕ) → AreNamed ss at → at n ≡ Some i → Only n i ss
only_one n i ss at h e j u g f = let a : at n ≡ Some j = (h n j).1 (u, g, f) in cc

pub no_name : (n : List ℕ) (ss : List (Option Slot)) (at : List ℕ → Option ℕ) → AreNamed ss at → at n ≡ None → NoName n ss
no_name n ss at h e j u g f = let a : at n ≡ Some j = (h n j).1 (u, g, f) in absurd (cc)

next_only : (n : List ℕ) (i : ℕ) (x : Option Slot) (ss : List (Option Slot)) → Only n (suc i) (x ∷ ss) → Only n i ss
next_only n i x ss h j u e f = let a : suc j ≡ suc i = h (suc j) u e f in omega arith

parts_padded : (ss : List (Option Slot)) → slot_parts (ss ++ None ∷ []) ≡ slot_parts ss
parts_padded [] = refl
parts_padded (None ∷ ss) = parts_padded ss
parts_padded (Some u ∷ ss) = ap (λ l. part_of u ∷ l) (parts_padded ss)

-- the parts before and behind the slot at i, where no slot but that one is named n: what stands there may change, and what is
-- asked of the name n passes the parts before it
record PartPlace (n : List ℕ) (i : ℕ) (ss : List (Option Slot)) : Type 0 where
  before : List Part
  behind : List Part
  changes : (x : Option Slot) → slot_parts (slice_set ss i x) ≡ before ++ (slot_parts (x ∷ []) ++ behind)
  finds : (qs : List Part) → part_named n (before ++ qs) ≡ part_named n qs
  puts : (p : Spelling) (qs : List Part) → with_part n p (before ++ qs) ≡ before ++ with_part n p qs
  drops : (qs : List Part) → without n (before ++ qs) ≡ before ++ without n qs
  last : suc i ≡ length ss → behind ≡ []

part_place : (n : List ℕ) (ss : List (Option Slot)) (i : ℕ) → i < length ss → Only n i ss → PartPlace n i ss
part_place n [] i l o = absurd (omega arith)
part_place n (x ∷ ss) zero l o = record {
  before = [];
  behind = slot_parts ss;
  changes = first;
  finds = λ qs. refl;
  puts = λ p qs. refl;
  drops = λ qs. refl;
  last = λ e. ap slot_parts (nil_from_length ss (omega (arith, e)));
}
  where
    first : (y : Option Slot) → slot_parts (y ∷ ss) ≡ slot_parts (y ∷ []) ++ slot_parts ss
    first None = refl
    first (Some u) = refl
part_place n (None ∷ ss) (suc i) l o =
    let r = part_place n ss i (omega arith) (next_only n i None ss o) in
    record { before = r.before; behind = r.behind; changes = r.changes; finds = r.finds; puts = r.puts; drops = r.drops; last = λ e. r.last (omega (arith, e)) }
part_place n (Some u ∷ ss) (suc i) l o =
    let r = part_place n ss i (omega arith) (next_only n i (Some u) ss o) in
    let w : n ≢ u.name = λ q. let z : 0 ≡ suc i = o 0 u refl (sym q) in absurd (omega arith) in
    let f = other_text n u.name w in
    record {
      before = part_of u ∷ r.before;
      behind = r.behind;
      changes = λ x. ap (λ l. part_of u ∷ l) (r.changes x);
      finds = λ qs. rw f (r.finds qs);
      puts = λ p qs. rw f (ap (λ l. part_of u ∷ l) (r.puts p qs));
      drops = λ qs. rw f (ap (λ l. part_of u ∷ l) (r.drops qs));
      last = λ e. r.last (omega (arith, e));
    }

set_same : {A : Type 0} (xs : List A) (i : ℕ) (a : A) → slice_get xs i ≡ Some a → slice_set xs i a ≡ xs
set_same xs i a e = ap (slice_set xs i) (sym (get_or_from_slice_get xs i a a e)) ∙ set-get_or xs i a

-- where no slot is named n: a slot comes last
module _ (n : List ℕ) (ss : List (Option Slot)) (o : NoName n ss) where
  padded_length : length (ss ++ None ∷ []) ≡ suc (length ss)
  padded_length = omega (arith, length-append ss (None ∷ []))

  end_place : PartPlace n (length ss) (ss ++ None ∷ [])
  end_place = part_place n (ss ++ None ∷ []) (length ss) (omega (arith, padded_length)) (λ j u g f. absurd (o j u (get_padded ss j u g) f))

  nothing_behind : end_place.behind ≡ []
  nothing_behind = end_place.last (sym padded_length)

  whole_before : slot_parts ss ≡ end_place.before ++ []
  whole_before =
      sym (parts_padded ss)
      ∙ ap slot_parts (sym (set_at ss None [] None (length ss) refl))
      ∙ end_place.changes None
      ∙ ap (λ l. end_place.before ++ l) nothing_behind

  put_last : (t : Slot) → t.name ≡ n → slot_parts (slice_set (ss ++ None ∷ []) (length ss) (Some t)) ≡ with_part n t.part (slot_parts ss)
  put_last t h =
      end_place.changes (Some t)
      ∙ ap (λ l. end_place.before ++ part_of t ∷ l) nothing_behind
      ∙ ap (λ (m : List ℕ). end_place.before ++ record { name = m; part = t.part } ∷ []) h
      ∙ sym (end_place.puts t.part [])
      ∙ ap (with_part n t.part) (sym whole_before)

  find_none : part_named n (slot_parts ss) ≡ None
  find_none = ap (part_named n) whole_before ∙ end_place.finds []

  drop_none : without n (slot_parts ss) ≡ slot_parts ss
  drop_none = ap (without n) whole_before ∙ end_place.drops [] ∙ sym whole_before

abbrev SlotAt : Type 0
SlotAt = List ℕ → Option ℕ

-- what a slot may become, with the place of its name
pub data SlotBecomes (n : List ℕ) (i : ℕ) : Option Slot → Option ℕ → Type 0 where
  gone : SlotBecomes n i None None
  there : {t : Slot} → t.name ≡ n → SlotBecomes n i (Some t) (Some i)

becomes_at : {n : List ℕ} {i : ℕ} {x : Option Slot} {w : Option ℕ} (u : Slot) → SlotBecomes n i x w → x ≡ Some u → (w ≡ Some i) × (u.name ≡ n)
becomes_at u gone e = absurd (cc)
becomes_at u (there {t} g) e = let q : t ≡ u = cc in (refl, sym (ap (λ (v : Slot). v.name) q) ∙ g)

-- the names after the slot with number i becomes x, where it is empty or named n, and no other is named n
module _ (n : List ℕ) (i : ℕ) (ss : List (Option Slot)) (at to : List ℕ → Option ℕ) (x : Option Slot) (w : Option ℕ) (l : i < length ss) (h : AreNamed ss at) (o : Only n i ss) (old : (u : Slot) → slice_get ss i ≡ Some (Some u) → u.name ≡ n) (b : SlotBecomes n i x w) (here : to n ≡ w) (others : (m : List ℕ) → n ≢ m → to m ≡ at m) where
  stands_here : (j : ℕ) → w ≡ Some j → SlotStandsAt (slice_set ss i x) j n
  stands_here j e = go b e
    where
      go : {y : Option Slot} {v : Option ℕ} → SlotBecomes n i y v → v ≡ Some j → SlotStandsAt (slice_set ss i y) j n
      go gone e = absurd (cc)
      go (there {t} g) e = let q : i ≡ j = cc in subst (λ k. SlotStandsAt (slice_set ss i (Some t)) k n) q (t, get_here ss i (Some t) l, g)

  from_here : (j : ℕ) (m : List ℕ) (u : Slot) → slice_get (slice_set ss i x) j ≡ Some (Some u) → u.name ≡ m → j ≡ i → to m ≡ Some j
  from_here j m u e f q =
      let a : slice_get (slice_set ss i x) i ≡ Some (Some u) = subst (λ k. slice_get (slice_set ss i x) k ≡ Some (Some u)) q e in
      let c : x ≡ Some u = let d = get_here ss i x l in cc in
      let r = becomes_at u b c in
      let g : n ≡ m = sym r.1 ∙ f in
      subst (λ p. to p ≡ Some j) g (here ∙ r.0 ∙ ap Some (sym q))

  to_there : (m : List ℕ) (j : ℕ) → n ≢ m → SlotStandsAt ss j m → SlotStandsAt (slice_set ss i x) j m
  to_there m j d (u, e, f) =
      let q : j ≢ i = λ r. d (sym (old u (subst (λ k. slice_get ss k ≡ Some (Some u)) r e)) ∙ f) in
      (u, get_there ss i j x q ∙ e, f)

  from_there : (m : List ℕ) (j : ℕ) → SlotStandsAt (slice_set ss i x) j m → j ≢ i → SlotStandsAt ss j m
  from_there m j (u, e, f) q = (u, sym (get_there ss i j x q) ∙ e, f)

  pub named_after : AreNamed (slice_set ss i x) to
  named_after m j = (forth (told_text n m (bytes_eq n m) refl), back (cases_eq j i))
    where
      forth : (n ≡ m) ⊎ ((n ≢ m) × (bytes_eq n m ≡ false)) → to m ≡ Some j → SlotStandsAt (slice_set ss i x) j m
      forth (inl q) e = subst (λ p. SlotStandsAt (slice_set ss i x) j p) q (stands_here j (sym here ∙ ap to q ∙ e))
      forth (inr d) e = to_there m j d.0 ((h m j).0 (sym (others m d.0) ∙ e))

      same : (n ≡ m) ⊎ ((n ≢ m) × (bytes_eq n m ≡ false)) → j ≢ i → SlotStandsAt ss j m → to m ≡ Some j
      same (inl q) d (u, e, f) = absurd (d (o j u e (f ∙ sym q)))
      same (inr p) d s = others m p.0 ∙ (h m j).1 s

      back : (j ≡ i) ⊎ (j ≢ i) → SlotStandsAt (slice_set ss i x) j m → to m ≡ Some j
      back (inl q) (u, e, f) = from_here j m u e f q
      back (inr d) s = same (told_text n m (bytes_eq n m) refl) d (from_there m j s d)

named_padded : (ss : List (Option Slot)) (at : List ℕ → Option ℕ) → AreNamed ss at → AreNamed (ss ++ None ∷ []) at
named_padded ss at h m j = (λ e. let s = (h m j).0 e in (s.0, get_kept ss j s.0 s.1, s.2), λ s. (h m j).1 (s.0, get_padded ss j s.0 s.1, s.2))

-- what is inferred of each slot
pub inferred_after : (env : Env) (count i : ℕ) (ss : List (Option Slot)) (x : Option Slot) → i < length ss → AreInferred env count ss → ((u : Slot) → x ≡ Some u → IsInferred env count u) → AreInferred env count (slice_set ss i x)
inferred_after env count i ss x l h g j u e = go (cases_eq j i)
  where
    go : (j ≡ i) ⊎ (j ≢ i) → IsInferred env count u
    go (inl q) = let a : slice_get (slice_set ss i x) i ≡ Some (Some u) = subst (λ k. slice_get (slice_set ss i x) k ≡ Some (Some u)) q e in g u (let d = get_here ss i x l in cc)
    go (inr d) = h j u (sym (get_there ss i j x d) ∙ e)

inferred_padded : (env : Env) (count : ℕ) (ss : List (Option Slot)) → AreInferred env count ss → AreInferred env count (ss ++ None ∷ [])
inferred_padded env count ss h j u e = h j u (get_padded ss j u e)

-- a slot with a part and its least effect
inferred_slot : (env : Env) (count : ℕ) (t : Slot) (p : Spelling) (least : Option D.Effect) → t.part ≡ p → t.least ≡ least → IsPartOver env count p least → IsInferred env count t
inferred_slot env count t p least q m h = subst (λ o. IsPartOver env count t.part o) (sym m) (subst (λ x. IsPartOver env count x least) (sym q) h)

none_some : {A : Type 0} (u : Slot) (x : Option (Option Slot)) → x ≡ Some None → x ≡ Some (Some u) → A
none_some u x e f = absurd (cc)

-- where a slot named n stands
module _ (n : List ℕ) (i : ℕ) (s : Slot) (ss : List (Option Slot)) (at : SlotAt) (h : AreNamed ss at) (e : at n ≡ Some i) (g : slice_get ss i ≡ Some (Some s)) where
  its_name : s.name ≡ n
  its_name =
      let (u, v, z) = (h n i).0 e in
      let a : s ≡ u = cc in
      ap (λ (x : Slot). x.name) a ∙ z

  its_only : Only n i ss
  its_only = only_one n i ss at h e

  its_within : i < length ss
  its_within = slice_get_within ss i (Some s) g

  slot_place : PartPlace n i ss
  slot_place = part_place n ss i its_within its_only

  parts_are : slot_parts ss ≡ slot_place.before ++ part_of s ∷ slot_place.behind
  parts_are = ap slot_parts (sym (set_same ss i (Some s) g)) ∙ slot_place.changes (Some s)

  put_there : (t : Slot) → t.name ≡ n → slot_parts (slice_set ss i (Some t)) ≡ with_part n t.part (slot_parts ss)
  put_there t f =
      let here : with_part n t.part (part_of s ∷ slot_place.behind) ≡ record { name = n; part = t.part } ∷ slot_place.behind = rw (same_text n s.name (sym its_name)) refl in
      slot_place.changes (Some t)
      ∙ ap (λ (m : List ℕ). slot_place.before ++ record { name = m; part = t.part } ∷ slot_place.behind) f
      ∙ ap (λ l. slot_place.before ++ l) (sym here)
      ∙ sym (slot_place.puts t.part (part_of s ∷ slot_place.behind))
      ∙ ap (with_part n t.part) (sym parts_are)

  find_there : part_named n (slot_parts ss) ≡ Some s.part
  find_there =
      let here : part_named n (part_of s ∷ slot_place.behind) ≡ Some s.part = rw (same_text n s.name (sym its_name)) refl in
      ap (part_named n) parts_are ∙ slot_place.finds (part_of s ∷ slot_place.behind) ∙ here

  drop_there : slot_parts (slice_set ss i None) ≡ without n (slot_parts ss)
  drop_there =
      let here : without n (part_of s ∷ slot_place.behind) ≡ slot_place.behind = rw (same_text n s.name (sym its_name)) refl in
      slot_place.changes None
      ∙ ap (λ l. slot_place.before ++ l) (sym here)
      ∙ sym (slot_place.drops (part_of s ∷ slot_place.behind))
      ∙ ap (without n) (sym parts_are)

  named_changed : (x : Option Slot) (w : Option ℕ) (to : SlotAt) → SlotBecomes n i x w → to n ≡ w → ((m : List ℕ) → n ≢ m → to m ≡ at m) → AreNamed (slice_set ss i x) to
  named_changed x w to b here others = named_after n i ss at to x w its_within h its_only (λ y k. let c : s ≡ y = cc in sym (ap (λ (v : Slot). v.name) c) ∙ its_name) b here others

-- puts and drops, from what becomes of the slots
pub puts_there : (n : List ℕ) (p : Spelling) (least : Option D.Effect) (i : ℕ) (r : Option Spelling) (old new : List (Option Slot)) (at : SlotAt) → AreNamed old at → at n ≡ Some i → SetsPart i p least r old new → PutsPart n p least r old new at
puts_there n p least i _ old new at h e (sets_part {s} {t} g f q m w) =
    let b = its_name n i s old at h e g in
    record {
      places = subst (λ x. AreNamed x at) (sym w) (named_changed n i s old at h e g (Some t) (Some i) at (there (f ∙ b)) e (λ m d. refl));
      parts = ap slot_parts w ∙ put_there n i s old at h e g t (f ∙ b) ∙ ap (λ x. with_part n x (slot_parts old)) q;
      before = sym (find_there n i s old at h e g);
      inferred = λ env count k y.
          subst (λ x. AreInferred env count x) (sym w) (inferred_after env count i old (Some t) (its_within n i s old at h e g) k (λ x c. let d : t ≡ x = cc in subst (IsInferred env count) d (inferred_slot env count t p least q m y)));
    }
puts_there n p least i _ old new at h e (sets_none g) =
    let (u, v, z) = (h n i).0 e in
    none_some u (slice_get old i) g v

pub puts_last : (n : List ℕ) (p : Spelling) (least : Option D.Effect) (t : Slot) (old new : List (Option Slot)) (at to : SlotAt) → AreNamed old at → at n ≡ None → t.name ≡ n → t.part ≡ p → t.least ≡ least
    → new ≡ slice_set (old ++ None ∷ []) (length old) (Some t) → to n ≡ Some (length old) → ((m : List ℕ) → n ≢ m → to m ≡ at m) → PutsPart n p least None old new to
puts_last n p least t old new at to h e f q m w here others =
    let o = no_name n old at h e in
    let l : length old < length (old ++ None ∷ []) = let a = length-append old (None ∷ []) in omega arith in
    let padded = old ++ None ∷ [] in
    record {
      places = subst (λ x. AreNamed x to) (sym w) (named_after n (length old) padded at to (Some t) (Some (length old)) l (named_padded old at h) (λ j u g k. absurd (o j u (get_padded old j u g) k)) (λ u g. absurd (past old u (get_padded old (length old) u g))) (there f) here others);
      parts = ap slot_parts w ∙ put_last n old o t f ∙ ap (λ x. with_part n x (slot_parts old)) q;
      before = sym (find_none n old o);
      inferred = λ env count k y.
          subst (λ x. AreInferred env count x) (sym w) (inferred_after env count (length old) padded (Some t) l (inferred_padded env count old k) (λ x c. let d : t ≡ x = cc in subst (IsInferred env count) d (inferred_slot env count t p least q m y)));
    }
  where
    past : (ss : List (Option Slot)) (u : Slot) → slice_get ss (length ss) ≡ Some (Some u) → ⊥
    past ss u g = let a = slice_get_within ss (length ss) (Some u) g in omega arith

pub stays_padded : (old new : List (Option Slot)) (at to : SlotAt) → AreNamed old at → ((m : List ℕ) → to m ≡ at m) → IsPadded old new → Stays old new to
stays_padded old new at to h e p = go p
  where
    named_to : (ss : List (Option Slot)) → AreNamed ss at → AreNamed ss to
    named_to ss a m j = (λ x. (a m j).0 (sym (e m) ∙ x), λ s. e m ∙ (a m j).1 s)

    go : IsPadded old new → Stays old new to
    go (inl q) = record {
      places = subst (λ x. AreNamed x to) (sym q) (named_to old h);
      parts = ap slot_parts q;
      inferred = λ env count k. subst (λ x. AreInferred env count x) (sym q) k;
    }
    go (inr q) = record {
      places = subst (λ x. AreNamed x to) (sym q) (named_to (old ++ None ∷ []) (named_padded old at h));
      parts = ap slot_parts q ∙ parts_padded old;
      inferred = λ env count k. subst (λ x. AreInferred env count x) (sym q) (inferred_padded env count old k);
    }

pub drops_there : (n : List ℕ) (i : ℕ) (s : Slot) (old new : List (Option Slot)) (at to : SlotAt) → AreNamed old at → at n ≡ Some i → slice_get old i ≡ Some (Some s) → new ≡ slice_set old i None → to n ≡ None → ((m : List ℕ) → n ≢ m → to m ≡ at m) → Drops n (Some s.part) old new to
drops_there n i s old new at to h e g w here others =
    record {
      places = subst (λ x. AreNamed x to) (sym w) (named_changed n i s old at h e g None None to gone here others);
      parts = ap slot_parts w ∙ drop_there n i s old at h e g;
      before = sym (find_there n i s old at h e g);
      inferred = λ env count k. subst (λ x. AreInferred env count x) (sym w) (inferred_after env count i old None (its_within n i s old at h e g) k (λ x c. absurd (cc)));
    }

pub stands_some : (n : List ℕ) (i : ℕ) (old : List (Option Slot)) (at : SlotAt) → AreNamed old at → at n ≡ Some i → slice_get old i ≡ Some None → ⊥
stands_some n i old at h e g =
    let (u, v, z) = (h n i).0 e in
    none_some u (slice_get old i) g v

pub stands_within : (n : List ℕ) (i : ℕ) (old : List (Option Slot)) (at : SlotAt) → AreNamed old at → at n ≡ Some i → i < length old
stands_within n i old at h e = let (u, v, z) = (h n i).0 e in slice_get_within old i (Some u) v

pub drops_none : (n : List ℕ) (old : List (Option Slot)) (at to : SlotAt) → AreNamed old at → at n ≡ None → ((m : List ℕ) → to m ≡ at m) → Drops n None old old to
drops_none n old at to h e q =
    let o = no_name n old at h e in
    let s = stays_padded old old at to h q (inl refl) in
    record { places = s.places; parts = sym (drop_none n old o); before = sym (find_none n old o); inferred = s.inferred }

-- a map with the same entries finds the same
pub lookup_same : {S : Type 0} (m m' : HashMap (List ℕ) ℕ S) → m'.entries ≡ m.entries → (n : List ℕ) → get bytes_eq m' n ≡ get bytes_eq m n
lookup_same m m' e n = ap (λ es. lookup (bytes_eq n) es) e

-- after a put that may have failed
pub done_places : (n : List ℕ) (p : Spelling) (least : Option D.Effect) (old new : List (Option Slot)) (to : SlotAt) (r : Result (Option Spelling) Spelling) → IfOk r (λ x. PutsPart n p least x old new to) → OnErr r (Stays old new to) → AreNamed new to
done_places n p least old new to (Ok x) a b = a.places
done_places n p least old new to (Err x) a b = b.places

pub done_inferred : (n : List ℕ) (p : Spelling) (least : Option D.Effect) (old new : List (Option Slot)) (to : SlotAt) (env : Env) (count : ℕ) (r : Result (Option Spelling) Spelling) → IfOk r (λ x. PutsPart n p least x old new to) → OnErr r (Stays old new to) → AreInferred env count old → IsPartOver env count p least → AreInferred env count new
done_inferred n p least old new to env count (Ok x) a b h k = a.inferred env count h k
done_inferred n p least old new to env count (Err x) a b h k = b.inferred env count h

-- at the start
pub nothing_named : {S : Type 0} (ss : List (Option Slot)) (m : HashMap (List ℕ) ℕ S) → ss ≡ [] → m.entries ≡ [] → AreNamed ss (get bytes_eq m)
nothing_named ss m e f n i = (λ g. let a : get bytes_eq m n ≡ None = ap (λ es. lookup (bytes_eq n) es) f in absurd (let b : None ≡ Some i = sym a ∙ g in cc), λ (u, g, h). nothing_stands ss i u e g)
  where
    nothing_stands : {A : Type 0} (xs : List (Option Slot)) (j : ℕ) (v : Slot) → xs ≡ [] → slice_get xs j ≡ Some (Some v) → A
    nothing_stands xs j v q g = absurd (let b : None ≡ Some (Some v) = sym (ap (λ l. slice_get l j) q) ∙ g in cc)

pub nothing_inferred : (env : Env) (count : ℕ) (ss : List (Option Slot)) → ss ≡ [] → AreInferred env count ss
nothing_inferred env count ss e j u g = absurd (let b : None ≡ Some (Some u) = sym (ap (λ l. slice_get l j) e) ∙ g in cc)
