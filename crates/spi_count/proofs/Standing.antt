-- What changes of counts do to the effect that they stand for.
use Rattle.std.proofs.Common.{◌≡◌, ◌≢◌, refl, sym, ap, ◌∙◌, subst, ℕ, zero, suc, ◌+◌, ◌-◌, ◌*◌, ◌<◌, ◌≤◌, max, Bool, true, false, [], ◌∷◌, ◌++◌, ⊎_elim, ◌⊎◌, inl, inr, arith, true≢false, eq-eqb}
use Rattle.std.specs.Prelude.{if◌then◌else◌}
use Rattle.std.proofs.lemmas.Bool.{ne_eqb, cases_eq, or_left, or_right}
use Rattle.spi_term.specs.Term.{Message, bound, name, unit, pair, in_left, in_right, enc, hash, Atom, ends, checks, many, same_atom, Effect}
use Rattle.spi_term.specs.Lists.{In, in_first, in_later}
use Rattle.spi_term.specs.Counts.{tally, cut, count}
use Rattle.spi_term.proofs.Counting.{cut_cases, tally_append, same_atom_refl, same_atom_true, in_tally, count_tally, count_in, in_count}
use Rattle.spi_effect.specs.Effect.{IsMany}
use Rattle.spi_effect.specs.Made.{are_many, minus, greater, is_free, is_free_at, mentions}
use Rattle.spi_effect.proofs.Laws.{AllMany_in, AllMany_of}
use Rattle.spi_effect.proofs.Made.{minus_difference, greater_is, are_many_sound, are_many_complete, both_false}
use Rattle.spi_count.specs.Counts.{count_of, IsNothing}
use Rattle.spi_count.specs.Sums.{name_bound, key_of, kind_of_atom, part, one_more, both_counts, Puts, StandsForEffect, AreNumbers, Below}
use Rattle.spi_count.specs.Adding.{atom_of_kind}
use Rattle.spi_count.specs.declared.sum.AtomKind.{AtomKind}
use Rattle.spi_count.specs.declared.sum.AtomKind.TheVariants.{End, Check, Many}
use Rattle.spi_count.specs.declared.sum.Sum.{Sum}
use Rattle.spi_count.specs.declared.pile.Pile.{Pile}
use Rattle.spi_count.specs.Piles.{piled, StandsForPile}
use Rattle.spi_intern.specs.Parts.{message_of}

-- atoms of one kind with one message are one
pub same_parts : (a b : Atom) → kind_of_atom a ≡ kind_of_atom b → message_of a ≡ message_of b → a ≡ b
same_parts (ends m) (ends n) k e = ap ends e
same_parts (ends m) (checks n) k e = cc
same_parts (ends m) (many n) k e = cc
same_parts (checks m) (ends n) k e = cc
same_parts (checks m) (checks n) k e = ap checks e
same_parts (checks m) (many n) k e = cc
same_parts (many m) (ends n) k e = cc
same_parts (many m) (checks n) k e = cc
same_parts (many m) (many n) k e = ap many e

-- two kinds are equal or not
pub same_kind : (k l : AtomKind) → (k ≡ l) ⊎ (k ≢ l)
same_kind End End = inl refl
same_kind End Check = inr (λ e. cc)
same_kind End Many = inr (λ e. cc)
same_kind Check End = inr (λ e. cc)
same_kind Check Check = inl refl
same_kind Check Many = inr (λ e. cc)
same_kind Many End = inr (λ e. cc)
same_kind Many Check = inr (λ e. cc)
same_kind Many Many = inl refl

-- keys of messages with their numbers
pub same_place : (above over i j : ℕ) → i < 4294967296 → j < 4294967296 → key_of above i ≡ key_of over j → i ≡ j
same_place above over i j h k e = omega (arith, h, k, e)

-- a number is 0 or more
pub zero_or : (n : ℕ) → (n ≡ 0) ⊎ (0 < n)
zero_or zero = inl refl
zero_or (suc n) = inr (omega arith)

-- where none waits any more, or none waits yet
pub pile_settled : {At : ℕ → Message → Type 0} {p : Pile} {s : Sum} {es : Effect} → ((kind : AtomKind) (k : ℕ) → count_of (part kind s) k ≡ piled kind p k) → StandsForPile At p es → StandsForEffect At s es
pile_settled e h = record {
  counted = λ a i g. e (kind_of_atom a) (key_of (name_bound (message_of a)) i) ∙ h.counted a i g;
  known = h.known;
  kept = λ kind k g. h.kept kind k (subst (λ n. 0 < n) (e kind k) g);
}

pub pile_of_sum : {At : ℕ → Message → Type 0} {p : Pile} {s : Sum} {es : Effect} → ((kind : AtomKind) (k : ℕ) → piled kind p k ≡ count_of (part kind s) k) → StandsForEffect At s es → StandsForPile At p es
pile_of_sum e h = record {
  counted = λ a i g. e (kind_of_atom a) (key_of (name_bound (message_of a)) i) ∙ h.counted a i g;
  known = h.known;
  kept = λ kind k g. h.kept kind k (subst (λ n. 0 < n) (e kind k) g);
}

kind_back : (kind : AtomKind) (m : Message) → kind_of_atom (atom_of_kind kind m) ≡ kind
kind_back End m = refl
kind_back Check m = refl
kind_back Many m = refl

message_back : (kind : AtomKind) (m : Message) → message_of (atom_of_kind kind m) ≡ m
message_back End m = refl
message_back Check m = refl
message_back Many m = refl

-- an atom of each count that is kept
pub atom_kept : (At : ℕ → Message → Type 0) (f : AtomKind → ℕ → ℕ) (es : Effect)
    → ((a : Atom) (i : ℕ) → At i (message_of a) → f (kind_of_atom a) (key_of (name_bound (message_of a)) i) ≡ count a es)
    → (kind : AtomKind) (k : ℕ) → 0 < f kind k → (i : ℕ) × (m : Message) × At i m × (k ≡ key_of (name_bound m) i)
    → (m : Message) × In (atom_of_kind kind m) es × ((i : ℕ) × At i (message_of (atom_of_kind kind m)) × (k ≡ key_of (name_bound (message_of (atom_of_kind kind m))) i))
atom_kept At f es counted kind k p w =
    let (i, m, g, e) = w in
    let a = atom_of_kind kind m in
    let mb = message_back kind m in
    let g' = subst (At i) (sym mb) g in let c = counted a i g' in
    let e' : k ≡ key_of (name_bound (message_of a)) i = e ∙ ap (λ m. key_of (name_bound m) i) (sym mb) in
    let q : 0 < count a es = subst (λ x. 0 < x) (ap (λ d. f d k) (sym (kind_back kind m)) ∙ ap (f (kind_of_atom a)) e' ∙ c) p in
    (m, count_in a es q, (i, g', e'))

module _ (At : ℕ → Message → Type 0) (numbers : AreNumbers At) where
  -- the count of an atom
  abbrev pub held : Sum → Atom → ℕ → ℕ
  held s a i = count_of (part (kind_of_atom a) s) (key_of (name_bound (message_of a)) i)

  -- after one count is put, the others are as before
  pub put_at : {old new : Sum} (b : Atom) (j n : ℕ) → At j (message_of b)
      → Puts (kind_of_atom b) old new (key_of (name_bound (message_of b)) j) n
      → (a : Atom) (i : ℕ) → At i (message_of a)
      → held new a i ≡ (if same_atom a b then n else held old a i)
  put_at {old} {new} b j n gb p a i g = go (same_atom a b) refl
    where
      key : ℕ
      key = key_of (name_bound (message_of b)) j

      same : a ≡ b → held new a i ≡ n
      same e =
          let ij : i ≡ j = numbers.differ (subst (λ x. At i (message_of x)) e g) gb in
          ap (λ x. count_of (part (kind_of_atom x) new) (key_of (name_bound (message_of x)) i)) e
          ∙ ap (λ x. count_of (part (kind_of_atom b) new) (key_of (name_bound (message_of b)) x)) ij
          ∙ p.here key
          ∙ ap (λ t. if t then n else count_of (part (kind_of_atom b) old) key) (eq-eqb key key refl)

      apart : (kind_of_atom a ≡ kind_of_atom b) ⊎ (kind_of_atom a ≢ kind_of_atom b) → a ≢ b → held new a i ≡ held old a i
      apart (inr d) ne = ap (λ m. count_of m (key_of (name_bound (message_of a)) i)) (p.others (kind_of_atom a) d)
      apart (inl e) ne =
          let here = key_of (name_bound (message_of a)) i in
          let far : key ≢ here
          = λ f.
          let ij : i ≡ j = sym (same_place (name_bound (message_of b)) (name_bound (message_of a)) j i (numbers.small gb) (numbers.small g) f) in
          ne (same_parts a b e (numbers.one (subst (λ i. At i (message_of a)) ij g) gb)) in
          ap (λ k. count_of (part k new) here) e
          ∙ p.here here
          ∙ ap (λ t. if t then n else count_of (part (kind_of_atom b) old) here) (ne_eqb key here far)
          ∙ ap (λ k. count_of (part k old) here) (sym e)

      go : (t : Bool) → same_atom a b ≡ t → held new a i ≡ (if t then n else held old a i)
      go true e = same (same_atom_true a b e)
      go false e = apart (same_kind (kind_of_atom a) (kind_of_atom b)) (λ f. true≢false (sym (same_atom_refl a) ∙ ap (same_atom a) f ∙ e))

  pub stands_none : {s : Sum} → ((kind : AtomKind) → IsNothing (part kind s)) → StandsForEffect At s []
  stands_none {s} h = record {
    counted = λ a i g. h (kind_of_atom a) (key_of (name_bound (message_of a)) i) ∙ sym (none a);
    known = λ a n. absurd (let t = in_tally n in omega (arith, t));
    kept = λ kind k p. absurd (let z = h kind k in omega (arith, z, p));
  }
    where
      none : (a : Atom) → count a [] ≡ 0
      none a = ⊎_elim (λ c. omega (arith, c 0)) (λ c. omega (arith, c 0)) (cut_cases a)

  -- the effect counts alone
  pub stands_same : {s : Sum} {es fs : Effect} → StandsForEffect At s es → ((a : Atom) → count a es ≡ count a fs) → StandsForEffect At s fs
  stands_same {s} {es} {fs} h e = record {
    counted = λ a i g. h.counted a i g ∙ e a;
    known = λ a n. h.known a (count_in a es (let p = in_count a fs n in let q = e a in omega (arith, p, q)));
    kept = h.kept;
  }

  -- after one count is put, the counts are those of the new effect
  stands_put : {old new : Sum} {es fs : Effect} (b : Atom) (j n : ℕ) → StandsForEffect At old es → At j (message_of b)
      → Puts (kind_of_atom b) old new (key_of (name_bound (message_of b)) j) n
      → ((a : Atom) → (if same_atom a b then n else count a es) ≡ count a fs)
      → StandsForEffect At new fs
  stands_put {old} {new} {es} {fs} b j n h gb p e = record {
    counted = λ a i g.
        put_at b j n gb p a i g
        ∙ ap (λ x. if same_atom a b then n else x) (h.counted a i g)
        ∙ e a;
    known = λ a m. known_of a m (same_atom a b) refl;
    kept = λ kind k q. kept_of kind k q (same_kind kind (kind_of_atom b)) (cases k (key_of (name_bound (message_of b)) j));
  }
    where
      known_of : (a : Atom) → In a fs → (t : Bool) → same_atom a b ≡ t → (i : ℕ) × At i (message_of a)
      known_of a m true t = (j, subst (λ x. At j (message_of x)) (sym (same_atom_true a b t)) gb)
      known_of a m false t =
          let c : count a es ≡ count a fs = ap (λ t. if t then n else count a es) (sym t) ∙ e a in
          h.known a (count_in a es (let p = in_count a fs m in omega (arith, p, c)))

      cases : (k l : ℕ) → (k ≡ l) ⊎ (k ≢ l)
      cases k l = cases_eq k l

      kept_of : (kind : AtomKind) (k : ℕ) → 0 < count_of (part kind new) k → (kind ≡ kind_of_atom b) ⊎ (kind ≢ kind_of_atom b) → (k ≡ key_of (name_bound (message_of b)) j) ⊎ (k ≢ key_of (name_bound (message_of b)) j)
          → (i : ℕ) × (m : Message) × At i m × (k ≡ key_of (name_bound m) i)
      kept_of kind k q (inr d) c = h.kept kind k (subst (λ m. 0 < count_of m k) (p.others kind d) q)
      kept_of kind k q (inl d) (inl f) = (j, message_of b, gb, f)
      kept_of kind k q (inl d) (inr f) =
          let x : count_of (part kind new) k ≡ count_of (part kind old) k
          = ap (λ d. count_of (part d new) k) d ∙ p.here k ∙ ap (λ t. if t then n else count_of (part (kind_of_atom b) old) k) (ne_eqb (key_of (name_bound (message_of b)) j) k (λ z. f (sym z))) ∙ ap (λ d. count_of (part d old) k) (sym d) in
          h.kept kind k (subst (λ n. 0 < n) x q)

  more_is : (b : Atom) (es : Effect) → one_more (kind_of_atom b) (count b es) ≡ cut b (tally b es + 1)
  more_is (ends m) es = refl
  more_is (checks m) es = refl
  more_is (many m) es = omega arith

  -- an atom more
  pub stands_more : {old new : Sum} {es : Effect} (b : Atom) (j : ℕ) → StandsForEffect At old es → At j (message_of b)
      → Puts (kind_of_atom b) old new (key_of (name_bound (message_of b)) j) (one_more (kind_of_atom b) (count_of (part (kind_of_atom b) old) (key_of (name_bound (message_of b)) j)))
      → StandsForEffect At new (es ++ b ∷ [])
  stands_more {old} {new} {es} b j h gb p =
      stands_put b j (one_more (kind_of_atom b) (held old b j)) h gb p (λ a. go a (same_atom a b) refl (tally_append a es (b ∷ [])))
    where
      go : (a : Atom) (t : Bool) → same_atom a b ≡ t → tally a (es ++ b ∷ []) ≡ tally a es + ((if same_atom a b then 1 else 0) + 0) → (if t then one_more (kind_of_atom b) (held old b j) else count a es) ≡ count a (es ++ b ∷ [])
      go a true t f =
          let e = same_atom_true a b t in
          let g : tally a (es ++ b ∷ []) ≡ tally a es + 1 = f ∙ ap (λ t. tally a es + ((if t then 1 else 0) + 0)) t ∙ (let z : tally a es + (1 + 0) ≡ tally a es + 1 = omega arith in z) in
          ap (one_more (kind_of_atom b)) (h.counted b j gb) ∙ more_is b es ∙ ap (λ x. cut x (tally x es + 1)) (sym e) ∙ ap (cut a) (sym g)
      go a false t f =
          let g : tally a (es ++ b ∷ []) ≡ tally a es = f ∙ ap (λ t. tally a es + ((if t then 1 else 0) + 0)) t ∙ (let z : tally a es + (0 + 0) ≡ tally a es = omega arith in z) in
          ap (cut a) (sym g)

  -- an atom less
  one_of : (a : Atom) (t : Bool) → cut a ((if t then 1 else 0) + 0) ≡ (if t then 1 else 0)
  one_of a true = ⊎_elim (λ c. omega (arith, c 1)) (λ c. omega (arith, c 1)) (cut_cases a)
  one_of a false = ⊎_elim (λ c. omega (arith, c 0)) (λ c. omega (arith, c 0)) (cut_cases a)

  less_is : (b : Atom) (es : Effect) (a : Atom) → count a (minus es (b ∷ [])) ≡ count a es - (if same_atom a b then 1 else 0)
  less_is b es a = (minus_difference es (b ∷ [])).at a ∙ ap (λ n. count a es - n) (one_of a (same_atom a b))

  pub stands_less : {old new : Sum} {es : Effect} (b : Atom) (j : ℕ) → StandsForEffect At old es → At j (message_of b)
      → Puts (kind_of_atom b) old new (key_of (name_bound (message_of b)) j) (count_of (part (kind_of_atom b) old) (key_of (name_bound (message_of b)) j) - 1)
      → StandsForEffect At new (minus es (b ∷ []))
  stands_less {old} {new} {es} b j h gb p =
      stands_put b j (held old b j - 1) h gb p (λ a. go a (same_atom a b) refl (less_is b es a))
    where
      go : (a : Atom) (t : Bool) → same_atom a b ≡ t → count a (minus es (b ∷ [])) ≡ count a es - (if same_atom a b then 1 else 0) → (if t then held old b j - 1 else count a es) ≡ count a (minus es (b ∷ []))
      go a true t f =
          let e = same_atom_true a b t in
          ap (λ n. n - 1) (h.counted b j gb ∙ ap (λ x. count x es) (sym e)) ∙ ap (λ t. count a es - (if t then 1 else 0)) (sym t) ∙ sym f
      go a false t f =
          let z : count a es ≡ count a es - 0 = omega arith in
          z ∙ ap (λ t. count a es - (if t then 1 else 0)) (sym t) ∙ sym f

  zero_less : (n : ℕ) → 0 - n ≡ 0
  zero_less n = omega arith

  zero_of : (n : ℕ) → (0 < n → ⊥) → n ≡ 0
  zero_of n h = ⊎_elim (λ e. e) (λ p. absurd (h p)) (zero_or n)

  -- an atom without a number stands nowhere
  pub stands_absent : {s : Sum} {es : Effect} (b : Atom) → StandsForEffect At s es → (In b es → ⊥) → StandsForEffect At s (minus es (b ∷ []))
  stands_absent {s} {es} b h none = stands_same h (λ a. go a (same_atom a b) refl (less_is b es a))
    where
      go : (a : Atom) (t : Bool) → same_atom a b ≡ t → count a (minus es (b ∷ [])) ≡ count a es - (if same_atom a b then 1 else 0) → count a es ≡ count a (minus es (b ∷ []))
      go a true t f =
          let e = same_atom_true a b t in
          let z : count a es ≡ 0 = zero_of (count a es) (λ p. none (subst (λ x. In x es) e (count_in a es p))) in
          let y : count a es - (if same_atom a b then 1 else 0) ≡ 0 = ap (λ n. n - (if same_atom a b then 1 else 0)) z ∙ zero_less (if same_atom a b then 1 else 0) in
          z ∙ sym y ∙ sym f
      go a false t f =
          let z : count a es ≡ count a es - 0 = omega arith in
          z ∙ ap (λ t. count a es - (if t then 1 else 0)) (sym t) ∙ sym f

  known_one : {s t : Sum} {es fs gs : Effect} → StandsForEffect At s es → StandsForEffect At t fs → ((a : Atom) → 0 < count a gs → (0 < count a es) ⊎ (0 < count a fs))
      → (a : Atom) → In a gs → (i : ℕ) × At i (message_of a)
  known_one {es = es} {fs} {gs} h k e a n =
      ⊎_elim (λ p. h.known a (count_in a es p)) (λ p. k.known a (count_in a fs p)) (e a (in_count a gs n))

  positive : (m n : ℕ) → 0 < m + n → (0 < m) ⊎ (0 < n)
  positive zero n h = inr (omega (arith, h))
  positive (suc m) n h = inl (omega arith)

  positive_max : (m n : ℕ) → 0 < max m n → (0 < m) ⊎ (0 < n)
  positive_max m n h = positive m n (omega (arith, h))

  both_positive : (kind : AtomKind) (m n : ℕ) → 0 < both_counts kind m n → (0 < m) ⊎ (0 < n)
  both_positive End m n h = positive m n h
  both_positive Check m n h = positive m n h
  both_positive Many m n h = positive_max m n h

  both_is : (a : Atom) (m n : ℕ) → both_counts (kind_of_atom a) (cut a m) (cut a n) ≡ cut a (m + n)
  both_is (ends l) m n = refl
  both_is (checks l) m n = refl
  both_is (many l) m n = omega arith

  cut_positive : (a : Atom) (es fs : Effect) → 0 < count a (es ++ fs) → (0 < count a es) ⊎ (0 < count a fs)
  cut_positive a es fs h = both_positive (kind_of_atom a) (count a es) (count a fs) (subst (λ n. 0 < n) (ap (cut a) (tally_append a es fs) ∙ sym (both_is a (tally a es) (tally a fs))) h)

  -- a sum
  pub stands_joined : {s t u : Sum} {es fs : Effect} → StandsForEffect At s es → StandsForEffect At t fs
      → ((kind : AtomKind) (k : ℕ) → count_of (part kind u) k ≡ both_counts kind (count_of (part kind s) k) (count_of (part kind t) k))
      → StandsForEffect At u (es ++ fs)
  stands_joined {s} {t} {u} {es} {fs} h k e = record {
    counted = λ a i g.
        e (kind_of_atom a) (key_of (name_bound (message_of a)) i)
        ∙ ap (λ n. both_counts (kind_of_atom a) n (held t a i)) (h.counted a i g)
        ∙ ap (λ n. both_counts (kind_of_atom a) (count a es) n) (k.counted a i g)
        ∙ both_is a (tally a es) (tally a fs)
        ∙ ap (cut a) (sym (tally_append a es fs));
    known = known_one {s = s} {t = t} {es = es} {fs = fs} {gs = es ++ fs} h k (λ a p. cut_positive a es fs p);
    kept = λ kind j p.
        ⊎_elim (λ q. h.kept kind j q) (λ q. k.kept kind j q)
        (both_positive kind (count_of (part kind s) j) (count_of (part kind t) j) (subst (λ n. 0 < n) (e kind j) p));
  }

  -- the same where atoms wait
  pub piles_none : {p : Pile} → ((kind : AtomKind) (k : ℕ) → piled kind p k ≡ 0) → StandsForPile At p []
  piles_none {p} h = record {
    counted = λ a i g. h (kind_of_atom a) (key_of (name_bound (message_of a)) i) ∙ sym (none a);
    known = λ a n. absurd (let t = in_tally n in omega (arith, t));
    kept = λ kind k p. absurd (let z = h kind k in omega (arith, z, p));
  }
    where
      none : (a : Atom) → count a [] ≡ 0
      none a = ⊎_elim (λ c. omega (arith, c 0)) (λ c. omega (arith, c 0)) (cut_cases a)

  pub piles_joined : {p q r : Pile} {es fs : Effect} → StandsForPile At p es → StandsForPile At q fs
      → ((kind : AtomKind) (k : ℕ) → piled kind r k ≡ both_counts kind (piled kind p k) (piled kind q k)) → StandsForPile At r (es ++ fs)
  piles_joined {p} {q} {r} {es} {fs} h k e = record {
    counted = λ a i g.
        e (kind_of_atom a) (key_of (name_bound (message_of a)) i)
        ∙ ap (λ n. both_counts (kind_of_atom a) n (piled (kind_of_atom a) q (key_of (name_bound (message_of a)) i))) (h.counted a i g)
        ∙ ap (λ n. both_counts (kind_of_atom a) (count a es) n) (k.counted a i g)
        ∙ both_is a (tally a es) (tally a fs)
        ∙ ap (cut a) (sym (tally_append a es fs));
    known = λ a n.
        ⊎_elim (λ p. h.known a (count_in a es p)) (λ p. k.known a (count_in a fs p)) (cut_positive a es fs (in_count a (es ++ fs) n));
    kept = λ kind j g.
        ⊎_elim (λ g. h.kept kind j g) (λ g. k.kept kind j g)
        (both_positive kind (piled kind p j) (piled kind q j) (subst (λ n. 0 < n) (e kind j) g));
  }

  -- the greater counts
  pub stands_greatest : {s t u : Sum} {es fs : Effect} → StandsForEffect At s es → StandsForEffect At t fs
      → ((kind : AtomKind) (k : ℕ) → count_of (part kind u) k ≡ max (count_of (part kind s) k) (count_of (part kind t) k))
      → StandsForEffect At u (greater es fs)
  stands_greatest {s} {t} {u} {es} {fs} h k e = record {
    counted = λ a i g.
        e (kind_of_atom a) (key_of (name_bound (message_of a)) i)
        ∙ ap (λ n. max n (held t a i)) (h.counted a i g)
        ∙ ap (λ n. max (count a es) n) (k.counted a i g)
        ∙ sym ((greater_is es fs).at a);
    known = known_one {s = s} {t = t} {es = es} {fs = fs} {gs = greater es fs} h k (λ a p. positive_max (count a es) (count a fs) (subst (λ n. 0 < n) ((greater_is es fs).at a) p));
    kept = λ kind j p.
        ⊎_elim (λ q. h.kept kind j q) (λ q. k.kept kind j q)
        (positive_max (count_of (part kind s) j) (count_of (part kind t) j) (subst (λ n. 0 < n) (e kind j) p));
  }

  -- each atom is a `many`
  nothing_once : {s : Sum} {es : Effect} → StandsForEffect At s es → IsNothing (part End s) → IsNothing (part Check s) → (a : Atom) → In a es → IsMany a
  nothing_once h e c (ends m) n =
      let (i, g) = h.known (ends m) n in
      let p = in_count (ends m) _ n in let q = h.counted (ends m) i g in let r = e (key_of (name_bound m) i) in absurd (omega (arith, p, q, r))
  nothing_once h e c (checks m) n =
      let (i, g) = h.known (checks m) n in
      let p = in_count (checks m) _ n in let q = h.counted (checks m) i g in let r = c (key_of (name_bound m) i) in absurd (omega (arith, p, q, r))
  nothing_once h e c (many m) n = tt

  pub stands_many : {s : Sum} {es : Effect} → StandsForEffect At s es → IsNothing (part End s) → IsNothing (part Check s) → are_many es ≡ true
  stands_many {es = es} h e c = are_many_complete es (AllMany_of es (nothing_once h e c))

  -- an atom of each count that is kept
  kept_atom : {s : Sum} {es : Effect} → StandsForEffect At s es → (kind : AtomKind) (k : ℕ) → 0 < count_of (part kind s) k
      → (m : Message) × In (atom_of_kind kind m) es × ((i : ℕ) × At i (message_of (atom_of_kind kind m)) × (k ≡ key_of (name_bound (message_of (atom_of_kind kind m))) i))
  kept_atom {s} {es} h kind k p = atom_kept At (λ kind q. count_of (part kind s) q) es h.counted kind k p (h.kept kind k p)

  pub kept_in : {s : Sum} {es : Effect} → StandsForEffect At s es → (kind : AtomKind) (k : ℕ) → 0 < count_of (part kind s) k
      → (a : Atom) × In a es × ((i : ℕ) × At i (message_of a) × (k ≡ key_of (name_bound (message_of a)) i))
  kept_in h kind k p = let (m, i, at) = kept_atom h kind k p in (atom_of_kind kind m, i, at)

  pub many_stands : {s : Sum} {es : Effect} → StandsForEffect At s es → are_many es ≡ true → IsNothing (part End s) × IsNothing (part Check s)
  many_stands {s} {es} h m = (none_of End (λ n f. f), none_of Check (λ n f. f))
    where
      none_of : (kind : AtomKind) → ((n : Message) → IsMany (atom_of_kind kind n) → ⊥) → IsNothing (part kind s)
      none_of kind once = λ k. zero_of _ (λ p. let (n, i, at) = kept_atom h kind k p in once n (AllMany_in i (are_many_sound es m)))

-- names and the least number above them
bound_free : (x : ℕ) (m : Message) → name_bound m ≤ x → is_free x m ≡ false
bound_free x (bound i) h = refl
bound_free x (name y) h = ne_eqb x y (λ e. omega (arith, e, h))
bound_free x unit h = refl
bound_free x (pair a b) h = both_false (bound_free x a (omega (arith, h))) (bound_free x b (omega (arith, h)))
bound_free x (in_left a) h = bound_free x a h
bound_free x (in_right a) h = bound_free x a h
bound_free x (enc a b) h = both_false (bound_free x a (omega (arith, h))) (bound_free x b (omega (arith, h)))
bound_free x (hash a) h = bound_free x a h

greater_one : (m n x : ℕ) → max m n ≡ suc x → (m ≡ suc x) ⊎ (n ≡ suc x)
greater_one m n x e = go (m - n) refl
  where
    go : (d : ℕ) → m - n ≡ d → (m ≡ suc x) ⊎ (n ≡ suc x)
    go zero h = inr (omega (arith, e, h))
    go (suc d) h = inl (omega (arith, e, h))

bound_is_free : (x : ℕ) (m : Message) → name_bound m ≡ suc x → is_free x m ≡ true
bound_is_free x (bound i) e = absurd (omega (arith, e))
bound_is_free x (name y) e = eq-eqb x y (omega (arith, e))
bound_is_free x unit e = absurd (omega (arith, e))
bound_is_free x (pair a b) e =
    ⊎_elim (λ h. or_left (is_free x a) (is_free x b) (bound_is_free x a h)) (λ h. or_right (is_free x a) (is_free x b) (bound_is_free x b h)) (greater_one (name_bound a) (name_bound b) x e)
bound_is_free x (in_left a) e = bound_is_free x a e
bound_is_free x (in_right a) e = bound_is_free x a e
bound_is_free x (enc a b) e =
    ⊎_elim (λ h. or_left (is_free x a) (is_free x b) (bound_is_free x a h)) (λ h. or_right (is_free x a) (is_free x b) (bound_is_free x b h)) (greater_one (name_bound a) (name_bound b) x e)
bound_is_free x (hash a) e = bound_is_free x a e

pub free_at : (x : ℕ) (a : Atom) → is_free_at x a ≡ is_free x (message_of a)
free_at x (ends m) = refl
free_at x (checks m) = refl
free_at x (many m) = refl

pub below_mentions : (x : ℕ) (es : Effect) → Below x es → mentions x es ≡ false
below_mentions x [] h = refl
below_mentions x (a ∷ es) h = both_false (free_at x a ∙ bound_free x (message_of a) (h a in_first)) (below_mentions x es (λ b n. h b (in_later n)))

pub in_mentions : (x : ℕ) (a : Atom) (es : Effect) → In a es → name_bound (message_of a) ≡ suc x → mentions x es ≡ true
in_mentions x a [] n e = elim n [ ]
in_mentions x a (b ∷ es) in_first e = or_left (is_free_at x a) (mentions x es) (free_at x a ∙ bound_is_free x (message_of a) e)
in_mentions x a (b ∷ es) (in_later n) e = or_right (is_free_at x b) (mentions x es) (in_mentions x a es n e)

module _ (At : ℕ → Message → Type 0) (numbers : AreNumbers At) (f : AtomKind → ℕ → ℕ) (es : Effect)
    (counted : (a : Atom) (i : ℕ) → At i (message_of a) → f (kind_of_atom a) (key_of (name_bound (message_of a)) i) ≡ count a es) (n : ℕ) where
  -- no key from that of n + 1 on is counted: each name is below n
  unreached_by : ((a : Atom) → In a es → (i : ℕ) × At i (message_of a)) → ((kind : AtomKind) (k : ℕ) → 0 < f kind k → k < (n + 1) * 4294967296) → Below n es
  unreached_by known u a i =
      let (j, g) = known a i in
      let c = counted a j g in
      let p = (count_tally a (tally a es)).1 (in_tally i) in
      let l = u (kind_of_atom a) (key_of (name_bound (message_of a)) j) (omega (arith, c, p)) in
      omega (arith, l)

  -- such a key is counted: an atom has a name from n on
  reached_by : (kind : AtomKind) (k : ℕ) → 0 < f kind k → (i : ℕ) × (m : Message) × At i m × (k ≡ key_of (name_bound m) i) → (n + 1) * 4294967296 ≤ k
      → (a : Atom) × In a es × (n + 1 ≤ name_bound (message_of a))
  reached_by kind k p w l =
      let (m, i, (j, g, e)) = atom_kept At f es counted kind k p w in
      let s = numbers.small g in
      (atom_of_kind kind m, i, omega (arith, e, l, s))

module _ (At : ℕ → Message → Type 0) (numbers : AreNumbers At) {s : Sum} {es : Effect} (h : StandsForEffect At s es) (n : ℕ) where
  pub unreached_below : ((kind : AtomKind) (k : ℕ) → 0 < count_of (part kind s) k → k < (n + 1) * 4294967296) → Below n es
  unreached_below u = unreached_by At numbers (λ kind q. count_of (part kind s) q) es h.counted n h.known u

  pub reached_in : (kind : AtomKind) (k : ℕ) → 0 < count_of (part kind s) k → (n + 1) * 4294967296 ≤ k → (a : Atom) × In a es × (n + 1 ≤ name_bound (message_of a))
  reached_in kind k p l = reached_by At numbers (λ kind q. count_of (part kind s) q) es h.counted n kind k p (h.kept kind k p) l

-- the same where atoms wait
module _ (At : ℕ → Message → Type 0) (numbers : AreNumbers At) {p : Pile} {es : Effect} (h : StandsForPile At p es) (n : ℕ) where
  pub pile_unreached : ((kind : AtomKind) (k : ℕ) → 0 < piled kind p k → k < (n + 1) * 4294967296) → Below n es
  pile_unreached u = unreached_by At numbers (λ kind q. piled kind p q) es h.counted n h.known u

  pub pile_reached : (kind : AtomKind) (k : ℕ) → 0 < piled kind p k → (n + 1) * 4294967296 ≤ k → (a : Atom) × In a es × (n + 1 ≤ name_bound (message_of a))
  pile_reached kind k q l = reached_by At numbers (λ kind q. piled kind p q) es h.counted n kind k q (h.kept kind k q) l
