-- Effects that are held by counts and by loose names: what operations on the counts do to them.
use Rattle.std.proofs.Common.{◌≡◌, refl, sym, ap, ◌∙◌, subst, ℕ, zero, suc, ◌+◌, ◌*◌, ◌<◌, ◌≤◌, max, Bool, true, false, ◌&&◌, ◌||◌, true≢false, [], ◌∷◌, ◌++◌, ◌⊎◌, inl, inr, ⊎_elim, arith}
use Rattle.std.specs.BTreeMap.{BTreeMap}
use Rattle.std.proofs.lemmas.Bool.{lt-ltb, le-ltb, ltb-true, ltb-false, eqb-true, or_left, or_right, cases_Bool}
use Rattle.spi_count.proofs.Standing.{zero_or}
use Rattle.spi_term.specs.Term.{Message, bound, name, unit, pair, in_left, in_right, enc, hash, Atom, Effect}
use Rattle.spi_term.specs.Lists.{In, in_first, in_later}
use Rattle.spi_term.specs.Counts.{tally, cut, count, SameEffect}
use Rattle.spi_term.proofs.Counting.{count_tally, count_in, in_count, count_none, cut_twice}
use Rattle.spi_effect.specs.Effect.{IsMany}
use Rattle.spi_effect.specs.Made.{minus, greater, is_free, is_free_at, mentions}
use Rattle.spi_effect.proofs.Made.{minus_difference, greater_is, and_true}
use Rattle.spi_effect.proofs.Laws.{sum_append}
use Rattle.spi_intern.specs.declared.store.Store.{Store}
use Rattle.spi_count.specs.Counts.{count_of, IsNothing}
use Rattle.spi_count.specs.Sums.{name_bound, part, both_counts, Below}
use Rattle.spi_count.specs.declared.sum.AtomKind.{AtomKind}
use Rattle.spi_count.specs.declared.sum.Sum.{Sum}
use Rattle.spi_count.proofs.Standing.{stands_none, stands_same, stands_joined, stands_greatest, in_mentions, unreached_below, reached_in, free_at}
use Rattle.spi_count.specs.declared.keys.Keys.{Keys}
use Rattle.spi_count.specs.Keeping.{with_keys, IsKeyed}
use Rattle.spi_count.specs.Adding.{SumOf}
use Rattle.spi_audit.specs.Accounts.{HeldBy, outer}
use Rattle.spi_count.proofs.Summed.{numbers}
use Rattle.spi_intern.specs.Parts.{message_of}

-- counts
pub positive : {m n : ℕ} → m ≡ n → 0 < m → 0 < n
positive e p = subst (λ n. 0 < n) e p

cut_either : (a : Atom) (m n : ℕ) → 0 < cut a (m + n) → (0 < m) ⊎ (0 < n)
cut_either a m n p = let q = (count_tally a (m + n)).0 p in ⊎_elim (λ e. inr (omega (arith, q, e))) inl (zero_or m)

cut_left : (a : Atom) (m n : ℕ) → 0 < m → 0 < cut a (m + n)
cut_left a m n p = (count_tally a (m + n)).1 (omega (arith, p))

cut_right : (a : Atom) (m n : ℕ) → 0 < n → 0 < cut a (m + n)
cut_right a m n p = (count_tally a (m + n)).1 (omega (arith, p))

-- names
pub mentions_in : (y : ℕ) (es : Effect) → mentions y es ≡ true → (a : Atom) × In a es × (is_free_at y a ≡ true)
mentions_in y [] e = cc
mentions_in y (a ∷ es) e = go (is_free_at y a) refl e (mentions_in y es)
  where
    go : (b : Bool) → is_free_at y a ≡ b → (b || mentions y es) ≡ true → (mentions y es ≡ true → (c : Atom) × In c es × (is_free_at y c ≡ true)) → (c : Atom) × In c (a ∷ es) × (is_free_at y c ≡ true)
    go true f e ih = (a, in_first, f)
    go false f e ih = let (c, n, g) = ih e in (c, in_later n, g)

pub in_mentioned : (y : ℕ) (a : Atom) (es : Effect) → In a es → is_free_at y a ≡ true → mentions y es ≡ true
in_mentioned y a [] n f = elim n [ ]
in_mentioned y a (b ∷ es) in_first f = or_left (is_free_at y a) (mentions y es) f
in_mentioned y a (b ∷ es) (in_later n) f = or_right (is_free_at y b) (mentions y es) (in_mentioned y a es n f)

or_nothing : (b : Bool) → (b || false) ≡ true → b ≡ true
or_nothing true e = refl
or_nothing false e = e

-- the greatest name of an atom stands in it
pub last_free : (x : ℕ) (a : Atom) → name_bound (message_of a) ≡ suc x → is_free_at x a ≡ true
last_free x a e = or_nothing (is_free_at x a) (in_mentions x a (a ∷ []) in_first e)

pub bound_of : (n : ℕ) → 0 < n → (x : ℕ) × (n ≡ suc x)
bound_of zero p = absurd (omega (arith, p))
bound_of (suc n) p = (n, refl)

free_two : (x : ℕ) (a b : Message) → (is_free x a || is_free x b) ≡ true → (is_free x a ≡ true → x < name_bound a) → (is_free x b ≡ true → x < name_bound b) → x < max (name_bound a) (name_bound b)
free_two x a b e f g = go (is_free x a) refl e
  where
    go : (t : Bool) → is_free x a ≡ t → (t || is_free x b) ≡ true → x < max (name_bound a) (name_bound b)
    go true h e = let l = f h in omega (arith, l)
    go false h e = let l = g e in omega (arith, l)

-- a name that stands in a message is below its bound
free_below : (x : ℕ) (m : Message) → is_free x m ≡ true → x < name_bound m
free_below x (bound i) e = cc
free_below x (name y) e = let f = eqb-true x y e in omega (arith, f)
free_below x unit e = cc
free_below x (pair a b) e = free_two x a b e (free_below x a) (free_below x b)
free_below x (in_left a) e = free_below x a e
free_below x (in_right a) e = free_below x a e
free_below x (enc a b) e = free_two x a b e (free_below x a) (free_below x b)
free_below x (hash a) e = free_below x a e

pub free_at_below : (x : ℕ) (a : Atom) → is_free_at x a ≡ true → x < name_bound (message_of a)
free_at_below x a e = free_below x (message_of a) (sym (free_at x a) ∙ e)

-- scopes
pub outer_true : (n : ℕ) (a : Atom) → outer n a ≡ true → n < name_bound (message_of a)
outer_true n a e = ltb-true n (name_bound (message_of a)) e

pub outer_false : (n : ℕ) (a : Atom) → outer n a ≡ false → name_bound (message_of a) ≤ n
outer_false n a e = ltb-false n (name_bound (message_of a)) e

pub outer_from : (n : ℕ) (a : Atom) → n < name_bound (message_of a) → outer n a ≡ true
outer_from n a l = lt-ltb n (name_bound (message_of a)) l

pub outer_not : (n : ℕ) (a : Atom) → name_bound (message_of a) ≤ n → outer n a ≡ false
outer_not n a l = le-ltb n (name_bound (message_of a)) l

-- an effect with names in scope alone
pub below_none : (n : ℕ) (fs : Effect) → Below n fs → (a : Atom) → outer n a ≡ true → count a fs ≡ 0
below_none n fs h a o = ⊎_elim (λ e. e) (λ p. absurd (let l = h a (count_in a fs p) in let k = outer_true n a o in omega (arith, l, k))) (zero_or (count a fs))

module _ {s : Store} {keys : Keys} where
  -- nothing is held
  pub held_none : IsKeyed s keys → (L : Atom → Bool) (sum : Sum) (names : BTreeMap ℕ ℕ) → ((kind : AtomKind) → IsNothing (part kind sum)) → IsNothing names → HeldBy s keys L sum names true []
  held_none kd L sum names h n = record {
    inner = [];
    stands = stands_none (with_keys s keys) (numbers kd) h;
    inside = λ a e. refl;
    outside = λ a e. count_none a;
    named = λ a y l p f. absurd (let z = count_none a in omega (arith, z, p));
    names_of = λ y p. absurd (let z = n y in omega (arith, z, p));
    lasts = λ e a l p. absurd (let z = count_none a in omega (arith, z, p));
    once = λ e. absurd (true≢false e);
  }

  -- another effect with the same loose atoms
  held_change : {L : Atom → Bool} {sum new : Sum} {names : BTreeMap ℕ ℕ} {b : Bool} {es : Effect} (rs inner : Effect) → HeldBy s keys L sum names b es → SumOf s keys new inner
      → ((a : Atom) → L a ≡ false → count a inner ≡ count a rs) → ((a : Atom) → L a ≡ true → count a inner ≡ 0) → ((a : Atom) → L a ≡ true → count a rs ≡ count a es) → HeldBy s keys L new names b rs
  held_change rs inner h t f g o = record {
    inner = inner;
    stands = t;
    inside = f;
    outside = g;
    named = λ a y l p q. h.named a y l (positive (o a l) p) q;
    names_of = λ y p. let (a, l, q, r) = h.names_of y p in (a, l, positive (sym (o a l)) q, r);
    lasts = λ e a l p. h.lasts e a l (positive (o a l) p);
    once = λ e. let (a, l, q, r) = h.once e in (a, l, positive (sym (o a l)) q, r);
  }

  pub held_same : {L : Atom → Bool} {sum : Sum} {names : BTreeMap ℕ ℕ} {b : Bool} {es fs : Effect} → HeldBy s keys L sum names b es → SameEffect es fs → HeldBy s keys L sum names b fs
  held_same {fs = fs} h e = held_change fs h.inner h h.stands (λ a l. h.inside a l ∙ e.at a) h.outside (λ a l. sym (e.at a))

  pub held_more : {L : Atom → Bool} {sum new : Sum} {names : BTreeMap ℕ ℕ} {b : Bool} {es : Effect} (fs : Effect) (h : HeldBy s keys L sum names b es) → ((a : Atom) → L a ≡ true → count a fs ≡ 0)
      → SumOf s keys new (h.inner ++ fs) → HeldBy s keys L new names b (es ++ fs)
  held_more {L} {es = es} fs h z t = held_change (es ++ fs) (h.inner ++ fs) h t
      (λ a l. (sum_append h.inner fs).at a ∙ (ap (λ n. cut a (n + count a fs)) (h.inside a l) ∙ sym ((sum_append es fs).at a)))
      (λ a l. let w : count a h.inner + count a fs ≡ 0 = omega (arith, h.outside a l, z a l) in (sum_append h.inner fs).at a ∙ (ap (cut a) w ∙ count_none a))
      (λ a l. let w : count a es + count a fs ≡ count a es = omega (arith, z a l) in (sum_append es fs).at a ∙ (ap (cut a) w ∙ cut_twice a (tally a es)))

  pub held_less : {L : Atom → Bool} {sum new : Sum} {names : BTreeMap ℕ ℕ} {b : Bool} {es : Effect} (fs : Effect) (h : HeldBy s keys L sum names b es) → ((a : Atom) → L a ≡ true → count a fs ≡ 0)
      → SumOf s keys new (minus h.inner fs) → HeldBy s keys L new names b (minus es fs)
  held_less {es = es} fs h z t = held_change (minus es fs) (minus h.inner fs) h t
      (λ a l. let x = (minus_difference h.inner fs).at a in let y = (minus_difference es fs).at a in let w = h.inside a l in omega (arith, x, y, w))
      (λ a l. let x = (minus_difference h.inner fs).at a in let w = h.outside a l in omega (arith, x, w))
      (λ a l. let y = (minus_difference es fs).at a in let w = z a l in omega (arith, y, w))

  -- two effects
  held_both : {L : Atom → Bool} {x y z : Sum} {nx ny nz : BTreeMap ℕ ℕ} {bx by : Bool} {es fs : Effect} (rs inner : Effect) → HeldBy s keys L x nx bx es → HeldBy s keys L y ny by fs → SumOf s keys z inner
      → ((q : ℕ) → count_of nz q ≡ max (count_of nx q) (count_of ny q))
      → ((a : Atom) → L a ≡ false → count a inner ≡ count a rs) → ((a : Atom) → L a ≡ true → count a inner ≡ 0)
      → ((a : Atom) → 0 < count a rs → (0 < count a es) ⊎ (0 < count a fs)) → ((a : Atom) → 0 < count a es → 0 < count a rs) → ((a : Atom) → 0 < count a fs → 0 < count a rs)
      → HeldBy s keys L z nz (bx && by) rs
  held_both {L} {nx = nx} {ny = ny} {nz = nz} {bx = bx} {by = by} {es = es} {fs = fs} rs inner h k t m f g e i j = record {
    inner = inner;
    stands = t;
    inside = f;
    outside = g;
    named = λ a q l p r. ⊎_elim (λ p. let c = h.named a q l p r in let d = m q in omega (arith, c, d)) (λ p. let c = k.named a q l p r in let d = m q in omega (arith, c, d)) (e a p);
    names_of = λ q p. ⊎_elim (λ z. from_second q (let d = m q in omega (arith, d, z, p))) (λ c. from_first q c) (zero_or (count_of nx q));
    lasts = λ b a l p. let r = and_true bx by b in ⊎_elim (λ p. h.lasts r.0 a l p) (λ p. k.lasts r.1 a l p) (e a p);
    once = λ b. not_both (cases_Bool bx) b;
  }
    where
      from_first : (q : ℕ) → 0 < count_of nx q → (a : Atom) × (L a ≡ true) × (0 < count a rs) × (is_free_at q a ≡ true)
      from_first q c = let (a, l, p, r) = h.names_of q c in (a, l, i a p, r)

      from_second : (q : ℕ) → 0 < count_of ny q → (a : Atom) × (L a ≡ true) × (0 < count a rs) × (is_free_at q a ≡ true)
      from_second q c = let (a, l, p, r) = k.names_of q c in (a, l, j a p, r)

      not_both : (bx ≡ true) ⊎ (bx ≡ false) → (bx && by) ≡ false → (a : Atom) × (L a ≡ true) × (0 < count a rs) × (IsMany a → ⊥)
      not_both (inl c) b = let d : by ≡ false = ap (λ x. x && by) (sym c) ∙ b in let (a, l, p, r) = k.once d in (a, l, j a p, r)
      not_both (inr c) b = let (a, l, p, r) = h.once c in (a, l, i a p, r)

  pub held_joined : IsKeyed s keys → {L : Atom → Bool} {x y z : Sum} {nx ny nz : BTreeMap ℕ ℕ} {bx by : Bool} {es fs : Effect} → HeldBy s keys L x nx bx es → HeldBy s keys L y ny by fs
      → ((kind : AtomKind) (q : ℕ) → count_of (part kind z) q ≡ both_counts kind (count_of (part kind x) q) (count_of (part kind y) q))
      → ((q : ℕ) → count_of nz q ≡ max (count_of nx q) (count_of ny q)) → HeldBy s keys L z nz (bx && by) (es ++ fs)
  held_joined kd {es = es} {fs = fs} h k t m =
      held_both (es ++ fs) (h.inner ++ k.inner) h k (stands_joined (with_keys s keys) (numbers kd) h.stands k.stands t) m
      (λ a l. (sum_append h.inner k.inner).at a ∙ (ap (λ n. cut a (n + count a k.inner)) (h.inside a l) ∙ (ap (λ n. cut a (count a es + n)) (k.inside a l) ∙ sym ((sum_append es fs).at a))))
      (λ a l. let w : count a h.inner + count a k.inner ≡ 0 = omega (arith, h.outside a l, k.outside a l) in (sum_append h.inner k.inner).at a ∙ (ap (cut a) w ∙ count_none a))
      (λ a p. cut_either a (count a es) (count a fs) (positive ((sum_append es fs).at a) p))
      (λ a p. positive (sym ((sum_append es fs).at a)) (cut_left a (count a es) (count a fs) p))
      (λ a p. positive (sym ((sum_append es fs).at a)) (cut_right a (count a es) (count a fs) p))

  pub held_greatest : IsKeyed s keys → {L : Atom → Bool} {x y z : Sum} {nx ny nz : BTreeMap ℕ ℕ} {bx by : Bool} {es fs : Effect} → HeldBy s keys L x nx bx es → HeldBy s keys L y ny by fs
      → ((kind : AtomKind) (q : ℕ) → count_of (part kind z) q ≡ max (count_of (part kind x) q) (count_of (part kind y) q))
      → ((q : ℕ) → count_of nz q ≡ max (count_of nx q) (count_of ny q)) → HeldBy s keys L z nz (bx && by) (greater es fs)
  held_greatest kd {es = es} {fs = fs} h k t m =
      held_both (greater es fs) (greater h.inner k.inner) h k (stands_greatest (with_keys s keys) (numbers kd) h.stands k.stands t) m
      (λ a l. let x = (greater_is h.inner k.inner).at a in let y = (greater_is es fs).at a in let u = h.inside a l in let v = k.inside a l in omega (arith, x, y, u, v))
      (λ a l. let x = (greater_is h.inner k.inner).at a in let u = h.outside a l in let v = k.outside a l in omega (arith, x, u, v))
      (λ a p. let y = (greater_is es fs).at a in ⊎_elim (λ z. inr (omega (arith, y, p, z))) inl (zero_or (count a es)))
      (λ a p. let y = (greater_is es fs).at a in omega (arith, y, p))
      (λ a p. let y = (greater_is es fs).at a in omega (arith, y, p))

  -- the same atoms are loose by another test, and the same are counted by another sum
  pub held_other : {L M : Atom → Bool} {sum new : Sum} {names : BTreeMap ℕ ℕ} {b : Bool} {es : Effect} (h : HeldBy s keys L sum names b es) → SumOf s keys new h.inner → ((a : Atom) → 0 < count a es → L a ≡ M a) → HeldBy s keys M new names b es
  held_other {L} {M} {es = es} h stands e = record {
    inner = h.inner;
    stands = stands;
    inside = λ a m. ⊎_elim (λ z. none a z (cases_Bool (L a))) (λ p. h.inside a (e a p ∙ m)) (zero_or (count a es));
    outside = λ a m. ⊎_elim (λ z. gone a z (cases_Bool (L a))) (λ p. h.outside a (e a p ∙ m)) (zero_or (count a es));
    named = λ a y m p f. h.named a y (e a p ∙ m) p f;
    names_of = λ y p. let (a, l, q, f) = h.names_of y p in (a, sym (e a q) ∙ l, q, f);
    lasts = λ c a m p. h.lasts c a (e a p ∙ m) p;
    once = λ c. let (a, l, q, f) = h.once c in (a, sym (e a q) ∙ l, q, f);
  }
    where
      none : (a : Atom) → count a es ≡ 0 → (L a ≡ true) ⊎ (L a ≡ false) → count a h.inner ≡ count a es
      none a z (inl l) = h.outside a l ∙ sym z
      none a z (inr l) = h.inside a l

      gone : (a : Atom) → count a es ≡ 0 → (L a ≡ true) ⊎ (L a ≡ false) → count a h.inner ≡ 0
      gone a z (inl l) = h.outside a l
      gone a z (inr l) = h.inside a l ∙ z

  -- an effect with names in scope alone is held by counts
  pub held_below : IsKeyed s keys → (n : ℕ) {sum : Sum} {names : BTreeMap ℕ ℕ} {b : Bool} {es : Effect} → HeldBy s keys (outer n) sum names b es → Below n es → SumOf s keys sum es
  held_below kd n {es = es} h l =
      stands_same (with_keys s keys) (numbers kd) h.stands (λ a. ⊎_elim (λ o. h.outside a o ∙ sym (below_none n es l a o)) (λ o. h.inside a o) (cases_Bool (outer n a)))

  -- what stands within isn't loose, and stands in the effect
  pub inner_in : {L : Atom → Bool} {sum : Sum} {names : BTreeMap ℕ ℕ} {b : Bool} {es : Effect} (h : HeldBy s keys L sum names b es) (a : Atom) → 0 < count a h.inner → (L a ≡ false) × (0 < count a es)
  inner_in {L} h a p = ⊎_elim (λ l. absurd (let z = h.outside a l in omega (arith, z, p))) (λ l. (l, positive (h.inside a l) p)) (cases_Bool (L a))

  -- names from k on, which are within by counts or not
  module _ (kd : IsKeyed s keys) (n k : ℕ) (le : k ≤ n) {sum : Sum} {names : BTreeMap ℕ ℕ} {b : Bool} {es : Effect} (h : HeldBy s keys (outer n) sum names b es) where
    stays : ((kind : AtomKind) (q : ℕ) → 0 < count_of (part kind sum) q → q < (k + 1) * 4294967296) → (a : Atom) → 0 < count a es → name_bound (message_of a) ≤ n → name_bound (message_of a) ≤ k
    stays u a p l =
        let f = h.inside a (outer_not n a l) in
        unreached_below (with_keys s keys) (numbers kd) h.stands k u a (let r : 0 < count a h.inner = positive (sym f) p in count_in a h.inner r)

    pub cut_clean : ((kind : AtomKind) (q : ℕ) → 0 < count_of (part kind sum) q → q < (k + 1) * 4294967296) → HeldBy s keys (outer k) sum names b es × ((a : Atom) → 0 < count a es → name_bound (message_of a) ≤ n → name_bound (message_of a) ≤ k)
    cut_clean u = (held_other h h.stands same, stays u)
      where
        same : (a : Atom) → 0 < count a es → outer n a ≡ outer k a
        same a p = ⊎_elim
            (λ l. l ∙ sym (outer_from k a (let o = outer_true n a l in omega (arith, o, le))))
            (λ l. l ∙ sym (outer_not k a (stays u a p (outer_false n a l))))
            (cases_Bool (outer n a))

    pub cut_found : (kind : AtomKind) × (q : ℕ) × (0 < count_of (part kind sum) q) × ((k + 1) * 4294967296 ≤ q) → (a : Atom) × (0 < count a es) × (k < name_bound (message_of a)) × (name_bound (message_of a) ≤ n)
    cut_found (kind, q, p, l) =
        let (a, i, o) = reached_in (with_keys s keys) (numbers kd) h.stands k kind q p l in
        let w = inner_in h a (in_count a h.inner i) in
        (a, w.1, omega (arith, o), outer_false n a w.0)
