-- Atoms that become loose, and names that leave.
use Rattle.std.proofs.Common.{◌≡◌, ◌≢◌, refl, sym, ap, ◌∙◌, subst, ℕ, zero, suc, ◌+◌, ◌-◌, ◌*◌, ◌<◌, ◌≤◌, Bool, true, false, not, ◌&&◌, ◌||◌, true≢false, ◌⊎◌, inl, inr, ⊎_elim, arith, ◌↔◌, IsTrue}
use Rattle.std.specs.Prelude.{if◌then◌else◌, nat_eq}
use Rattle.std.specs.BTreeMap.{BTreeMap}
use Rattle.std.proofs.lemmas.Bool.{eqb-true, or_left, or_right, cases_Bool, or_cases}
use Rattle.spi_term.specs.Term.{Message, Atom, ends, checks, many, same_atom, Effect}
use Rattle.spi_term.specs.Counts.{cut, count}
use Rattle.spi_term.proofs.Choices.{one_false, truths}
use Rattle.spi_term.proofs.Counting.{same_atom_refl, same_atom_true, count_in, in_count, count_none}
use Rattle.spi_effect.specs.Effect.{IsMany}
use Rattle.spi_effect.specs.Made.{are_many, every_out, is_free, is_free_at, mentions}
use Rattle.spi_effect.proofs.Made.{tally_every_other, tally_every_same, are_many_sound, are_many_complete, or_false, both_false, and_true, both_true}
use Rattle.spi_effect.proofs.Laws.{AllMany_in, AllMany_of}
use Rattle.spi_intern.specs.declared.store.Store.{Store}
use Rattle.spi_count.specs.Counts.{count_of, IsNothing}
use Rattle.spi_count.specs.Sums.{name_bound, key_of, kind_of_atom, part, Puts}
use Rattle.spi_count.specs.declared.sum.AtomKind.{AtomKind}
use Rattle.spi_count.specs.declared.sum.AtomKind.TheVariants.{End, Check, Many}
use Rattle.spi_count.specs.declared.sum.Sum.{Sum}
use Rattle.spi_count.proofs.Standing.{same_kind, put_at, stands_many, many_stands, in_mentions, unreached_below, free_at}
use Rattle.spi_count.specs.declared.keys.Keys.{Keys}
use Rattle.spi_audit.specs.declared.accounts.Account.{Account}
use Rattle.spi_count.specs.Keeping.{with_keys, IsKeyed}
use Rattle.spi_count.specs.Adding.{IsKey, SumOf}
use Rattle.spi_audit.specs.Accounts.{HeldBy, outer, Marks, lasting_with, IsScopeCut, LeavesOne, LeavesTwo}
use Rattle.spi_count.proofs.Summed.{numbers}
use Rattle.spi_count.proofs.Standing.{zero_or}
use Rattle.spi_audit.proofs.Holding.{inner_in, held_other, outer_true, outer_false, outer_from, outer_not, mentions_in, in_mentioned, free_at_below, positive}
use Rattle.spi_intern.specs.Parts.{message_of}

-- an effect with each of an atom out
count_every : (c a : Atom) (es : Effect) → count c (every_out a es) ≡ (if same_atom c a then 0 else count c es)
count_every c a es = go (same_atom c a) refl
  where
    go : (t : Bool) → same_atom c a ≡ t → count c (every_out a es) ≡ (if t then 0 else count c es)
    go true e = subst (λ b. count c (every_out b es) ≡ 0) (same_atom_true c a e) (ap (cut c) (tally_every_same c es) ∙ count_none c)
    go false e = ap (cut c) (tally_every_other c a es (λ f. true≢false (sym (same_atom_refl c) ∙ (ap (same_atom c) f ∙ e))))

big_name : (k above i q : ℕ) → q ≡ key_of above i → i < 4294967296 → (k + 1) * 4294967296 ≤ q → k < above
big_name k above i q e l m = omega (arith, e, l, m)

not_is : (b m : Bool) → (b ≡ true → m ≡ false) → (b ≡ false → m ≡ true) → b ≡ not m
not_is true m f g = ap not (sym (f refl))
not_is false m f g = ap not (sym (g refl))

zero_no : (n : ℕ) → nat_eq n 0 ≡ false → 0 < n
zero_no zero e = absurd (true≢false e)
zero_no (suc n) e = omega arith

next_name : (b k : ℕ) → k < b → b ≤ suc k → b ≡ suc k
next_name b k l m = omega (arith, l, m)

one_or_next : (n k : ℕ) → k < n → n ≤ suc (suc k) → (n ≡ suc k) ⊎ (n ≡ suc (suc k))
one_or_next n k h l = go (n - (k + 1)) refl
  where
    go : (d : ℕ) → n - (k + 1) ≡ d → (n ≡ suc k) ⊎ (n ≡ suc (suc k))
    go zero e = inl (omega (arith, e, h, l))
    go (suc d) e = inr (omega (arith, e, h, l))

-- counts that are the same
stands_parts : (s : Store) (keys : Keys) {old new : Sum} {es : Effect} → ((kind : AtomKind) → part kind new ≡ part kind old) → SumOf s keys old es → SumOf s keys new es
stands_parts s keys {old} {new} e h = record {
  counted = λ a i g. ap (λ m. count_of m (key_of (name_bound (message_of a)) i)) (e (kind_of_atom a)) ∙ h.counted a i g;
  known = h.known;
  kept = λ kind q p. h.kept kind q (subst (λ (m : _). 0 < count_of m q) (e kind) p);
}

-- what has become loose so far
pub record Loosened (s : Store) (keys : Keys) (k : ℕ) (from : Atom → Bool) (sum : Sum) (names : BTreeMap ℕ ℕ) (b : Bool) (es : Effect) : Type 0 where
  pub loose : Atom → Bool
  pub held : HeldBy s keys loose sum names b es
  pub by : (a : Atom) → loose a ≡ true → (from a ≡ true) ⊎ (k < name_bound (message_of a))

module _ {s : Store} {keys : Keys} where
  pub loosened_start : (k : ℕ) {from : Atom → Bool} {sum : Sum} {names : BTreeMap ℕ ℕ} {b : Bool} {es : Effect} → HeldBy s keys from sum names b es → Loosened s keys k from sum names b es
  loosened_start k {from} h = record { loose = from; held = h; by = λ a e. inl e }

  -- the counts without an atom
  stands_out : IsKeyed s keys → {sum new : Sum} (inner : Effect) → SumOf s keys sum inner → (a : Atom) (i : ℕ) → with_keys s keys i (message_of a) → Puts (kind_of_atom a) sum new (key_of (name_bound (message_of a)) i) 0 → SumOf s keys new (every_out a inner)
  stands_out kd {sum} {new} inner h a i g put = record {
    counted = λ c j gj. put_at (with_keys s keys) (numbers kd) a i 0 g put c j gj ∙ (ap (λ n. if same_atom c a then 0 else n) (h.counted c j gj) ∙ sym (count_every c a inner));
    known = λ c n. known_of c (same_atom c a) refl (in_count c (every_out a inner) n);
    kept = λ kind q p. h.kept kind q (kept_of kind q p (same_kind kind (kind_of_atom a)));
  }
    where
      known_of : (c : Atom) (t : Bool) → same_atom c a ≡ t → 0 < count c (every_out a inner) → (j : ℕ) × with_keys s keys j (message_of c)
      known_of c true e p = absurd (let z = count_every c a inner ∙ ap (λ t. if t then 0 else count c inner) e in omega (arith, z, p))
      known_of c false e p = h.known c (let q : 0 < count c inner = positive (count_every c a inner ∙ ap (λ t. if t then 0 else count c inner) e) p in count_in c inner q)

      cases : (q : ℕ) (v : Bool) → 0 < (if v then 0 else count_of (part (kind_of_atom a) sum) q) → 0 < count_of (part (kind_of_atom a) sum) q
      cases q true l = absurd (omega (arith, l))
      cases q false l = l

      kept_of : (kind : AtomKind) (q : ℕ) → 0 < count_of (part kind new) q → (kind ≡ kind_of_atom a) ⊎ (kind ≢ kind_of_atom a) → 0 < count_of (part kind sum) q
      kept_of kind q p (inl d) =
          let m : 0 < count_of (part (kind_of_atom a) new) q = subst (λ kind. 0 < count_of (part kind new) q) d p in
          subst (λ kind. 0 < count_of (part kind sum) q) (sym d) (cases q _ (subst (λ n. 0 < n) (put.here q) m))
      kept_of kind q p (inr d) = subst (λ (m : _). 0 < count_of m q) (put.others kind d) p

  -- one atom more is loose
  loosen_atom : IsKeyed s keys → {k : ℕ} {from : Atom → Bool} {sum new : Sum} {names nexts : BTreeMap ℕ ℕ} {b : Bool} {es : Effect} → Loosened s keys k from sum names b es → (a : Atom) (i : ℕ) → with_keys s keys i (message_of a)
      → 0 < count_of (part (kind_of_atom a) sum) (key_of (name_bound (message_of a)) i) → Puts (kind_of_atom a) sum new (key_of (name_bound (message_of a)) i) 0 → Marks names nexts (message_of a) → (next : Bool)
      → (next ≡ true → (b ≡ true) × IsMany a) → (next ≡ false → (b ≡ false) ⊎ (IsMany a → ⊥)) → k < name_bound (message_of a) → Loosened s keys k from new nexts next es
  loosen_atom kd {k} {from} {sum} {new} {names} {nexts} {b} {es} w a i g p put mk next many_so not_so big = record {
    loose = λ c. w.loose c || same_atom c a;
    held = record {
      inner = every_out a w.held.inner;
      stands = stands_out kd w.held.inner w.held.stands a i g put;
      inside = λ c e. let r = or_false (w.loose c) (same_atom c a) e in count_every c a w.held.inner ∙ (ap (λ t. if t then 0 else count c w.held.inner) r.1 ∙ w.held.inside c r.0);
      outside = λ c e. outside_of c (same_atom c a) refl e;
      named = λ c y e q f. ⊎_elim (λ l. mk.0 y (w.held.named c y l q f)) (λ l. mk.1 y (free_here c y (same_atom_true c a l) f)) (or_cases (w.loose c) (same_atom c a) e);
      names_of = λ y q. names_at y q (cases_Bool (is_free y (message_of a)));
      lasts = λ e c l q. let r = many_so e in ⊎_elim (λ l. w.held.lasts r.0 c l q) (λ l. subst IsMany (sym (same_atom_true c a l)) r.1) (or_cases (w.loose c) (same_atom c a) l);
      once = λ e. ⊎_elim (λ f. let (c, l, q, n) = w.held.once f in (c, or_left (w.loose c) (same_atom c a) l, q, n)) (λ n. (a, or_right (w.loose a) (same_atom a a) (same_atom_refl a), here.1, n)) (not_so e);
    };
    by = λ c e. ⊎_elim (λ l. w.by c l) (λ l. inr (subst (λ (c : Atom). k < name_bound (message_of c)) (sym (same_atom_true c a l)) big)) (or_cases (w.loose c) (same_atom c a) e);
  }
    where
      here : (w.loose a ≡ false) × (0 < count a es)
      here = inner_in w.held a (positive (w.held.stands.counted a i g) p)

      outside_of : (c : Atom) (t : Bool) → same_atom c a ≡ t → (w.loose c || same_atom c a) ≡ true → count c (every_out a w.held.inner) ≡ 0
      outside_of c true f e = count_every c a w.held.inner ∙ ap (λ t. if t then 0 else count c w.held.inner) f
      outside_of c false f e =
          let l = ⊎_elim (λ (l : w.loose c ≡ true). l) (λ (l : same_atom c a ≡ true). absurd (true≢false (sym l ∙ f))) (or_cases (w.loose c) (same_atom c a) e) in
          count_every c a w.held.inner ∙ (ap (λ t. if t then 0 else count c w.held.inner) f ∙ w.held.outside c l)

      free_here : (c : Atom) (y : ℕ) → c ≡ a → is_free_at y c ≡ true → is_free y (message_of a) ≡ true
      free_here c y e f = sym (free_at y a) ∙ (ap (is_free_at y) (sym e) ∙ f)

      names_at : (y : ℕ) → 0 < count_of nexts y → (is_free y (message_of a) ≡ true) ⊎ (is_free y (message_of a) ≡ false) → (c : Atom) × ((w.loose c || same_atom c a) ≡ true) × (0 < count c es) × (is_free_at y c ≡ true)
      names_at y q (inl f) = (a, or_right (w.loose a) (same_atom a a) (same_atom_refl a), here.1, free_at y a ∙ f)
      names_at y q (inr f) =
          ⊎_elim
          (λ z. absurd (let e = mk.2 y z f in omega (arith, e, q)))
          (λ n. let (c, l, r, t) = w.held.names_of y n in (c, or_left (w.loose c) (same_atom c a) l, r, t))
          (zero_or (count_of names y))

  -- all atoms of one kind over one message
  pub loosened_next : IsKeyed s keys → (k : ℕ) {from : Atom → Bool} {sum new : Sum} {names nexts : BTreeMap ℕ ℕ} {b : Bool} {es : Effect} → Loosened s keys k from sum names b es
      → (kind : AtomKind) (q n : ℕ) → (k + 1) * 4294967296 ≤ q → 0 < n → count_of (part kind sum) q ≡ n → Puts kind sum new q 0 → ((r : IsKey s keys q) → Marks names nexts r.1) → (next : Bool) → next ≡ lasting_with b kind → Loosened s keys k from new nexts next es
  loosened_next kd k {from} {sum} {new} {names} {nexts} {b} {es} w kind q n le p e put mk next ne =
      let (i, m, g, f) = w.held.stands.kept kind q (subst (λ n. 0 < n) (sym e) p) in
      go kind i m g f (mk (i, m, g, f)) (big_name k (name_bound m) i q f g.small le) e put ne
    where
      go : (kind : AtomKind) (i : ℕ) (m : Message) → with_keys s keys i m → q ≡ key_of (name_bound m) i → Marks names nexts m → k < name_bound m → count_of (part kind sum) q ≡ n → Puts kind sum new q 0 → next ≡ lasting_with b kind → Loosened s keys k from new nexts next es
      go End i m g f mk big e put ne = loosen_atom kd w (ends m) i g (subst (λ n. 0 < n) (sym (ap (count_of (part End sum)) (sym f) ∙ e)) p) (subst (λ q. Puts End sum new q 0) f put) mk next (λ t. absurd (true≢false (sym t ∙ ne))) (λ t. inr (λ x. x)) big
      go Check i m g f mk big e put ne = loosen_atom kd w (checks m) i g (subst (λ n. 0 < n) (sym (ap (count_of (part Check sum)) (sym f) ∙ e)) p) (subst (λ q. Puts Check sum new q 0) f put) mk next (λ t. absurd (true≢false (sym t ∙ ne))) (λ t. inr (λ x. x)) big
      go Many i m g f mk big e put ne = loosen_atom kd w (many m) i g (subst (λ n. 0 < n) (sym (ap (count_of (part Many sum)) (sym f) ∙ e)) p) (subst (λ q. Puts Many sum new q 0) f put) mk next (λ t. (sym ne ∙ t, tt)) (λ t. inl (sym ne ∙ t)) big

  pub loosened_key : {k : ℕ} {from : Atom → Bool} {sum : Sum} {names : BTreeMap ℕ ℕ} {b : Bool} {es : Effect} → Loosened s keys k from sum names b es → (kind : AtomKind) (q n : ℕ) → 0 < n → count_of (part kind sum) q ≡ n → IsKey s keys q
  loosened_key w kind q n p e = w.held.stands.kept kind q (subst (λ n. 0 < n) (sym e) p)

  pub loosened_end : IsKeyed s keys → (k n : ℕ) → k ≤ n → {old new : Sum} {names : BTreeMap ℕ ℕ} {b : Bool} {es : Effect} → Loosened s keys k (outer n) old names b es
      → ((kind : AtomKind) → part kind new ≡ part kind old) → ((kind : AtomKind) (q : ℕ) → 0 < count_of (part kind old) q → q < (k + 1) * 4294967296) → HeldBy s keys (outer k) new names b es
  loosened_end kd k n le {es = es} w e u = held_other w.held (stands_parts s keys e w.held.stands) same
    where
      same : (a : Atom) → 0 < count a es → w.loose a ≡ outer k a
      same a p = ⊎_elim
          (λ l. l ∙ sym (outer_from k a (⊎_elim (λ f. let o = outer_true n a f in let r : k < name_bound (message_of a) = omega (arith, o, le) in r) (λ o. o) (w.by a l))))
          (λ l. l ∙ sym (outer_not k a (unreached_below (with_keys s keys) (numbers kd) w.held.stands k u a (let q : 0 < count a w.held.inner = positive (sym (w.held.inside a l)) p in count_in a w.held.inner q))))
          (cases_Bool (w.loose a))

  -- which names an effect has
  module _ (k n : ℕ) {sum : Sum} {names : BTreeMap ℕ ℕ} {b : Bool} {es : Effect} (h : HeldBy s keys (outer n) sum names b es) where
    unmentioned : (y : ℕ) → k ≤ y → ((a : Atom) → 0 < count a es → name_bound (message_of a) ≤ n → name_bound (message_of a) ≤ k) → count_of names y ≡ 0 → mentions y es ≡ false
    unmentioned y le st z = ⊎_elim (λ e. absurd (found e)) (λ e. e) (cases_Bool (mentions y es))
      where
        found : mentions y es ≡ true → ⊥
        found e =
            let (a, i, f) = mentions_in y es e in
            ⊎_elim
            (λ l. let p = h.named a y l (in_count a es i) f in omega (arith, p, z))
            (λ l. let q = st a (in_count a es i) (outer_false n a l) in let r = free_at_below y a f in omega (arith, q, r, le))
            (cases_Bool (outer n a))

    mentioned : (y : ℕ) → 0 < count_of names y → mentions y es ≡ true
    mentioned y p = let (a, l, q, f) = h.names_of y p in in_mentioned y a es (count_in a es q) f

  pub left_one : (k : ℕ) (old new : Account) (inside : Bool) (loose : ℕ) → loose ≡ count_of old.loose.counts k → IsScopeCut s keys k old inside new → LeavesOne s keys k old (inside && nat_eq loose 0) new
  left_one k old new inside loose e c es h =
      let w = c (suc k) es (omega arith) h in (
        w.0,
        not_is (inside && nat_eq loose 0) (mentions k es)
            (λ t. let r = and_true inside (nat_eq loose 0) t in unmentioned k (suc k) h k (omega arith) (w.1 r.0) (sym e ∙ eqb-true loose 0 r.1))
            (λ t. ⊎_elim
            (λ i. let (a, p, l, m) = w.2 i in in_mentions k a es (count_in a es p) (next_name (name_bound (message_of a)) k l m))
            (λ z. mentioned k (suc k) h k (subst (λ n. 0 < n) e (zero_no loose z)))
            (one_false inside (nat_eq loose 0) t)),
      )

  pub left_two : (k : ℕ) (old new : Account) (inside : Bool) (x y z : ℕ) → z ≡ suc k → x ≡ count_of old.loose.counts k → y ≡ count_of old.loose.counts z → IsScopeCut s keys k old inside new → LeavesTwo s keys k old ((inside && nat_eq x 0) && nat_eq y 0) new
  left_two k old new inside x y z q e f c es h =
      let w = c (suc (suc k)) es (omega arith) h in
      let f' : y ≡ count_of old.loose.counts (suc k) = f ∙ ap (count_of old.loose.counts) q in (
        w.0,
        not_is ((inside && nat_eq x 0) && nat_eq y 0) (mentions k es || mentions (suc k) es)
            (λ t.
            let r = and_true (inside && nat_eq x 0) (nat_eq y 0) t in let r' = and_true inside (nat_eq x 0) r.0 in
            both_false (unmentioned k (suc (suc k)) h k (omega arith) (w.1 r'.0) (sym e ∙ eqb-true x 0 r'.1)) (unmentioned k (suc (suc k)) h (suc k) (omega arith) (w.1 r'.0) (sym f' ∙ eqb-true y 0 r.1)))
            (λ t. ⊎_elim
            (λ t. ⊎_elim
            (λ i. let (a, p, l, m) = w.2 i in
            ⊎_elim (λ b. or_left (mentions k es) (mentions (suc k) es) (in_mentions k a es (count_in a es p) b)) (λ b. or_right (mentions k es) (mentions (suc k) es) (in_mentions (suc k) a es (count_in a es p) b)) (one_or_next (name_bound (message_of a)) k l m))
            (λ o. or_left (mentions k es) (mentions (suc k) es) (mentioned k (suc (suc k)) h k (subst (λ n. 0 < n) e (zero_no x o))))
            (one_false inside (nat_eq x 0) t))
            (λ o. or_right (mentions k es) (mentions (suc k) es) (mentioned k (suc (suc k)) h (suc k) (subst (λ n. 0 < n) f' (zero_no y o))))
            (one_false (inside && nat_eq x 0) (nat_eq y 0) t)),
      )

  -- whether each atom is a `many`
  pub many_is : IsKeyed s keys → (n : ℕ) {sum : Sum} {names : BTreeMap ℕ ℕ} {b : Bool} {es : Effect} → HeldBy s keys (outer n) sum names b es → (m : Bool) → IsTrue m ↔ (IsNothing (part End sum) × IsNothing (part Check sum)) → (b && m) ≡ are_many es
  many_is kd n {sum} {names} {b} {es} h m t = truths (b && m) (are_many es) to from
    where
      to : (b && m) ≡ true → are_many es ≡ true
      to e =
          let r = and_true b m e in
          let z = t.0 r.1 in
          let all = are_many_sound h.inner (stands_many (with_keys s keys) (numbers kd) h.stands z.0 z.1) in
          are_many_complete es (AllMany_of es (λ a i. ⊎_elim (λ l. h.lasts r.0 a l (in_count a es i)) (λ l. let p : 0 < count a es = in_count a es i in let q : 0 < count a h.inner = positive (sym (h.inside a l)) p in AllMany_in (count_in a h.inner q) all) (cases_Bool (outer n a))))

      from : are_many es ≡ true → (b && m) ≡ true
      from e =
          let all = are_many_sound es e in
          let inner = are_many_complete h.inner (AllMany_of h.inner (λ a i. AllMany_in (count_in a es (inner_in h a (in_count a h.inner i)).1) all)) in
          both_true
          (⊎_elim (λ f. f) (λ f. absurd (let (a, l, p, no_many) = h.once f in no_many (AllMany_in (count_in a es p) all))) (cases_Bool b))
          (t.1 (many_stands (with_keys s keys) (numbers kd) h.stands inner))
