-- Whether one effect is within another, by their counts.
use Rattle.std.proofs.Common.{◌≡◌, refl, sym, ap, ◌∙◌, subst, ℕ, ◌<◌, ◌≤◌, Bool, true, false, ◌&&◌, eqb, ◌⊎◌, inl, inr, ⊎_elim, arith, ◌↔◌, IsTrue}
use Rattle.std.specs.Prelude.{if◌then◌else◌}
use Rattle.std.specs.BTreeMap.{BTreeMap}
use Rattle.spi_term.specs.Term.{Message, Atom, ends, checks, many, Effect}
use Rattle.spi_term.specs.Counts.{count}
use Rattle.spi_term.proofs.Counting.{count_in}
use Rattle.spi_effect.specs.Made.{is_within}
use Rattle.spi_effect.proofs.Made.{is_within_sound, is_within_complete, and_true, both_true}
use Rattle.spi_intern.specs.declared.store.Store.{Store}
use Rattle.spi_term.proofs.Choices.{truths}
use Rattle.spi_count.specs.Counts.{count_of, IsNothing}
use Rattle.spi_count.specs.Sums.{name_bound, key_of, kind_of_atom, part, Puts, Below}
use Rattle.spi_count.specs.declared.sum.AtomKind.{AtomKind}
use Rattle.spi_count.specs.declared.sum.AtomKind.TheVariants.{End, Check, Many}
use Rattle.spi_count.specs.declared.sum.Sum.{Sum}
use Rattle.spi_count.proofs.Standing.{same_kind}
use Rattle.std.proofs.lemmas.Bool.{eqb-true, cases_Bool}
use Rattle.spi_count.specs.declared.keys.Keys.{Keys}
use Rattle.spi_count.specs.Keeping.{with_keys, IsKeyed}
use Rattle.spi_count.specs.Adding.{SumOf}
use Rattle.spi_audit.specs.Accounts.{HeldBy, outer}
use Rattle.spi_count.proofs.Standing.{zero_or}
use Rattle.spi_audit.proofs.Holding.{below_none, last_free, bound_of, outer_true}
use Rattle.spi_intern.specs.Parts.{message_of}

-- what was taken out is counted in b no lower
abbrev pub IsTakenOut : Sum → Sum → Sum → Type 0
IsTakenOut a b rest = (kind : AtomKind) (q : ℕ) → (count_of (part kind rest) q ≡ count_of (part kind a) q) ⊎ ((count_of (part kind rest) q ≡ 0) × (count_of (part kind a) q ≤ count_of (part kind b) q))

pub taken_start : (a b : Sum) → IsTakenOut a b a
taken_start a b kind q = inl refl

pub taken_next : (a b old new : Sum) (kind : AtomKind) (key n : ℕ) → IsTakenOut a b old → count_of (part kind old) key ≡ n → Puts kind old new key 0 → n ≤ count_of (part kind b) key → IsTakenOut a b new
taken_next a b old new kind key n t e put le k q = ⊎_elim here (λ d. ⊎_elim (λ x. inl (ap (λ m. count_of m q) (put.others k d) ∙ x)) (λ x. inr (ap (λ m. count_of m q) (put.others k d) ∙ x.0, x.1)) (t k q)) (same_kind k kind)
  where
    at : (v : Bool) → eqb key q ≡ v → count_of (part kind new) q ≡ (if v then 0 else count_of (part kind old) q) → (count_of (part kind new) q ≡ count_of (part kind a) q) ⊎ ((count_of (part kind new) q ≡ 0) × (count_of (part kind a) q ≤ count_of (part kind b) q))
    at true v c =
        let f = eqb-true key q v in
        let le' : n ≤ count_of (part kind b) q = subst (λ q. n ≤ count_of (part kind b) q) f le in
        let e' : count_of (part kind old) q ≡ n = ap (count_of (part kind old)) (sym f) ∙ e in
        inr (c, ⊎_elim (λ x. let r : count_of (part kind a) q ≤ count_of (part kind b) q = omega (arith, x, e', le') in r) (λ x. x.1) (t kind q))
    at false v c = ⊎_elim (λ x. inl (c ∙ x)) (λ x. inr (c ∙ x.0, x.1)) (t kind q)

    here : k ≡ kind → (count_of (part k new) q ≡ count_of (part k a) q) ⊎ ((count_of (part k new) q ≡ 0) × (count_of (part k a) q ≤ count_of (part k b) q))
    here d = subst (λ k. (count_of (part k new) q ≡ count_of (part k a) q) ⊎ ((count_of (part k new) q ≡ 0) × (count_of (part k a) q ≤ count_of (part k b) q))) (sym d) (at (eqb key q) refl (put.here q))

module _ {s : Store} {keys : Keys} (kd : IsKeyed s keys) {a b : Sum} {es fs : Effect} (h : SumOf s keys a es) (k : SumOf s keys b fs) where
  pub taken_all : (rest : Sum) → IsTakenOut a b rest → ((kind : AtomKind) → IsNothing (part kind rest)) → true ≡ is_within es fs
  taken_all rest t z = sym (is_within_complete es fs (λ c. ⊎_elim (λ e. let r : count c es ≤ count c fs = omega (arith, e) in r) (λ p. here c p) (zero_or (count c es))))
    where
      here : (c : Atom) → 0 < count c es → count c es ≤ count c fs
      here c p =
          let (i, g) = h.known c (count_in c es p) in
          let q = key_of (name_bound (message_of c)) i in
          let x = h.counted c i g in let y = k.counted c i g in let n = z (kind_of_atom c) q in
          ⊎_elim (λ e. absurd (omega (arith, e, x, n, p))) (λ e. let l = e.1 in omega (arith, l, x, y)) (t (kind_of_atom c) q)

  pub taken_more : (rest : Sum) (kind : AtomKind) (q n : ℕ) → IsTakenOut a b rest → 0 < n → count_of (part kind rest) q ≡ n → count_of (part kind b) q < n → false ≡ is_within es fs
  taken_more rest kind q n t p e l = ⊎_elim (λ w. absurd (at kind (is_within_sound es fs w) t e l)) sym (cases_Bool (is_within es fs))
    where
      one : (c : Atom) (i : ℕ) → with_keys s keys i (message_of c) → q ≡ key_of (name_bound (message_of c)) i → count c es ≤ count c fs → count_of (part (kind_of_atom c) rest) q ≡ count_of (part (kind_of_atom c) a) q → count_of (part (kind_of_atom c) rest) q ≡ n → count_of (part (kind_of_atom c) b) q < n → ⊥
      one c i g f w t e l =
          let x : count_of (part (kind_of_atom c) a) q ≡ count c es = ap (count_of (part (kind_of_atom c) a)) f ∙ h.counted c i g in
          let y : count_of (part (kind_of_atom c) b) q ≡ count c fs = ap (count_of (part (kind_of_atom c) b)) f ∙ k.counted c i g in
          omega (arith, x, y, w, t, e, l)

      was : (kind : AtomKind) → IsTakenOut a b rest → count_of (part kind rest) q ≡ n → count_of (part kind rest) q ≡ count_of (part kind a) q
      was kind t e = ⊎_elim (λ x. x) (λ x. absurd (let z = x.0 in omega (arith, z, e, p))) (t kind q)

      at : (kind : AtomKind) → ((c : Atom) → count c es ≤ count c fs) → IsTakenOut a b rest → count_of (part kind rest) q ≡ n → count_of (part kind b) q < n → ⊥
      at kind w t e l =
          let r = was kind t e in
          let (i, m, g, f) = h.kept kind q (let z : 0 < count_of (part kind a) q = omega (arith, r, e, p) in z) in
          go kind i m g f r e l
        where
          go : (kind : AtomKind) (i : ℕ) (m : Message) → with_keys s keys i m → q ≡ key_of (name_bound m) i → count_of (part kind rest) q ≡ count_of (part kind a) q → count_of (part kind rest) q ≡ n → count_of (part kind b) q < n → ⊥
          go End i m g f r e l = one (ends m) i g f (w (ends m)) r e l
          go Check i m g f r e l = one (checks m) i g f (w (checks m)) r e l
          go Many i m g f r e l = one (many m) i g f (w (many m)) r e l

-- the loose atoms are within no effect with names in scope
pub within_is : {s : Store} {keys : Keys} → (k : ℕ) {sum : Sum} {names : BTreeMap ℕ ℕ} {b : Bool} {es : Effect} (fs : Effect) (h : HeldBy s keys (outer k) sum names b es) → Below k fs → (none within : Bool) → IsTrue none ↔ IsNothing names → within ≡ is_within h.inner fs → (none && within) ≡ is_within es fs
within_is k {sum} {names} {b} {es} fs h below none within t e = truths (none && within) (is_within es fs) to from
  where
    clean : none ≡ true → (a : Atom) → count a es ≡ count a h.inner
    clean n a = ⊎_elim (λ l. ⊎_elim (λ z. z ∙ sym (h.outside a l)) (λ p. absurd (gone a l p)) (zero_or (count a es))) (λ l. sym (h.inside a l)) (cases_Bool (outer k a))
      where
        gone : (a : Atom) → outer k a ≡ true → 0 < count a es → ⊥
        gone a l p =
            let o = outer_true k a l in
            let x = bound_of (name_bound (message_of a)) (let r : 0 < name_bound (message_of a) = omega (arith, o) in r) in
            let c = h.named a x.0 l p (last_free x.0 a x.1) in let z = t.0 n x.0 in omega (arith, c, z)

    to : (none && within) ≡ true → is_within es fs ≡ true
    to q =
        let r = and_true none within q in
        is_within_complete es fs (λ a. let c = clean r.0 a in let w = is_within_sound h.inner fs (sym e ∙ r.1) a in omega (arith, c, w))

    nothing : ((a : Atom) → count a es ≤ count a fs) → IsNothing names
    nothing w y = ⊎_elim (λ z. z) (λ p. absurd (let (a, l, q, f) = h.names_of y p in let z = below_none k fs below a l in let v = w a in omega (arith, z, v, q))) (zero_or (count_of names y))

    from : is_within es fs ≡ true → (none && within) ≡ true
    from q =
        let w = is_within_sound es fs q in
        let n = t.1 (nothing w) in
        both_true n (e ∙ is_within_complete h.inner fs (λ a. let c = clean n a in let v = w a in omega (arith, c, v)))
