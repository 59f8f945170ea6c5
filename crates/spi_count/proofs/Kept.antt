-- What has a key keeps it as the store and the keys grow.
use Rattle.std.proofs.Common.{◌≡◌, ℕ, ◌<◌, ◌⊎◌, inl, inr, ⊎_elim, Bool, true, false, eqb, [], ◌∷◌, ◌++◌, Some, refl, sym, ap, subst, ◌∙◌, eq-eqb}
use Rattle.std.specs.Prelude.{slice_get, nat_eq, if◌then◌else◌}
use Rattle.std.proofs.lemmas.Bool.{eqb-true}
use Rattle.indexmap.specs.IndexMap.{get}
use Rattle.spi_term.specs.Term.{Message, Atom, Effect}
use Rattle.spi_term.specs.Lists.{in_first, in_later}
use Rattle.spi_term.proofs.Lists.{some_is}
use Rattle.spi_intern.specs.Meaning.{Keeps}
use Rattle.spi_intern.specs.declared.store.Store.{Store}
use Rattle.spi_intern.proofs.Meanings.{terms_same, terms_more}
use Rattle.spi_count.specs.Sums.{name_bound, key_of}
use Rattle.spi_count.specs.declared.keys.Keys.{Keys}
use Rattle.spi_count.specs.Keys.{Keyed}
use Rattle.spi_count.specs.Keeping.{with_keys, HaveKeys, AreKept, GrowsTo}
use Rattle.spi_intern.specs.Parts.{message_of}

pub grows_same : (s : Store) (ks : Keys) → AreKept s ks → GrowsTo s ks s ks
grows_same s ks h = record { store = terms_same s; keys = λ i k e. e; are = h }

pub grows_more : {s r q : Store} {ks ls ms : Keys} → GrowsTo s ks r ls → GrowsTo r ls q ms → GrowsTo s ks q ms
grows_more g h = record { store = terms_more g.store h.store; keys = λ i k e. h.keys i k (g.keys i k e); are = h.are }

-- the keys of a store are keys in one that has more
pub kept_as : {s r : Store} (ks : Keys) → Keeps s r → AreKept s ks → AreKept r ks
kept_as {s} {r} ks g h = record {
  keyed = λ i k e.
      let w = h.keyed i k e in
      (w.0, record { at = g.messages.at i w.0 w.1.at; key = w.1.key; small = w.1.small });
}

pub grows_store : {s r : Store} {ks : Keys} → Keeps s r → AreKept s ks → GrowsTo s ks r ks
grows_store {ks = ks} g h = record { store = g; keys = λ i k e. e; are = kept_as ks g h }

-- one more key
module _ (s : Store) (ks ls : Keys) (id : ℕ) (m : Message) (at : slice_get s.messages id ≡ Some m) (small : id < 4294967296) (new : (i : ℕ) → get nat_eq ls.keys i ≡ (if eqb id i then Some (key_of (name_bound m) id) else get nat_eq ks.keys i)) where
  there : get nat_eq ls.keys id ≡ Some (key_of (name_bound m) id)
  there = new id ∙ ap (λ b. if b then Some (key_of (name_bound m) id) else get nat_eq ks.keys id) (eq-eqb id id refl)

  pub keyed_here : with_keys s ls id m
  keyed_here = record { at = at; key = there; small = small }

  key_moved : (i k : ℕ) (b : Bool) → eqb id i ≡ b → get nat_eq ls.keys i ≡ Some k → (id ≡ i) ⊎ (get nat_eq ks.keys i ≡ Some k)
  key_moved i k true q e = inl (eqb-true id i q)
  key_moved i k false q e = inr (sym (new i ∙ ap (λ b. if b then Some (key_of (name_bound m) id) else get nat_eq ks.keys i) q) ∙ e)

  keys_there : (i : ℕ) → id ≡ i → (n : Message) × Keyed s.messages (λ i. get nat_eq ls.keys i) i n
  keys_there i q = (m, subst (λ i. Keyed s.messages (λ i. get nat_eq ls.keys i) i m) q keyed_here)

  keys_others : (i k : ℕ) → AreKept s ks → get nat_eq ls.keys i ≡ Some k → get nat_eq ks.keys i ≡ Some k → (n : Message) × Keyed s.messages (λ i. get nat_eq ls.keys i) i n
  keys_others i k h e f =
      let w = h.keyed i k f in
      (w.0, record { at = w.1.at; key = e ∙ sym f ∙ w.1.key; small = w.1.small })

  kept_old : (i k : ℕ) → AreKept s ks → get nat_eq ks.keys i ≡ Some k → (b : Bool) → eqb id i ≡ b → get nat_eq ls.keys i ≡ Some k
  kept_old i k h e false q = new i ∙ ap (λ b. if b then Some (key_of (name_bound m) id) else get nat_eq ks.keys i) q ∙ e
  kept_old i k h e true q =
      let w = h.keyed i k e in
      let p = eqb-true id i q in
      let n : m ≡ w.0 = some_is (sym at ∙ ap (λ i. slice_get s.messages i) p ∙ w.1.at) in
      let k' : key_of (name_bound m) id ≡ key_of (name_bound w.0) i = ap (λ m. key_of (name_bound m) id) n ∙ ap (λ i. key_of (name_bound w.0) i) p in
      ap (λ i. get nat_eq ls.keys i) (sym p) ∙ there ∙ ap Some k' ∙ sym w.1.key ∙ e

  pub grows_key : AreKept s ks → GrowsTo s ks s ls
  grows_key h = record {
    store = terms_same s;
    keys = λ i k e. kept_old i k h e (eqb id i) refl;
    are = record { keyed = λ i k e. ⊎_elim (keys_there i) (keys_others i k h e) (key_moved i k (eqb id i) refl e) };
  }

-- what is kept
pub key_keeps : {s r : Store} {ks ls : Keys} {i : ℕ} {m : Message} → GrowsTo s ks r ls → with_keys s ks i m → with_keys r ls i m
key_keeps {i = i} {m = m} g h = record { at = g.store.messages.at i m h.at; key = g.keys i (key_of (name_bound m) i) h.key; small = h.small }

pub have_keys_keep : {s r : Store} {ks ls : Keys} (es : Effect) → GrowsTo s ks r ls → HaveKeys s ks es → HaveKeys r ls es
have_keys_keep {s} {r} {ks} {ls} es g h a w = let z = h a w in (z.0, key_keeps {s = s} {r = r} {ks = ks} {ls = ls} g z.1)

-- no atom, and one more
pub have_none : (s : Store) (ks : Keys) → HaveKeys s ks []
have_none s ks a w = elim w [ ]

pub have_more : (s : Store) (ks : Keys) (es : Effect) (a : Atom) {i : ℕ} → HaveKeys s ks es → with_keys s ks i (message_of a) → HaveKeys s ks (es ++ a ∷ [])
have_more s ks [] a {i = i} h k b in_first = (i, k)
have_more s ks [] a h k b (in_later w) = elim w [ ]
have_more s ks (c ∷ es) a h k b in_first = h b in_first
have_more s ks (c ∷ es) a h k b (in_later w) = have_more s ks es a (λ d v. h d (in_later v)) k b w
