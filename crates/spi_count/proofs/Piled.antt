-- Atoms that go into effects of which atoms wait, and out of them.
use Rattle.std.proofs.Common.{◌≡◌, refl, sym, ap, ◌∙◌, subst, ℕ, zero, suc, ◌+◌, ◌-◌, ◌<◌, ◌≤◌, Bool, true, false, List, [], ◌∷◌, ◌++◌, length, take, get_or, ⊎_elim, arith, true≢false, eq-eqb, Some, None, Option}
use Rattle.std.specs.Prelude.{if◌then◌else◌, eqb, slice_get, nat_eq}
use Rattle.std.proofs.lemmas.Bool.{eqb-true}
use Rattle.std.proofs.lemmas.Option.{slice_get-get_or}
use Rattle.indexmap.specs.IndexMap.{get}
use Rattle.spi_term.specs.Term.{Message, Atom, ends, checks, many, same_atom, Effect, Ty}
use Rattle.spi_term.specs.Lists.{In, in_first, in_later}
use Rattle.spi_term.specs.Counts.{tally, cut, count}
use Rattle.spi_term.proofs.Counting.{tally_append, same_atom_refl, same_atom_true, count_in, in_count}
use Rattle.spi_effect.specs.Made.{minus}
use Rattle.spi_effect.proofs.Made.{minus_difference}
use Rattle.spi_effect.proofs.Laws.{sum_append, same_within, within_in}
use denote.Ref.{Bor}
use Rattle.spi_intern.specs.declared.store.Store.{Store}
use Rattle.spi_intern.specs.declared.messages.MsgId.{MsgId}
use Rattle.spi_intern.specs.declared.atoms.AtomId.{AtomId}
use Rattle.spi_intern.specs.declared.atoms.AtomId.TheVariants as I
use Rattle.spi_intern.specs.declared.store.TyPart.TheVariants as P
use Rattle.spi_intern.specs.Lent.{SaysTy, says_nonce}
use Rattle.spi_intern.specs.Atoms.{says_end, says_check, says_many}
use Rattle.spi_intern.specs.Parts.{message_of}
use Rattle.spi_message.specs.Forms.{cast_effect_of}
use Rattle.spi_count.specs.Sums.{name_bound, key_of, kind_of_atom, both_counts, AreNumbers}
use Rattle.spi_count.specs.Piles.{is_kind, once, waits_once, waits, piled, StandsForPile}
use Rattle.spi_count.specs.declared.sum.AtomKind.{AtomKind}
use Rattle.spi_count.specs.declared.sum.AtomKind.TheVariants.{End, Check, Many}
use Rattle.spi_count.specs.declared.pile.Pile.{Pile}
use Rattle.spi_count.specs.declared.pile.Late.{Late}
use Rattle.spi_count.specs.declared.keys.Keys.{Keys}
use Rattle.spi_count.specs.Keeping.{with_keys, IsKeyed, HasKey, HaveKeys}
use Rattle.spi_count.specs.Adding.{PileOf, AddsTo, TakesFrom, AddsAllTo, TakesAllFrom}
use Rattle.spi_count.proofs.Standing.{same_parts, same_place}
use Rattle.spi_count.proofs.Below.{in_minus}
use Rattle.spi_count.proofs.Waiting.{kind_same, kind_itself, either_positive, none_both, waits_more, waits_here, waits_there, waits_at}
use Rattle.spi_count.proofs.Summed.{numbers, place_is, found, kept_at, take_step}

-- where an atom stands that stands there once
pub once_there : (kind : AtomKind) (key : ℕ) (l : AtomKind) (q : ℕ) → 0 < once kind key l q → (l ≡ kind) × (key ≡ q)
once_there kind key l q h = go (is_kind l kind) refl (eqb key q) refl h
  where
    go : (b : Bool) → is_kind l kind ≡ b → (c : Bool) → eqb key q ≡ c → 0 < (if b then (if c then 1 else 0) else 0) → (l ≡ kind) × (key ≡ q)
    go true e true f h = (kind_same l kind e, eqb-true key q f)
    go true e false f h = absurd (omega (arith, h))
    go false e c f h = absurd (omega (arith, h))

pub once_here : (kind : AtomKind) (key : ℕ) → once kind key kind key ≡ 1
once_here kind key =
    ap (λ (b : Bool). if b then (if eqb key key then 1 else 0) else 0) (kind_itself kind) ∙ ap (λ (b : Bool). if b then 1 else 0) (eq-eqb key key refl)

in_more : (P : Atom → Type 0) (es : Effect) (b : Atom) → ((a : Atom) → In a es → P a) → P b → (a : Atom) → In a (es ++ b ∷ []) → P a
in_more P [] b h p _ in_first = p
in_more P [] b h p a (in_later w) = elim w [ ]
in_more P (c ∷ es) b h p _ in_first = h c in_first
in_more P (c ∷ es) b h p a (in_later w) = in_more P es b (λ d v. h d (in_later v)) p a w

more_once : (a : Atom) (m : ℕ) (t : Bool) → both_counts (kind_of_atom a) (cut a m) (if t then 1 else 0) ≡ cut a (m + ((if t then 1 else 0) + 0))
more_once (ends l) m true = omega arith
more_once (ends l) m false = omega arith
more_once (checks l) m true = omega arith
more_once (checks l) m false = omega arith
more_once (many l) m true = omega arith
more_once (many l) m false = omega arith

one_cut : (a : Atom) (t : Bool) → cut a ((if t then 1 else 0) + 0) ≡ (if t then 1 else 0)
one_cut (ends l) true = refl
one_cut (ends l) false = refl
one_cut (checks l) true = refl
one_cut (checks l) false = refl
one_cut (many l) true = refl
one_cut (many l) false = refl

module _ (At : ℕ → Message → Type 0) (numbers : AreNumbers At) where
  -- an atom stands once at its own key and at no other
  pub once_is : (b : Atom) (j : ℕ) → At j (message_of b) → (a : Atom) (i : ℕ) → At i (message_of a)
      → once (kind_of_atom b) (key_of (name_bound (message_of b)) j) (kind_of_atom a) (key_of (name_bound (message_of a)) i) ≡ (if same_atom a b then 1 else 0)
  once_is b j gb a i g = go (same_atom a b) refl
    where
      here : a ≡ b → once (kind_of_atom b) (key_of (name_bound (message_of b)) j) (kind_of_atom a) (key_of (name_bound (message_of a)) i) ≡ 1
      here e =
          let ij : i ≡ j = numbers.differ (subst (λ x. At i (message_of x)) e g) gb in
          ap (λ x. once (kind_of_atom b) (key_of (name_bound (message_of b)) j) (kind_of_atom x) (key_of (name_bound (message_of x)) i)) e
          ∙ ap (λ x. once (kind_of_atom b) (key_of (name_bound (message_of b)) j) (kind_of_atom b) (key_of (name_bound (message_of b)) x)) ij
          ∙ once_here (kind_of_atom b) (key_of (name_bound (message_of b)) j)

      there : 0 < once (kind_of_atom b) (key_of (name_bound (message_of b)) j) (kind_of_atom a) (key_of (name_bound (message_of a)) i) → a ≡ b
      there p =
          let (k, f) = once_there (kind_of_atom b) (key_of (name_bound (message_of b)) j) (kind_of_atom a) (key_of (name_bound (message_of a)) i) p in
          let ij : i ≡ j = sym (same_place (name_bound (message_of b)) (name_bound (message_of a)) j i (numbers.small gb) (numbers.small g) f) in
          same_parts a b k (numbers.one (subst (λ i. At i (message_of a)) ij g) gb)

      apart : same_atom a b ≡ false → (n : ℕ) → once (kind_of_atom b) (key_of (name_bound (message_of b)) j) (kind_of_atom a) (key_of (name_bound (message_of a)) i) ≡ n → n ≡ 0
      apart e zero f = refl
      apart e (suc n) f =
          let d : a ≡ b = there (subst (λ n. 0 < n) (sym f) (omega arith)) in
          absurd (true≢false (sym (same_atom_refl a) ∙ ap (same_atom a) d ∙ e))

      go : (t : Bool) → same_atom a b ≡ t → once (kind_of_atom b) (key_of (name_bound (message_of b)) j) (kind_of_atom a) (key_of (name_bound (message_of a)) i) ≡ (if t then 1 else 0)
      go true e = here (same_atom_true a b e)
      go false e = apart e (once (kind_of_atom b) (key_of (name_bound (message_of b)) j) (kind_of_atom a) (key_of (name_bound (message_of a)) i)) refl

  -- the effect counts alone
  pub piles_same : {p : Pile} {es fs : Effect} → StandsForPile At p es → ((a : Atom) → count a es ≡ count a fs) → StandsForPile At p fs
  piles_same {p} {es} {fs} h e = record {
    counted = λ a i g. h.counted a i g ∙ e a;
    known = λ a n. h.known a (count_in a es (let p = in_count a fs n in let q = e a in omega (arith, p, q)));
    kept = h.kept;
  }

  -- an atom more
  pub piles_more : {p r : Pile} {es : Effect} (b : Atom) (j : ℕ) → StandsForPile At p es → At j (message_of b)
      → ((l : AtomKind) (q : ℕ) → piled l r q ≡ both_counts l (piled l p q) (once (kind_of_atom b) (key_of (name_bound (message_of b)) j) l q))
      → StandsForPile At r (es ++ b ∷ [])
  piles_more {p} {r} {es} b j h gb e = record {
    counted = λ a i g.
        e (kind_of_atom a) (key_of (name_bound (message_of a)) i)
        ∙ ap (λ n. both_counts (kind_of_atom a) n (once (kind_of_atom b) (key_of (name_bound (message_of b)) j) (kind_of_atom a) (key_of (name_bound (message_of a)) i))) (h.counted a i g)
        ∙ ap (both_counts (kind_of_atom a) (count a es)) (once_is b j gb a i g)
        ∙ more_once a (tally a es) (same_atom a b)
        ∙ ap (cut a) (sym (tally_append a es (b ∷ [])));
    known = in_more (λ a. (i : ℕ) × At i (message_of a)) es b h.known (j, gb);
    kept = λ kind k g.
        ⊎_elim (λ g. h.kept kind k g)
        (λ g. (j, message_of b, gb, sym (once_there (kind_of_atom b) (key_of (name_bound (message_of b)) j) kind k g).1))
        (either_positive kind (piled kind p k) (once (kind_of_atom b) (key_of (name_bound (message_of b)) j) kind k) (subst (λ n. 0 < n) (e kind k) g));
  }

  less_once : (b : Atom) (es : Effect) (a : Atom) → count a (minus es (b ∷ [])) ≡ count a es - (if same_atom a b then 1 else 0)
  less_once b es a = (minus_difference es (b ∷ [])).at a ∙ ap (λ n. count a es - n) (one_cut a (same_atom a b))

  -- an atom less
  pub piles_less : {p r : Pile} {es : Effect} (b : Atom) (j : ℕ) → StandsForPile At p es → At j (message_of b)
      → ((l : AtomKind) (q : ℕ) → piled l r q ≡ piled l p q - once (kind_of_atom b) (key_of (name_bound (message_of b)) j) l q)
      → StandsForPile At r (minus es (b ∷ []))
  piles_less {p} {r} {es} b j h gb e = record {
    counted = λ a i g.
        e (kind_of_atom a) (key_of (name_bound (message_of a)) i)
        ∙ ap (λ n. n - once (kind_of_atom b) (key_of (name_bound (message_of b)) j) (kind_of_atom a) (key_of (name_bound (message_of a)) i)) (h.counted a i g)
        ∙ ap (λ n. count a es - n) (once_is b j gb a i g)
        ∙ sym (less_once b es a);
    known = λ a n. h.known a (in_minus a es (b ∷ []) n);
    kept = λ kind k g. h.kept kind k (let x = e kind k in omega (arith, x, g));
  }

  -- an atom without a number stands nowhere
  pub piles_absent : {p : Pile} {es : Effect} (b : Atom) → StandsForPile At p es → (In b es → ⊥) → StandsForPile At p (minus es (b ∷ []))
  piles_absent {p} {es} b h none = piles_same h (λ a. go a (same_atom a b) refl (less_once b es a))
    where
      nowhere : (n : ℕ) → count b es ≡ n → n ≡ 0
      nowhere zero e = refl
      nowhere (suc n) e = absurd (none (count_in b es (omega (arith, e))))

      go : (a : Atom) (t : Bool) → same_atom a b ≡ t → count a (minus es (b ∷ [])) ≡ count a es - (if same_atom a b then 1 else 0) → count a es ≡ count a (minus es (b ∷ []))
      go a true t f =
          let z : count a es ≡ 0 = ap (λ x. count x es) (same_atom_true a b t) ∙ nowhere (count b es) refl in
          let y = ap (λ t. count a es - (if t then 1 else 0)) t in
          omega (arith, z, y, f)
      go a false t f =
          let y = ap (λ t. count a es - (if t then 1 else 0)) t in
          omega (arith, y, f)

-- one more of a list that is gone over
step_waits : (kind : AtomKind) (ws : List Late) (i : ℕ) (d : Late) (q : ℕ) → i < length ws
    → waits kind (take (i + 1) ws) q ≡ both_counts kind (waits kind (take i ws) q) (waits_once kind (get_or ws i d) q)
step_waits kind ws i d q l = ap (λ ws. waits kind ws q) (take_step ws i d l) ∙ waits_more kind (take i ws) (get_or ws i d) q

pub none_next : (kind : AtomKind) (ws : List Late) (i : ℕ) (d : Late) (q : ℕ) → i < length ws → waits kind (take i ws) q ≡ 0
    → waits_once kind (get_or ws i d) q ≡ 0 → waits kind (take (i + 1) ws) q ≡ 0
none_next kind ws i d q l h z =
    step_waits kind ws i d q l ∙ ap (λ n. both_counts kind n (waits_once kind (get_or ws i d) q)) h ∙ none_both kind (waits_once kind (get_or ws i d) q) ∙ z

pub from_next : (ws : List Late) (i : ℕ) (d : Late) (least : ℕ) → i < length ws
    → ((kind : AtomKind) (k : ℕ) → 0 < waits kind (take i ws) k → k < least) → (0 < (get_or ws i d).count → (get_or ws i d).key < least)
    → (kind : AtomKind) (k : ℕ) → 0 < waits kind (take (i + 1) ws) k → k < least
from_next ws i d least l h f kind k p =
    ⊎_elim (h kind k) (λ g. let (a, b, c) = waits_there kind (get_or ws i d) k g in let e = f c in omega (arith, b, e))
    (either_positive kind (waits kind (take i ws) k) (waits_once kind (get_or ws i d) k) (subst (λ n. 0 < n) (step_waits kind ws i d k l) p))

pub from_here : (ws : List Late) (i : ℕ) (d : Late) (least : ℕ) → i < length ws → (least ≤ (get_or ws i d).key) × (0 < (get_or ws i d).count)
    → (kind : AtomKind) × (k : ℕ) × (0 < waits kind ws k) × (least ≤ k)
from_here ws i d least l (f, g) =
    let w = get_or ws i d in
    (w.kind, w.key, waits_at w.kind ws i w w.key (slice_get-get_or ws i d l) (subst (λ n. 0 < n) (sym (waits_here w.kind w w.key (kind_itself w.kind) refl)) g), f)

-- by the keys
abbrev pub PilesMore : Keys → AtomKind → MsgId → Pile → Pile → Type 0
PilesMore keys kind id old new = (k : ℕ) → get nat_eq keys.keys id.place ≡ Some k → (l : AtomKind) (q : ℕ) → piled l new q ≡ both_counts l (piled l old q) (once kind k l q)

abbrev pub PilesLess : Keys → AtomKind → MsgId → Pile → Pile → Type 0
PilesLess keys kind id old new = (k : ℕ) → get nat_eq keys.keys id.place ≡ Some k → (l : AtomKind) (q : ℕ) → piled l new q ≡ piled l old q - once kind k l q

module _ {s : Store} {keys : Keys} (k : IsKeyed s keys) where
  more_at : {old new : Pile} (id : MsgId) (b : Atom) (es : Effect) → PilesMore keys (kind_of_atom b) id old new
      → slice_get s.messages id.place ≡ Some (message_of b) → HasKey s keys (message_of b) → PileOf s keys old es → PileOf s keys new (es ++ b ∷ [])
  more_at id b es p at h t =
      let w = kept_at k id.place (message_of b) at h in
      piles_more (with_keys s keys) (numbers k) b id.place t w (p (key_of (name_bound (message_of b)) id.place) w.key)

  less_at : {old new : Pile} (id : MsgId) (b : Atom) (es : Effect) → PilesLess keys (kind_of_atom b) id old new → (get nat_eq keys.keys id.place ≡ None → new ≡ old)
      → slice_get s.messages id.place ≡ Some (message_of b) → PileOf s keys old es → PileOf s keys new (minus es (b ∷ []))
  less_at {old} {new} id b es p n at t = go (get nat_eq keys.keys id.place) refl
    where
      absent : get nat_eq keys.keys id.place ≡ None → In b es → ⊥
      absent g z =
          let (j, h) = t.known b z in
          let e : j ≡ id.place = place_is k h.at at in
          let f : get nat_eq keys.keys id.place ≡ Some (key_of (name_bound (message_of b)) j) = ap (get nat_eq keys.keys) (sym e) ∙ h.key in
          cc

      go : (o : Option ℕ) → get nat_eq keys.keys id.place ≡ o → PileOf s keys new (minus es (b ∷ []))
      go (Some q) g =
          let (w, e) = found k id.place q (message_of b) g at in
          piles_less (with_keys s keys) (numbers k) b id.place t w (λ l r. subst (λ q. piled l new r ≡ piled l old r - once (kind_of_atom b) q l r) e (p q g l r))
      go None g = subst (λ z. PileOf s keys z (minus es (b ∷ []))) (sym (n g)) (piles_absent (with_keys s keys) (numbers k) b t (absent g))

pub more_end : (keys : Keys) (id : MsgId) (old new : Pile) → PilesMore keys End id old new → AddsTo keys (I.End id) old new
more_end keys id old new p s _ es k (says_end {m = m} e) h t = more_at k id (ends m) es p e h t

pub more_check : (keys : Keys) (id : MsgId) (old new : Pile) → PilesMore keys Check id old new → AddsTo keys (I.Check id) old new
more_check keys id old new p s _ es k (says_check {m = m} e) h t = more_at k id (checks m) es p e h t

pub more_many : (keys : Keys) (id : MsgId) (old new : Pile) → PilesMore keys Many id old new → AddsTo keys (I.Many id) old new
more_many keys id old new p s _ es k (says_many {m = m} e) h t = more_at k id (many m) es p e h t

pub less_end : (keys : Keys) (id : MsgId) (old new : Pile) → PilesLess keys End id old new → (get nat_eq keys.keys id.place ≡ None → new ≡ old) → TakesFrom keys (I.End id) old new
less_end keys id old new p n s _ es k (says_end {m = m} e) t = less_at k id (ends m) es p n e t

pub less_check : (keys : Keys) (id : MsgId) (old new : Pile) → PilesLess keys Check id old new → (get nat_eq keys.keys id.place ≡ None → new ≡ old) → TakesFrom keys (I.Check id) old new
less_check keys id old new p n s _ es k (says_check {m = m} e) t = less_at k id (checks m) es p n e t

pub less_many : (keys : Keys) (id : MsgId) (old new : Pile) → PilesLess keys Many id old new → (get nat_eq keys.keys id.place ≡ None → new ≡ old) → TakesFrom keys (I.Many id) old new
less_many keys id old new p n s _ es k (says_many {m = m} e) t = less_at k id (many m) es p n e t

-- the atoms of a type
pub more_said : {s : Store} {keys : Keys} (ids : Bor (List AtomId)) (old new : Pile) (u : Ty) (es : Effect) → IsKeyed s keys → SaysTy s (P.Nonce ids) u → AddsAllTo keys ids.now old new → HaveKeys s keys (cast_effect_of u) → PileOf s keys old es
    → PileOf s keys new (es ++ cast_effect_of u)
more_said {s} {keys} ids old new _ es k (says_nonce {es = fs} m) p h t =
    let y = p s m.told es k m.each (λ a n. h a (within_in (same_within m.same) n)) t in
    piles_same (with_keys s keys) (numbers k) y (λ a. (sum_append es m.told).at a ∙ ap (λ n. cut a (count a es + n)) (m.same.at a) ∙ sym ((sum_append es fs).at a))

pub less_said : {s : Store} {keys : Keys} (ids : Bor (List AtomId)) (old new : Pile) (u : Ty) (es : Effect) → IsKeyed s keys → SaysTy s (P.Nonce ids) u → TakesAllFrom keys ids.now old new → PileOf s keys old es
    → PileOf s keys new (minus es (cast_effect_of u))
less_said {s} {keys} ids old new _ es k (says_nonce {es = fs} m) p t =
    let y = p s m.told es k m.each t in
    piles_same (with_keys s keys) (numbers k) y (λ a. (minus_difference es m.told).at a ∙ ap (λ n. count a es - n) (m.same.at a) ∙ sym ((minus_difference es fs).at a))
