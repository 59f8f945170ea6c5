-- The begins of one label among the events seen, in order, of which the first have been taken.
use Rattle.std.proofs.Common.{◌≡◌, sym, subst, ℕ, suc, ◌<◌, ◌≤◌, ◌≢◌, ⊎_elim, List, [], ◌∷◌, ◌++◌, length, arith}
use Rattle.std.proofs.lemmas.Bool.{cases_lt}
use Rattle.spi_term.specs.Lists.{At, In, in_first, in_later}
use Rattle.spi_term.specs.Term.{Message}
use Rattle.spi_term.proofs.Lists.{at_more, at_last, at_unique, in_cases, at_below, within_at, in_at, in_left, in_end, length_more}
use Rattle.spi_run.specs.Reduction.{Event, begun}
use Rattle.spi_trace.specs.Pairing.{IsFree, IsEarliest}
use Rattle.spi_trace.proofs.Seen.{at_snoc}
use Rattle.spi_trace.proofs.Pairs.{earliest_one}

-- the begins of m stand at these places, and of them the first `used` are taken
pub record Kept (seen : List Event) (taken : List ℕ) (m : Message) (places : List ℕ) (used : ℕ) : Type 0 where
  pub begins : (r i : ℕ) → At places r i → At seen i (begun m)
  pub all : (i : ℕ) → At seen i (begun m) → In i places
  pub order : (r s i j : ℕ) → r < s → At places r i → At places s j → i < j
  pub gone : (r i : ℕ) → At places r i → r < used → In i taken
  pub left : (r i : ℕ) → At places r i → used ≤ r → In i taken → ⊥
  pub few : used ≤ length places
  pub past : (i : ℕ) → In i taken → i < length seen

pub kept_none : (m : Message) → Kept [] [] m [] 0
kept_none m = record {
  begins = λ r i a. elim a [ ];
  all = λ i a. elim a [ ];
  order = λ r s i j l a b. elim a [ ];
  gone = λ r i a l. elim a [ ];
  left = λ r i a l t. elim t [ ];
  few = omega arith;
  past = λ i t. elim t [ ];
}

same_place : {places : List ℕ} {r s i j : ℕ} → r ≡ s → At places r i → At places s j → i ≡ j
same_place {places} {i = i} e a b = at_unique (subst (λ k. At places k i) e a) b

module _ {seen : List Event} {taken : List ℕ} {m : Message} {places : List ℕ} {used : ℕ} (k : Kept seen taken m places used) where
  -- the first that isn't taken is the earliest free one
  pub kept_earliest : {i : ℕ} → At places used i → IsEarliest seen taken m i
  kept_earliest {i} a = record {
    free = (k.begins used i a, k.left used i a (omega arith));
    first = λ j l f.
        let (s, b) = in_at (k.all j f.0) in
        ⊎_elim (λ g. f.1 (k.gone s j b g))
        (λ g. ⊎_elim (λ h. let o : i < j = k.order used s i j h a b in omega arith)
        (λ h. let e : i ≡ j = same_place (let p : used ≡ s = omega arith in p) a b in omega arith)
        (cases_lt used s))
        (cases_lt s used);
  }

  -- and where all are taken none is free
  pub kept_spent : length places ≤ used → (i : ℕ) → IsFree seen taken m i → ⊥
  kept_spent l i f = let (s, b) = in_at (k.all i f.0) in let w = at_below b in f.1 (k.gone s i b (omega arith))

  pub earliest_kept : {i : ℕ} → IsEarliest seen taken m i → At places used i
  earliest_kept {i} h =
      ⊎_elim (λ l. let (j, a) = within_at places used l in subst (λ x. At places used x) (earliest_one (kept_earliest a) h) a)
      (λ l. absurd (kept_spent l i h.free))
      (cases_lt used (length places))

  -- one more event, which is a begin of the label, or isn't
  pub kept_begin : Kept (seen ++ begun m ∷ []) taken m (places ++ length seen ∷ []) used
  kept_begin =
      let e = length_more seen (begun m) in
      let f = length_more places (length seen) in
      record {
        begins = λ r i a. ⊎_elim (λ b. at_more (begun m ∷ []) (k.begins r i b)) (λ h. subst (λ x. At (seen ++ begun m ∷ []) x (begun m)) (sym h.1) (at_last seen (begun m))) (at_snoc places a);
        all = λ i a. ⊎_elim (λ b. in_left _ (k.all i b)) (λ h. subst (λ x. In x (places ++ length seen ∷ [])) (sym h.0) (in_end places (length seen))) (at_snoc seen a);
        order = λ r s i j l a b. ⊎_elim
            (λ x. ⊎_elim (λ y. k.order r s i j l x y) (λ h. let w = at_below (k.begins r i x) in omega (arith, h.1)) (at_snoc places b))
            (λ g. let w = at_below b in absurd (omega (arith, g.0)))
            (at_snoc places a);
        gone = λ r i a l. ⊎_elim (λ b. k.gone r i b l) (λ h. let w = k.few in absurd (omega (arith, h.0))) (at_snoc places a);
        left = λ r i a l t. ⊎_elim (λ b. k.left r i b l t) (λ h. let w = k.past i t in omega (arith, h.1)) (at_snoc places a);
        few = let w = k.few in omega arith;
        past = λ i t. let w = k.past i t in omega arith;
      }

  pub kept_other : (e : Event) → e ≢ begun m → Kept (seen ++ e ∷ []) taken m places used
  kept_other e d =
      let l = length_more seen e in
      record {
        begins = λ r i a. at_more (e ∷ []) (k.begins r i a);
        all = λ i a. ⊎_elim (λ b. k.all i b) (λ h. absurd (d (sym h.1))) (at_snoc seen a);
        order = k.order;
        gone = k.gone;
        left = k.left;
        few = k.few;
        past = λ i t. let w = k.past i t in omega arith;
      }

  -- the earliest is taken
  pub kept_take : {i : ℕ} → At places used i → Kept seen (i ∷ taken) m places (suc used)
  kept_take {i} a = record {
    begins = k.begins;
    all = k.all;
    order = k.order;
    gone = λ r j b l. ⊎_elim (λ g. in_later (k.gone r j b g))
        (λ g. subst (λ x. In x (i ∷ taken)) (same_place (let p : used ≡ r = omega arith in p) a b) in_first)
        (cases_lt r used);
    left = λ r j b l t. ⊎_elim
        (λ e. let o = k.order used r i j (omega arith) a b in omega (arith, e))
        (λ u. k.left r j b (omega arith) u)
        (in_cases t);
    few = let w = at_below a in omega arith;
    past = λ j t. ⊎_elim (λ e. let w = at_below (k.begins used i a) in omega (arith, e)) (λ u. k.past j u) (in_cases t);
  }

  -- a begin of another label is taken
  pub kept_take_other : {i : ℕ} {l : Message} → At seen i (begun l) → l ≢ m → Kept seen (i ∷ taken) m places used
  kept_take_other {i} {l} a d = record {
    begins = k.begins;
    all = k.all;
    order = k.order;
    gone = λ r j b g. in_later (k.gone r j b g);
    left = λ r j b g t. ⊎_elim
        (λ e. let f : begun l ≡ begun m = at_unique a (subst (λ x. At seen x (begun m)) e (k.begins r j b)) in d cc)
        (λ u. k.left r j b g u)
        (in_cases t);
    few = k.few;
    past = λ j t. ⊎_elim (λ e. let w = at_below a in omega (arith, e)) (λ u. k.past j u) (in_cases t);
  }
