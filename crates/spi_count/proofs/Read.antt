-- Effects read back from counts and atoms that wait.
use Rattle.std.proofs.Common.{◌≡◌, refl, sym, ap, ◌∙◌, subst, ℕ, zero, suc, ◌+◌, ◌<◌, ◌≤◌, Bool, true, false, [], ◌∷◌, ◌++◌, List, length, replicate, Some, Result, Ok, Err, IfOk, arith}
use Rattle.std.specs.Prelude.{slice_get, ◌%◌, if◌then◌else◌, eqb}
use Rattle.spi_term.specs.Term.{Message, Atom, ends, checks, many, same_atom, Effect}
use Rattle.spi_term.specs.View.{message}
use Rattle.spi_term.specs.declared.term.Msg.{Msg}
use Rattle.spi_term.specs.Counts.{tally, cut, count, SameEffect}
use Rattle.spi_term.proofs.Counting.{tally_append, same_atom_true, in_tally, tally_in, count_tally}
use Rattle.spi_intern.specs.declared.store.Store.{Store}
use Rattle.spi_intern.specs.declared.messages.MsgId.{MsgId}
use Rattle.spi_intern.specs.Messages.{message_at}
use Rattle.spi_intern.specs.Parts.{message_of}
use Rattle.spi_intern.proofs.Sized.{message_there}
use Rattle.spi_count.specs.Counts.{count_of}
use Rattle.spi_count.specs.Sums.{name_bound, key_of, kind_of_atom, part, both_counts}
use Rattle.spi_count.specs.Piles.{is_kind, waits_once, waits, piled}
use Rattle.spi_count.specs.declared.sum.AtomKind.{AtomKind}
use Rattle.spi_count.specs.declared.sum.AtomKind.TheVariants.{End, Check, Many}
use Rattle.spi_count.specs.declared.pile.Pile.{Pile}
use Rattle.spi_count.specs.declared.pile.Late.{Late}
use Rattle.spi_count.specs.declared.keys.Keys.{Keys}
use Rattle.spi_count.specs.Keeping.{with_keys, IsKeyed, HasKey, HaveKeys}
use Rattle.spi_count.specs.Adding.{PileOf, AreKeyed, AreRead, atom_of_kind}
use Rattle.spi_count.proofs.Waiting.{waits_more, waits_here, waits_at, kind_itself, both_turned}
use Rattle.spi_count.proofs.Piled.{once_is}
use Rattle.spi_count.proofs.Summed.{numbers}

pub nothing_read : (s : Store) (keys : Keys) (es : Effect) → es ≡ [] → AreRead s keys [] es
nothing_read s keys es e = subst (AreRead s keys []) (sym e) (record {
  counts = λ a i g. refl;
  known = λ a n. elim n [ ];
})

tally_same : (a b : Atom) (t : Bool) → same_atom a b ≡ t → (n : ℕ) → tally a (replicate n b) ≡ (if t then n else 0)
tally_same a b true e zero = refl
tally_same a b true e (suc n) =
    ap (λ (t : Bool). (if t then 1 else 0) + tally a (replicate n b)) e
    ∙ (let h = tally_same a b true e n in let g : 1 + tally a (replicate n b) ≡ suc n = omega (arith, h) in g)
tally_same a b false e zero = refl
tally_same a b false e (suc n) =
    ap (λ (t : Bool). (if t then 1 else 0) + tally a (replicate n b)) e
    ∙ (let h = tally_same a b false e n in let g : 0 + tally a (replicate n b) ≡ 0 = omega (arith, h) in g)

-- so often, where once is known
often : (b c t : Bool) (n : ℕ) → ◌≡◌ {A = ℕ} (if b then (if c then 1 else 0) else 0) (if t then 1 else 0) → (if b then (if c then n else 0) else 0) ≡ (if t then n else 0)
often true true true n e = refl
often true true false n e = absurd (omega (arith, e))
often true false true n e = absurd (omega (arith, e))
often true false false n e = refl
often false c true n e = absurd (omega (arith, e))
often false c false n e = refl

more_read : (a : Atom) (t x n : ℕ) → cut a t ≡ cut a x → cut a (t + n) ≡ cut a (both_counts (kind_of_atom a) x n)
more_read (ends l) t x n e = omega (arith, e)
more_read (checks l) t x n e = omega (arith, e)
more_read (many l) t x n e = omega (arith, e)

cut_twice : (a : Atom) (n : ℕ) → cut a (cut a n) ≡ cut a n
cut_twice (ends l) n = refl
cut_twice (checks l) n = refl
cut_twice (many l) n = omega arith

kind_over : (kind : AtomKind) (m : Message) → kind_of_atom (atom_of_kind kind m) ≡ kind
kind_over End m = refl
kind_over Check m = refl
kind_over Many m = refl

message_over : (kind : AtomKind) (m : Message) → message_of (atom_of_kind kind m) ≡ m
message_over End m = refl
message_over Check m = refl
message_over Many m = refl

module _ (s : Store) (keys : Keys) (k : IsKeyed s keys) (vs : List Late) (gs : Effect) (r : AreRead s keys vs gs) (w : Late) where
  none_more : w.count ≡ 0 → AreRead s keys (vs ++ w ∷ []) gs
  none_more z = record {
    counts = λ a i g.
        r.counts a i g ∙ ap (cut a) (sym (waits_more (kind_of_atom a) vs w (key_of (name_bound (message_of a)) i) ∙ step (kind_of_atom a) (key_of (name_bound (message_of a)) i)));
    known = r.known;
  }
    where
      nothing : (b c : Bool) (n : ℕ) → n ≡ 0 → (if b then (if c then n else 0) else 0) ≡ 0
      nothing true true n e = e
      nothing true false n e = refl
      nothing false c n e = refl

      same : (l : AtomKind) (n m : ℕ) → m ≡ 0 → both_counts l n m ≡ n
      same End n m e = omega (arith, e)
      same Check n m e = omega (arith, e)
      same Many n m e = omega (arith, e)

      step : (l : AtomKind) (q : ℕ) → both_counts l (waits l vs q) (waits_once l w q) ≡ waits l vs q
      step l q = same l (waits l vs q) (waits_once l w q) (nothing (is_kind l w.kind) (eqb w.key q) w.count z)

  module _ (j : ℕ) (b : Atom) (h : with_keys s keys j (message_of b)) (kb : w.kind ≡ kind_of_atom b) (f : w.key ≡ key_of (name_bound (message_of b)) j) where
    waits_is : (a : Atom) (i : ℕ) → with_keys s keys i (message_of a) → waits_once (kind_of_atom a) w (key_of (name_bound (message_of a)) i) ≡ (if same_atom a b then w.count else 0)
    waits_is a i g =
        ap (λ l. if is_kind (kind_of_atom a) l then (if eqb w.key (key_of (name_bound (message_of a)) i) then w.count else 0) else 0) kb
        ∙ ap (λ q. if is_kind (kind_of_atom a) (kind_of_atom b) then (if eqb q (key_of (name_bound (message_of a)) i) then w.count else 0) else 0) f
        ∙ often (is_kind (kind_of_atom a) (kind_of_atom b)) (eqb (key_of (name_bound (message_of b)) j) (key_of (name_bound (message_of a)) i)) (same_atom a b) w.count
        (once_is (with_keys s keys) (numbers k) b j h a i g)

    some_more : AreRead s keys (vs ++ w ∷ []) (gs ++ replicate w.count b)
    some_more = record { counts = counts_after; known = known_after }
      where
        counts_after : (a : Atom) (i : ℕ) → with_keys s keys i (message_of a)
            → count a (gs ++ replicate w.count b) ≡ cut a (waits (kind_of_atom a) (vs ++ w ∷ []) (key_of (name_bound (message_of a)) i))
        counts_after a i g =
            ap (cut a) (tally_append a gs (replicate w.count b) ∙ ap (λ n. tally a gs + n) (tally_same a b (same_atom a b) refl w.count ∙ sym (waits_is a i g)))
            ∙ more_read a (tally a gs) (waits (kind_of_atom a) vs (key_of (name_bound (message_of a)) i)) (waits_once (kind_of_atom a) w (key_of (name_bound (message_of a)) i)) (r.counts a i g)
            ∙ ap (cut a) (sym (waits_more (kind_of_atom a) vs w (key_of (name_bound (message_of a)) i)))

        known_after : HaveKeys s keys (gs ++ replicate w.count b)
        known_after a m = go (same_atom a b) refl (tally_append a gs (replicate w.count b)) (in_tally m)
          where
            go : (v : Bool) → same_atom a b ≡ v → tally a (gs ++ replicate w.count b) ≡ tally a gs + tally a (replicate w.count b) → 1 ≤ tally a (gs ++ replicate w.count b) → HasKey s keys (message_of a)
            go true v y l = (j, subst (λ (c : Atom). with_keys s keys j (message_of c)) (sym (same_atom_true a b v)) h)
            go false v y l =
                let z = tally_same a b false v w.count in
                r.known a (tally_in a gs (omega (arith, y, l, z)))

  -- one more that waits
  pub next_read : (hs : Effect) → (0 < w.count → (j : ℕ) × (m : Message) × with_keys s keys j m × (w.key ≡ key_of (name_bound m) j))
      → ((j : ℕ) (m : Message) → 0 < w.count → with_keys s keys j m → w.key ≡ key_of (name_bound m) j → hs ≡ gs ++ replicate w.count (atom_of_kind w.kind m))
      → (w.count ≡ 0 → hs ≡ gs) → AreRead s keys (vs ++ w ∷ []) hs
  next_read hs key some none = go w.count refl
    where
      go : (n : ℕ) → w.count ≡ n → AreRead s keys (vs ++ w ∷ []) hs
      go zero e = subst (AreRead s keys (vs ++ w ∷ [])) (sym (none e)) (none_more e)
      go (suc n) e =
          let p : 0 < w.count = omega (arith, e) in
          let (j, m, h, f) = key p in
          subst (AreRead s keys (vs ++ w ∷ [])) (sym (some j m p h f))
          (some_more j (atom_of_kind w.kind m) (subst (with_keys s keys j) (sym (message_over w.kind m)) h) (sym (kind_over w.kind m)) (f ∙ ap (λ m. key_of (name_bound m) j) (sym (message_over w.kind m))))

-- the keys of what waits where a pile stands for an effect
pub keys_wait : (s : Store) (keys : Keys) (p : Pile) (es : Effect) (ws : List Late) → PileOf s keys p es → ((l : AtomKind) (q : ℕ) → waits l ws q ≡ piled l p q) → AreKeyed s keys ws
keys_wait s keys p es ws t e i w at h =
    let here : 0 < waits_once w.kind w w.key = subst (λ n. 0 < n) (sym (waits_here w.kind w w.key (kind_itself w.kind) refl)) h in
    t.kept w.kind w.key (subst (λ n. 0 < n) (e w.kind w.key) (waits_at w.kind ws i w w.key at here))

pub read_all : (s : Store) (keys : Keys) (p : Pile) (es gs : Effect) (ws : List Late) → PileOf s keys p es → ((l : AtomKind) (q : ℕ) → waits l ws q ≡ piled l p q) → AreRead s keys ws gs → SameEffect gs es
read_all s keys p es gs ws t e r = record { at = λ a. go a (count a gs) refl (count a es) refl }
  where
    keyed : (a : Atom) → HasKey s keys (message_of a) → count a gs ≡ count a es
    keyed a h =
        r.counts a h.0 h.1
        ∙ ap (cut a) (e (kind_of_atom a) (key_of (name_bound (message_of a)) h.0) ∙ t.counted a h.0 h.1)
        ∙ cut_twice a (tally a es)

    go : (a : Atom) (x : ℕ) → count a gs ≡ x → (y : ℕ) → count a es ≡ y → count a gs ≡ count a es
    go a zero e zero f = e ∙ sym f
    go a zero e (suc y) f = keyed a (t.known a (tally_in a es ((count_tally a (tally a es)).0 (omega (arith, f)))))
    go a (suc x) e y f = keyed a (r.known a (tally_in a gs ((count_tally a (tally a gs)).0 (omega (arith, e)))))

-- the counts wait behind the atoms that waited
pub all_wait : (kind : AtomKind) (p q : Pile) (ws : List Late) (k : ℕ) → waits kind ws k ≡ both_counts kind (waits kind p.late.items k) (count_of (part kind p.sum) k) → piled kind p k ≡ piled kind q k → waits kind ws k ≡ piled kind q k
all_wait kind p q ws k e f = e ∙ both_turned kind (waits kind p.late.items k) (count_of (part kind p.sum) k) ∙ f

-- messages by their numbers
pub read_there : {E : Type 0} (ms : List Message) (id : MsgId) → id.place < length ms → (r : Result Msg E) → IfOk r (λ (m : Msg). message m ≡ message_at ms id) → IfOk r (λ (m : Msg). slice_get ms id.place ≡ Some (message m))
read_there ms id h (Ok m) e = message_there ms id h ∙ ap Some (sym e)
read_there ms id h (Err x) e = tt

-- the place of a key
pub key_place : (s : Store) (keys : Keys) (i q : ℕ) (m : Message) → with_keys s keys i m → q ≡ key_of (name_bound m) i → q % 4294967296 ≡ i
key_place s keys i q m w e = let l = w.small in omega (arith, e, l)
