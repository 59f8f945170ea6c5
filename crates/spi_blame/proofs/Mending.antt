-- Where the blamed part is mended, the blame moves to the right.
use Rattle.std.proofs.Common.{◌≡◌, refl, sym, subst, ℕ, ◌<◌, inl, inr, List, [], ◌∷◌, arith}
use Rattle.std.proofs.lemmas.Bool.{cases_order}
use Rattle.spi_term.specs.Lists.{At, at_first, at_later}
use Rattle.spi_term.proofs.Lists.{at_unique}
use Rattle.spi_term.specs.Term.{Message, un}
use Rattle.spi_rules.specs.Environment.{Env}
use Rattle.spi_blame.specs.Blaming.{Question, typed, AnswersYes, subject, IsKeyName, Asks, asks_pair, asks_pair_un, asks_left, asks_left_un, asks_right, asks_right_un, asks_key, asks_enc, asks_hash, asks_label_pair, asks_label_left, asks_label_right, asks_label_key, asks_label_enc, asks_label_hash, HoldBefore, Blamed, itself, inside}
use Rattle.spi_blame.specs.Paths.{IsLeftOf, turns_here, turns_further, ChildAt, child_first, child_second, child_left, child_right, child_body, child_key, child_hash}
use Rattle.spi_blame.specs.Mending.{asked_of, put_child, Swapped, swap_whole, swap_inside}
use Rattle.spi_blame.proofs.Blaming.{no_key, key_typed, asks_one, blamed_no, child_asked}

child_one : {m c d : Message} {i : ℕ} → ChildAt m i c → ChildAt m i d → c ≡ d
child_one child_first child_first = refl
child_one child_second child_second = refl
child_one child_left child_left = refl
child_one child_right child_right = refl
child_one child_body child_body = refl
child_one child_key child_key = refl
child_one child_hash child_hash = refl

put_named : {env : Env} {m c : Message} {i : ℕ} (d : Message) → ChildAt m i c → IsKeyName env (put_child m i d) → ⊥
put_named d child_first k = absurd (cc (k.is))
put_named d _ k = absurd (cc (k.is))

-- a mended key is no name of a Key type
key_kept : {env : Env} {w r : Question} {p : List ℕ} {m n c d : Message} → Blamed env w p r → AnswersYes env (asked_of r n) → w ≡ typed m un → Swapped c p n d → IsKeyName env d → ⊥
key_kept {env} (itself x) h e (swap_whole {n = n}) k = no_key (subst (λ v. AnswersYes env (asked_of v n)) e h) k
key_kept (inside k a f b) h e (swap_inside {d = y} d s) x = put_named y d x

abbrev New : Env → Question → List Question → Message → ℕ → Question → Type 0
New env q qs c i w = (rs : List Question) × Asks env (asked_of q (put_child (subject q) i c)) rs × At rs i (asked_of w c) × ((j : ℕ) (v : Question) → j < i → At rs j v → At qs j v)

abbrev MendsByOne : Env → Question → List Question → Message → ℕ → Question → Type 0
MendsByOne env q qs c i w = (AnswersYes env w → ⊥) → ((m : Message) → w ≡ typed m un → IsKeyName env c → ⊥) → New env q qs c i w

none_case : (P : ℕ → Question → Type 0) {i : ℕ} {w : Question} → At [] i w → P i w
none_case P x = elim x [ ]

one_case : (P : ℕ → Question → Type 0) {a w : Question} {i : ℕ} → At (a ∷ []) i w → P 0 a → P i w
one_case P at_first h = h
one_case P (at_later x) h = elim x [ ]

two_case : (P : ℕ → Question → Type 0) {a b w : Question} {i : ℕ} → At (a ∷ b ∷ []) i w → P 0 a → P 1 b → P i w
two_case P at_first h k = h
two_case P (at_later at_first) h k = k
two_case P (at_later (at_later x)) h k = elim x [ ]

before_none : {qs rs : List Question} (j : ℕ) (v : Question) → j < 0 → At rs j v → At qs j v
before_none j v lt a = absurd (omega arith)

before_one : {a b c : Question} (j : ℕ) (v : Question) → j < 1 → At (a ∷ b ∷ []) j v → At (a ∷ c ∷ []) j v
before_one {a} {b} {c} j v lt at = go at lt
  where
    go : {j : ℕ} {v : Question} → At (a ∷ b ∷ []) j v → j < 1 → At (a ∷ c ∷ []) j v
    go at_first lt = at_first
    go (at_later x) lt = absurd (omega arith)

step : {env : Env} {q w : Question} {qs : List Question} {i : ℕ} (c : Message) → Asks env q qs → At qs i w → MendsByOne env q qs c i w
step {env} {q} {w} {qs} c asks_pair a = two_case (MendsByOne env q qs c) a (λ h z. (_, asks_pair, at_first, before_none)) (λ h z. (_, asks_pair, at_later at_first, before_one))
step {env} {q} {w} {qs} c asks_pair_un a = two_case (MendsByOne env q qs c) a (λ h z. (_, asks_pair_un, at_first, before_none)) (λ h z. (_, asks_pair_un, at_later at_first, before_one))
step {env} {q} {w} {qs} c asks_left a = one_case (MendsByOne env q qs c) a (λ h z. (_, asks_left, at_first, before_none))
step {env} {q} {w} {qs} c asks_left_un a = one_case (MendsByOne env q qs c) a (λ h z. (_, asks_left_un, at_first, before_none))
step {env} {q} {w} {qs} c asks_right a = one_case (MendsByOne env q qs c) a (λ h z. (_, asks_right, at_first, before_none))
step {env} {q} {w} {qs} c asks_right_un a = one_case (MendsByOne env q qs c) a (λ h z. (_, asks_right_un, at_first, before_none))
step {env} {q} {w} {qs} c (asks_key b) a = two_case (MendsByOne env q qs c) a (λ h z. absurd (h (key_typed b))) (λ h z. (_, asks_key b, at_later at_first, before_one))
step {env} {q} {w} {qs} c (asks_enc n) a = two_case (MendsByOne env q qs c) a (λ h z. (_, asks_enc (z _ refl), at_first, before_none)) (λ h z. (_, asks_enc n, at_later at_first, before_one))
step {env} {q} {w} {qs} c asks_hash a = one_case (MendsByOne env q qs c) a (λ h z. (_, asks_hash, at_first, before_none))
step {env} {q} {w} {qs} c asks_label_pair a = two_case (MendsByOne env q qs c) a (λ h z. (_, asks_label_pair, at_first, before_none)) (λ h z. (_, asks_label_pair, at_later at_first, before_one))
step {env} {q} {w} {qs} c asks_label_left a = one_case (MendsByOne env q qs c) a (λ h z. (_, asks_label_left, at_first, before_none))
step {env} {q} {w} {qs} c asks_label_right a = one_case (MendsByOne env q qs c) a (λ h z. (_, asks_label_right, at_first, before_none))
step {env} {q} {w} {qs} c (asks_label_key b) a = two_case (MendsByOne env q qs c) a (λ h z. absurd (h (key_typed b))) (λ h z. (_, asks_label_key b, at_later at_first, before_one))
step {env} {q} {w} {qs} c (asks_label_enc n) a = two_case (MendsByOne env q qs c) a (λ h z. (_, asks_label_enc (z _ refl), at_first, before_none)) (λ h z. (_, asks_label_enc n, at_later at_first, before_one))
step {env} {q} {w} {qs} c asks_label_hash a = one_case (MendsByOne env q qs c) a (λ h z. (_, asks_label_hash, at_first, before_none))
step {env} {q} {w} {qs} c _ a = none_case (MendsByOne env q qs c) a

-- the new blame, if any, once it's known for the part
further : {env : Env} {q s : Question} {qs rs : List Question} {i : ℕ} {p o : List ℕ} (w : Question) (c : Message) → HoldBefore env qs i → Asks env q rs → At rs i (asked_of w c) → ((j : ℕ) (v : Question) → j < i → At rs j v → At qs j v) → ((o : List ℕ) → Blamed env (asked_of w c) o s → IsLeftOf p o) → Blamed env q o s → IsLeftOf (i ∷ p) o
further w c f k a g rec (itself x) = absurd (x _ k)
further {env} {s = s} {rs = rs} {i = i} {p = p} w c f k a g rec (inside {r = v} {i = j} {path = o} k' a' f' b) =
    let at : At rs j v = subst (λ l. At l j v) (asks_one k' k) a' in
    elim (cases_order j i) [
      | inl e ↦
          let same : v ≡ asked_of w c = at_unique (subst (λ n. At rs n v) e at) a in
          subst (λ n. IsLeftOf (i ∷ p) (n ∷ o)) (sym e) (turns_further (rec o (subst (λ x. Blamed env x o s) same b)))
      | inr x ↦ elim x [ inl lt ↦ absurd (blamed_no b (f j v lt (g j v lt at))) | inr lt ↦ turns_here lt ]
    ]

pub mended : {env : Env} {q r s : Question} {p o : List ℕ} {n m : Message} → Blamed env q p r → AnswersYes env (asked_of r n) → Swapped (subject q) p n m → Blamed env (asked_of q m) o s → IsLeftOf p o
mended (itself x) h swap_whole b = absurd (blamed_no b h)
mended {env} {s = s} {n = n} (inside {q = q} {r = w} {i = i} {path = p} k a f b) h (swap_inside {c = c} {d = d} ch sw) b' =
    let e : c ≡ subject w = child_one ch (child_asked k a) in
    let t : Swapped (subject w) p n d = subst (λ v. Swapped v p n d) e sw in
    let (rs, k', a', g) = step d k a (λ x. blamed_no b x) (λ m z x. key_kept b h z sw x) in
    further w d f k' a' g (λ o y. mended b h t y) b'
