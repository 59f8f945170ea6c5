-- A fault depends on the tokens up to it alone.
use Rattle.std.proofs.Common.{◌≡◌, ℕ, zero, suc, ◌+◌, ◌<◌, ◌≤◌, ◌*◌, Bool, true, false, List, [], ◌∷◌, ◌++◌, length, Option, Some, None, Result, Ok, Err, refl, sym, ap, subst, ◌∙◌, ◌⊎◌, inl, inr, arith}
use Rattle.std.proofs.lemmas.Bool.{cases_lt}
use Rattle.spi_text.specs.declared.lines.Span.{Span}
use Rattle.spi_parse.specs.declared.fault.Fault.{Fault}
use Rattle.spi_parse.specs.declared.fault.Fault.TheVariants.{Syntax, TooDeep}
use Rattle.spi_lex.specs.declared.token.Kind.{Kind}
use Rattle.spi_parse.specs.Tokens.{Tok, State}
use Rattle.spi_parse.specs.Table.{Sym, Tree, Trees, TableMove, eat, look, may_look, fail, stay, skip, deep_here, delta, at_end}
use Rattle.spi_parse.specs.Reading.{◌>>=◌, Out, Reader, limited, told, pass, may_pass, may_lead, leads_deep, read_all, with_next, go_on, or_end, reads_step, read_within, read}
use Rattle.spi_parse.proofs.Readers.{at, bind_ok, ok_is, pass_ok, NoLonger, within_no_longer, all_no_longer, moves_no_longer, step_no_longer, read_enough, may_lead_ok, KeepsState, moves_keep, step_keeps, within_keeps, none_ends}

abbrev pub left_of : Fault → ℕ
left_of (Syntax n) = n
left_of (TooDeep n) = n

-- ---- a fault is among the tokens that are left

pub record ReadsWithin (rd : Reader) : Type 0 where
  pub by : (a : Sym) (s : State) (d : Fault) → rd a s ≡ Err d → left_of d ≤ length s.rest

pass_left : {X : Type 0} (deep f : Bool) (n : ℕ) (go : Out X) (d : Fault) → pass limited deep f n go ≡ Err d → (left_of d ≡ n) ⊎ (go ≡ Err d)
pass_left true f n go d h = let e : TooDeep n ≡ d = cc in inl (sym (ap left_of e))
pass_left false f n go d h = inr h

may_pass_left : {X : Type 0} (deep f : Bool) (n : ℕ) (go : Out X) (d : Fault) → may_pass limited deep f n go ≡ Err d → (left_of d ≡ n) ⊎ (go ≡ Err d)
may_pass_left true f n go d h = let e : TooDeep n ≡ d = cc in inl (sym (ap left_of e))
may_pass_left false f n go d h = inr h

bind_err : {A B : Type 0} (r : Result A Fault) (f : A → Result B Fault) (d : Fault) → (r >>= f) ≡ Err d → (r ≡ Err d) ⊎ ((x : A) × (r ≡ Ok x) × (f x ≡ Err d))
bind_err (Ok x) f d e = inr (x, refl, e)
bind_err (Err d') f d e = inl cc

only_err : {A B : Type 0} (r : Result A Fault) (g : A → B) (d : Fault) → (r >>= λ x. Ok (g x)) ≡ Err d → r ≡ Err d
only_err (Ok x) g d e = absurd cc
only_err (Err d') g d e = cc

module _ (rd : Reader) (short : NoLonger rd) (within : ReadsWithin rd) where
  all_within : (l : List Sym) (s : State) (d : Fault) → read_all rd l s ≡ Err d → left_of d ≤ length s.rest
  all_within [] s d h = absurd cc
  all_within (a ∷ l) s d h = elim (bind_err (rd a s) (λ x. read_all rd l x.1 >>= λ ys. Ok ((x.0, ys.0), ys.1)) d h) [
    | inl e ↦ within.by a s d e
    | inr p ↦
        let one = short.by a s p.0 p.1 in
        let two = all_within l p.0.1 d (only_err (read_all rd l p.0.1) (λ (ys : Trees l × State). ((p.0.0, ys.0), ys.1)) d p.2) in
        omega arith
  ]

  moves_within : {a : Sym} {ate : Bool} (mv : TableMove a ate) (deep : Bool) (ss : List Span) (e : ℕ) (ts : List Tok) (d : Fault) → go_on limited rd mv deep ss (at e ts) ≡ Err d → left_of d ≤ length ts
  moves_within fail deep ss e ts d h = let k : Syntax (length ts) ≡ d = cc in let j = ap left_of k in omega arith
  moves_within (skip y) deep ss e ts d h = absurd cc
  moves_within (stay l low b) deep ss e [] d h = let k : Syntax 0 ≡ d = cc in let j = ap left_of k in omega arith
  moves_within {a = a} (stay l low b) deep ss e (t ∷ ts) d h = all_within l (at e (t ∷ ts)) d (only_err (read_all rd l (at e (t ∷ ts))) (λ (xs : Trees l × State). (b (ss ++ t.span ∷ []) xs.1.end xs.0, xs.1)) d h)
  moves_within (eat l b) deep ss e [] d h = let k : Syntax 0 ≡ d = cc in let j = ap left_of k in omega arith
  moves_within {a = a} (eat l b) deep ss e (t ∷ ts) d h = elim (pass_left deep t.deep _ _ d h) [
    | inl k ↦ omega arith
    | inr g ↦ let j = all_within l (at t.span.to ts) d (only_err (read_all rd l (at t.span.to ts)) (λ (xs : Trees l × State). (b (ss ++ t.span ∷ []) xs.1.end xs.0, xs.1)) d g) in omega arith
  ]
  moves_within (look f) deep ss e [] d h = let k : Syntax 0 ≡ d = cc in let j = ap left_of k in omega arith
  moves_within {a = a} (look f) deep ss e (t ∷ []) d h = elim (pass_left {X = Tree a} deep t.deep _ (Err (Syntax 0)) d h) [
    | inl k ↦ omega arith
    | inr g ↦ let k : Syntax 0 ≡ d = cc (g) in let j = ap left_of k in omega arith
  ]
  moves_within {a = a} (look f) deep ss e (t ∷ t' ∷ ts) d h = elim (pass_left {X = Tree a} deep t.deep _ _ d h) [
    | inl k ↦ omega arith
    | inr g ↦ let j = moves_within (f t'.kind) false (ss ++ t.span ∷ []) t.span.to (t' ∷ ts) d g in omega arith
  ]
  moves_within (may_look m f) deep ss e [] d h = let k : Syntax 0 ≡ d = cc in let j = ap left_of k in omega arith
  moves_within {a = a} (may_look m f) deep ss e (t ∷ []) d h = elim (may_pass_left {X = Tree a} m t.deep _ (Err (Syntax 0)) d h) [
    | inl k ↦ omega arith
    | inr g ↦ let k : Syntax 0 ≡ d = cc (g) in let j = ap left_of k in omega arith
  ]
  moves_within {a = a} (may_look m f) deep ss e (t ∷ t' ∷ ts) d h = elim (may_pass_left {X = Tree a} m t.deep _ _ d h) [
    | inl k ↦ omega arith
    | inr g ↦ let j = moves_within (f t'.kind) false (ss ++ t.span ∷ []) t.span.to (t' ∷ ts) d g in omega arith
  ]

  step_within : (a : Sym) (e : ℕ) (ts : List Tok) (d : Fault) → reads_step limited rd a (at e ts) ≡ Err d → left_of d ≤ length ts
  step_within a e [] d h = none (at_end a) h
    where
      none : (o : Option (Tree a)) → or_end o (at e []) ≡ Err d → left_of d ≤ 0
      none None k = let j : Syntax 0 ≡ d = cc in let i = ap left_of j in omega arith
      none (Some y) k = absurd cc
  step_within a e (t ∷ ts) d h = moves_within (delta a t.kind) (deep_here a) [] e (t ∷ ts) d h

is_within : (n : ℕ) → ReadsWithin (read_within limited n)
unfolding read_within
is_within zero = record { by = λ a s d h. none s d h }
  where
    none : {X : Type 0} (s : State) (d : Fault) → ◌≡◌ {A = Out X} (Err (Syntax (length s.rest))) (Err d) → left_of d ≤ length s.rest
    none s d k = let j : Syntax (length s.rest) ≡ d = cc in let i = ap left_of j in omega arith
is_within (suc n) = record { by = λ a s d h. step_within (read_within limited n) (within_no_longer limited n) (is_within n) a s.end s.rest d h }

pub read_within_left : (a : Sym) (s : State) (d : Fault) → read limited a s ≡ Err d → left_of d ≤ length s.rest
read_within_left a s d h = (is_within (4 * length s.rest + 4)).by a s d (sym (read_enough limited (4 * length s.rest + 4) a s (omega arith)) ∙ h)

-- ---- the flags of the tokens that tell

abbrev pub NoFlag : List Tok → Type 0
NoFlag [] = Unit {0}
NoFlag (t ∷ ts) = (t.deep ≡ false) × NoFlag ts

no_flag_tail : (t : Tok) (ts : List Tok) → NoFlag (t ∷ ts) → NoFlag ts
no_flag_tail t ts h = h.1

-- a node above a limit is seen at its first token
abbrev pub Flags : {a : Sym} → TableMove a false → Type 0
Flags (eat l b) = Unit {0}
Flags (look f) = Unit {0}
Flags fail = Unit {0}
Flags (stay l low b) = ⊥
Flags (may_look d f) = ⊥
Flags (skip x) = ⊥

-- what stands for nothing at the end is empty at every other token, or begins with a token that it eats
abbrev pub MoveOpens : {a : Sym} → TableMove a false → Type 0
MoveOpens (eat l b) = Unit {0}
MoveOpens (skip x) = Unit {0}
MoveOpens (look f) = ⊥
MoveOpens fail = ⊥
MoveOpens (stay l low b) = ⊥
MoveOpens (may_look d f) = ⊥

pub record TableFlags : Type 0 where
  pub moves : (a : Sym) (k : Kind) → deep_here a ≡ true → Flags (delta a k)
  pub ends : (a : Sym) → deep_here a ≡ true → at_end a ≡ None
  pub tails : (a : Sym) (k : Kind) (x : Tree a) → at_end a ≡ Some x → MoveOpens (delta a k) × (deep_here a ≡ false)

-- what is read of a symbol above its limit has a flag
record FlagsFirst (rt : Reader) : Type 0 where
  by : (a : Sym) (u : State) (y : Tree a × State) → deep_here a ≡ true → rt a u ≡ Ok y → NoFlag u.rest → ⊥

pass_flag : {X : Type 0} (f : Bool) (n : ℕ) (go : Out X) (y : X × State) → pass told true f n go ≡ Ok y → f ≡ false → ⊥
pass_flag true n go y h z = cc
pass_flag false n go y h z = cc

module _ (table : TableFlags) where
  flags_at : (rt : Reader) {a : Sym} (mv : TableMove a false) (ss : List Span) (e : ℕ) (u : Tok) (us : List Tok) (y : Tree a × State) → Flags mv → go_on told rt mv true ss (at e (u ∷ us)) ≡ Ok y → u.deep ≡ false → ⊥
  flags_at rt fail ss e u us y f h z = cc
  flags_at rt {a} (eat l b) ss e u us y f h z = pass_flag u.deep _ _ y h z
  flags_at rt {a} (look g) ss e u us y f h z = pass_flag u.deep _ _ y h z
  flags_at rt (stay l low b) ss e u us y f h z = f
  flags_at rt (may_look d g) ss e u us y f h z = f
  flags_at rt (skip x) ss e u us y f h z = f

  step_flags : (rt : Reader) (a : Sym) (e : ℕ) (us : List Tok) (y : Tree a × State) → deep_here a ≡ true → reads_step told rt a (at e us) ≡ Ok y → NoFlag us → ⊥
  step_flags rt a e [] y d h n = none_ends (at_end a) (at e []) y (table.ends a d) h
  step_flags rt a e (u ∷ us) y d h n =
      flags_at rt (delta a u.kind) [] e u us y (table.moves a u.kind d) (subst (λ (b : Bool). go_on told rt (delta a u.kind) b [] (at e (u ∷ us)) ≡ Ok y) d h) n.0

  within_flags : (i : ℕ) → FlagsFirst (read_within told i)
  unfolding read_within
  within_flags zero = record { by = λ a u y d h n. cc }
  within_flags (suc i) = record { by = λ a u y d h n. step_flags (read_within told i) a u.end u.rest y d h n }

-- a move that leads to a node above its limit
leads_flag : (rt : Reader) (first : FlagsFirst rt) {a : Sym} (mv : TableMove a true) (ss : List Span) (e : ℕ) (u : Tok) (us : List Tok) (y : Tree a × State) → leads_deep mv ≡ true → go_on told rt mv false ss (at e (u ∷ us)) ≡ Ok y → NoFlag (u ∷ us) → ⊥
leads_flag rt first (eat [] b) ss e u us y d h n = cc
leads_flag rt first {a} (eat (c ∷ l) b) ss e u us y d h n =
    let g = pass_ok told false u.deep _ _ y h in
    let p = bind_ok (read_all rt (c ∷ l) (at u.span.to us)) (λ xs. Ok (b (ss ++ u.span ∷ []) xs.1.end xs.0, xs.1)) y g in
    let q = bind_ok (rt c (at u.span.to us)) (λ z. read_all rt l z.1 >>= λ ys. Ok ((z.0, ys.0), ys.1)) p.0 p.1 in
    first.by c (at u.span.to us) q.0 d q.1 n.1
leads_flag rt first (look f) ss e u us y d h n = cc
leads_flag rt first fail ss e u us y d h n = cc
leads_flag rt first (stay l low b) ss e u us y d h n = cc
leads_flag rt first (may_look may f) ss e u us y d h n = cc

-- ---- Two lists of tokens of the same kinds, as far as n tokens of the first are left. With e = 0 the first may end there
-- only where the second does; with e = 1 also where the first goes on behind n tokens.

abbrev pub SharedTokens : ℕ → ℕ → List Tok → List Tok → Type 0
SharedTokens e n [] [] = Unit {0}
SharedTokens e n [] (u ∷ us) = n ≡ 0 → ⊥
SharedTokens e n (t ∷ ts) [] = suc (length ts) < n + e
SharedTokens e n (t ∷ ts) (u ∷ us) = n ≤ suc (length ts) → (t.kind ≡ u.kind) × SharedTokens e n ts us

-- and none of those starts a node above a limit by the second list
abbrev pub CleanBefore : ℕ → List Tok → List Tok → Type 0
CleanBefore n [] us = Unit {0}
CleanBefore n (t ∷ ts) [] = Unit {0}
CleanBefore n (t ∷ ts) (u ∷ us) = n ≤ suc (length ts) → (u.deep ≡ false) × CleanBefore n ts us

pub beyond_shared : (e n : ℕ) (ts us : List Tok) → length ts < n → SharedTokens e n ts us
beyond_shared e n [] [] h = tt
beyond_shared e n [] (u ∷ us) h = λ z. omega arith
beyond_shared e n (t ∷ ts) [] h = omega arith
beyond_shared e n (t ∷ ts) (u ∷ us) h = λ k. absurd (omega arith)

beyond_clean : (n : ℕ) (ts us : List Tok) → length ts < n → CleanBefore n ts us
beyond_clean n [] us h = tt
beyond_clean n (t ∷ ts) [] h = tt
beyond_clean n (t ∷ ts) (u ∷ us) h = λ k. absurd (omega arith)

-- what reading the first list answers, where the second is read up to us'
abbrev pub ReadsAlike : {X : Type 0} → ℕ → ℕ → List Tok → List Tok → Out X → List Tok → Type 0
ReadsAlike e n ts us (Ok x) us' = SharedTokens e n x.1.rest us' × (CleanBefore n x.1.rest us' → CleanBefore n ts us) × (NoFlag us → NoFlag us')
ReadsAlike e n ts us (Err (Syntax n')) us' = (n' < n) × CleanBefore n ts us
ReadsAlike e n ts us (Err (TooDeep n')) us' = ((n' < n) × CleanBefore n ts us) ⊎ ((n ≤ n') × (NoFlag us → ⊥))

pub record FollowsBy (x n : ℕ) (rd rt : Reader) : Type 0 where
  pub by : (a : Sym) (s u : State) (y : Tree a × State) → SharedTokens x n s.rest u.rest → rt a u ≡ Ok y → ReadsAlike x n s.rest u.rest (rd a s) y.1.rest

-- an answer with fewer tokens left than are shared
beyond : {X : Type 0} (x n : ℕ) (ts us us' : List Tok) (o : Out X) → length ts < n → (NoFlag us → NoFlag us') → ((y : X × State) → o ≡ Ok y → length y.1.rest ≤ length ts) → ((d : Fault) → o ≡ Err d → left_of d ≤ length ts) → ReadsAlike x n ts us o us'
beyond x n ts us us' (Ok y) h f ok err = let k = ok y refl in (beyond_shared x n y.1.rest us' (omega arith), λ c. beyond_clean n ts us h, f)
beyond x n ts us us' (Err (Syntax n')) h f ok err = let k = err (Syntax n') refl in (omega arith, beyond_clean n ts us h)
beyond x n ts us us' (Err (TooDeep n')) h f ok err = let k = err (TooDeep n') refl in inl (omega arith, beyond_clean n ts us h)

-- what goes on behind a token that is not too deep
behind_token : {X : Type 0} (x n : ℕ) (t u : Tok) (ts us us' : List Tok) (o : Out X) → u.deep ≡ false → ReadsAlike x n ts us o us' → ReadsAlike x n (t ∷ ts) (u ∷ us) o us'
behind_token x n t u ts us us' (Ok y) z f = (f.0, λ c k. (z, f.1 c), λ h. f.2 h.1)
behind_token x n t u ts us us' (Err (Syntax n')) z f = (f.0, λ k. (z, f.1))
behind_token x n t u ts us us' (Err (TooDeep n')) z (inl f) = inl (f.0, λ k. (z, f.1))
behind_token x n t u ts us us' (Err (TooDeep n')) z (inr f) = inr (f.0, λ h. f.1 h.1)

-- the same answer with another tree
built_follows : {X Y : Type 0} (x n : ℕ) (ts us us' : List Tok) (o : Out X) (g : X × State → Y) → ReadsAlike x n ts us o us' → ReadsAlike x n ts us (◌>>=◌ {B = Y × State} o (λ z. Ok (g z, z.1))) us'
built_follows x n ts us us' (Ok z) g f = f
built_follows x n ts us us' (Err (Syntax n')) g f = f
built_follows x n ts us us' (Err (TooDeep n')) g f = f

-- where a flag may stand at a token and doesn't, what follows leads to one
led : {X : Type 0} (d f leads : Bool) (n : ℕ) (go : Out X) (y : X × State) → may_lead told d f leads n go ≡ Ok y → d ≡ true → f ≡ false → (leads ≡ true → ⊥) → ⊥
led true false true n go y h z c k = k refl
led true false false n go y h z c k = cc
led true true leads n go y h z c k = cc
led false f leads n go y h z c k = cc

pass_told : {X : Type 0} (d f : Bool) (n : ℕ) (go : Out X) (x : X × State) → pass told d f n go ≡ Ok x → (d ≡ f) × (go ≡ Ok x)
pass_told true true n go x h = (refl, h)
pass_told false false n go x h = (refl, h)
pass_told true false n go x h = absurd cc
pass_told false true n go x h = absurd cc

may_pass_told : {X : Type 0} (d f : Bool) (n : ℕ) (go : Out X) (x : X × State) → may_pass told d f n go ≡ Ok x → (d ≡ false → f ≡ false) × (go ≡ Ok x)
may_pass_told true f n go x h = (λ e. absurd cc, h)
may_pass_told false false n go x h = (λ e. refl, h)
may_pass_told false true n go x h = absurd cc

module _ (table : TableFlags) (x : ℕ) (most : x ≤ 1) (n : ℕ) (rd rt : Reader) (short : NoLonger rd) (within : ReadsWithin rd) (keep : KeepsState NoFlag no_flag_tail rt) (flagged : FlagsFirst rt) (follow : FollowsBy x n rd rt) where
  all_follows : (l : List Sym) (s u : State) (y : Trees l × State) → SharedTokens x n s.rest u.rest → read_all rt l u ≡ Ok y → ReadsAlike x n s.rest u.rest (read_all rd l s) y.1.rest
  all_follows [] s u y sh h = let e : u.rest ≡ y.1.rest = ap (λ (z : Trees [] × State). z.1.rest) (ok_is (tt, u) y h) in subst (λ (us' : List Tok). SharedTokens x n s.rest us' × (CleanBefore n s.rest us' → CleanBefore n s.rest u.rest) × (NoFlag u.rest → NoFlag us')) e (sh, λ c. c, λ c. c)
  all_follows (a ∷ l) s u y sh h =
      let p = bind_ok (rt a u) (λ z. read_all rt l z.1 >>= λ ys. Ok ((z.0, ys.0), ys.1)) y h in
      let q = bind_ok (read_all rt l p.0.1) (λ ys. Ok ((p.0.0, ys.0), ys.1)) y p.2 in
      let same : q.0.1.rest ≡ y.1.rest = ap (λ (z : Trees (a ∷ l) × State). z.1.rest) (ok_is ((p.0.0, q.0.0), q.0.1) y q.2) in
      subst (λ (us' : List Tok). ReadsAlike x n s.rest u.rest (read_all rd (a ∷ l) s) us') same (go p.0.1.rest q.0.1.rest (λ s' k. all_follows l s' p.0.1 q.0 k q.1) (rd a s) (follow.by a s u p.0 sh p.1))
    where
      joined : (z : Tree a × State) (us us' : List Tok) (o : Out (Trees l)) → (CleanBefore n z.1.rest us → CleanBefore n s.rest u.rest) → (NoFlag u.rest → NoFlag us) → ReadsAlike x n z.1.rest us o us' → ReadsAlike x n s.rest u.rest (◌>>=◌ {B = Trees (a ∷ l) × State} o (λ ys. Ok ((z.0, ys.0), ys.1))) us'
      joined z us us' (Ok ys) c k f = (f.0, λ i. c (f.1 i), λ i. f.2 (k i))
      joined z us us' (Err (Syntax n')) c k f = (f.0, c f.1)
      joined z us us' (Err (TooDeep n')) c k (inl f) = inl (f.0, c f.1)
      joined z us us' (Err (TooDeep n')) c k (inr f) = inr (f.0, λ i. f.1 (k i))

      go : (us us' : List Tok) → ((s' : State) → SharedTokens x n s'.rest us → ReadsAlike x n s'.rest us (read_all rd l s') us') → (o : Out (Tree a)) → ReadsAlike x n s.rest u.rest o us → ReadsAlike x n s.rest u.rest (◌>>=◌ {B = Trees (a ∷ l) × State} o (λ z. read_all rd l z.1 >>= λ ys. Ok ((z.0, ys.0), ys.1))) us'
      go us us' ih (Ok z) f = joined z us us' (read_all rd l z.1) f.1 f.2 (ih z.1 f.0)
      go us us' ih (Err (Syntax n')) f = f
      go us us' ih (Err (TooDeep n')) f = f

  -- a token that is not too deep, or a fault
  passes : {X : Type 0} (deep : Bool) (t u : Tok) (ts us us' : List Tok) (o : Out X) → deep ≡ u.deep → n ≤ suc (length ts) → ReadsAlike x n ts us o us' → ReadsAlike x n (t ∷ ts) (u ∷ us) (pass limited deep t.deep (suc (length ts)) o) us'
  passes true t u ts us us' o z k f = inr (k, λ h. let bad = h.0 in cc)
  passes false t u ts us us' o z k f = behind_token x n t u ts us us' o (sym z) f

  may_passes : {X : Type 0} (d : Bool) (t u : Tok) (ts us us' : List Tok) (o : Out X) → (d ≡ false → u.deep ≡ false) → (d ≡ true → NoFlag (u ∷ us) → ⊥) → n ≤ suc (length ts) → ReadsAlike x n ts us o us' → ReadsAlike x n (t ∷ ts) (u ∷ us) (may_pass limited d t.deep (suc (length ts)) o) us'
  may_passes true t u ts us us' o z y k f = inr (k, y refl)
  may_passes false t u ts us us' o z y k f = behind_token x n t u ts us us' o (z refl) f

  abbrev next_move : {a : Sym} → (Kind → TableMove a true) → List Span → ℕ → List Tok → Out (Tree a)
  next_move {a} f ss e ts = with_next {X = Tree a} (at e ts) (λ t' _. go_on limited rd (f t'.kind) false ss (at e ts)) (Err (Syntax 0))

  -- the move that a look leads to
  next_follows : {a : Sym} (f : Kind → TableMove a true) (ss : List Span) (e : ℕ) (ts : List Tok) (u' : Tok) (us us' : List Tok) → SharedTokens x n ts (u' ∷ us) → (NoFlag (u' ∷ us) → NoFlag us')
      → ((t' : Tok) (ts' : List Tok) → ts ≡ t' ∷ ts' → n ≤ suc (length ts') → t'.kind ≡ u'.kind → ReadsAlike x n ts (u' ∷ us) (go_on limited rd (f t'.kind) false ss (at e ts)) us')
      → ReadsAlike x n ts (u' ∷ us) (next_move f ss e ts) us'
  next_follows f ss e [] u' us us' sh nf ih = ((let k = pos n sh in omega arith), tt)
    where
      pos : (i : ℕ) → (i ≡ 0 → ⊥) → 0 < i
      pos zero h = absurd (h refl)
      pos (suc i) h = omega arith
  next_follows {a = a} f ss e (t' ∷ ts) u' us us' sh nf ih = elim (cases_lt (suc (length ts)) n) [
    | inl lt ↦ beyond x n (t' ∷ ts) (u' ∷ us) us' (go_on limited rd (f t'.kind) false ss (at e (t' ∷ ts))) lt nf
        (λ z h. moves_no_longer rd short limited (f t'.kind) false ss e (t' ∷ ts) z h) (λ d h. moves_within rd short within (f t'.kind) false ss e (t' ∷ ts) d h)
    | inr le ↦ ih t' ts refl le (sh le).0
  ]

  moves_follow : {a : Sym} {ate : Bool} (mv : TableMove a ate) (deep : Bool) (ss ss' : List Span) (e e' : ℕ) (t : Tok) (ts : List Tok) (u : Tok) (us : List Tok) (y : Tree a × State) → n ≤ suc (length ts) → SharedTokens x n (t ∷ ts) (u ∷ us)
      → go_on told rt mv deep ss' (at e' (u ∷ us)) ≡ Ok y → ReadsAlike x n (t ∷ ts) (u ∷ us) (go_on limited rd mv deep ss (at e (t ∷ ts))) y.1.rest
  moves_follow fail deep ss ss' e e' t ts u us y k sh h = absurd cc
  moves_follow {a = a} (skip z) deep ss ss' e e' t ts u us y k sh h =
      let q : u ∷ us ≡ y.1.rest = ap (λ (w : Tree a × State). w.1.rest) (ok_is (z, at e' (u ∷ us)) y h) in
      subst (λ (us' : List Tok). ReadsAlike {X = Tree a} x n (t ∷ ts) (u ∷ us) (Ok (z, at e (t ∷ ts))) us') q (sh, λ c. c, λ c. c)
  moves_follow {a = a} (stay l low b) deep ss ss' e e' t ts u us y k sh h =
      let p = bind_ok (read_all rt l (at e' (u ∷ us))) (λ xs. Ok (b (ss' ++ u.span ∷ []) xs.1.end xs.0, xs.1)) y h in
      let q : p.0.1.rest ≡ y.1.rest = ap (λ (w : Tree a × State). w.1.rest) (ok_is (b (ss' ++ u.span ∷ []) p.0.1.end p.0.0, p.0.1) y p.2) in
      subst (λ (us' : List Tok). ReadsAlike {X = Tree a} x n (t ∷ ts) (u ∷ us) (go_on {a = a} limited rd (stay l low b) deep ss (at e (t ∷ ts))) us') q
      (built_follows x n (t ∷ ts) (u ∷ us) p.0.1.rest (read_all rd l (at e (t ∷ ts))) (λ xs. b (ss ++ t.span ∷ []) xs.1.end xs.0) (all_follows l (at e (t ∷ ts)) (at e' (u ∷ us)) p.0 sh p.1))
  moves_follow {a = a} (eat l b) deep ss ss' e e' t ts u us y k sh h =
      let g = pass_told deep u.deep _ _ y h in
      let p = bind_ok (read_all rt l (at u.span.to us)) (λ xs. Ok (b (ss' ++ u.span ∷ []) xs.1.end xs.0, xs.1)) y g.1 in
      let q : p.0.1.rest ≡ y.1.rest = ap (λ (w : Tree a × State). w.1.rest) (ok_is (b (ss' ++ u.span ∷ []) p.0.1.end p.0.0, p.0.1) y p.2) in
      subst (λ (us' : List Tok). ReadsAlike {X = Tree a} x n (t ∷ ts) (u ∷ us) (go_on {a = a} {ate = true} limited rd (eat l b) deep ss (at e (t ∷ ts))) us') q
      (passes deep t u ts us p.0.1.rest _ g.0 k (built_follows x n ts us p.0.1.rest (read_all rd l (at t.span.to ts)) (λ xs. b (ss ++ t.span ∷ []) xs.1.end xs.0) (all_follows l (at t.span.to ts) (at u.span.to us) p.0 (sh k).1 p.1)))
  moves_follow {a = a} (look f) deep ss ss' e e' t ts u [] y k sh h =
      let none : Out (Tree a) = Err (Syntax 0) in
      let g : none ≡ Ok y = (pass_told deep u.deep _ _ y h).1 in absurd cc
  moves_follow {a = a} (look f) deep ss ss' e e' t ts u (u' ∷ us) y k sh h =
      let g = pass_told deep u.deep _ _ y h in
      passes deep t u ts (u' ∷ us) y.1.rest (next_move f (ss ++ t.span ∷ []) t.span.to ts) g.0 k
      (next_follows f (ss ++ t.span ∷ []) t.span.to ts u' us y.1.rest (sh k).1 (λ c. moves_keep NoFlag no_flag_tail rt keep told (f u'.kind) false (ss' ++ u.span ∷ []) u.span.to (u' ∷ us) y g.1 c)
      (λ t' ts' same le kinds. subst (λ (l : List Tok). ReadsAlike {X = Tree a} x n l (u' ∷ us) (go_on limited rd (f t'.kind) false (ss ++ t.span ∷ []) (at t.span.to l)) y.1.rest) (sym same)
      (moves_follow (f t'.kind) false (ss ++ t.span ∷ []) (ss' ++ u.span ∷ []) t.span.to u.span.to t' ts' u' us y le (subst (λ (l : List Tok). SharedTokens x n l (u' ∷ us)) same (sh k).1)
      (subst (λ (i : Kind). go_on told rt (f i) false (ss' ++ u.span ∷ []) (at u.span.to (u' ∷ us)) ≡ Ok y) (sym kinds) g.1))))
  moves_follow {a = a} (may_look d f) deep ss ss' e e' t ts u [] y k sh h =
      let none : Out (Tree a) = Err (Syntax 0) in
      let g : none ≡ Ok y = (may_pass_told d u.deep _ _ y h).1 in absurd cc
  moves_follow {a = a} (may_look d f) deep ss ss' e e' t ts u (u' ∷ us) y k sh h =
      let g = may_pass_told d u.deep _ _ y h in
      let on = may_lead_ok told d u.deep (leads_deep (f u'.kind)) _ _ y g.1 in
      may_passes d t u ts (u' ∷ us) y.1.rest (next_move f (ss ++ t.span ∷ []) t.span.to ts) g.0 (λ z c. led d u.deep (leads_deep (f u'.kind)) _ _ y g.1 z c.0 (λ v. leads_flag rt flagged (f u'.kind) (ss' ++ u.span ∷ []) u.span.to u' us y v on c.1)) k
      (next_follows f (ss ++ t.span ∷ []) t.span.to ts u' us y.1.rest (sh k).1 (λ c. moves_keep NoFlag no_flag_tail rt keep told (f u'.kind) false (ss' ++ u.span ∷ []) u.span.to (u' ∷ us) y on c)
      (λ t' ts' same le kinds. subst (λ (l : List Tok). ReadsAlike {X = Tree a} x n l (u' ∷ us) (go_on limited rd (f t'.kind) false (ss ++ t.span ∷ []) (at t.span.to l)) y.1.rest) (sym same)
      (moves_follow (f t'.kind) false (ss ++ t.span ∷ []) (ss' ++ u.span ∷ []) t.span.to u.span.to t' ts' u' us y le (subst (λ (l : List Tok). SharedTokens x n l (u' ∷ us)) same (sh k).1)
      (subst (λ (i : Kind). go_on told rt (f i) false (ss' ++ u.span ∷ []) (at u.span.to (u' ∷ us)) ≡ Ok y) (sym kinds) on))))

  -- where the second list has ended, the first goes on with nothing, or with a token that it eats
  tail_follows : {a : Sym} (mv : TableMove a false) (e : ℕ) (t : Tok) (ts : List Tok) → MoveOpens mv → n ≡ suc (length ts) → suc (length ts) < n + x → ReadsAlike {X = Tree a} x n (t ∷ ts) [] (go_on limited rd mv false [] (at e (t ∷ ts))) []
  tail_follows {a} (skip z) e t ts op is sh = (sh, λ c. c, λ c. c)
  tail_follows {a} (eat l b) e t ts op is sh = made (◌>>=◌ {B = Tree a × State} (read_all rd l (at t.span.to ts)) (λ xs. Ok (b (t.span ∷ []) xs.1.end xs.0, xs.1)))
      (λ z h. let p = bind_ok (read_all rd l (at t.span.to ts)) (λ xs. Ok (b (t.span ∷ []) xs.1.end xs.0, xs.1)) z h in
      let k = ap (λ (w : Tree a × State). length w.1.rest) (ok_is {X = Tree a × State} (b (t.span ∷ []) p.0.1.end p.0.0, p.0.1) z p.2) in
      let j = all_no_longer rd short l (at t.span.to ts) p.0 p.1 in omega arith)
      (λ d h. all_within rd short within l (at t.span.to ts) d (only_err (read_all rd l (at t.span.to ts)) (λ (xs : Trees l × State). (b (t.span ∷ []) xs.1.end xs.0, xs.1)) d h))
    where
      rest_shared : (rs : List Tok) → length rs ≤ length ts → SharedTokens x n rs []
      rest_shared [] h = tt
      rest_shared (r ∷ rs) h = omega arith

      made : (o : Out (Tree a)) → ((z : Tree a × State) → o ≡ Ok z → length z.1.rest ≤ length ts) → ((d : Fault) → o ≡ Err d → left_of d ≤ length ts) → ReadsAlike {X = Tree a} x n (t ∷ ts) [] o []
      made (Ok z) ok err = (rest_shared z.1.rest (ok z refl), λ c. tt, λ c. c)
      made (Err (Syntax n')) ok err = let k = err (Syntax n') refl in (omega arith, tt)
      made (Err (TooDeep n')) ok err = let k = err (TooDeep n') refl in inl (omega arith, tt)
  tail_follows (look f) e t ts op is sh = absurd op
  tail_follows fail e t ts op is sh = absurd op
  tail_follows (stay l low b) e t ts op is sh = absurd op
  tail_follows (may_look d f) e t ts op is sh = absurd op

  step_follows : (a : Sym) (e e' : ℕ) (ts us : List Tok) (y : Tree a × State) → SharedTokens x n ts us → reads_step told rt a (at e' us) ≡ Ok y → ReadsAlike x n ts us (reads_step limited rd a (at e ts)) y.1.rest
  step_follows a e e' ts us y sh h = elim (cases_lt (length ts) n) [
    | inl lt ↦ beyond x n ts us y.1.rest (reads_step limited rd a (at e ts)) lt (λ c. step_keeps NoFlag no_flag_tail rt keep told a e' us y h c) (λ z k. step_no_longer rd short limited a e ts z k) (λ d k. step_within rd short within a e ts d k)
    | inr le ↦ go ts us sh le h
  ]
    where
      at_ends : (o : Option (Tree a)) → or_end o (at e' []) ≡ Ok y → ReadsAlike x n [] [] (or_end o (at e [])) y.1.rest
      at_ends None k = absurd cc
      at_ends (Some z) k =
          let q : [] ≡ y.1.rest = ap (λ (w : Tree a × State). w.1.rest) (ok_is (z, at e' []) y k) in
          subst (λ (us' : List Tok). ReadsAlike {X = Tree a} x n [] [] (Ok (z, at e [])) us') q (tt, λ c. c, λ c. c)

      goes_on : (t : Tok) (ts : List Tok) (o : Option (Tree a)) → at_end a ≡ o → or_end o (at e' []) ≡ Ok y → n ≡ suc (length ts) → suc (length ts) < n + x → ReadsAlike x n (t ∷ ts) [] (reads_step limited rd a (at e (t ∷ ts))) y.1.rest
      goes_on t ts None is k eq sh = absurd cc
      goes_on t ts (Some z) is k eq sh =
          let q : [] ≡ y.1.rest = ap (λ (w : Tree a × State). w.1.rest) (ok_is (z, at e' []) y k) in
          let tab = table.tails a t.kind z is in
          subst (λ (us' : List Tok). ReadsAlike {X = Tree a} x n (t ∷ ts) [] (reads_step limited rd a (at e (t ∷ ts))) us') q
          (subst (λ (b : Bool). ReadsAlike {X = Tree a} x n (t ∷ ts) [] (go_on limited rd (delta a t.kind) b [] (at e (t ∷ ts))) []) (sym tab.1) (tail_follows (delta a t.kind) e t ts tab.0 eq sh))

      go : (ts us : List Tok) → SharedTokens x n ts us → n ≤ length ts → reads_step told rt a (at e' us) ≡ Ok y → ReadsAlike x n ts us (reads_step limited rd a (at e ts)) y.1.rest
      go [] [] sh le k = at_ends (at_end a) k
      go [] (u ∷ us) sh le k = let z : n ≡ 0 = omega arith in absurd (sh z)
      go (t ∷ ts) [] sh le k = goes_on t ts (at_end a) refl k (omega arith) sh
      go (t ∷ ts) (u ∷ us) sh le k =
          moves_follow (delta a t.kind) (deep_here a) [] [] e e' t ts u us y le sh
          (subst (λ (i : Kind). go_on told rt (delta a i) (deep_here a) [] (at e' (u ∷ us)) ≡ Ok y) (sym (sh le).0) k)

module _ (table : TableFlags) (x : ℕ) (most : x ≤ 1) where
  within_follows : (n i : ℕ) → FollowsBy x n (read_within limited i) (read_within told i)
  unfolding read_within
  within_follows n zero = record { by = λ a s u y sh h. absurd cc }
  within_follows n (suc i) = record { by = λ a s u y sh h. step_follows table x most n (read_within limited i) (read_within told i) (within_no_longer limited i) (is_within i) (within_keeps NoFlag no_flag_tail told i) (within_flags table i) (within_follows n i) a s.end u.end s.rest u.rest y sh h }

  -- what is read up to a place depends on the tokens up to it alone
  pub follows : (n : ℕ) (a : Sym) (s u : State) (y : Tree a × State) → SharedTokens x n s.rest u.rest → read told a u ≡ Ok y → ReadsAlike x n s.rest u.rest (read limited a s) y.1.rest
  follows n a s u y sh h =
      let i = 4 * length s.rest + 4 + (4 * length u.rest + 4) in
      subst (λ (o : Out (Tree a)). ReadsAlike x n s.rest u.rest o y.1.rest) (sym (read_enough limited i a s (omega arith)))
      ((within_follows n i).by a s u y sh (sym (read_enough told i a u (omega arith)) ∙ h))
