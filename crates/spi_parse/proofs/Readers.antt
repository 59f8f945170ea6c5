-- Reading by the table needs no count of turns.
use Rattle.std.proofs.Common.{◌≡◌, ℕ, zero, suc, ◌+◌, ◌-◌, ◌*◌, T, ◌&&◌, ◌<◌, ◌≤◌, Bool, true, false, List, [], ◌∷◌, ◌++◌, length, Option, Some, None, Result, Ok, Err, refl, sym, ap, subst, ◌∙◌, arith}
use Rattle.std.specs.Prelude.{nat_lt}
use Rattle.std.proofs.lemmas.Bool.{ltb-true}
use Rattle.spi_text.specs.declared.lines.Span.{Span}
use Rattle.spi_parse.specs.declared.fault.Fault.{Fault}
use Rattle.spi_lex.specs.declared.token.Kind.{Kind}
use Rattle.spi_parse.specs.Tokens.{Tok, State}
use Rattle.spi_parse.specs.Table.{Sym, Tree, Trees, TableMove, eat, look, may_look, fail, stay, skip, deep_here, delta, at_end, high, all_below, may_stay}
use Rattle.spi_parse.specs.Reading.{◌>>=◌, Out, Reader, Mode, limited, told, any, pass, may_pass, may_lead, leads_deep, read_all, go_on, or_end, reads_step, read_within, read}

-- the value of a step that did not fail
pub bind_ok : {A B : Type 0} (r : Result A Fault) (f : A → Result B Fault) (y : B) → (r >>= f) ≡ Ok y → (x : A) × (r ≡ Ok x) × (f x ≡ Ok y)
bind_ok (Ok x) f y e = (x, refl, e)
bind_ok (Err d) f y e = absurd cc

pub pass_ok : {X : Type 0} (m : Mode) (d f : Bool) (n : ℕ) (go : Out X) (x : X × State) → pass m d f n go ≡ Ok x → go ≡ Ok x
pass_ok limited true f n go x e = absurd cc
pass_ok limited false f n go x e = e
pass_ok told true true n go x e = e
pass_ok told false false n go x e = e
pass_ok told true false n go x e = absurd cc
pass_ok told false true n go x e = absurd cc
pass_ok any d f n go x e = e

pub may_pass_ok : {X : Type 0} (m : Mode) (d f : Bool) (n : ℕ) (go : Out X) (x : X × State) → may_pass m d f n go ≡ Ok x → go ≡ Ok x
may_pass_ok limited true f n go x e = absurd cc
may_pass_ok limited false f n go x e = e
may_pass_ok told true true n go x e = e
may_pass_ok told false false n go x e = e
may_pass_ok told true false n go x e = e
may_pass_ok told false true n go x e = absurd cc
may_pass_ok any d f n go x e = e

pub may_lead_ok : {X : Type 0} (m : Mode) (may f leads : Bool) (n : ℕ) (go : Out X) (x : X × State) → may_lead m may f leads n go ≡ Ok x → go ≡ Ok x
may_lead_ok limited may f leads n go x e = e
may_lead_ok told true true true n go x e = e
may_lead_ok told true true false n go x e = e
may_lead_ok told true false true n go x e = e
may_lead_ok told true false false n go x e = absurd cc
may_lead_ok told false true true n go x e = e
may_lead_ok told false true false n go x e = e
may_lead_ok told false false true n go x e = e
may_lead_ok told false false false n go x e = e
may_lead_ok any may f leads n go x e = e

pub record NoLonger (rd : Reader) : Type 0 where
  pub by : (a : Sym) (s : State) (x : Tree a × State) → rd a s ≡ Ok x → length x.1.rest ≤ length s.rest

abbrev pub done_result : {X : Type 0} → X → Result X Fault
done_result x = Ok x

pub ok_is : {X : Type 0} (y x : X) → done_result y ≡ done_result x → y ≡ x
ok_is y x e = cc

ok_length : {X : Type 0} (y x : X × State) → done_result y ≡ done_result x → length x.1.rest ≡ length y.1.rest
ok_length {X = X} y x e = ap (λ (z : X × State). length z.1.rest) (sym (ok_is y x e))

abbrev pub at : ℕ → List Tok → State
at e ts = record { end = e; rest = ts }

module _ (rd : Reader) (short : NoLonger rd) where
  pub all_no_longer : (l : List Sym) (s : State) (x : Trees l × State) → read_all rd l s ≡ Ok x → length x.1.rest ≤ length s.rest
  all_no_longer [] s x e = let k = ok_length (tt, s) x e in omega arith
  all_no_longer (a ∷ l) s x e =
      let p = bind_ok (rd a s) (λ y. read_all rd l y.1 >>= λ ys. Ok ((y.0, ys.0), ys.1)) x e in
      let q = bind_ok (read_all rd l p.0.1) (λ ys. Ok ((p.0.0, ys.0), ys.1)) x p.2 in
      let k = ok_length ((p.0.0, q.0.0), q.0.1) x q.2 in
      let one = short.by a s p.0 p.1 in
      let two = all_no_longer l p.0.1 q.0 q.1 in
      omega arith

  pub moves_no_longer : {a : Sym} {ate : Bool} (m : Mode) (mv : TableMove a ate) (deep : Bool) (ss : List Span) (e : ℕ) (ts : List Tok) (x : Tree a × State) → go_on m rd mv deep ss (at e ts) ≡ Ok x → length x.1.rest ≤ length ts
  moves_no_longer m fail deep ss e ts x h = absurd cc
  moves_no_longer m (stay l low b) deep ss e [] x h = absurd cc
  moves_no_longer {a = a} m (stay l low b) deep ss e (t ∷ ts) x h =
      let p = bind_ok (read_all rd l (at e (t ∷ ts))) (λ xs. Ok (b (ss ++ t.span ∷ []) xs.1.end xs.0, xs.1)) x h in
      let k = ok_length {X = Tree a} (b (ss ++ t.span ∷ []) p.0.1.end p.0.0, p.0.1) x p.2 in
      let one = all_no_longer l (at e (t ∷ ts)) p.0 p.1 in
      omega arith
  moves_no_longer {a = a} m (skip y) deep ss e ts x h = let k = ok_length {X = Tree a} (y, at e ts) x h in omega arith
  moves_no_longer m (eat l b) deep ss e [] x h = absurd cc
  moves_no_longer {a = a} m (eat l b) deep ss e (t ∷ ts) x h =
      let g = pass_ok m deep t.deep _ _ x h in
      let p = bind_ok (read_all rd l (at t.span.to ts)) (λ xs. Ok (b (ss ++ t.span ∷ []) xs.1.end xs.0, xs.1)) x g in
      let k = ok_length {X = Tree a} (b (ss ++ t.span ∷ []) p.0.1.end p.0.0, p.0.1) x p.2 in
      let one = all_no_longer l (at t.span.to ts) p.0 p.1 in
      omega arith
  moves_no_longer m (look f) deep ss e [] x h = absurd cc
  moves_no_longer {a = a} m (look f) deep ss e (t ∷ []) x h =
      let none : Out (Tree a) = Err (Fault.Syntax 0) in
      let g : none ≡ Ok x = pass_ok m deep t.deep _ _ x h in absurd cc
  moves_no_longer m (look f) deep ss e (t ∷ t' ∷ ts) x h =
      let g = pass_ok m deep t.deep _ _ x h in
      let one = moves_no_longer m (f t'.kind) false (ss ++ t.span ∷ []) t.span.to (t' ∷ ts) x g in
      omega arith
  moves_no_longer m (may_look d f) deep ss e [] x h = absurd cc
  moves_no_longer {a = a} m (may_look d f) deep ss e (t ∷ []) x h =
      let none : Out (Tree a) = Err (Fault.Syntax 0) in
      let g : none ≡ Ok x = may_pass_ok m d t.deep _ _ x h in absurd cc
  moves_no_longer m (may_look d f) deep ss e (t ∷ t' ∷ ts) x h =
      let g = may_lead_ok m d t.deep (leads_deep (f t'.kind)) _ _ x (may_pass_ok m d t.deep _ _ x h) in
      let one = moves_no_longer m (f t'.kind) false (ss ++ t.span ∷ []) t.span.to (t' ∷ ts) x g in
      omega arith

  pub step_no_longer : (m : Mode) (a : Sym) (e : ℕ) (ts : List Tok) (x : Tree a × State) → reads_step m rd a (at e ts) ≡ Ok x → length x.1.rest ≤ length ts
  step_no_longer m a e [] x h = end_no_longer (at_end a) h
    where
      end_no_longer : (o : Option (Tree a)) → or_end o (at e []) ≡ Ok x → length x.1.rest ≤ 0
      end_no_longer None k = absurd cc
      end_no_longer (Some y) k = let j = ok_length {X = Tree a} (y, at e []) x k in omega arith
  step_no_longer m a e (t ∷ ts) x h = moves_no_longer m (delta a t.kind) (deep_here a) [] e (t ∷ ts) x h

pub within_no_longer : (m : Mode) (n : ℕ) → NoLonger (read_within m n)
unfolding read_within
within_no_longer m zero = record { by = λ a s x h. absurd cc }
within_no_longer m (suc n) = record { by = λ a s x h. step_no_longer (read_within m n) (within_no_longer m n) m a s.end s.rest x h }

pub no_longer : (m : Mode) → NoLonger (read m)
unfolding read
no_longer m = record { by = λ a s x h. (within_no_longer m (4 * length s.rest + 4)).by a s x h }

-- what holds of the tokens that are left, and of each end of them, holds of those left behind what was read
module _ (P : List Tok → Type 0) (tail : (t : Tok) (ts : List Tok) → P (t ∷ ts) → P ts) where
  pub record KeepsState (rd : Reader) : Type 0 where
    pub by : (a : Sym) (s : State) (x : Tree a × State) → rd a s ≡ Ok x → P s.rest → P x.1.rest

  kept : {X : Type 0} (y x : X × State) → done_result y ≡ done_result x → P y.1.rest → P x.1.rest
  kept {X = X} y x e p = subst (λ (z : X × State). P z.1.rest) (ok_is y x e) p

  module _ (rd : Reader) (keep : KeepsState rd) where
    pub all_keep : (l : List Sym) (s : State) (x : Trees l × State) → read_all rd l s ≡ Ok x → P s.rest → P x.1.rest
    all_keep [] s x e p = kept (tt, s) x e p
    all_keep (a ∷ l) s x e p =
        let q = bind_ok (rd a s) (λ y. read_all rd l y.1 >>= λ ys. Ok ((y.0, ys.0), ys.1)) x e in
        let r = bind_ok (read_all rd l q.0.1) (λ ys. Ok ((q.0.0, ys.0), ys.1)) x q.2 in
        kept ((q.0.0, r.0.0), r.0.1) x r.2 (all_keep l q.0.1 r.0 r.1 (keep.by a s q.0 q.1 p))

    pub moves_keep : {a : Sym} {ate : Bool} (m : Mode) (mv : TableMove a ate) (deep : Bool) (ss : List Span) (e : ℕ) (ts : List Tok) (x : Tree a × State) → go_on m rd mv deep ss (at e ts) ≡ Ok x → P ts → P x.1.rest
    moves_keep m fail deep ss e ts x h p = absurd cc
    moves_keep m (stay l low b) deep ss e [] x h p = absurd cc
    moves_keep {a = a} m (stay l low b) deep ss e (t ∷ ts) x h p =
        let q = bind_ok (read_all rd l (at e (t ∷ ts))) (λ xs. Ok (b (ss ++ t.span ∷ []) xs.1.end xs.0, xs.1)) x h in
        kept {X = Tree a} (b (ss ++ t.span ∷ []) q.0.1.end q.0.0, q.0.1) x q.2 (all_keep l (at e (t ∷ ts)) q.0 q.1 p)
    moves_keep {a = a} m (skip y) deep ss e ts x h p = kept {X = Tree a} (y, at e ts) x h p
    moves_keep m (eat l b) deep ss e [] x h p = absurd cc
    moves_keep {a = a} m (eat l b) deep ss e (t ∷ ts) x h p =
        let g = pass_ok m deep t.deep _ _ x h in
        let q = bind_ok (read_all rd l (at t.span.to ts)) (λ xs. Ok (b (ss ++ t.span ∷ []) xs.1.end xs.0, xs.1)) x g in
        kept {X = Tree a} (b (ss ++ t.span ∷ []) q.0.1.end q.0.0, q.0.1) x q.2 (all_keep l (at t.span.to ts) q.0 q.1 (tail t ts p))
    moves_keep m (look f) deep ss e [] x h p = absurd cc
    moves_keep {a = a} m (look f) deep ss e (t ∷ []) x h p =
        let none : Out (Tree a) = Err (Fault.Syntax 0) in
        let g : none ≡ Ok x = pass_ok m deep t.deep _ _ x h in absurd cc
    moves_keep m (look f) deep ss e (t ∷ t' ∷ ts) x h p =
        let g = pass_ok m deep t.deep _ _ x h in
        moves_keep m (f t'.kind) false (ss ++ t.span ∷ []) t.span.to (t' ∷ ts) x g (tail t (t' ∷ ts) p)
    moves_keep m (may_look d f) deep ss e [] x h p = absurd cc
    moves_keep {a = a} m (may_look d f) deep ss e (t ∷ []) x h p =
        let none : Out (Tree a) = Err (Fault.Syntax 0) in
        let g : none ≡ Ok x = may_pass_ok m d t.deep _ _ x h in absurd cc
    moves_keep m (may_look d f) deep ss e (t ∷ t' ∷ ts) x h p =
        let g = may_lead_ok m d t.deep (leads_deep (f t'.kind)) _ _ x (may_pass_ok m d t.deep _ _ x h) in
        moves_keep m (f t'.kind) false (ss ++ t.span ∷ []) t.span.to (t' ∷ ts) x g (tail t (t' ∷ ts) p)

    pub step_keeps : (m : Mode) (a : Sym) (e : ℕ) (ts : List Tok) (x : Tree a × State) → reads_step m rd a (at e ts) ≡ Ok x → P ts → P x.1.rest
    step_keeps m a e [] x h p = at_ends (at_end a) h
      where
        at_ends : (o : Option (Tree a)) → or_end o (at e []) ≡ Ok x → P x.1.rest
        at_ends None k = absurd cc
        at_ends (Some y) k = kept {X = Tree a} (y, at e []) x k p
    step_keeps m a e (t ∷ ts) x h p = moves_keep m (delta a t.kind) (deep_here a) [] e (t ∷ ts) x h p

  pub within_keeps : (m : Mode) (n : ℕ) → KeepsState (read_within m n)
  unfolding read_within
  within_keeps m zero = record { by = λ a s x h p. absurd cc }
  within_keeps m (suc n) = record { by = λ a s x h p. step_keeps (read_within m n) (within_keeps m n) m a s.end s.rest x h p }

-- where the parts of a symbol may begin with it, more turns are wanted
abbrev turns : Sym → State → ℕ
turns a s = 4 * length s.rest + high a

high_most : (a : Sym) → high a ≤ 3
high_most (Sym.fields_item v n) = omega arith
high_most (Sym.fields v n) = omega arith
high_most (Sym.named v) = omega arith
high_most (Sym.sproc v n) = omega arith
high_most Sym.free_rest = omega arith
high_most (Sym.abbr_rest v) = omega arith
high_most Sym.act_rest = omega arith
high_most Sym.talk_rest = omega arith
high_most (Sym.body v) = omega arith
high_most Sym.file = omega arith
high_most _ = omega arith

-- two readers that agree where no more turns than this are wanted
record Agree (rd rd' : Reader) (most : ℕ) : Type 0 where
  by : (a : Sym) (s : State) → turns a s ≤ most → rd a s ≡ rd' a s

-- parts that are at most so high
abbrev AtMost : ℕ → List Sym → Type 0
AtMost r [] = Unit {0}
AtMost r (a ∷ l) = (high a ≤ r) × AtMost r l

all_at_most : (l : List Sym) → AtMost 3 l
all_at_most [] = tt
all_at_most (a ∷ l) = (high_most a, all_at_most l)

below_at_most : (n : ℕ) (l : List Sym) → T (all_below (suc n) l) → AtMost n l
below_at_most n [] h = tt
below_at_most n (a ∷ l) h = go (λ k. below_at_most n l k) (nat_lt (high a) (suc n)) refl h
  where
    go : (T (all_below (suc n) l) → AtMost n l) → (b : Bool) → nat_lt (high a) (suc n) ≡ b → T (b && all_below (suc n) l) → (high a ≤ n) × AtMost n l
    go ih false e k = absurd k
    go ih true e k = (let j = ltb-true _ _ e in omega arith, ih k)

below_none : (c : Sym) (l : List Sym) → T (all_below 0 (c ∷ l)) → ⊥
below_none c l h = go (nat_lt (high c) 0) refl h
  where
    go : (b : Bool) → nat_lt (high c) 0 ≡ b → T (b && all_below 0 l) → ⊥
    go false e k = k
    go true e k = let j = ltb-true _ _ e in omega arith

module _ (rd rd' : Reader) (short : NoLonger rd) (most : ℕ) (same : Agree rd rd' most) where
  all_agree : (r : ℕ) (l : List Sym) (s : State) → AtMost r l → 4 * length s.rest + r ≤ most → read_all rd l s ≡ read_all rd' l s
  all_agree r [] s low h = refl
  all_agree r (a ∷ l) s low h = go (λ s' k. all_agree r l s' low.1 k) (rd a s) refl ∙ ap (λ (r : Out (Tree a)). ◌>>=◌ {B = Trees (a ∷ l) × State} r (λ x. read_all rd' l x.1 >>= λ xs. Ok ((x.0, xs.0), xs.1))) (same.by a s (let k = low.0 in omega arith))
    where
      go : ((s' : State) → 4 * length s'.rest + r ≤ most → read_all rd l s' ≡ read_all rd' l s') → (o : Out (Tree a)) → rd a s ≡ o → ◌>>=◌ {B = Trees (a ∷ l) × State} o (λ x. read_all rd l x.1 >>= λ xs. Ok ((x.0, xs.0), xs.1)) ≡ (o >>= λ x. read_all rd' l x.1 >>= λ xs. Ok ((x.0, xs.0), xs.1))
      go ih (Err f) e = refl
      go ih (Ok x) e = ap (λ (o : Out (Trees l)). ◌>>=◌ {B = Trees (a ∷ l) × State} o (λ xs. Ok ((x.0, xs.0), xs.1))) (ih x.1 (let k = short.by a s x e in omega arith))

  -- how many turns a move of this symbol wants at these tokens, less one
  abbrev wanted : Bool → Sym → ℕ → ℕ
  wanted true a n = 4 * n + 3
  wanted false a n = 4 * n + high a - 1

  moves_agree : {a : Sym} {ate : Bool} (m : Mode) (mv : TableMove a ate) (deep : Bool) (ss : List Span) (e : ℕ) (ts : List Tok) → wanted ate a (length ts) ≤ most → go_on m rd mv deep ss (at e ts) ≡ go_on m rd' mv deep ss (at e ts)
  moves_agree m fail deep ss e ts h = refl
  moves_agree m (stay l low b) deep ss e [] h = refl
  moves_agree {a = a} {ate = ate} m (stay l low b) deep ss e (t ∷ ts) h = ap (λ (r : Out (Trees l)). ◌>>=◌ {B = Tree a × State} r (λ xs. Ok (b (ss ++ t.span ∷ []) xs.1.end xs.0, xs.1))) (go ate low h)
    where
      split : (hi : ℕ) → T (all_below hi l) → 4 * suc (length ts) + hi - 1 ≤ most → read_all rd l (at e (t ∷ ts)) ≡ read_all rd' l (at e (t ∷ ts))
      split zero k j = none l k
        where
          none : (l : List Sym) → T (all_below 0 l) → read_all rd l (at e (t ∷ ts)) ≡ read_all rd' l (at e (t ∷ ts))
          none [] k = refl
          none (c ∷ l) k = absurd (below_none c l k)
      split (suc hi) k j = all_agree hi l (at e (t ∷ ts)) (below_at_most hi l k) (omega arith)

      go : (ate : Bool) → T (may_stay ate a l) → wanted ate a (suc (length ts)) ≤ most → read_all rd l (at e (t ∷ ts)) ≡ read_all rd' l (at e (t ∷ ts))
      go true k j = all_agree 3 l (at e (t ∷ ts)) (all_at_most l) j
      go false k j = split (high a) k j
  moves_agree m (skip y) deep ss e ts h = refl
  moves_agree m (eat l b) deep ss e [] h = refl
  moves_agree {a = a} {ate = ate} m (eat l b) deep ss e (t ∷ ts) h =
      ap (λ (r : Out (Trees l)). pass {X = Tree a} m deep t.deep (suc (length ts)) (r >>= λ xs. Ok (b (ss ++ t.span ∷ []) xs.1.end xs.0, xs.1))) (all_agree 3 l (at t.span.to ts) (all_at_most l) (less ate h))
    where
      less : (ate : Bool) → wanted ate a (suc (length ts)) ≤ most → 4 * length ts + 3 ≤ most
      less true k = omega arith
      less false k = omega arith
  moves_agree m (look f) deep ss e [] h = refl
  moves_agree m (look f) deep ss e (t ∷ []) h = refl
  moves_agree {a = a} {ate = ate} m (look f) deep ss e (t ∷ t' ∷ ts) h =
      ap (λ (r : Out (Tree a)). pass m deep t.deep (suc (suc (length ts))) r) (moves_agree m (f t'.kind) false (ss ++ t.span ∷ []) t.span.to (t' ∷ ts) (less ate h))
    where
      less : (ate : Bool) → wanted ate a (suc (suc (length ts))) ≤ most → 4 * suc (length ts) + 3 ≤ most
      less true k = omega arith
      less false k = omega arith
  moves_agree m (may_look d f) deep ss e [] h = refl
  moves_agree m (may_look d f) deep ss e (t ∷ []) h = refl
  moves_agree {a = a} {ate = ate} m (may_look d f) deep ss e (t ∷ t' ∷ ts) h =
      ap (λ (r : Out (Tree a)). may_pass m d t.deep (suc (suc (length ts))) (may_lead m d t.deep (leads_deep (f t'.kind)) (suc (suc (length ts))) r)) (moves_agree m (f t'.kind) false (ss ++ t.span ∷ []) t.span.to (t' ∷ ts) (less ate h))
    where
      less : (ate : Bool) → wanted ate a (suc (suc (length ts))) ≤ most → 4 * suc (length ts) + 3 ≤ most
      less true k = omega arith
      less false k = omega arith

  step_agree : (m : Mode) (a : Sym) (e : ℕ) (ts : List Tok) → 4 * length ts + high a ≤ suc most → reads_step m rd a (at e ts) ≡ reads_step m rd' a (at e ts)
  step_agree m a e [] h = refl
  step_agree m a e (t ∷ ts) h = moves_agree m (delta a t.kind) (deep_here a) [] e (t ∷ ts) (omega arith)

-- one turn more changes nothing
at_most_none : (m : Mode) (a : Sym) (e : ℕ) (ts : List Tok) → 4 * length ts + high a < 1 → read_within m 1 a (at e ts) ≡ read_within m 2 a (at e ts)
unfolding read_within
at_most_none m a e [] h = refl
at_most_none m a e (t ∷ ts) h = absurd (omega arith)

one_more : (m : Mode) (n : ℕ) (a : Sym) (s : State) → turns a s < n → read_within m n a s ≡ read_within m (suc n) a s
unfolding read_within
one_more m zero a s h = absurd (omega arith)
one_more m (suc zero) a s h = at_most_none m a s.end s.rest h
one_more m (suc (suc n)) a s h =
    step_agree (read_within m (suc n)) (read_within m (suc (suc n))) (within_no_longer m (suc n)) n (record { by = λ b s' k. one_more m (suc n) b s' (omega arith) }) m a s.end s.rest (omega arith)

more : (m : Mode) (k n n' : ℕ) (a : Sym) (s : State) → k + n ≡ n' → turns a s < n → read_within m n a s ≡ read_within m n' a s
more m zero n n' a s e h = let same : n ≡ n' = omega arith in ap (λ i. read_within m i a s) same
more m (suc k) n n' a s e h = one_more m n a s h ∙ more m k (suc n) n' a s (omega arith) (omega arith)

any_turns : (m : Mode) (n n' : ℕ) (a : Sym) (s : State) → turns a s < n → turns a s < n' → read_within m n a s ≡ read_within m n' a s
any_turns m n n' a s h k = more m n' n (n' + n) a s refl h ∙ sym (more m n n' (n' + n) a s (omega arith) k)

within_step : (m : Mode) (n : ℕ) (a : Sym) (s : State) → read_within m (suc n) a s ≡ reads_step m (read_within m n) a s
unfolding read_within
within_step m n a s = refl

step_at : (m : Mode) (a : Sym) (e : ℕ) (ts : List Tok) → read m a (at e ts) ≡ reads_step m (read m) a (at e ts)
unfolding read
step_at m a e ts =
    let two : 4 * length ts + 4 ≡ suc (4 * length ts + 3) = omega arith in
    let r = high_most a in
    ap (λ i. read_within m i a (at e ts)) two ∙ within_step m (4 * length ts + 3) a (at e ts) ∙
    step_agree (read_within m (4 * length ts + 3)) (read m) (within_no_longer m (4 * length ts + 3)) (4 * length ts + 2)
    (record { by = λ b s k. let q = high_most b in any_turns m (4 * length ts + 3) (4 * length s.rest + 4) b s (omega arith) (omega arith) }) m a e ts (omega arith)

pub read_is_step : (m : Mode) (a : Sym) (s : State) → read m a s ≡ reads_step m (read m) a s
read_is_step m a s = step_at m a s.end s.rest

-- any number of turns from this on is enough
pub read_enough : (m : Mode) (n : ℕ) (a : Sym) (s : State) → 4 * length s.rest + 4 ≤ n → read m a s ≡ read_within m n a s
unfolding read
read_enough m n a s h = let q = high_most a in any_turns m (4 * length s.rest + 4) n a s (omega arith) (omega arith)

-- ---- what takes at least one token

abbrev pub Base : {a : Sym} → TableMove a false → Type 0
Base (eat l b) = Unit {0}
Base (look f) = Unit {0}
Base fail = Unit {0}
Base (stay l low b) = ⊥
Base (may_look d f) = Unit {0}
Base (skip x) = ⊥

pub record Eats (a : Sym) : Type 0 where
  pub ends : at_end a ≡ None
  pub moves : (k : Kind) → Base (delta a k)

abbrev pub EatsFirst : List Sym → Type 0
EatsFirst [] = ⊥
EatsFirst (b ∷ l) = Eats b

abbrev pub TakesToken : {a : Sym} → TableMove a false → Type 0
TakesToken (eat l b) = Unit {0}
TakesToken (look f) = Unit {0}
TakesToken fail = Unit {0}
TakesToken (stay l low b) = EatsFirst l
TakesToken (may_look d f) = Unit {0}
TakesToken (skip x) = ⊥

pub record TakesSome (a : Sym) : Type 0 where
  pub ends : at_end a ≡ None
  pub moves : (k : Kind) → TakesToken (delta a k)

pub none_ends : {X : Type 0} (o : Option X) (s : State) (x : X × State) → o ≡ None → or_end o s ≡ Ok x → ⊥
none_ends None s x n e = cc
none_ends (Some y) s x n e = cc

module _ (m : Mode) where
  moves_shorter : {a : Sym} (mv : TableMove a false) (deep : Bool) (ss : List Span) (e : ℕ) (t : Tok) (ts : List Tok) (x : Tree a × State) → Base mv → go_on m (read m) mv deep ss (at e (t ∷ ts)) ≡ Ok x → length x.1.rest ≤ length ts
  moves_shorter fail deep ss e t ts x base h = absurd cc
  moves_shorter (stay l low b) deep ss e t ts x base h = absurd base
  moves_shorter (skip y) deep ss e t ts x base h = absurd base
  moves_shorter {a = a} (eat l b) deep ss e t ts x base h =
      let g = pass_ok m deep t.deep _ _ x h in
      let p = bind_ok (read_all (read m) l (at t.span.to ts)) (λ xs. Ok (b (ss ++ t.span ∷ []) xs.1.end xs.0, xs.1)) x g in
      let k = ok_length {X = Tree a} (b (ss ++ t.span ∷ []) p.0.1.end p.0.0, p.0.1) x p.2 in
      let one = all_no_longer (read m) (no_longer m) l (at t.span.to ts) p.0 p.1 in
      omega arith
  moves_shorter {a = a} (look f) deep ss e t [] x base h =
      let none : Out (Tree a) = Err (Fault.Syntax 0) in
      let g : none ≡ Ok x = pass_ok m deep t.deep _ _ x h in absurd cc
  moves_shorter (look f) deep ss e t (t' ∷ ts) x base h =
      let g = pass_ok m deep t.deep _ _ x h in
      moves_no_longer (read m) (no_longer m) m (f t'.kind) false (ss ++ t.span ∷ []) t.span.to (t' ∷ ts) x g
  moves_shorter {a = a} (may_look d f) deep ss e t [] x base h =
      let none : Out (Tree a) = Err (Fault.Syntax 0) in
      let g : none ≡ Ok x = may_pass_ok m d t.deep _ _ x h in absurd cc
  moves_shorter (may_look d f) deep ss e t (t' ∷ ts) x base h =
      let g = may_lead_ok m d t.deep (leads_deep (f t'.kind)) _ _ x (may_pass_ok m d t.deep _ _ x h) in
      moves_no_longer (read m) (no_longer m) m (f t'.kind) false (ss ++ t.span ∷ []) t.span.to (t' ∷ ts) x g

  eats_at : (a : Sym) (e : ℕ) (ts : List Tok) (x : Tree a × State) → Eats a → reads_step m (read m) a (at e ts) ≡ Ok x → length x.1.rest < length ts
  eats_at a e [] x eats h = absurd (none_ends (at_end a) (at e []) x eats.ends h)
  eats_at a e (t ∷ ts) x eats h = let k = moves_shorter (delta a t.kind) (deep_here a) [] e t ts x (eats.moves t.kind) h in omega arith

  pub eats_some : (a : Sym) (s : State) (x : Tree a × State) → Eats a → read m a s ≡ Ok x → length x.1.rest < length s.rest
  eats_some a s x eats h = eats_at a s.end s.rest x eats (sym (read_is_step m a s) ∙ h)

  moves_take : {a : Sym} (mv : TableMove a false) (deep : Bool) (ss : List Span) (e : ℕ) (t : Tok) (ts : List Tok) (x : Tree a × State) → TakesToken mv → go_on m (read m) mv deep ss (at e (t ∷ ts)) ≡ Ok x → length x.1.rest ≤ length ts
  moves_take fail deep ss e t ts x takes h = moves_shorter fail deep ss e t ts x tt h
  moves_take (stay [] low b) deep ss e t ts x takes h = absurd takes
  moves_take {a = a} (stay (c ∷ l) low b) deep ss e t ts x takes h =
      let p = bind_ok (read_all (read m) (c ∷ l) (at e (t ∷ ts))) (λ xs. Ok (b (ss ++ t.span ∷ []) xs.1.end xs.0, xs.1)) x h in
      let k = ok_length {X = Tree a} (b (ss ++ t.span ∷ []) p.0.1.end p.0.0, p.0.1) x p.2 in
      let q = bind_ok (read m c (at e (t ∷ ts))) (λ y. read_all (read m) l y.1 >>= λ ys. Ok ((y.0, ys.0), ys.1)) p.0 p.1 in
      let r = bind_ok (read_all (read m) l q.0.1) (λ ys. Ok ((q.0.0, ys.0), ys.1)) p.0 q.2 in
      let j = ok_length {X = Trees (c ∷ l)} ((q.0.0, r.0.0), r.0.1) p.0 r.2 in
      let one = eats_some c (at e (t ∷ ts)) q.0 takes q.1 in
      let two = all_no_longer (read m) (no_longer m) l q.0.1 r.0 r.1 in
      omega arith
  moves_take (skip y) deep ss e t ts x takes h = absurd takes
  moves_take (eat l b) deep ss e t ts x takes h = moves_shorter (eat l b) deep ss e t ts x tt h
  moves_take (look f) deep ss e t ts x takes h = moves_shorter (look f) deep ss e t ts x tt h
  moves_take (may_look d f) deep ss e t ts x takes h = moves_shorter (may_look d f) deep ss e t ts x tt h

  takes_at : (a : Sym) (e : ℕ) (ts : List Tok) (x : Tree a × State) → TakesSome a → reads_step m (read m) a (at e ts) ≡ Ok x → length x.1.rest < length ts
  takes_at a e [] x takes h = absurd (none_ends (at_end a) (at e []) x takes.ends h)
  takes_at a e (t ∷ ts) x takes h = let k = moves_take (delta a t.kind) (deep_here a) [] e t ts x (takes.moves t.kind) h in omega arith

  pub takes_some : (a : Sym) (s : State) (x : Tree a × State) → TakesSome a → read m a s ≡ Ok x → length x.1.rest < length s.rest
  takes_some a s x takes h = takes_at a s.end s.rest x takes (sym (read_is_step m a s) ∙ h)
