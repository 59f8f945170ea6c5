-- What is read is spelled so.
use Rattle.std.proofs.Common.{◌≡◌, ℕ, zero, suc, Bool, true, false, List, [], ◌∷◌, ◌++◌, map, Option, Some, None, Ok, Err, refl, sym, ap, subst, ◌∙◌, append_assoc, ◌⊎◌, inl, inr}
use Rattle.spi_text.specs.declared.lines.Span.{Span}
use Rattle.spi_parse.specs.declared.fault.Fault.{Fault}
use Rattle.spi_lex.specs.declared.token.Kind.{Kind}
use Rattle.spi_lex.specs.declared.token.Token.{Token}
use Rattle.spi_lex.specs.Left.{end_of}
use Rattle.spi_parse.specs.Tokens.{Tok, State}
use Rattle.spi_parse.specs.Table.{Sym, Tree, Trees, TableMove, eat, look, may_look, fail, stay, skip, deep_here, delta, at_end}
use Rattle.spi_parse.specs.Reading.{◌>>=◌, Out, Reader, limited, pass, may_pass, read_all, go_on, or_end, reads_step, read_within, read}
use Rattle.spi_tree.specs.Pieces.{Piece, opens, cell, closes, cells}
use Rattle.spi_parse.specs.Exact.{Spells}
use Rattle.spi_parse.proofs.Readers.{at, bind_ok, ok_is}
use Rattle.spi_parse.proofs.Spell.{spell, spell_all, Formed, FormedAll}

-- a token without its flag
abbrev pub untok : Tok → Token
untok t = record { kind = t.kind; span = t.span }

-- the pieces lie on the tokens up to where these are left
abbrev pub Lies : List Tok → ℕ → List Piece → List Tok → Type 0
Lies left e ps ts = Spells (map untok left) e ps (map untok ts)

abbrev pub plain_tokens : List Tok → List (Kind × Bool)
plain_tokens [] = []
plain_tokens (t ∷ ts) = (t.kind, false) ∷ plain_tokens ts

pub plain_append : (a b : List Tok) (c : List (Kind × Bool)) → plain_tokens (a ++ b) ++ c ≡ plain_tokens a ++ (plain_tokens b ++ c)
plain_append [] b c = refl
plain_append (t ∷ a) b c = ap (λ (l : List (Kind × Bool)). (t.kind, false) ∷ l) (plain_append a b c)

-- the pieces lie on the tokens, up to these pieces and these tokens
pub record Lays (e : ℕ) (ps : List Piece) (ts : List Tok) (e' : ℕ) (ps' : List Piece) (ts' : List Tok) : Type 0 where
  pub pre : List Tok
  pub split : ts ≡ pre ++ ts'
  pub cells_are : cells ps ≡ plain_tokens pre ++ cells ps'
  pub lies : (left : List Tok) → Lies left e' ps' ts' → Lies left e ps ts
  pub ends : end_of e (map untok ts) ≡ end_of e' (map untok ts')

pub lays_here : (e : ℕ) (ps : List Piece) (ts : List Tok) → Lays e ps ts e ps ts
lays_here e ps ts = record { pre = []; split = refl; cells_are = refl; lies = λ left h. h; ends = refl }

pub lays_on : (e e' e'' : ℕ) (ps ps' ps'' : List Piece) (ts ts' ts'' : List Tok) → Lays e ps ts e' ps' ts' → Lays e' ps' ts' e'' ps'' ts'' → Lays e ps ts e'' ps'' ts''
lays_on e e' e'' ps ps' ps'' ts ts' ts'' a b = record {
  pre = a.pre ++ b.pre;
  split = a.split ∙ ap (λ (l : List Tok). a.pre ++ l) b.split ∙ sym (append_assoc a.pre b.pre ts'');
  cells_are = a.cells_are ∙ ap (λ (l : List (Kind × Bool)). plain_tokens a.pre ++ l) b.cells_are ∙ sym (plain_append a.pre b.pre (cells ps''));
  lies = λ left h. a.lies left (b.lies left h);
  ends = a.ends ∙ b.ends;
}

pub lays_open : (e : ℕ) (ps : List Piece) (t : Tok) (ts : List Tok) → Lays e (opens t.span.from ∷ ps) (t ∷ ts) e ps (t ∷ ts)
lays_open e ps t ts = record { pre = []; split = refl; cells_are = refl; lies = λ left h. (refl, h); ends = refl }

pub lays_cell : (e : ℕ) (deep : Bool) (ps : List Piece) (t : Tok) (ts : List Tok) → deep ≡ false → Lays e (cell t.kind deep ∷ ps) (t ∷ ts) t.span.to ps ts
lays_cell e deep ps t ts d = record { pre = t ∷ []; split = refl; cells_are = ap (λ (b : Bool). (t.kind, b) ∷ cells ps) d; lies = λ left h. (refl, d, h); ends = refl }

abbrev pub FrontOfMove : Type 0
FrontOfMove = List Piece → List Piece

-- so many nodes and words begin at a token, or end with one
abbrev pub opened_front : ℕ → ℕ → FrontOfMove
opened_front zero from q = q
opened_front (suc k) from q = opens from ∷ opened_front k from q

abbrev pub closed : ℕ → ℕ → FrontOfMove
closed zero to q = q
closed (suc k) to q = closes to ∷ closed k to q

-- a word that is eaten, alone or as a node
abbrev pub word_front : Bool → Kind → Span → Bool → FrontOfMove
word_front false k s b q = opens s.from ∷ cell k b ∷ closes s.to ∷ q
word_front true k s b q = opens s.from ∷ opens s.from ∷ cell k b ∷ closes s.to ∷ closes s.to ∷ q

-- how the tree that a move builds is spelled: by its parts behind what was eaten, and whether a node begins or ends with it
abbrev pub IsMoveSpelled : (a : Sym) (l : List Sym) → ℕ → FrontOfMove → ℕ → Tree a → Trees l → Type 0
IsMoveSpelled a l from fr to x xs = (o : ℕ) × (c : ℕ) × ((r : List Piece) → spell a x r ≡ opened_front o from (fr (spell_all l xs (closed c to r))))

abbrev pub Builds : (a : Sym) (l : List Sym) → ℕ → FrontOfMove → (ℕ → Trees l → Tree a) → Type 0
Builds a l from fr b = (to : ℕ) (xs : Trees l) → FormedAll l xs → Formed a (b to xs) × IsMoveSpelled a l from fr to (b to xs) xs

-- from is where the first token begins, fr what was eaten, and k and s are of the token to come
abbrev pub MoveOk : {a : Sym} {ate : Bool} → TableMove a ate → Bool → List Span → ℕ → FrontOfMove → Kind → Span → Type 0
MoveOk {a = a} (eat l b) deep ss from fr k s = (w : ℕ) × Builds a l from (λ q. fr (cell k deep ∷ closed w s.to q)) (b (ss ++ s ∷ []))
MoveOk (look f) deep ss from fr k s = (k' : Kind) (s' : Span) → MoveOk (f k') false (ss ++ s ∷ []) from (λ q. fr (cell k deep ∷ q)) k' s'
MoveOk fail deep ss from fr k s = Unit {0}
MoveOk {a = a} (stay l low b) deep ss from fr k s = Builds a l from fr (b (ss ++ s ∷ []))
MoveOk (may_look may f) deep ss from fr k s = (k' : Kind) (s' : Span) →
    MoveOk (f k') false (ss ++ s ∷ []) from (λ q. fr (word_front false k s false q)) k' s'
    ⊎ MoveOk (f k') false (ss ++ s ∷ []) from (λ q. fr (word_front true k s may q)) k' s'
MoveOk {a = a} (skip x) deep ss from fr k s = Formed a x × ((r : List Piece) → spell a x r ≡ fr r)

pub record TableOk : Type 0 where
  pub moves : (a : Sym) (k : Kind) (s : Span) → MoveOk (delta a k) (deep_here a) [] s.from (λ q. q) k s
  pub ends : (a : Sym) (x : Tree a) → at_end a ≡ Some x → Formed a x × ((r : List Piece) → spell a x r ≡ r)

pub record IsSound (rd : Reader) : Type 0 where
  pub by : (a : Sym) (s : State) (x : Tree a × State) → rd a s ≡ Ok x → Formed a x.0 × ((r : List Piece) → Lays s.end (spell a x.0 r) s.rest x.1.end r x.1.rest)

-- what was eaten lies on the tokens so far, and nodes may begin where they begin
pub record Eaten (e0 : ℕ) (ts0 : List Tok) (from : ℕ) (fr : FrontOfMove) (e : ℕ) (ts : List Tok) : Type 0 where
  pub lays : (q : List Piece) → Lays e0 (fr q) ts0 e q ts
  pub starts : (left : List Tok) (ps : List Piece) → Lies left e0 ps ts0 → Lies left e0 (opens from ∷ ps) ts0

pub eaten_more : (e0 : ℕ) (ts0 : List Tok) (from : ℕ) (fr more : FrontOfMove) (e e' : ℕ) (ts ts' : List Tok) → Eaten e0 ts0 from fr e ts → ((q : List Piece) → Lays e (more q) ts e' q ts') → Eaten e0 ts0 from (λ q. fr (more q)) e' ts'
eaten_more e0 ts0 from fr more e e' ts ts' a b = record {
  lays = λ q. lays_on _ _ _ _ _ _ _ _ _ (a.lays (more q)) (b q);
  starts = a.starts;
}

pub cells_opened : (o : ℕ) (from : ℕ) (q : List Piece) → cells (opened_front o from q) ≡ cells q
cells_opened zero from q = refl
cells_opened (suc o) from q = cells_opened o from q

pub cells_closed : (c : ℕ) (to : ℕ) (q : List Piece) → cells (closed c to q) ≡ cells q
cells_closed zero to q = refl
cells_closed (suc c) to q = cells_closed c to q

starts_more : (left : List Tok) (o : ℕ) (e0 : ℕ) (ts0 : List Tok) (from : ℕ) (ps : List Piece) → ((qs : List Piece) → Lies left e0 qs ts0 → Lies left e0 (opens from ∷ qs) ts0) → Lies left e0 ps ts0 → Lies left e0 (opened_front o from ps) ts0
starts_more left zero e0 ts0 from ps go h = h
starts_more left (suc o) e0 ts0 from ps go h = go (opened_front o from ps) (starts_more left o e0 ts0 from ps go h)

pub eaten_opened : (o : ℕ) (e0 : ℕ) (ts0 : List Tok) (from : ℕ) (fr : FrontOfMove) (e : ℕ) (ts : List Tok) → Eaten e0 ts0 from fr e ts → (q : List Piece) → Lays e0 (opened_front o from (fr q)) ts0 e q ts
eaten_opened o e0 ts0 from fr e ts a q =
    let l = a.lays q in
    record { pre = l.pre; split = l.split; cells_are = cells_opened o from (fr q) ∙ l.cells_are; lies = λ left h. starts_more left o e0 ts0 from (fr q) (a.starts left) (l.lies left h); ends = l.ends }

closes_more : (left : List Tok) (c : ℕ) (e : ℕ) (ps : List Piece) (ts : List Tok) → Lies left e ps ts → Lies left e (closed c e ps) ts
closes_more left zero e ps ts h = h
closes_more left (suc c) e ps ts h = (refl, closes_more left c e ps ts h)

pub lays_closed : (c : ℕ) (e : ℕ) (ps : List Piece) (ts : List Tok) → Lays e (closed c e ps) ts e ps ts
lays_closed c e ps ts = record { pre = []; split = refl; cells_are = cells_closed c e ps; lies = λ left h. closes_more left c e ps ts h; ends = refl }

-- a token that is eaten, with a word's end or none
pub lays_token : (w e : ℕ) (deep : Bool) (q : List Piece) (t : Tok) (ts : List Tok) → deep ≡ false → Lays e (cell t.kind deep ∷ closed w t.span.to q) (t ∷ ts) t.span.to q ts
lays_token w e deep q t ts d = lays_on _ _ _ _ _ _ _ _ _ (lays_cell e deep (closed w t.span.to q) t ts d) (lays_closed w t.span.to q ts)

pub lays_word : (node : Bool) (e : ℕ) (deep : Bool) (q : List Piece) (t : Tok) (ts : List Tok) → deep ≡ false → Lays e (word_front node t.kind t.span deep q) (t ∷ ts) t.span.to q ts
lays_word false e deep q t ts d = lays_on _ _ _ _ _ _ _ _ _ (lays_open e (cell t.kind deep ∷ closes t.span.to ∷ q) t ts) (lays_token 1 e deep q t ts d)
lays_word true e deep q t ts d =
    lays_on _ _ _ _ _ _ _ _ _ (lays_open e (opens t.span.from ∷ cell t.kind deep ∷ closes t.span.to ∷ closes t.span.to ∷ q) t ts)
    (lays_on _ _ _ _ _ _ _ _ _ (lays_open e (cell t.kind deep ∷ closes t.span.to ∷ closes t.span.to ∷ q) t ts) (lays_token 2 e deep q t ts d))

pass_limited : {X : Type 0} (d f : Bool) (n : ℕ) (go : Out X) (x : X × State) → pass limited d f n go ≡ Ok x → (d ≡ false) × (go ≡ Ok x)
pass_limited true f n go x e = absurd cc
pass_limited false f n go x e = (refl, e)

may_pass_limited : {X : Type 0} (d f : Bool) (n : ℕ) (go : Out X) (x : X × State) → may_pass limited d f n go ≡ Ok x → (d ≡ false) × (go ≡ Ok x)
may_pass_limited true f n go x e = absurd cc
may_pass_limited false f n go x e = (refl, e)

module _ (rd : Reader) (sound : IsSound rd) where
  pub all_sound : (l : List Sym) (s : State) (x : Trees l × State) → read_all rd l s ≡ Ok x → FormedAll l x.0 × ((r : List Piece) → Lays s.end (spell_all l x.0 r) s.rest x.1.end r x.1.rest)
  all_sound [] s x e = subst (λ (z : Trees [] × State). FormedAll [] z.0 × ((r : List Piece) → Lays s.end (spell_all [] z.0 r) s.rest z.1.end r z.1.rest)) (ok_is (tt, s) x e) (tt, λ r. lays_here s.end r s.rest)
  all_sound (a ∷ l) s x e =
      let p = bind_ok (rd a s) (λ y. read_all rd l y.1 >>= λ ys. Ok ((y.0, ys.0), ys.1)) x e in
      let q = bind_ok (read_all rd l p.0.1) (λ ys. Ok ((p.0.0, ys.0), ys.1)) x p.2 in
      let one = sound.by a s p.0 p.1 in
      let two = all_sound l p.0.1 q.0 q.1 in
      let made : Trees (a ∷ l) × State = ((p.0.0, q.0.0), q.0.1) in
      subst (λ (z : Trees (a ∷ l) × State). FormedAll (a ∷ l) z.0 × ((r : List Piece) → Lays s.end (spell_all (a ∷ l) z.0 r) s.rest z.1.end r z.1.rest)) (ok_is made x q.2)
      ((one.0, two.0), λ r. lays_on _ _ _ _ _ _ _ _ _ (one.1 (spell_all l q.0.0 r)) (two.1 r))

  -- the parts that follow what was eaten
  built : (a : Sym) (l : List Sym) (from : ℕ) (fr : FrontOfMove) (b : ℕ → Trees l → Tree a) (e0 : ℕ) (ts0 : List Tok) (e : ℕ) (ts : List Tok) (x : Tree a × State) → Builds a l from fr b → Eaten e0 ts0 from fr e ts
      → ◌>>=◌ {B = Tree a × State} (read_all rd l (at e ts)) (λ xs. Ok (b xs.1.end xs.0, xs.1)) ≡ Ok x → Formed a x.0 × ((r : List Piece) → Lays e0 (spell a x.0 r) ts0 x.1.end r x.1.rest)
  built a l from fr b e0 ts0 e ts x ok eaten h =
      let p = bind_ok (read_all rd l (at e ts)) (λ xs. Ok (b xs.1.end xs.0, xs.1)) x h in
      let parts = all_sound l (at e ts) p.0 p.1 in
      let how = ok p.0.1.end p.0.0 parts.0 in
      let made : Tree a × State = (b p.0.1.end p.0.0, p.0.1) in
      subst (λ (z : Tree a × State). Formed a z.0 × ((r : List Piece) → Lays e0 (spell a z.0 r) ts0 z.1.end r z.1.rest)) (ok_is made x p.2)
      (how.0, λ r. rw (how.1.2 r) (lays_on _ _ _ _ _ _ _ _ _ (eaten_opened how.1.0 e0 ts0 from fr e ts eaten (spell_all l p.0.0 (closed how.1.1 p.0.1.end r))) (lays_on _ _ _ _ _ _ _ _ _ (parts.1 (closed how.1.1 p.0.1.end r)) (lays_closed how.1.1 p.0.1.end r p.0.1.rest))))

  moves_sound : {a : Sym} {ate : Bool} (mv : TableMove a ate) (deep : Bool) (ss : List Span) (from : ℕ) (fr : FrontOfMove) (e0 : ℕ) (ts0 : List Tok) (e : ℕ) (t : Tok) (ts : List Tok) (x : Tree a × State)
      → MoveOk mv deep ss from fr t.kind t.span → Eaten e0 ts0 from fr e (t ∷ ts) → go_on limited rd mv deep ss (at e (t ∷ ts)) ≡ Ok x → Formed a x.0 × ((r : List Piece) → Lays e0 (spell a x.0 r) ts0 x.1.end r x.1.rest)
  moves_sound fail deep ss from fr e0 ts0 e t ts x ok eaten h = absurd cc
  moves_sound {a = a} (eat l b) deep ss from fr e0 ts0 e t ts x ok eaten h =
      let g = pass_limited deep t.deep _ _ x h in
      built a l from (λ q. fr (cell t.kind deep ∷ closed ok.0 t.span.to q)) (b (ss ++ t.span ∷ [])) e0 ts0 t.span.to ts x ok.1 (eaten_more e0 ts0 from fr (λ q. cell t.kind deep ∷ closed ok.0 t.span.to q) e t.span.to (t ∷ ts) ts eaten (λ q. lays_token ok.0 e deep q t ts g.0)) g.1
  moves_sound {a = a} (stay l low b) deep ss from fr e0 ts0 e t ts x ok eaten h = built a l from fr (b (ss ++ t.span ∷ [])) e0 ts0 e (t ∷ ts) x ok eaten h
  moves_sound {a = a} (skip y) deep ss from fr e0 ts0 e t ts x ok eaten h =
      let made : Tree a × State = (y, at e (t ∷ ts)) in
      subst (λ (z : Tree a × State). Formed a z.0 × ((r : List Piece) → Lays e0 (spell a z.0 r) ts0 z.1.end r z.1.rest)) (ok_is made x h) (ok.0, λ r. rw (ok.1 r) (eaten.lays r))
  moves_sound {a = a} (look f) deep ss from fr e0 ts0 e t [] x ok eaten h =
      let none : Out (Tree a) = Err (Fault.Syntax 0) in
      let g : none ≡ Ok x = (pass_limited deep t.deep _ _ x h).1 in absurd cc
  moves_sound (look f) deep ss from fr e0 ts0 e t (t' ∷ ts) x ok eaten h =
      let g = pass_limited deep t.deep _ _ x h in
      moves_sound (f t'.kind) false (ss ++ t.span ∷ []) from (λ q. fr (cell t.kind deep ∷ q)) e0 ts0 t.span.to t' ts x (ok t'.kind t'.span) (eaten_more e0 ts0 from fr (λ q. cell t.kind deep ∷ q) e t.span.to (t ∷ t' ∷ ts) (t' ∷ ts) eaten (λ q. lays_cell e deep q t (t' ∷ ts) g.0)) g.1
  moves_sound {a = a} (may_look d f) deep ss from fr e0 ts0 e t [] x ok eaten h =
      let none : Out (Tree a) = Err (Fault.Syntax 0) in
      let g : none ≡ Ok x = (may_pass_limited d t.deep _ _ x h).1 in absurd cc
  moves_sound {a = a} (may_look d f) deep ss from fr e0 ts0 e t (t' ∷ ts) x ok eaten h =
      let g = may_pass_limited d t.deep _ _ x h in
      let go : (node b : Bool) → b ≡ false → MoveOk (f t'.kind) false (ss ++ t.span ∷ []) from (λ q. fr (word_front node t.kind t.span b q)) t'.kind t'.span → Formed a x.0 × ((r : List Piece) → Lays e0 (spell a x.0 r) ts0 x.1.end r x.1.rest)
      = λ node b z k. moves_sound (f t'.kind) false (ss ++ t.span ∷ []) from (λ q. fr (word_front node t.kind t.span b q)) e0 ts0 t.span.to t' ts x k
      (eaten_more e0 ts0 from fr (word_front node t.kind t.span b) e t.span.to (t ∷ t' ∷ ts) (t' ∷ ts) eaten (λ q. lays_word node e b q t (t' ∷ ts) z)) g.1 in
      elim (ok t'.kind t'.span) [ inl k ↦ go false false refl k | inr k ↦ go true d g.0 k ]

  ends_sound : (a : Sym) (o : Option (Tree a)) (e : ℕ) (x : Tree a × State) → ((y : Tree a) → o ≡ Some y → Formed a y × ((r : List Piece) → spell a y r ≡ r)) → or_end o (at e []) ≡ Ok x → Formed a x.0 × ((r : List Piece) → Lays e (spell a x.0 r) [] x.1.end r x.1.rest)
  ends_sound a None e x ok h = absurd cc
  ends_sound a (Some y) e x ok h =
      let made : Tree a × State = (y, at e []) in
      let k = ok y refl in
      subst (λ (z : Tree a × State). Formed a z.0 × ((r : List Piece) → Lays e (spell a z.0 r) [] z.1.end r z.1.rest)) (ok_is made x h) (k.0, λ r. rw (k.1 r) (lays_here e r []))

  step_sound : (table : TableOk) (a : Sym) (e : ℕ) (ts : List Tok) (x : Tree a × State) → reads_step limited rd a (at e ts) ≡ Ok x → Formed a x.0 × ((r : List Piece) → Lays e (spell a x.0 r) ts x.1.end r x.1.rest)
  step_sound table a e [] x h = ends_sound a (at_end a) e x (table.ends a) h
  step_sound table a e (t ∷ ts) x h =
      moves_sound (delta a t.kind) (deep_here a) [] t.span.from (λ q. q) e (t ∷ ts) e t ts x (table.moves a t.kind t.span)
      (record { lays = λ q. lays_here e q (t ∷ ts); starts = λ left ps k. (refl, k) }) h

pub within_sound : TableOk → (n : ℕ) → IsSound (read_within limited n)
unfolding read_within
within_sound table zero = record { by = λ a s x h. absurd cc }
within_sound table (suc n) = record { by = λ a s x h. step_sound (read_within limited n) (within_sound table n) table a s.end s.rest x h }

pub is_sound : TableOk → IsSound (read limited)
unfolding read
is_sound table = record { by = λ a s x h. (within_sound table _).by a s x h }
