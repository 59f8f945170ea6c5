-- Up to a fault the tokens begin some tree.
use Rattle.std.proofs.Common.{◌≡◌, ℕ, zero, suc, Bool, true, false, List, [], ◌∷◌, ◌++◌, length, Option, Some, None, Ok, Err, refl, sym, ap, subst, ◌∙◌, append_assoc, ◌⊎◌, inl, inr}
use Rattle.std.proofs.lemmas.List.{append_cancel_right}
use Rattle.spi_text.specs.declared.lines.Span.{Span}
use Rattle.spi_parse.specs.declared.fault.Fault.{Fault}
use Rattle.spi_parse.specs.declared.fault.Fault.TheVariants.{Syntax, TooDeep}
use Rattle.spi_lex.specs.declared.token.Kind.{Kind}
use Rattle.spi_parse.specs.Tokens.{Tok, State}
use Rattle.spi_parse.specs.Table.{Sym, Tree, Trees, TableMove, eat, look, may_look, fail, stay, skip, deep_here, delta, at_end}
use Rattle.spi_parse.specs.Reading.{◌>>=◌, Out, Reader, limited, pass, may_pass, read_all, go_on, or_end, reads_step, read_within, read}
use Rattle.spi_tree.specs.Pieces.{Piece, cell, cells}
use Rattle.spi_parse.proofs.Readers.{at}
use Rattle.spi_parse.proofs.Spell.{spell, spell_all, Formed, FormedAll}
use Rattle.spi_parse.proofs.Sound.{plain_tokens, plain_append, FrontOfMove, closed, word_front, Builds, MoveOk, TableOk, IsSound, Eaten, lays_here, lays_cell, lays_token, lays_word, cells_opened, cells_closed, eaten_more, within_sound}
use Rattle.spi_tree.specs.Formed.{IsWordFit}

-- the words among tokens that aren't given are Words in both versions
abbrev pub AreSpare : List (Kind × Bool) → Type 0
AreSpare [] = Unit {0}
AreSpare (c ∷ cs) = IsWordFit true c.0 × AreSpare cs

-- The fault's token stands behind tokens that are those of the cells, and a token that is too deep is so among them. The
-- cells behind it are spare where those behind the tree are.
abbrev pub ReachesFault : List Tok → Fault → List (Kind × Bool) → Type 0 → Type 0
ReachesFault ts (Syntax n) cs q = (pre : List Tok) × (r : List Tok) × (c : List (Kind × Bool)) × (ts ≡ pre ++ r) × (length r ≡ n) × (cs ≡ plain_tokens pre ++ c) × (q → AreSpare c)
ReachesFault ts (TooDeep n) cs q = (pre : List Tok) × (t : Tok) × (r : List Tok) × (c : List (Kind × Bool)) × (ts ≡ pre ++ t ∷ r) × (suc (length r) ≡ n) × (cs ≡ plain_tokens pre ++ (t.kind, true) ∷ c) × (q → AreSpare c)

-- behind more tokens
later : (pre ts ts' : List Tok) (d : Fault) (cs cs' : List (Kind × Bool)) (q q' : Type 0) → ts ≡ pre ++ ts' → cs ≡ plain_tokens pre ++ cs' → (q → q') → ReachesFault ts' d cs' q' → ReachesFault ts d cs q
later pre ts ts' (Syntax n) cs cs' q q' e k f r =
    (pre ++ r.0, r.1, r.2, e ∙ ap (λ (l : List Tok). pre ++ l) r.3 ∙ sym (append_assoc pre r.0 r.1), r.4, k ∙ ap (λ (l : List (Kind × Bool)). plain_tokens pre ++ l) r.5 ∙ sym (plain_append pre r.0 r.2), λ h. r.6 (f h))
later pre ts ts' (TooDeep n) cs cs' q q' e k f r =
    (pre ++ r.0, r.1, r.2, r.3, e ∙ ap (λ (l : List Tok). pre ++ l) r.4 ∙ sym (append_assoc pre r.0 (r.1 ∷ r.2)), r.5, k ∙ ap (λ (l : List (Kind × Bool)). plain_tokens pre ++ l) r.6 ∙ sym (plain_append pre r.0 ((r.1.kind, true) ∷ r.3)), λ h. r.7 (f h))

-- spare cells behind one part are so behind another where the cells are equal
spare_as : (cs cs' : List (Kind × Bool)) → cs ≡ cs' → AreSpare cs → AreSpare cs'
spare_as cs cs' e h = subst AreSpare e h

pub record Viable (rd : Reader) : Type 0 where
  pub by : (a : Sym) (s : State) (d : Fault) → rd a s ≡ Err d → (x : Tree a) × Formed a x × ((q : List Piece) → ReachesFault s.rest d (cells (spell a x q)) (AreSpare (cells q)))

-- whether more is eaten by some token, so that a tree is built
abbrev pub EatsMore : {a : Sym} {ate : Bool} → TableMove a ate → Type 0
EatsMore (eat l b) = Unit {0}
EatsMore (look f) = (k : Kind) × IsWordFit true k × EatsMore (f k)
EatsMore fail = ⊥
EatsMore (stay l low b) = Unit {0}
EatsMore (may_look d f) = (k : Kind) × IsWordFit true k × EatsMore (f k)
EatsMore (skip x) = Unit {0}

-- a look leads somewhere, and one that may be too deep leads to a node that is
abbrev pub Live : {a : Sym} {ate : Bool} → TableMove a ate → Bool → List Span → ℕ → FrontOfMove → Kind → Span → Type 0
Live (eat l b) deep ss from fr k s = Unit {0}
Live (look f) deep ss from fr k s = ((k' : Kind) × IsWordFit true k' × EatsMore (f k')) × ((k' : Kind) (s' : Span) → Live (f k') false (ss ++ s ∷ []) from (λ q. fr (cell k deep ∷ q)) k' s')
Live fail deep ss from fr k s = Unit {0}
Live (stay l low b) deep ss from fr k s = Unit {0}
Live (may_look d f) deep ss from fr k s =
    ((k' : Kind) × IsWordFit true k' × EatsMore (f k') × ((s' : Span) → MoveOk (f k') false (ss ++ s ∷ []) from (λ q. fr (word_front true k s d q)) k' s'))
    × ((k' : Kind) (s' : Span) (fr' : FrontOfMove) → Live (f k') false (ss ++ s ∷ []) from fr' k' s')
Live (skip x) deep ss from fr k s = Unit {0}

pub record TableLive : Type 0 where
  pub moves : (a : Sym) (k : Kind) (s : Span) → Live (delta a k) (deep_here a) [] s.from (λ q. q) k s
  pub some : (a : Sym) → Tree a
  pub formed : (a : Sym) → Formed a (some a)
  pub spare : (a : Sym) (q : List Piece) → AreSpare (cells q) → AreSpare (cells (spell a (some a) q))

-- a tree that begins with what was eaten
abbrev Extends : (a : Sym) → FrontOfMove → Type 0
Extends a fr = (x : Tree a) × Formed a x × ((q : List Piece) → (ps : List Piece) × (cells (spell a x q) ≡ cells (fr ps)) × (AreSpare (cells q) → AreSpare (cells ps)))

module _ (live : TableLive) where
  somes : (l : List Sym) → Trees l
  somes [] = tt
  somes (a ∷ l) = (live.some a, somes l)

  somes_formed : (l : List Sym) → FormedAll l (somes l)
  unfolding somes
  somes_formed [] = tt
  somes_formed (a ∷ l) = (live.formed a, somes_formed l)

  somes_spare : (l : List Sym) (q : List Piece) → AreSpare (cells q) → AreSpare (cells (spell_all l (somes l) q))
  unfolding somes
  somes_spare [] q h = h
  somes_spare (a ∷ l) q h = live.spare a (spell_all l (somes l) q) (somes_spare l q h)

  built_by : (a : Sym) (l : List Sym) (from : ℕ) (fr : FrontOfMove) (b : ℕ → Trees l → Tree a) → Builds a l from fr b → Extends a fr
  built_by a l from fr b ok =
      let how = ok 0 (somes l) (somes_formed l) in (
        b 0 (somes l),
        how.0,
        λ q. (
          spell_all l (somes l) (closed how.1.1 0 q),
          ap cells (how.1.2 q) ∙ cells_opened how.1.0 from _,
          λ h. somes_spare l (closed how.1.1 0 q) (spare_as (cells q) (cells (closed how.1.1 0 q)) (sym (cells_closed how.1.1 0 q)) h),
        ),
      )

  -- what was eaten and a token more
  longer : (a : Sym) (fr : FrontOfMove) (more : FrontOfMove) → ((q : List Piece) → AreSpare (cells q) → AreSpare (cells (more q))) → Extends a (λ q. fr (more q)) → Extends a fr
  longer a fr more spare x = (x.0, x.1, λ q. let y = x.2 q in (more y.0, y.1, λ h. spare y.0 (y.2 h)))

  spare_closed : (w to : ℕ) (q : List Piece) → AreSpare (cells q) → AreSpare (cells (closed w to q))
  spare_closed w to q h = spare_as (cells q) (cells (closed w to q)) (sym (cells_closed w to q)) h

  spare_token : (w to : ℕ) (k : Kind) (deep : Bool) (q : List Piece) → IsWordFit true k → AreSpare (cells q) → AreSpare (cells (cell k deep ∷ closed w to q))
  spare_token w to k deep q fit h = (fit, spare_closed w to q h)

  spare_word : (node : Bool) (k : Kind) (s : Span) (b : Bool) (q : List Piece) → IsWordFit true k → AreSpare (cells q) → AreSpare (cells (word_front node k s b q))
  spare_word false k s b q fit h = (fit, h)
  spare_word true k s b q fit h = (fit, h)

  -- some tree, at a token that the move eats
  grows : {a : Sym} {ate : Bool} (mv : TableMove a ate) (deep : Bool) (ss : List Span) (from : ℕ) (fr : FrontOfMove) (k : Kind) (s : Span) → IsWordFit true k → EatsMore mv → MoveOk mv deep ss from fr k s → Extends a fr
  grows {a = a} (eat l b) deep ss from fr k s fit g ok =
      longer a fr (λ q. cell k deep ∷ closed ok.0 s.to q) (λ q h. spare_token ok.0 s.to k deep q fit h) (built_by a l from (λ q. fr (cell k deep ∷ closed ok.0 s.to q)) (b (ss ++ s ∷ [])) ok.1)
  grows {a = a} (look f) deep ss from fr k s fit g ok =
      longer a fr (λ q. cell k deep ∷ q) (λ q h. (fit, h)) (grows (f g.0) false (ss ++ s ∷ []) from (λ q. fr (cell k deep ∷ q)) g.0 s g.1 g.2 (ok g.0 s))
  grows fail deep ss from fr k s fit g ok = absurd g
  grows {a = a} (stay l low b) deep ss from fr k s fit g ok = built_by a l from fr (b (ss ++ s ∷ [])) ok
  grows {a = a} (may_look d f) deep ss from fr k s fit g ok =
      let go : (node e : Bool) → MoveOk (f g.0) false (ss ++ s ∷ []) from (λ q. fr (word_front node k s e q)) g.0 s → Extends a fr
      = λ node e m. longer a fr (word_front node k s e) (λ q h. spare_word node k s e q fit h) (grows (f g.0) false (ss ++ s ∷ []) from (λ q. fr (word_front node k s e q)) g.0 s g.1 g.2 m) in
      elim (ok g.0 s) [ inl m ↦ go false false m | inr m ↦ go true d m ]
  grows {a = a} (skip y) deep ss from fr k s fit g ok = (y, ok.0, λ q. (q, ap cells (ok.1 q), λ h. h))

  -- where a token is eaten that is too deep
  deep_at : (a : Sym) (e0 : ℕ) (ts0 : List Tok) (from : ℕ) (fr : FrontOfMove) (e : ℕ) (t : Tok) (ts : List Tok) → Eaten e0 ts0 from fr e (t ∷ ts)
      → (x : Tree a) × Formed a x × ((q : List Piece) → (ps : List Piece) × (c : List (Kind × Bool)) × (cells (spell a x q) ≡ cells (fr ps)) × (cells ps ≡ (t.kind, true) ∷ c) × (AreSpare (cells q) → AreSpare c))
      → (x : Tree a) × Formed a x × ((q : List Piece) → ReachesFault ts0 (TooDeep (suc (length ts))) (cells (spell a x q)) (AreSpare (cells q)))
  deep_at a e0 ts0 from fr e t ts eaten x =
      (x.0, x.1, λ q. let y = x.2 q in let l = eaten.lays y.0 in (l.pre, t, ts, y.1, l.split, refl, y.2 ∙ l.cells_are ∙ ap (λ (c : List (Kind × Bool)). plain_tokens l.pre ++ c) y.3, y.4))

  -- where no token fits
  stuck_at : (a : Sym) (e0 : ℕ) (ts0 : List Tok) (from : ℕ) (fr : FrontOfMove) (e : ℕ) (ts : List Tok) → Eaten e0 ts0 from fr e ts → Extends a fr
      → (x : Tree a) × Formed a x × ((q : List Piece) → ReachesFault ts0 (Syntax (length ts)) (cells (spell a x q)) (AreSpare (cells q)))
  stuck_at a e0 ts0 from fr e ts eaten x =
      (x.0, x.1, λ q. let y = x.2 q in let l = eaten.lays y.0 in (l.pre, ts, cells y.0, l.split, refl, y.1 ∙ l.cells_are, y.2))

  module _ (rd : Reader) (sound : IsSound rd) (viable : Viable rd) where
    eased : (ts : List Tok) (d : Fault) (cs : List (Kind × Bool)) (q q' : Type 0) → (q → q') → ReachesFault ts d cs q' → ReachesFault ts d cs q
    eased ts (Syntax n) cs q q' f r = (r.0, r.1, r.2, r.3, r.4, r.5, λ h. r.6 (f h))
    eased ts (TooDeep n) cs q q' f r = (r.0, r.1, r.2, r.3, r.4, r.5, r.6, λ h. r.7 (f h))

    all_viable : (l : List Sym) (s : State) (d : Fault) → read_all rd l s ≡ Err d → (xs : Trees l) × FormedAll l xs × ((q : List Piece) → ReachesFault s.rest d (cells (spell_all l xs q)) (AreSpare (cells q)))
    all_viable [] s d h = absurd cc
    all_viable (a ∷ l) s d h = first (λ s' k. all_viable l s' d k) (rd a s) refl h
      where
        rest : (x : Tree a × State) → rd a s ≡ Ok x → (xs : Trees l) × FormedAll l xs × ((q : List Piece) → ReachesFault x.1.rest d (cells (spell_all l xs q)) (AreSpare (cells q))) → (xs : Trees (a ∷ l)) × FormedAll (a ∷ l) xs × ((q : List Piece) → ReachesFault s.rest d (cells (spell_all (a ∷ l) xs q)) (AreSpare (cells q)))
        rest x e r =
            let one = sound.by a s x e in
            ((x.0, r.0), (one.0, r.1), λ q. let lay = one.1 (spell_all l r.0 q) in later lay.pre s.rest x.1.rest d (cells (spell a x.0 (spell_all l r.0 q))) (cells (spell_all l r.0 q)) (AreSpare (cells q)) (AreSpare (cells q)) lay.split lay.cells_are (λ h. h) (r.2 q))

        second : (o : Out (Trees l)) (x : Tree a × State) → ◌>>=◌ {B = Trees (a ∷ l) × State} o (λ ys. Ok ((x.0, ys.0), ys.1)) ≡ Err d → o ≡ Err d
        second (Ok y) x k = absurd cc
        second (Err d') x k = cc

        first : ((s' : State) → read_all rd l s' ≡ Err d → (xs : Trees l) × FormedAll l xs × ((q : List Piece) → ReachesFault s'.rest d (cells (spell_all l xs q)) (AreSpare (cells q)))) → (o : Out (Tree a)) → rd a s ≡ o → ◌>>=◌ {B = Trees (a ∷ l) × State} o (λ x. read_all rd l x.1 >>= λ ys. Ok ((x.0, ys.0), ys.1)) ≡ Err d
            → (xs : Trees (a ∷ l)) × FormedAll (a ∷ l) xs × ((q : List Piece) → ReachesFault s.rest d (cells (spell_all (a ∷ l) xs q)) (AreSpare (cells q)))
        first ih (Err d') e k =
            let same : d' ≡ d = cc in
            let v = viable.by a s d (e ∙ ap (λ (z : Fault). Err z) same) in
            ((v.0, somes l), (v.1, somes_formed l), λ q. eased s.rest d _ _ _ (somes_spare l q) (v.2 (spell_all l (somes l) q)))
        first ih (Ok x) e k = rest x e (ih x.1 (second (read_all rd l x.1) x k))

    parts_viable : (a : Sym) (l : List Sym) (from : ℕ) (fr : FrontOfMove) (b : ℕ → Trees l → Tree a) (e0 : ℕ) (ts0 : List Tok) (e : ℕ) (ts : List Tok) (d : Fault) → Builds a l from fr b → Eaten e0 ts0 from fr e ts
        → ◌>>=◌ {B = Tree a × State} (read_all rd l (at e ts)) (λ xs. Ok (b xs.1.end xs.0, xs.1)) ≡ Err d → (x : Tree a) × Formed a x × ((q : List Piece) → ReachesFault ts0 d (cells (spell a x q)) (AreSpare (cells q)))
    parts_viable a l from fr b e0 ts0 e ts d ok eaten h =
        let v = all_viable l (at e ts) d (only (read_all rd l (at e ts)) h) in
        let how = ok 0 v.0 v.1 in (
          b 0 v.0,
          how.0,
          λ q.
              let ps = spell_all l v.0 (closed how.1.1 0 q) in
              let lay = eaten.lays ps in
              later lay.pre ts0 ts d (cells (spell a (b 0 v.0) q)) (cells ps) (AreSpare (cells q)) (AreSpare (cells (closed how.1.1 0 q))) lay.split (ap cells (how.1.2 q) ∙ cells_opened how.1.0 from (fr ps) ∙ lay.cells_are) (spare_closed how.1.1 0 q) (v.2 (closed how.1.1 0 q)),
        )
      where
        only : (o : Out (Trees l)) → ◌>>=◌ {B = Tree a × State} o (λ xs. Ok (b xs.1.end xs.0, xs.1)) ≡ Err d → o ≡ Err d
        only (Ok y) k = absurd cc
        only (Err d') k = cc

    -- a test of depth that fails, or what goes on
    pass_err : {X : Type 0} (deep f : Bool) (n : ℕ) (go : Out X) (d : Fault) → pass limited deep f n go ≡ Err d → ((deep ≡ true) × (TooDeep n ≡ d)) ⊎ ((deep ≡ false) × (go ≡ Err d))
    pass_err true f n go d h = inl (refl, cc)
    pass_err false f n go d h = inr (refl, h)

    may_pass_err : {X : Type 0} (deep f : Bool) (n : ℕ) (go : Out X) (d : Fault) → may_pass limited deep f n go ≡ Err d → ((deep ≡ true) × (TooDeep n ≡ d)) ⊎ ((deep ≡ false) × (go ≡ Err d))
    may_pass_err true f n go d h = inl (refl, cc)
    may_pass_err false f n go d h = inr (refl, h)

    abbrev Found : Sym → List Tok → Fault → Type 0
    Found a ts0 d = (x : Tree a) × Formed a x × ((q : List Piece) → ReachesFault ts0 d (cells (spell a x q)) (AreSpare (cells q)))

    as_fault : (a : Sym) (ts0 : List Tok) (d d' : Fault) → d ≡ d' → Found a ts0 d → Found a ts0 d'
    as_fault a ts0 d d' e f = subst (λ (z : Fault). Found a ts0 z) e f

    -- a token that is too deep, and what follows it
    deep_token : (w to : ℕ) (t : Tok) (y : List Piece) (b : Bool) → b ≡ true → (q : Type 0) → (q → AreSpare (cells y)) → (c : List (Kind × Bool)) × (cells (cell t.kind b ∷ closed w to y) ≡ (t.kind, true) ∷ c) × (q → AreSpare c)
    deep_token w to t y b z q h = (cells (closed w to y), ap (λ (d : Bool). (t.kind, d) ∷ cells (closed w to y)) z, λ k. spare_closed w to y (h k))

    -- a word alone has the cells of one that is a node
    plainer : (a : Sym) (fr : FrontOfMove) (e0 : ℕ) (ts0 : List Tok) (from : ℕ) (e : ℕ) (t : Tok) (us : List Tok) (may : Bool) → may ≡ false → Eaten e0 ts0 from fr e (t ∷ us) → Extends a (λ q. fr (word_front true t.kind t.span may q)) → Extends a (λ q. fr (word_front false t.kind t.span false q))
    plainer a fr e0 ts0 from e t us may z eaten x = (x.0, x.1, λ q. let y = x.2 q in (y.0, y.1 ∙ alike y.0, y.2))
      where
        alike : (q : List Piece) → cells (fr (word_front true t.kind t.span may q)) ≡ cells (fr (word_front false t.kind t.span false q))
        alike q =
            let l = eaten.lays (word_front true t.kind t.span may q) in
            let k = eaten.lays (word_front false t.kind t.span false q) in
            let same : l.pre ≡ k.pre = append_cancel_right l.pre k.pre (t ∷ us) (sym l.split ∙ k.split) in
            l.cells_are ∙ ap (λ (p : List Tok). plain_tokens p ++ (t.kind, may) ∷ cells q) same ∙ ap (λ (b : Bool). plain_tokens k.pre ++ (t.kind, b) ∷ cells q) z ∙ sym k.cells_are

    abbrev Witness : {a : Sym} → Bool → (Kind → TableMove a true) → List Span → ℕ → FrontOfMove → Tok → Type 0
    Witness may f ss from fr t = (k' : Kind) × IsWordFit true k' × EatsMore (f k') × ((s' : Span) → MoveOk (f k') false (ss ++ t.span ∷ []) from (λ q. fr (word_front true t.kind t.span may q)) k' s')

    may_grown : {a : Sym} (may : Bool) (f : Kind → TableMove a true) (ss : List Span) (from : ℕ) (fr : FrontOfMove) (t : Tok) → Witness may f ss from fr t → Extends a (λ q. fr (word_front true t.kind t.span may q))
    may_grown may f ss from fr t w = grows (f w.0) false (ss ++ t.span ∷ []) from (λ q. fr (word_front true t.kind t.span may q)) w.0 t.span w.1 w.2 (w.3 t.span)

    may_laid : (from : ℕ) (fr : FrontOfMove) (e0 : ℕ) (ts0 : List Tok) (e : ℕ) (t : Tok) (us : List Tok) (node b : Bool) → b ≡ false → Eaten e0 ts0 from fr e (t ∷ us) → Eaten e0 ts0 from (λ q. fr (word_front node t.kind t.span b q)) t.span.to us
    may_laid from fr e0 ts0 e t us node b z eaten = eaten_more e0 ts0 from fr (word_front node t.kind t.span b) e t.span.to (t ∷ us) us eaten (λ q. lays_word node e b q t us z)

    may_deep : {a : Sym} (may : Bool) (f : Kind → TableMove a true) (ss : List Span) (from : ℕ) (fr : FrontOfMove) (e0 : ℕ) (ts0 : List Tok) (e : ℕ) (t : Tok) (us : List Tok) → Witness may f ss from fr t → Eaten e0 ts0 from fr e (t ∷ us) → may ≡ true → Found a ts0 (TooDeep (suc (length us)))
    may_deep {a = a} may f ss from fr e0 ts0 e t us w eaten z =
        let x = may_grown may f ss from fr t w in
        deep_at a e0 ts0 from fr e t us eaten (x.0, x.1, λ q. let y = x.2 q in (word_front true t.kind t.span may y.0, cells y.0, y.1, ap (λ (b : Bool). (t.kind, b) ∷ cells y.0) z, y.2))

    moves_viable : {a : Sym} {ate : Bool} (mv : TableMove a ate) (deep : Bool) (ss : List Span) (from : ℕ) (fr : FrontOfMove) (e0 : ℕ) (ts0 : List Tok) (e : ℕ) (t : Tok) (ts : List Tok) (d : Fault)
        → MoveOk mv deep ss from fr t.kind t.span → Live mv deep ss from fr t.kind t.span → Eaten e0 ts0 from fr e (t ∷ ts) → Extends a fr → go_on limited rd mv deep ss (at e (t ∷ ts)) ≡ Err d → Found a ts0 d
    moves_viable {a = a} fail deep ss from fr e0 ts0 e t ts d ok lv eaten fall h = let same : Syntax (suc (length ts)) ≡ d = cc in as_fault a ts0 _ d same (stuck_at a e0 ts0 from fr e (t ∷ ts) eaten fall)
    moves_viable {a = a} (skip y) deep ss from fr e0 ts0 e t ts d ok lv eaten fall h = absurd cc
    moves_viable {a = a} (stay l low b) deep ss from fr e0 ts0 e t ts d ok lv eaten fall h = parts_viable a l from fr (b (ss ++ t.span ∷ [])) e0 ts0 e (t ∷ ts) d ok eaten h
    moves_viable {a = a} (eat l b) deep ss from fr e0 ts0 e t ts d ok lv eaten fall h = elim (pass_err deep t.deep _ _ d h) [
      | inl p ↦
          let x = built_by a l from (λ q. fr (cell t.kind deep ∷ closed ok.0 t.span.to q)) (b (ss ++ t.span ∷ [])) ok.1 in
          as_fault a ts0 _ d p.1 (deep_at a e0 ts0 from fr e t ts eaten (x.0, x.1, λ q. let y = x.2 q in let z = deep_token ok.0 t.span.to t y.0 deep p.0 (AreSpare (cells q)) y.2 in (cell t.kind deep ∷ closed ok.0 t.span.to y.0, z.0, y.1, z.1, z.2)))
      | inr p ↦ parts_viable a l from (λ q. fr (cell t.kind deep ∷ closed ok.0 t.span.to q)) (b (ss ++ t.span ∷ [])) e0 ts0 t.span.to ts d ok.1 (eaten_more e0 ts0 from fr (λ q. cell t.kind deep ∷ closed ok.0 t.span.to q) e t.span.to (t ∷ ts) ts eaten (λ q. lays_token ok.0 e deep q t ts p.0)) p.1
    ]
    moves_viable {a = a} (look f) deep ss from fr e0 ts0 e t [] d ok lv eaten fall h =
        let x = grows (f lv.0.0) false (ss ++ t.span ∷ []) from (λ q. fr (cell t.kind deep ∷ q)) lv.0.0 t.span lv.0.1 lv.0.2 (ok lv.0.0 t.span) in
        elim (pass_err {X = Tree a} deep t.deep _ (Err (Syntax 0)) d h) [
          | inl p ↦ as_fault a ts0 _ d p.1 (deep_at a e0 ts0 from fr e t [] eaten (x.0, x.1, λ q. let y = x.2 q in (cell t.kind deep ∷ y.0, cells y.0, y.1, ap (λ (z : Bool). (t.kind, z) ∷ cells y.0) p.0, y.2)))
          | inr p ↦ let same : Syntax 0 ≡ d = cc (p.1) in as_fault a ts0 _ d same (stuck_at a e0 ts0 from (λ q. fr (cell t.kind deep ∷ q)) t.span.to [] (eaten_more e0 ts0 from fr (λ q. cell t.kind deep ∷ q) e t.span.to (t ∷ []) [] eaten (λ q. lays_cell e deep q t [] p.0)) x)
        ]
    moves_viable {a = a} (look f) deep ss from fr e0 ts0 e t (t' ∷ ts) d ok lv eaten fall h =
        let x = grows (f lv.0.0) false (ss ++ t.span ∷ []) from (λ q. fr (cell t.kind deep ∷ q)) lv.0.0 t.span lv.0.1 lv.0.2 (ok lv.0.0 t.span) in
        elim (pass_err {X = Tree a} deep t.deep _ _ d h) [
          | inl p ↦ as_fault a ts0 _ d p.1 (deep_at a e0 ts0 from fr e t (t' ∷ ts) eaten (x.0, x.1, λ q. let y = x.2 q in (cell t.kind deep ∷ y.0, cells y.0, y.1, ap (λ (z : Bool). (t.kind, z) ∷ cells y.0) p.0, y.2)))
          | inr p ↦ moves_viable (f t'.kind) false (ss ++ t.span ∷ []) from (λ q. fr (cell t.kind deep ∷ q)) e0 ts0 t.span.to t' ts d (ok t'.kind t'.span) (lv.1 t'.kind t'.span) (eaten_more e0 ts0 from fr (λ q. cell t.kind deep ∷ q) e t.span.to (t ∷ t' ∷ ts) (t' ∷ ts) eaten (λ q. lays_cell e deep q t (t' ∷ ts) p.0)) x p.1
        ]
    moves_viable {a = a} (may_look may f) deep ss from fr e0 ts0 e t [] d ok lv eaten fall h =
        elim (may_pass_err {X = Tree a} may t.deep _ (Err (Syntax 0)) d h) [
          | inl p ↦ as_fault a ts0 _ d p.1 (may_deep may f ss from fr e0 ts0 e t [] lv.0 eaten p.0)
          | inr p ↦ let same : Syntax 0 ≡ d = cc (p.1) in as_fault a ts0 _ d same (stuck_at a e0 ts0 from (λ q. fr (word_front true t.kind t.span may q)) t.span.to [] (may_laid from fr e0 ts0 e t [] true may p.0 eaten) (may_grown may f ss from fr t lv.0))
        ]
    moves_viable {a = a} (may_look may f) deep ss from fr e0 ts0 e t (t' ∷ ts) d ok lv eaten fall h =
        elim (may_pass_err {X = Tree a} may t.deep _ _ d h) [
          | inl p ↦ as_fault a ts0 _ d p.1 (may_deep may f ss from fr e0 ts0 e t (t' ∷ ts) lv.0 eaten p.0)
          | inr p ↦ elim (ok t'.kind t'.span) [
            | inl m ↦ moves_viable (f t'.kind) false (ss ++ t.span ∷ []) from (λ q. fr (word_front false t.kind t.span false q)) e0 ts0 t.span.to t' ts d m (lv.1 t'.kind t'.span (λ q. fr (word_front false t.kind t.span false q))) (may_laid from fr e0 ts0 e t (t' ∷ ts) false false refl eaten) (plainer a fr e0 ts0 from e t (t' ∷ ts) may p.0 eaten (may_grown may f ss from fr t lv.0)) p.1
            | inr m ↦ moves_viable (f t'.kind) false (ss ++ t.span ∷ []) from (λ q. fr (word_front true t.kind t.span may q)) e0 ts0 t.span.to t' ts d m (lv.1 t'.kind t'.span (λ q. fr (word_front true t.kind t.span may q))) (may_laid from fr e0 ts0 e t (t' ∷ ts) true may p.0 eaten) (may_grown may f ss from fr t lv.0) p.1
          ]
        ]

    step_viable : (table : TableOk) (a : Sym) (e : ℕ) (ts : List Tok) (d : Fault) → reads_step limited rd a (at e ts) ≡ Err d → Found a ts d
    step_viable table a e [] d h = (live.some a, live.formed a, λ q. subst (λ (z : Fault). ReachesFault [] z (cells (spell a (live.some a) q)) (AreSpare (cells q))) (none (at_end a) h) ([], [], cells (spell a (live.some a) q), refl, refl, refl, live.spare a q))
      where
        none : (o : Option (Tree a)) → or_end o (at e []) ≡ Err d → Syntax 0 ≡ d
        none None k = cc
        none (Some y) k = absurd cc
    step_viable table a e (t ∷ ts) d h =
        moves_viable (delta a t.kind) (deep_here a) [] t.span.from (λ q. q) e (t ∷ ts) e t ts d (table.moves a t.kind t.span) (live.moves a t.kind t.span)
        (record { lays = λ q. lays_here e q (t ∷ ts); starts = λ left ps k. (refl, k) }) (live.some a, live.formed a, λ q. (spell a (live.some a) q, refl, live.spare a q)) h

  within_viable : TableOk → (n : ℕ) → Viable (read_within limited n)
  unfolding read_within
  within_viable table zero = record { by = λ a s d h. (live.some a, live.formed a, λ q. subst (λ (z : Fault). ReachesFault s.rest z (cells (spell a (live.some a) q)) (AreSpare (cells q))) (none s d h) ([], s.rest, cells (spell a (live.some a) q), refl, refl, refl, live.spare a q)) }
    where
      none : {X : Type 0} (s : State) (d : Fault) → ◌≡◌ {A = Out X} (Err (Syntax (length s.rest))) (Err d) → Syntax (length s.rest) ≡ d
      none s d k = cc
  within_viable table (suc n) = record { by = λ a s d h. step_viable (read_within limited n) (within_sound table n) (within_viable table n) table a s.end s.rest d h }

  pub is_viable : TableOk → Viable (read limited)
  unfolding read
  is_viable table = record { by = λ a s d h. (within_viable table _).by a s d h }
