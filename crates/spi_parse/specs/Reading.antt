-- Reading from left to right by the table, with the first fault that is met.
use Rattle.std.specs.Prelude.{◌≡◌, ℕ, zero, suc, ◌+◌, ◌*◌, Bool, true, false, List, [], ◌∷◌, ◌++◌, length, Option, Some, None, Result, Ok, Err, if◌then◌else◌}
use Rattle.spi_text.specs.declared.lines.Span.{Span}
use Rattle.spi_lex.specs.declared.token.Kind.{Kind}
use Rattle.spi_parse.specs.declared.fault.Fault.{Fault}
use Rattle.spi_parse.specs.declared.fault.Fault.TheVariants.{Syntax, TooDeep}
use Rattle.spi_parse.specs.declared.fault.Stop.{Stop}
use Rattle.spi_parse.specs.declared.fault.Stop.TheVariants as stops
use Rattle.spi_parse.specs.Tokens.{Tok, State}
use Rattle.spi_parse.specs.Table.{ListItem, one, last, Sym, Tree, Trees, TableMove, eat, stay, skip, look, may_look, fail, deep_here, delta, at_end}

infixl 10 ◌>>=◌
abbrev pub ◌>>=◌ : {A B : Type 0} → Result A Fault → (A → Result B Fault) → Result B Fault
(Ok x) >>= f = f x
(Err e) >>= f = Err e

-- What a function returned, seen by view, is what reading gives, unless memory ran out.
abbrev pub Fails : {Y : Type 0} → Stop → Result Y Fault → Type 0
Fails stops.NoMemory read = Unit {0}
Fails (stops.Fault f) read = read ≡ Err f

abbrev pub Gives : {X Y : Type 0} → (X → Y) → Result X Stop → Result Y Fault → Type 0
Gives view (Ok x) read = read ≡ Ok (view x)
Gives view (Err e) read = Fails e read

abbrev pub Out : Type 0 → Type 0
Out X = Result (X × State) Fault

abbrev pub Reader : Type 0
Reader = (a : Sym) → State → Out (Tree a)

-- How a nesting limit is taken: a node above it is a fault, or the tokens say where such nodes start, or there is none.
pub data Mode : Type 0 where
  limited : Mode
  told : Mode
  any : Mode

-- goes on past a token at which a node above a limit starts or not
abbrev pub pass : {X : Type 0} → Mode → Bool → Bool → ℕ → Out X → Out X
pass limited deep said left go = if deep then Err (TooDeep left) else go
pass told true true left go = go
pass told false false left go = go
pass told _ _ left go = Err (Syntax left)
pass any deep said left go = go

abbrev pub read_all : Reader → (l : List Sym) → State → Out (Trees l)
read_all rd [] s = Ok (tt, s)
read_all rd (a ∷ l) s = do
  x ← rd a s
  xs ← read_all rd l x.1
  Ok ((x.0, xs.0), xs.1)

-- the next token, and the state behind it
abbrev pub with_next : {X : Type 0} → State → (Tok → State → Out X) → Out X → Out X
with_next s go none = elim (s.rest) [ [] ↦ none | t ∷ ts ↦ go t (record { end = t.span.to; rest = ts }) ]

-- goes on past a token at which a node above a limit may start
abbrev pub may_pass : {X : Type 0} → Mode → Bool → Bool → ℕ → Out X → Out X
may_pass limited deep said left go = if deep then Err (TooDeep left) else go
may_pass told false true left go = Err (Syntax left)
may_pass told _ _ left go = go
may_pass any deep said left go = go

-- whether a move leads to a node above its limit
abbrev pub leads_deep : {a : Sym} {ate : Bool} → TableMove a ate → Bool
leads_deep (eat [] b) = false
leads_deep (eat (c ∷ l) b) = deep_here c
leads_deep (look f) = false
leads_deep fail = false
leads_deep (stay l low b) = false
leads_deep (may_look may f) = false
leads_deep (skip x) = false

-- where such a node may start at a token and doesn't, one starts later
abbrev pub may_lead : {X : Type 0} → Mode → Bool → Bool → Bool → ℕ → Out X → Out X
may_lead limited may said leads left go = go
may_lead told true false false left go = Err (Syntax left)
may_lead told _ _ _ left go = go
may_lead any may said leads left go = go

abbrev pub go_on : {a : Sym} {ate : Bool} → Mode → Reader → TableMove a ate → Bool → List Span → State
    → Out (Tree a)
go_on m rd fail deep ss s = Err (Syntax (length s.rest))
go_on m rd (stay l low b) deep ss s =
    with_next s (λ t _. read_all rd l s >>= λ xs. Ok (b (ss ++ t.span ∷ []) xs.1.end xs.0, xs.1))
    (Err (Syntax 0))
go_on m rd (skip x) deep ss s = Ok (x, s)
go_on m rd (eat l b) deep ss s =
    with_next s (λ t s'. pass m deep t.deep (length s.rest)
    (read_all rd l s' >>= λ xs. Ok (b (ss ++ t.span ∷ []) xs.1.end xs.0, xs.1))) (Err (Syntax 0))
go_on m rd (look f) deep ss s =
    with_next s (λ t s'. pass m deep t.deep (length s.rest)
    (with_next s' (λ t' _. go_on m rd (f t'.kind) false (ss ++ t.span ∷ []) s') (Err (Syntax 0))))
    (Err (Syntax 0))
go_on m rd (may_look may f) deep ss s =
    with_next s (λ t s'. may_pass m may t.deep (length s.rest)
    (with_next s'
    (λ t' _. may_lead m may t.deep (leads_deep (f t'.kind)) (length s.rest)
    (go_on m rd (f t'.kind) false (ss ++ t.span ∷ []) s')) (Err (Syntax 0)))) (Err (Syntax 0))

-- what a look leads to
abbrev pub behind_move : {a : Sym} → Mode → Reader → (Kind → TableMove a true) → List Span → State
    → Out (Tree a)
behind_move m rd f ss s = with_next s (λ t _. go_on m rd (f t.kind) false ss s) (Err (Syntax 0))

abbrev pub or_end : {X : Type 0} → Option X → State → Out X
or_end None s = Err (Syntax 0)
or_end (Some x) s = Ok (x, s)

-- reading one symbol, where its parts are read by rd
abbrev pub reads_step : Mode → Reader → Reader
reads_step m rd a s =
    with_next s (λ t _. go_on m rd (delta a t.kind) (deep_here a) [] s) (or_end (at_end a) s)

unfoldable pub read_within : Mode → ℕ → Reader
read_within m zero a s = Err (Syntax (length s.rest))
read_within m (suc n) a s = reads_step m (read_within m n) a s

-- each token is entered at most four times
unfoldable pub read : Mode → Reader
read m a s = read_within m (4 * length s.rest + 4) a s

-- a list read item by item
abbrev pub next_list : {X E : Type 0} → Out (ListItem X E) → (State → Out (List X × E)) → Out (List X × E)
next_list r go = do
  x ← r
  elim (x.0) [ one y ↦ (go x.1 >>= λ z. Ok ((y ∷ z.0.0, z.0.1), z.1)) | last e ↦ Ok (([], e), x.1) ]

-- what a loop has read, before what is left to read
abbrev pub front : {X E : Type 0} → List X → Out (List X × E) → Out (List X × E)
front f r = do
  z ← r
  Ok ((f ++ z.0.0, z.0.1), z.1)

-- an item of a list that ends with nothing more
abbrev pub item_of : {A X E : Type 0} → (A → X) → E → Option A → ListItem X E
item_of view e None = last e
item_of view e (Some x) = one (view x)
