-- What reading tokens answers, for one kind of part of the grammar: `pieces` are those of a part with nothing behind it, and
-- `IsPart` says which parts there are.
use Rattle.std.specs.Prelude.{◌≡◌, ℕ, ◌+◌, ◌<◌, Bool, true, false, List, [], ◌∷◌, ◌++◌, length, map, drop, Result, Ok, Err}
use Rattle.spi_lex.specs.declared.token.Kind.{Kind}
use Rattle.spi_lex.specs.declared.token.Token.{Token}
use Rattle.spi_lex.specs.Lexing.{kinds_of}
use Rattle.spi_tree.specs.Pieces.{Piece, opens, cell, closes, cells, kinds_in}
use Rattle.spi_parse.specs.declared.fault.ParseFault.{ParseFault}
use Rattle.spi_parse.specs.declared.fault.ParseFault.TheVariants as faults
use Rattle.spi_parse.specs.Formed.{whole_file, IsFile}
use Rattle.spi_tree.specs.Trees as t

-- no node is above a nesting limit
abbrev pub IsWithin : List Piece → Type 0
IsWithin [] = Unit {0}
IsWithin (opens from ∷ ps) = IsWithin ps
IsWithin (cell k deep ∷ ps) = (deep ≡ false) × IsWithin ps
IsWithin (closes to ∷ ps) = IsWithin ps

-- The tokens up to `left` are those of the pieces, no node is above a limit, and each node and word goes from the start of
-- its first token to the end of its last. The token before the first ends at e.
abbrev pub Spells : List Token → ℕ → List Piece → List Token → Type 0
Spells left e [] ts = ts ≡ left
Spells left e (opens from ∷ ps) [] = ⊥
Spells left e (opens from ∷ ps) (t ∷ ts) = (t.span.from ≡ from) × Spells left e ps (t ∷ ts)
Spells left e (cell k deep ∷ ps) [] = ⊥
Spells left e (cell k deep ∷ ps) (t ∷ ts) = (t.kind ≡ k) × (deep ≡ false) × Spells left t.span.to ps ts
Spells left e (closes to ∷ ps) ts = (e ≡ to) × Spells left e ps ts

-- some part's tokens begin so
abbrev pub ItemBegins : {X : Type 0} → (X → List Piece) → (X → Type 0) → List Kind → Type 0
ItemBegins {X = X} pieces IsPart pre = (x : X) × IsPart x × (c : List Kind) × (kinds_in (pieces x) ≡ pre ++ c)

-- no part's tokens begin so and then with this token
abbrev pub NoItemGoesOn : {X : Type 0} → (X → List Piece) → (X → Type 0) → List Kind → Kind → Type 0
NoItemGoesOn {X = X} pieces IsPart pre k = (x : X) → IsPart x → (c : List Kind)
    → kinds_in (pieces x) ≡ pre ++ k ∷ c → ⊥

-- no part's tokens begin with one more of the rest, and at the end none are these
abbrev pub ItemStops : {X : Type 0} → (X → List Piece) → (X → Type 0) → List Kind → List Kind → Type 0
ItemStops {X = X} pieces IsPart pre [] = (x : X) → IsPart x → kinds_in (pieces x) ≡ pre → ⊥
ItemStops pieces IsPart pre (k ∷ rest) = NoItemGoesOn pieces IsPart pre k

-- these tokens are at the end, or no part goes on behind them
abbrev pub ItemEnds : {X : Type 0} → (X → List Piece) → (X → Type 0) → List Kind → List Kind → Type 0
ItemEnds pieces IsPart pre [] = Unit {0}
ItemEnds pieces IsPart pre (k ∷ rest) = NoItemGoesOn pieces IsPart pre k

-- behind these tokens a node above a limit starts at this one
pub record PiecesStartDeep (ps : List Piece) (pre : List Kind) (k : Kind) : Type 0 where
  pub before : List (Kind × Bool)
  pub after : List (Kind × Bool)
  pub parts : cells ps ≡ before ++ (k, true) ∷ after
  pub begins : map (λ c. c.0) before ≡ pre

-- at none of the first i tokens such a node of some part starts
abbrev pub NoDeepBefore : {X : Type 0} → (X → List Piece) → (X → Type 0) → List Kind → ℕ → Type 0
NoDeepBefore {X = X} pieces IsPart ks i = (pre : List Kind) (k : Kind) (rest : List Kind)
    → ks ≡ pre ++ k ∷ rest → length pre < i → (x : X) → IsPart x → PiecesStartDeep (pieces x) pre k → ⊥

-- token i is the one with which no part goes on
pub record IsSyntaxAt {X : Type 0} (pieces : X → List Piece) (IsPart : X → Type 0) (ks : List Kind)
    (i : ℕ) : Type 0 where
  pub pre : List Kind
  pub rest : List Kind
  pub split : ks ≡ pre ++ rest
  pub place : length pre ≡ i
  pub begins : ItemBegins pieces IsPart pre
  pub stops : ItemStops pieces IsPart pre rest
  pub first : NoDeepBefore pieces IsPart ks i

-- Token i is the first at which a node above a limit of some part starts. Every part whose tokens begin so has such a node.
pub record IsDeepAt {X : Type 0} (pieces : X → List Piece) (IsPart : X → Type 0) (ks : List Kind)
    (i : ℕ) : Type 0 where
  pub pre : List Kind
  pub token : Kind
  pub rest : List Kind
  pub split : ks ≡ pre ++ token ∷ rest
  pub place : length pre ≡ i
  pub part : (x : X) × IsPart x × PiecesStartDeep (pieces x) pre token
  pub first : NoDeepBefore pieces IsPart ks i
  pub every : (x : X) → IsPart x → (c : List Kind) → kinds_in (pieces x) ≡ pre ++ token ∷ c
      → IsWithin (pieces x) → ⊥

-- the first n tokens are those of this part, which is within the limits and has their spans, and no part goes on behind them
pub record IsPartAt {X : Type 0} (pieces : X → List Piece) (IsPart : X → Type 0) (x : X) (ts : List Token)
    (n : ℕ) : Type 0 where
  pub pre : List Token
  pub rest : List Token
  pub split : ts ≡ pre ++ rest
  pub place : length pre ≡ n
  pub part : IsPart x
  pub tokens : kinds_in (pieces x) ≡ kinds_of pre
  pub spells : Spells rest 0 (pieces x) ts
  pub ends : ItemEnds pieces IsPart (kinds_of pre) (kinds_of rest)

-- no front of the tokens is such a part
abbrev pub IsNoPart : {X : Type 0} → (X → List Piece) → (X → Type 0) → List Kind → Type 0
IsNoPart {X = X} pieces IsPart ks = (x : X) (pre rest : List Kind) → ks ≡ pre ++ rest → IsPart x
    → IsWithin (pieces x) → kinds_in (pieces x) ≡ pre → ItemEnds pieces IsPart pre rest → ⊥

-- the answer on the tokens from this number on: a part and the number of the token behind it, or the fault
abbrev pub Reads : {V X : Type 0} → (V → X) → (X → List Piece) → (X → Type 0) → Result (V × ℕ) ParseFault
    → List Token → ℕ → Type 0
Reads view pieces IsPart (Ok r) ts from = (n : ℕ) × (r.1 ≡ from + n)
    × IsPartAt pieces IsPart (view r.0) (drop from ts) n
Reads view pieces IsPart (Err (faults.Syntax i)) ts from = (n : ℕ) × (i ≡ from + n)
    × IsSyntaxAt pieces IsPart (kinds_of (drop from ts)) n × IsNoPart pieces IsPart (kinds_of (drop from ts))
Reads view pieces IsPart (Err (faults.TooDeep i)) ts from = (n : ℕ) × (i ≡ from + n)
    × IsDeepAt pieces IsPart (kinds_of (drop from ts)) n × IsNoPart pieces IsPart (kinds_of (drop from ts))
Reads view pieces IsPart (Err faults.NoMemory) ts from = Unit {0}

-- the tree of all the tokens, or the fault
abbrev pub Parses : {V : Type 0} → (V → t.File) → Result V ParseFault → List Token → Type 0
Parses view (Ok tree) ts = IsFile (view tree) × Spells [] 0 (whole_file (view tree)) ts
Parses view (Err (faults.Syntax i)) ts = IsSyntaxAt whole_file IsFile (kinds_of ts) i
Parses view (Err (faults.TooDeep i)) ts = IsDeepAt whole_file IsFile (kinds_of ts) i
Parses view (Err faults.NoMemory) ts = Unit {0}
