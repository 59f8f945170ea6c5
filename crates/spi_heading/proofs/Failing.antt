-- The faults of kinds of parts at a place of a text, and those of parts one behind another.
use Rattle.std.proofs.Common.{◌≡◌, ℕ, ◌+◌, Bool, List, [], ◌∷◌, length, drop, Err, refl, sym, ap, subst, ◌∙◌, ◌⊎◌, inl, inr, arith}
use Rattle.spi_lex.specs.declared.token.Kind.{Kind}
use Rattle.spi_lex.specs.declared.token.Token.{Token}
use Rattle.spi_lex.specs.Lexing.{kinds_of}
use Rattle.spi_tree.specs.Pieces.{Piece}
use Rattle.spi_parse.specs.declared.fault.ParseFault.{ParseFault}
use Rattle.spi_parse.specs.declared.fault.ParseFault.TheVariants as faults
use Rattle.spi_parse.specs.Exact as exact
use Rattle.spi_grammar.specs.Exactly.{kinds, IsSame, IsGoodKind, Then, Either, One, Fault, at_syntax, at_deep, RefusesText, ReadsPart}
use Rattle.spi_grammar.proofs.Sequence.{apart_closed}
use Rattle.spi_grammar.proofs.Answers.{same_refuses, first_refuses, second_refuses, one_refuses}
use Rattle.spi_grammar.proofs.Good.{this_refuses}
use Rattle.spi_heading.specs.Taking.{IsThere}
use Rattle.spi_heading.proofs.Standing.{found, unfound}
use Rattle.spi_parts.proofs.Bridge.{OfPieces, syntax_from, deep_at_from, none_from, syntax_to, deep_at_to, none_to}

-- the fault that is told so
abbrev pub TellsFault : ParseFault → Fault → ℕ → Type 0
TellsFault (faults.Syntax i) at_syntax n = i ≡ n
TellsFault (faults.Syntax i) at_deep n = ⊥
TellsFault (faults.TooDeep i) at_syntax n = ⊥
TellsFault (faults.TooDeep i) at_deep n = i ≡ n
TellsFault faults.NoMemory d n = ⊥

-- no part of the kind begins at token i, for this fault, or memory ran out
pub data FailsAt (L : List (Kind × Bool) → Type 0) (ts : List Token) (i : ℕ) (f : ParseFault) : Type 0 where
  memory : f ≡ faults.NoMemory → FailsAt L ts i f
  fault : (d : Fault) (n : ℕ) → TellsFault f d (i + n) → RefusesText d L (kinds_of (drop i ts)) n → FailsAt L ts i f

-- a part of the kind stands from token i to token j
pub record ReadAt (L : List (Kind × Bool) → Type 0) (ts : List Token) (i j : ℕ) : Type 0 where
  pub cells : List (Kind × Bool)
  pub reads : ReadsPart L (kinds_of (drop i ts)) cells (kinds_of (drop j ts))
  pub place : j ≡ i + length (kinds cells)

pub tells_at : (f : ParseFault) (d : Fault) (n m : ℕ) → n ≡ m → TellsFault f d n → TellsFault f d m
tells_at f d n m e h = subst (λ (i : ℕ). TellsFault f d i) e h

module _ (L M : List (Kind × Bool) → Type 0) (ts : List Token) where
  pub same_fail : IsSame L M → (i : ℕ) (f : ParseFault) → FailsAt L ts i f → FailsAt M ts i f
  same_fail s i f (memory e) = memory e
  same_fail s i f (fault d n t r) = fault d n t (same_refuses L M s d (kinds_of (drop i ts)) n r)

  -- the first fails, or the second behind it
  pub first_fail : IsGoodKind L → IsGoodKind M → (i : ℕ) (f : ParseFault) → FailsAt L ts i f → FailsAt (Then L M) ts i f
  first_fail l m i f (memory e) = memory e
  first_fail l m i f (fault d n t r) = fault d n t (first_refuses L M (apart_closed L M l.closed) m.live d (kinds_of (drop i ts)) n r)

  pub second_fail : IsGoodKind L → (i j : ℕ) → ReadAt L ts i j → (f : ParseFault) → FailsAt M ts j f → FailsAt (Then L M) ts i f
  second_fail l i j h f (memory e) = memory e
  second_fail l i j h f (fault d n t r) =
      let p = h.place in
      fault d (length (kinds h.cells) + n) (tells_at f d (j + n) (i + (length (kinds h.cells) + n)) (omega arith) t)
      (second_refuses L M (apart_closed L M l.closed) l.even (kinds_of (drop i ts)) h.cells (kinds_of (drop j ts)) h.reads d n r)

-- a part is told by its first token: those that begin so, and the others
abbrev RestOfRow : (M : List (Kind × Bool) → Type 0) → Kind → List (Kind × Bool) → Type 0
RestOfRow M k a = M a × ((x : List Kind) → kinds a ≡ k ∷ x → ⊥)

-- the kind L has all parts of the kind M that begin with the token k, and no parts but those of M
pub record IsToldBy (k : Kind) (L M : List (Kind × Bool) → Type 0) : Type 0 where
  pub starts : (a : List (Kind × Bool)) × L a × (x : List Kind) × (kinds a ≡ k ∷ x)
  pub into : (a : List (Kind × Bool)) → L a → M a
  pub splits : (a : List (Kind × Bool)) → M a → L a ⊎ ((x : List Kind) → kinds a ≡ k ∷ x → ⊥)

told_same : (k : Kind) (L M : List (Kind × Bool) → Type 0) → IsToldBy k L M → IsSame (Either L (RestOfRow M k)) M
told_same k L M told = record { there = there; back = λ a m. back a m (told.splits a m) }
  where
    there : (a : List (Kind × Bool)) → Either L (RestOfRow M k) a → M a
    there a (inl h) = told.into a h
    there a (inr h) = h.0

    back : (a : List (Kind × Bool)) → M a → L a ⊎ ((x : List Kind) → kinds a ≡ k ∷ x → ⊥) → Either L (RestOfRow M k) a
    back a m (inl l) = inl l
    back a m (inr h) = inr (m, h)

pub told_fail : (k : Kind) (L M : List (Kind × Bool) → Type 0) → IsToldBy k L M → (ts : List Token) (i : ℕ) → IsThere ts i k → (f : ParseFault) → FailsAt L ts i f → FailsAt M ts i f
told_fail k L M told ts i there f (memory e) = memory e
told_fail k L M told ts i there f (fault d n t r) =
    let l = found ts i there.0 there.1 in
    let is : kinds_of (drop i ts) ≡ k ∷ kinds_of l.0 = ap kinds_of l.1 ∙ ap (λ (x : Kind). x ∷ kinds_of l.0) there.2 in
    fault d n t (same_refuses (Either L (RestOfRow M k)) M (told_same k L M told) d (kinds_of (drop i ts)) n
    (subst (λ (l : List Kind). RefusesText d (Either L (RestOfRow M k)) l n) (sym is) (this_refuses L (RestOfRow M k) k (kinds_of l.0) told.starts (λ b h x e. h.1 x e) d n (subst (λ (l : List Kind). RefusesText d L l n) is r))))

-- none of these tokens stands there
pub one_fail : (C : Kind → Type 0) → ((k : Kind) × C k) → (ts : List Token) (i : ℕ) → ((k : Kind) → C k → IsThere ts i k → ⊥) → FailsAt (One C) ts i (faults.Syntax i)
one_fail C good ts i not = fault at_syntax 0 (omega arith) (one_refuses C good (kinds_of (drop i ts)) (λ k rest e c. go (drop i ts) refl k rest e c))
  where
    go : (l : List Token) → drop i ts ≡ l → (k : Kind) (rest : List Kind) → kinds_of l ≡ k ∷ rest → C k → ⊥
    go [] e k rest g c = cc
    go (t ∷ more) e k rest g c = let j : t.kind ≡ k = cc in not k c (t, unfound ts i t more e, j)

-- ---- to and from the answers of calls

module _ {V X : Type 0} (view : V → X) (pieces : X → List Piece) (P : X → Type 0) (ts : List Token) (i : ℕ) where
  abbrev here : List Kind
  here = kinds_of (drop i ts)

  pub fails_from : (f : ParseFault) → exact.Reads view pieces P (Err f) ts i → FailsAt (OfPieces pieces P) ts i f
  fails_from (faults.Syntax k) r = let s = syntax_from pieces P here r.0 r.2 in fault at_syntax r.0 r.1 (record { fails = record { pre = s.0; rest = s.1; split = s.2; place = s.3; is = s.4 }; none = none_from pieces P here r.3 })
  fails_from (faults.TooDeep k) r = let s = deep_at_from pieces P here r.0 r.2 in fault at_deep r.0 r.1 (record { fails = record { pre = s.0; token = s.1; rest = s.2; split = s.3; place = s.4; is = s.5 }; none = none_from pieces P here r.3 })
  fails_from faults.NoMemory r = memory refl

  fails_as : (f : ParseFault) (d : Fault) (n : ℕ) → TellsFault f d (i + n) → RefusesText d (OfPieces pieces P) here n → exact.Reads view pieces P (Err f) ts i
  fails_as (faults.Syntax k) at_syntax n t r = let s = r.fails in (n, t, subst (λ (j : ℕ). exact.IsSyntaxAt pieces P here j) s.place (syntax_to pieces P here s.pre s.rest s.split s.is), none_to pieces P here r.none)
  fails_as (faults.Syntax k) at_deep n t r = absurd t
  fails_as (faults.TooDeep k) at_syntax n t r = absurd t
  fails_as (faults.TooDeep k) at_deep n t r = let s = r.fails in (n, t, subst (λ (j : ℕ). exact.IsDeepAt pieces P here j) s.place (deep_at_to pieces P here s.pre s.token s.rest s.split s.is), none_to pieces P here r.none)
  fails_as faults.NoMemory d n t r = absurd t

  pub fails_to : (f : ParseFault) → FailsAt (OfPieces pieces P) ts i f → exact.Reads view pieces P (Err f) ts i
  fails_to f (memory e) = subst (λ (g : ParseFault). exact.Reads view pieces P (Err g) ts i) (sym e) tt
  fails_to f (fault d n t r) = fails_as f d n t r
