-- Whole texts: what fails behind the parts that were read fails the whole.
use Rattle.std.proofs.Common.{◌≡◌, ℕ, ◌+◌, Bool, List, [], ◌∷◌, ◌++◌, drop, refl, sym, ap, subst, ◌∙◌, arith}
use Rattle.spi_lex.specs.declared.token.Kind.{Kind}
use Rattle.spi_lex.specs.declared.token.Token.{Token}
use Rattle.spi_lex.specs.Lexing.{kinds_of}
use Rattle.spi_tree.specs.Pieces.{Piece}
use Rattle.spi_tree.specs.Formed.{AreWordsFit}
use Rattle.spi_parse.specs.declared.fault.ParseFault.{ParseFault}
use Rattle.spi_parse.specs.declared.fault.ParseFault.TheVariants as faults
use Rattle.spi_parse.specs.Exact as exact
use Rattle.spi_grammar.specs.Exactly.{kinds, IsLive, IsSame, IsGoodKind, Then, Many, Fault, at_syntax, at_deep, FailsAtToken, RefusesText, ReadsPart, Stops}
use Rattle.spi_grammar.proofs.Sequence.{apart_closed}
use Rattle.spi_grammar.proofs.Good.{IsSome, Differ}
use Rattle.spi_grammar.proofs.Along.{LeadsAlong, lead, then_next, then_fails, many_next, many_fails, many_last}
use Rattle.spi_parts.proofs.Bridge.{OfPieces, syntax_to, deep_at_to}
use Rattle.spi_heading.specs.Taking.{IsThere}
use Rattle.spi_heading.specs.Each.{IsWhole, FailsWhole}
use Rattle.spi_heading.proofs.Standing.{found, unfound}
use Rattle.spi_heading.proofs.Failing.{TellsFault, FailsAt, memory, fault, ReadAt}
use Rattle.spi_heading.proofs.Each.{Along, along_rest, one_read}

-- ---- no part begins with the token that is there

pub none_fail : (M : List (Kind × Bool) → Type 0) → IsLive M → IsSome M → (ts : List Token) (i : ℕ) → ((a : List (Kind × Bool)) → M a → (k : Kind) (x : List Kind) → kinds a ≡ k ∷ x → IsThere ts i k → ⊥) → FailsAt M ts i (faults.Syntax i)
none_fail M live some ts i not = fault at_syntax 0 (omega arith) (record {
  fails = record {
    pre = [];
    rest = kinds_of (drop i ts);
    split = refl;
    place = refl;
    is = record { begins = record { cells = live.0; is = live.1; more = kinds live.0; begins = refl }; stops = stops (drop i ts) refl; first = λ p k c e a ma s. none p k c e };
  };
  none = λ a ma within rest e ends. go a ma (kinds a) refl rest e;
})
  where
    none : (p : List Kind) (k : Kind) (c : List Kind) → [] ≡ p ++ k ∷ c → ⊥
    none [] k c e = cc
    none (q ∷ p) k c e = cc

    stops : (l : List Token) → drop i ts ≡ l → Stops M [] (kinds_of l)
    stops [] at = λ a ma e. some a ma e
    stops (t ∷ l) at = λ a ma c e. not a ma t.kind c e (t, unfound ts i t l at, refl)

    front : (l : List Token) → drop i ts ≡ l → (k : Kind) (x : List Kind) → kinds_of l ≡ k ∷ x → IsThere ts i k
    front [] at k x e = absurd (let f : [] ≡ k ∷ x = e in cc)
    front (t ∷ l) at k x e = (t, unfound ts i t l at, let j : t.kind ≡ k = cc in j)

    go : (a : List (Kind × Bool)) → M a → (u : List Kind) → kinds a ≡ u → (rest : List Kind) → kinds_of (drop i ts) ≡ kinds a ++ rest → ⊥
    go a ma [] is rest e = some a ma is
    go a ma (k ∷ x) is rest e = not a ma k x is (front (drop i ts) refl k (x ++ rest) (e ∙ ap (λ (l : List Kind). l ++ rest) is))

-- ---- the whole

-- the text is no part of this kind, for this fault, or memory ran out
pub data WholeFails (W : List (Kind × Bool) → Type 0) (ts : List Token) (f : ParseFault) : Type 0 where
  no_memory : f ≡ faults.NoMemory → WholeFails W ts f
  fault_of : (d : Fault) (n : ℕ) → TellsFault f d n → FailsAtToken d W (kinds_of ts) n → WholeFails W ts f

-- behind the tokens before number i the rest of a W is to be an M
pub record RestOfWhole (W M : List (Kind × Bool) → Type 0) (ts : List Token) (i : ℕ) : Type 0 where
  pub by : LeadsAlong W M (kinds_of ts) i (kinds_of (drop i ts))

pub rest_start : (W M : List (Kind × Bool) → Type 0) (ts : List Token) → IsSame M W → RestOfWhole W M ts 0
rest_start W M ts s = record { by = lead W M s (kinds_of ts) }

-- a part with a first token
first_there : (L : List (Kind × Bool) → Type 0) → IsSome L → (ts : List Token) (i j : ℕ) (h : ReadAt L ts i j) → (k : Kind) × (x : List Kind) × (kinds h.cells ≡ k ∷ x) × (rest : List Kind) × (kinds_of (drop i ts) ≡ k ∷ rest)
first_there L some ts i j h = go (kinds h.cells) refl
  where
    go : (u : List Kind) → kinds h.cells ≡ u → (k : Kind) × (x : List Kind) × (kinds h.cells ≡ k ∷ x) × (rest : List Kind) × (kinds_of (drop i ts) ≡ k ∷ rest)
    go [] e = absurd (some h.cells h.reads.is e)
    go (k ∷ x) e = (k, x, e, x ++ kinds_of (drop j ts), h.reads.split ∙ ap (λ (l : List Kind). l ++ kinds_of (drop j ts)) e)

module _ (W L M : List (Kind × Bool) → Type 0) (ts : List Token) (i : ℕ) where
  told_of : (n : ℕ) (d : Fault) (f : ParseFault) → TellsFault f d (i + n) → FailsAtToken d W (kinds_of ts) (i + n) → WholeFails W ts f
  told_of n d f t h = fault_of d (i + n) t h

  pub rest_next : (j : ℕ) → RestOfWhole W (Then L M) ts i → IsGoodKind L → ReadAt L ts i j → RestOfWhole W M ts j
  rest_next j r good h = record {
    by = subst (λ (n : ℕ). LeadsAlong W M (kinds_of ts) n (kinds_of (drop j ts))) (sym h.place)
        (then_next W L M (kinds_of ts) i (kinds_of (drop i ts)) r.by (apart_closed L M good.closed) good.even h.cells (kinds_of (drop j ts)) h.reads);
  }

  pub rest_fails : (f : ParseFault) → RestOfWhole W (Then L M) ts i → IsGoodKind L → IsLive M → FailsAt L ts i f → WholeFails W ts f
  rest_fails f r good live (memory e) = no_memory e
  rest_fails f r good live (fault d n t h) = told_of n d f t (then_fails W L M (kinds_of ts) i (kinds_of (drop i ts)) r.by (apart_closed L M good.closed) live d n h)

  -- ---- any number of parts

  many_one : (j : ℕ) → RestOfWhole W (Many L M) ts i → IsGoodKind L → IsSome L → Differ L M → IsLive M → ReadAt L ts i j → RestOfWhole W (Many L M) ts j
  many_one j r good some differ live h =
      let f = first_there L some ts i j h in
      record {
        by = subst (λ (n : ℕ). LeadsAlong W (Many L M) (kinds_of ts) n (kinds_of (drop j ts))) (sym h.place)
            (many_next W L M (kinds_of ts) i f.0 f.3 (subst (λ (l : List Kind). LeadsAlong W (Many L M) (kinds_of ts) i l) f.4 r.by) (apart_closed L (Many L M) good.closed) live (λ b mb x e. differ h.cells b h.reads.is mb f.0 f.1 x f.2 e) good.even h.cells (kinds_of (drop j ts))
            (subst (λ (l : List Kind). ReadsPart L l h.cells (kinds_of (drop j ts))) f.4 h.reads));
      }

  -- the first that isn't read begins with a token with which nothing begins that is behind them
  pub many_fault : (f : ParseFault) (k : Kind) → IsThere ts i k → ((b : List (Kind × Bool)) → M b → (x : List Kind) → kinds b ≡ k ∷ x → ⊥) → RestOfWhole W (Many L M) ts i → IsGoodKind L → IsLive M → FailsAt L ts i f → WholeFails W ts f
  many_fault f k there last r good live (memory e) = no_memory e
  many_fault f k there last r good live (fault d n t h) =
      let l = found ts i there.0 there.1 in
      let is : kinds_of (drop i ts) ≡ k ∷ kinds_of l.0 = ap kinds_of l.1 ∙ ap (λ (x : Kind). x ∷ kinds_of l.0) there.2 in
      told_of n d f t
      (many_fails W L M (kinds_of ts) i k (kinds_of l.0) (subst (λ (l : List Kind). LeadsAlong W (Many L M) (kinds_of ts) i l) is r.by) (apart_closed L (Many L M) good.closed) live last d n (subst (λ (l : List Kind). RefusesText d L l n) is h))

  -- none begins with the token that is there
  pub many_end : RestOfWhole W (Many L M) ts i → IsSome L → ((a : List (Kind × Bool)) → L a → (k : Kind) (x : List Kind) → kinds a ≡ k ∷ x → IsThere ts i k → ⊥) → RestOfWhole W M ts i
  many_end r some not = record { by = many_last W L M (kinds_of ts) i (kinds_of (drop i ts)) r.by some (λ a la k x y e g. not a la k x e (front (drop i ts) refl k y g)) }
    where
      front : (l : List Token) → drop i ts ≡ l → (k : Kind) (y : List Kind) → kinds_of l ≡ k ∷ y → IsThere ts i k
      front [] at k y e = absurd (let f : [] ≡ k ∷ y = e in cc)
      front (t ∷ l) at k y e = (t, unfound ts i t l at, let j : t.kind ≡ k = cc in j)

-- all parts that were read
pub each_next : {X : Type 0} (W M : List (Kind × Bool) → Type 0) (ts : List Token) (piece : X → List Piece → List Piece) (behind : (x : X) (r : List Piece) → piece x r ≡ piece x [] ++ r) (v : Bool) (Is : X → Type 0)
    → AreWordsFit v (kinds_of ts) → IsGoodKind (OfPieces (λ x. piece x []) (IsWhole v piece Is)) → IsSome (OfPieces (λ x. piece x []) (IsWhole v piece Is)) → Differ (OfPieces (λ x. piece x []) (IsWhole v piece Is)) M → IsLive M
    → (xs : List X) (i j : ℕ) → Along piece behind Is ts i xs j → RestOfWhole W (Many (OfPieces (λ x. piece x []) (IsWhole v piece Is)) M) ts i → RestOfWhole W (Many (OfPieces (λ x. piece x []) (IsWhole v piece Is)) M) ts j
each_next W M ts piece behind v Is fit good some differ live [] i j a r = subst (λ (n : ℕ). RestOfWhole W (Many (OfPieces (λ x. piece x []) (IsWhole v piece Is)) M) ts n) a.stands r
each_next W M ts piece behind v Is fit good some differ live (x ∷ xs) i j a r =
    let c = along_rest piece behind Is ts i j x xs a in
    each_next W M ts piece behind v Is fit good some differ live xs c.0 j c.3
    (many_one W (OfPieces (λ x. piece x []) (IsWhole v piece Is)) M ts i c.0 r good some differ live (one_read piece behind v Is good ts i c.0 x fit c.1 c.2))

-- ---- to the answers of calls

pub whole_fails : {X : Type 0} (pieces : X → List Piece) (P : X → Type 0) (ts : List Token) (f : ParseFault) → WholeFails (OfPieces pieces P) ts f → FailsWhole pieces P f ts
whole_fails pieces P ts f (no_memory e) = subst (λ (g : ParseFault). FailsWhole pieces P g ts) (sym e) tt
whole_fails pieces P ts f (fault_of d n t h) = go f d t h
  where
    go : (f : ParseFault) (d : Fault) → TellsFault f d n → FailsAtToken d (OfPieces pieces P) (kinds_of ts) n → FailsWhole pieces P f ts
    go (faults.Syntax k) at_syntax t s = subst (λ (j : ℕ). exact.IsSyntaxAt pieces P (kinds_of ts) j) (s.place ∙ sym t) (syntax_to pieces P (kinds_of ts) s.pre s.rest s.split s.is)
    go (faults.Syntax k) at_deep t s = absurd t
    go (faults.TooDeep k) at_syntax t s = absurd t
    go (faults.TooDeep k) at_deep t s = subst (λ (j : ℕ). exact.IsDeepAt pieces P (kinds_of ts) j) (s.place ∙ sym t) (deep_at_to pieces P (kinds_of ts) s.pre s.token s.rest s.split s.is)
    go faults.NoMemory d t s = tt
