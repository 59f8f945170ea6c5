-- The version in front of a whole text, or none.
use Rattle.std.proofs.Common.{◌≡◌, ℕ, suc, ◌==◌, Bool, true, false, List, [], ◌∷◌, ◌++◌, drop, Ok, Err, ◌&&◌, refl, sym, ap, subst, ◌∙◌, codes, ◌⊎◌, inl, inr}
use Rattle.std.specs.Str.{bytes_eq}
use Rattle.std.proofs.lemmas.Slice.Eq.{bytes_eq-Decides}
use Rattle.spi_lex.specs.declared.token.Kind.{Kind}
use Rattle.spi_lex.specs.declared.token.Kind.TheVariants as K
use Rattle.spi_lex.specs.declared.token.Mark.TheVariants as mark
use Rattle.spi_lex.specs.declared.token.Token.{Token}
use Rattle.spi_lex.specs.Lexing.{kinds_of, is_version_2, is_version, is_two, is_semicolon}
use Rattle.spi_tree.specs.Formed.{AreWordsFit}
use Rattle.spi_parse.specs.declared.fault.ParseFault.{ParseFault}
use Rattle.spi_parse.specs.declared.fault.ParseFault.TheVariants as faults
use Rattle.spi_grammar.specs.Exactly.{kinds, IsLive, IsSame, Either, Then}
use Rattle.spi_grammar.proofs.Cuts.{kinds_append}
use Rattle.spi_grammar.proofs.Along.{LeadsAlong, either_this, either_other}
use Rattle.spi_heading.specs.Taking.{IsThere, version_word, ReadsVersion}
use Rattle.spi_heading.proofs.Standing.{found, behind_one}
use Rattle.spi_heading.proofs.Symbols.{HeadingSym, token, the_mark, the_word, the_two, version}
use Rattle.spi_heading.proofs.Rows.{Row, row_good, row_read, row_end, row_more, RowAt, RowFails, fails_first, fails_behind}
use Rattle.spi_heading.proofs.Calls.{took, untaken}
use Rattle.spi_heading.proofs.Wholes.{WholeFails, RestOfWhole, rest_start, rest_next, rest_fails}

abbrev pub version_row : List HeadingSym
version_row = token (the_word version) ∷ token the_two ∷ token (the_mark mark.Semicolon) ∷ []

abbrev pub Cells : Type 0
Cells = List (Kind × Bool)

-- the version in front of what stands behind it, which is of a kind for each version
abbrev pub InLaterVersion : (Bool → Cells → Type 0) → Cells → Type 0
InLaterVersion Body = Then (Row true version_row) (Body true)

later_always : (Body : Bool → Cells → Type 0) (a : Cells) → InLaterVersion Body a → (x : List Kind) × (kinds a ≡ version_word ∷ x)
later_always Body a h =
    let left : kinds h.left ≡ version_word ∷ kinds h.one.right = ap kinds h.one.cells ∙ kinds_append h.one.left h.one.right ∙ ap (λ (l : List Kind). l ++ kinds h.one.right) (ap kinds h.one.one.cells ∙ ap (λ (y : Kind). y ∷ []) h.one.one.is) in
    (kinds h.one.right ++ kinds h.right, ap kinds h.cells ∙ kinds_append h.left h.right ∙ ap (λ (l : List Kind). l ++ kinds h.right) left)

kinds_at : (ts : List Token) (i : ℕ) (k : Kind) → IsThere ts i k → (rest : List Token) × (kinds_of (drop i ts) ≡ k ∷ kinds_of rest) × (drop (suc i) ts ≡ rest)
kinds_at ts i k h = let f = found ts i h.0 h.1 in (f.0, ap kinds_of f.1 ∙ ap (λ (x : Kind). x ∷ kinds_of f.0) h.2, behind_one ts i h.0 f.0 f.1)

is_later_text : (ts : List Token) → IsThere ts 0 version_word → IsThere ts 1 (K.Number 2) → IsThere ts 2 (K.Mark mark.Semicolon) → is_version_2 (kinds_of ts) ≡ true
is_later_text ts a b c =
    let x = kinds_at ts 0 version_word a in
    let y = kinds_at ts 1 (K.Number 2) b in
    let z = kinds_at ts 2 (K.Mark mark.Semicolon) c in
    let one : kinds_of ts ≡ version_word ∷ kinds_of x.0 = x.1 in
    let two : kinds_of x.0 ≡ K.Number 2 ∷ kinds_of y.0 = ap kinds_of (sym x.2) ∙ y.1 in
    let three : kinds_of y.0 ≡ K.Mark mark.Semicolon ∷ kinds_of z.0 = ap kinds_of (sym y.2) ∙ z.1 in
    ap is_version_2 (one ∙ ap (λ (l : List Kind). version_word ∷ l) (two ∙ ap (λ (l : List Kind). K.Number 2 ∷ l) three))

not_version : (k : Kind) → (k ≡ version_word → ⊥) → is_version k ≡ false
not_version (K.Word name) no_ = by (bytes_eq name (codes "version")) refl
  where
    by : (b : Bool) → bytes_eq name (codes "version") ≡ b → b ≡ false
    by true e = absurd (no_ (ap (λ (l : List ℕ). K.Word l) ((bytes_eq-Decides name (codes "version")).0 e)))
    by false e = refl
not_version (K.Reserved w) no_ = refl
not_version (K.Number x) no_ = refl
not_version (K.Mark m) no_ = refl

all_three : (x y z : Bool) → x ≡ false → x && y && z ≡ false
all_three true y z e = absurd (let f : true ≡ false = e in cc)
all_three false y z e = refl

is_first_text : (ts : List Token) → (IsThere ts 0 version_word → ⊥) → is_version_2 (kinds_of ts) ≡ false
is_first_text [] no_ = refl
is_first_text (a ∷ []) no_ = refl
is_first_text (a ∷ b ∷ []) no_ = refl
is_first_text (a ∷ b ∷ c ∷ ts) no_ = all_three (is_version a.kind) (is_two b.kind) (is_semicolon c.kind) (not_version a.kind (λ e. no_ (a, refl, e)))

pub version_fits : (ts : List Token) → AreWordsFit (is_version_2 (kinds_of ts)) (kinds_of ts) → (r : ℕ × ℕ) → ReadsVersion (Ok r) ts → AreWordsFit (r.0 == 2) (kinds_of ts)
version_fits ts fit r (inl h) = subst (λ (v : Bool). AreWordsFit v (kinds_of ts)) (is_later_text ts h.2 h.3 h.4 ∙ ap (λ (n : ℕ). n == 2) (sym h.0)) fit
version_fits ts fit r (inr h) = subst (λ (v : Bool). AreWordsFit v (kinds_of ts)) (is_first_text ts h.2 ∙ ap (λ (n : ℕ). n == 2) (sym h.0)) fit

pub version_known : (ts : List Token) (r : ℕ × ℕ) → ReadsVersion (Ok r) ts → (r.0 ≡ 1) ⊎ (r.0 ≡ 2)
version_known ts r (inl h) = inr h.0
version_known ts r (inr h) = inl h.0

pub version_row_at : (v : Bool) (ts : List Token) → IsThere ts 0 version_word → IsThere ts 1 (K.Number 2) → IsThere ts 2 (K.Mark mark.Semicolon) → RowAt v ts 0 version_row (tt, (tt, (tt, tt))) 3
version_row_at v ts a b c =
    row_more v ts 0 1 3 (token (the_word version)) (token the_two ∷ token (the_mark mark.Semicolon) ∷ []) tt (tt, (tt, tt)) (took v ts 0 1 (the_word version) (a, refl))
    (row_more v ts 1 2 3 (token the_two) (token (the_mark mark.Semicolon) ∷ []) tt (tt, tt) (took v ts 1 2 the_two (b, refl))
    (row_more v ts 2 3 3 (token (the_mark mark.Semicolon)) [] tt tt (took v ts 2 3 (the_mark mark.Semicolon) (c, refl)) (row_end v ts 3)))

-- ---- what stands behind it

module _ (Whole : Cells → Type 0) (Body : Bool → Cells → Type 0) (same : IsSame (Either (InLaterVersion Body) (Body false)) Whole) (never : (b : Cells) → Body false b → (x : List Kind) → kinds b ≡ version_word ∷ x → ⊥) (live : IsLive (Body true)) where
  later_start : (ts : List Token) → IsThere ts 0 version_word → RestOfWhole Whole (InLaterVersion Body) ts 0
  later_start ts a =
      let x = kinds_at ts 0 version_word a in
      let r = rest_start Whole (Either (InLaterVersion Body) (Body false)) ts same in
      record {
        by = subst (λ (l : List Kind). LeadsAlong Whole (InLaterVersion Body) (kinds_of ts) 0 l) (sym x.1)
            (either_this Whole (InLaterVersion Body) (Body false) (kinds_of ts) 0 version_word (kinds_of x.0) (subst (λ (l : List Kind). LeadsAlong Whole (Either (InLaterVersion Body) (Body false)) (kinds_of ts) 0 l) x.1 r.by) (λ b lb y e. never b lb y e));
      }

  pub after_version : (ts : List Token) → AreWordsFit (is_version_2 (kinds_of ts)) (kinds_of ts) → (r : ℕ × ℕ) → ReadsVersion (Ok r) ts → RestOfWhole Whole (Body (r.0 == 2)) ts r.1
  after_version ts fit r (inl h) =
      let v = is_version_2 (kinds_of ts) in
      let read = row_read v ts 0 3 version_row (tt, (tt, (tt, tt))) fit (version_row_at v ts h.2 h.3 h.4) in
      let rest : RestOfWhole Whole (Body true) ts 3 = rest_next Whole (Row true version_row) (Body true) ts 0 3 (later_start ts h.2) (row_good true version_row) read in
      subst (λ (n : ℕ). RestOfWhole Whole (Body (n == 2)) ts r.1) (sym h.0) (subst (λ (n : ℕ). RestOfWhole Whole (Body true) ts n) (sym h.1) rest)
  after_version ts fit r (inr h) =
      let s = rest_start Whole (Either (InLaterVersion Body) (Body false)) ts same in
      let rest : RestOfWhole Whole (Body false) ts 0 = record { by = either_other Whole (InLaterVersion Body) (Body false) (kinds_of ts) 0 (kinds_of ts) s.by (record { some = some; none = none }) } in
      subst (λ (n : ℕ). RestOfWhole Whole (Body (n == 2)) ts r.1) (sym h.0) (subst (λ (n : ℕ). RestOfWhole Whole (Body false) ts n) (sym h.1) rest)
    where
      some : (a : List (Kind × Bool)) → (InLaterVersion Body) a → kinds a ≡ [] → ⊥
      some a la e = let f = later_always Body a la in let g : version_word ∷ f.0 ≡ [] = sym f.1 ∙ e in cc

      front : (l : List Token) (k : Kind) (y : List Kind) → kinds_of l ≡ k ∷ y → IsThere l 0 k
      front [] k y e = absurd (let f : [] ≡ k ∷ y = e in cc)
      front (t ∷ l) k y e = (t, refl, let j : t.kind ≡ k = cc in j)

      none : (a : List (Kind × Bool)) → (InLaterVersion Body) a → (k : Kind) (x y : List Kind) → kinds a ≡ k ∷ x → kinds_of ts ≡ k ∷ y → ⊥
      none a la k x y e g =
          let f = later_always Body a la in
          let j : version_word ∷ f.0 ≡ k ∷ x = sym f.1 ∙ e in
          let is : k ≡ version_word = cc in
          h.2 (front ts version_word y (g ∙ ap (λ (q : Kind). q ∷ y) is))

  pub version_fault : (ts : List Token) → AreWordsFit (is_version_2 (kinds_of ts)) (kinds_of ts) → (f : ParseFault) → ReadsVersion (Err f) ts → WholeFails Whole ts f
  version_fault ts fit (faults.Syntax i) h = rest_fails Whole (Row true version_row) (Body true) ts 0 (faults.Syntax i) (later_start ts h.0) (row_good true version_row) live (by h.1).by
    where
      first : (f : ParseFault) → RowFails (is_version_2 (kinds_of ts)) ts 1 (token the_two ∷ token (the_mark mark.Semicolon) ∷ []) f → RowFails (is_version_2 (kinds_of ts)) ts 0 version_row f
      first f r = fails_behind (is_version_2 (kinds_of ts)) ts 0 1 (token (the_word version)) (token the_two ∷ token (the_mark mark.Semicolon) ∷ []) tt f fit (took (is_version_2 (kinds_of ts)) ts 0 1 (the_word version) (h.0, refl)) r

      by : ((i ≡ 1) × (IsThere ts 1 (K.Number 2) → ⊥)) ⊎ ((i ≡ 2) × IsThere ts 1 (K.Number 2) × (IsThere ts 2 (K.Mark mark.Semicolon) → ⊥)) → RowFails (is_version_2 (kinds_of ts)) ts 0 version_row (faults.Syntax i)
      by (inl g) =
          first (faults.Syntax i) (fails_first (is_version_2 (kinds_of ts)) ts 1 (token the_two) (token (the_mark mark.Semicolon) ∷ []) (faults.Syntax i) (untaken (is_version_2 (kinds_of ts)) ts 1 the_two (faults.Syntax i) (g.1, g.0)))
      by (inr g) =
          first (faults.Syntax i)
          (fails_behind (is_version_2 (kinds_of ts)) ts 1 2 (token the_two) (token (the_mark mark.Semicolon) ∷ []) tt (faults.Syntax i) fit (took (is_version_2 (kinds_of ts)) ts 1 2 the_two (g.1, refl))
          (fails_first (is_version_2 (kinds_of ts)) ts 2 (token (the_mark mark.Semicolon)) [] (faults.Syntax i) (untaken (is_version_2 (kinds_of ts)) ts 2 (the_mark mark.Semicolon) (faults.Syntax i) (g.2, g.0))))
  version_fault ts fit (faults.TooDeep i) h = absurd h
  version_fault ts fit faults.NoMemory h = absurd h
