-- The version, the declarations and the shared names in front of what stands behind them in a whole text.
use Rattle.std.proofs.Common.{◌≡◌, ℕ, ◌≤◌, ◌==◌, Bool, true, false, List, ◌∷◌, length, Result, Ok, Err, refl, sym, subst, ◌∙◌, ◌⊎◌, inl, inr}
use Rattle.std.specs.Result.{IsErrAnd}
use Rattle.spi_lex.specs.declared.token.Kind.{Kind}
use Rattle.spi_lex.specs.declared.token.Kind.TheVariants as K
use Rattle.spi_lex.specs.declared.token.Reserved.TheVariants as word
use Rattle.spi_lex.specs.declared.token.Token.{Token}
use Rattle.spi_lex.specs.Lexing.{kinds_of, is_version_2}
use Rattle.spi_tree.specs.Trees as t
use Rattle.spi_tree.specs.Pieces.{decl_pieces}
use Rattle.spi_tree.specs.Formed.{AreWordsFit, IsDeclared}
use Rattle.spi_parse.specs.declared.fault.ParseFault.{ParseFault}
use Rattle.spi_parse.specs.Formed.{whole_decl, IsWholeDecl}
use Rattle.spi_grammar.specs.Exactly.{kinds, IsLive, IsSame, Either, Many}
use Rattle.spi_grammar.proofs.Repetition.{live_many}
use Rattle.spi_grammar.proofs.Good.{Differ, begins_many}
use Rattle.spi_parts.proofs.Behind.{decl_behind}
use Rattle.spi_parts.proofs.Alone.{Decls}
use Rattle.spi_heading.specs.Headings as h
use Rattle.spi_heading.specs.Reading.{HeadingAt, FailsHeading, no_version, no_declared, no_shared, ReadsHeading}
use Rattle.spi_heading.specs.Repeated.{IsSolidKind, declared_kind, shared_kind}
use Rattle.spi_heading.specs.declared.heading.Heading.{Heading}
use Rattle.spi_heading.specs.Taking.{IsTextOf, IsThere, version_word, ReadsVersion}
use Rattle.spi_heading.specs.Each.{EachAt, ReadsEach}
use Rattle.spi_heading.specs.Grammar.{shared_word, shared_pieces, whole_shared, IsShared, IsWholeShared, BeginsDecl, BeginsShared}
use Rattle.spi_heading.proofs.Standing.{decl_solid}
use Rattle.spi_heading.proofs.Failing.{FailsAt, fails_from}
use Rattle.spi_heading.proofs.Each.{Along, each_along}
use Rattle.spi_heading.proofs.Names.{Shareds, shared_behind, shared_solid}
use Rattle.spi_heading.proofs.Wholes.{WholeFails, RestOfWhole, many_fault, many_end, each_next}
use Rattle.spi_heading.proofs.Firsts.{BeginsDeclared, decls_begin, decls_some, decls_good, shareds_begin, shareds_some, shareds_good}
use Rattle.spi_heading.proofs.Versions.{Cells, InLaterVersion, version_fits, version_known, after_version, version_fault}

-- the tokens with which the version, a shared name or a declaration begins
abbrev pub BeginsFront : Kind → Type 0
BeginsFront k = (k ≡ version_word) ⊎ ((k ≡ shared_word) ⊎ BeginsDeclared k)

-- no part of the kind begins with one of them
abbrev pub NeverFront : (Cells → Type 0) → Type 0
NeverFront Next = (k : Kind) → BeginsFront k → (b : Cells) → Next b → (x : List Kind) → kinds b ≡ k ∷ x → ⊥

module _ (v : Bool) (Next : Cells → Type 0) where
  abbrev pub SharedFront : Cells → Type 0
  SharedFront = Many (Shareds v) Next

  abbrev pub Front : Cells → Type 0
  Front = Many (Decls v) SharedFront

  module _ (next_live : IsLive Next) (never : NeverFront Next) where
    shared_differ : Differ (Shareds v) Next
    shared_differ a b la lb k x y e f = never k (inr (inl (shareds_begin v a la k x e))) b lb y f

    decls_never : (k : Kind) → BeginsDeclared k → (b : Cells) → SharedFront b → (x : List Kind) → kinds b ≡ k ∷ x → ⊥
    decls_never k is = begins_many (Shareds v) Next (shareds_some v) k (λ a la x e. one k is (shareds_begin v a la k x e)) (never k (inr (inr is)))
      where
        one : (k : Kind) → BeginsDeclared k → k ≡ shared_word → ⊥
        one k (inl f) e = cc
        one k (inr f) e = cc

    decls_differ : Differ (Decls v) SharedFront
    decls_differ a b la lb k x y e f = decls_never k (decls_begin v a la k x e) b lb y f

    shared_live : IsLive SharedFront
    shared_live = live_many (Shareds v) Next next_live

    pub front_live : IsLive Front
    front_live = live_many (Decls v) SharedFront shared_live

    pub version_never : (b : Cells) → Front b → (x : List Kind) → kinds b ≡ version_word ∷ x → ⊥
    version_never = begins_many (Decls v) SharedFront (decls_some v) version_word (λ a la x e. none (decls_begin v a la version_word x e))
        (begins_many (Shareds v) Next (shareds_some v) version_word (λ a la x e. let g : version_word ≡ shared_word = shareds_begin v a la version_word x e in cc) (never version_word (inl refl)))
      where
        none : BeginsDeclared version_word → ⊥
        none (inl f) = cc
        none (inr f) = cc

    -- ---- reading them part after part

    module _ (Whole : Cells → Type 0) (ts : List Token) (fit : AreWordsFit v (kinds_of ts)) where
      abbrev Decls_at : ℕ → List t.Declared → ℕ → Type 0
      Decls_at i ds j = Along decl_pieces decl_behind (IsDeclared v) ts i ds j

      decls_next : (ds : List t.Declared) (i j : ℕ) → Decls_at i ds j → RestOfWhole Whole Front ts i → RestOfWhole Whole Front ts j
      decls_next ds i j a r = each_next Whole SharedFront ts decl_pieces decl_behind v (IsDeclared v) fit (decls_good v) (decls_some v) decls_differ shared_live ds i j a r

      decls_fault : (ds : List t.Declared) (i j : ℕ) → Decls_at i ds j → RestOfWhole Whole Front ts i → BeginsDecl ts j → (f : ParseFault) → FailsAt (Decls v) ts j f → WholeFails Whole ts f
      decls_fault ds i j a r (inl there) f e = many_fault Whole (Decls v) SharedFront ts j f (K.Reserved word.Free) there (λ b lb x g. decls_never (K.Reserved word.Free) (inl refl) b lb x g) (decls_next ds i j a r) (decls_good v) shared_live e
      decls_fault ds i j a r (inr there) f e = many_fault Whole (Decls v) SharedFront ts j f (K.Reserved word.TypeWord) there (λ b lb x g. decls_never (K.Reserved word.TypeWord) (inr refl) b lb x g) (decls_next ds i j a r) (decls_good v) shared_live e

      after_decls : (ds : List t.Declared) (i j : ℕ) → Decls_at i ds j → RestOfWhole Whole Front ts i → (BeginsDecl ts j → ⊥) → RestOfWhole Whole SharedFront ts j
      after_decls ds i j a r none = many_end Whole (Decls v) SharedFront ts j (decls_next ds i j a r) (decls_some v) (λ b lb k x e there. none (go k (decls_begin v b lb k x e) there))
        where
          go : (k : Kind) → (k ≡ K.Reserved word.Free) ⊎ (k ≡ K.Reserved word.TypeWord) → IsThere ts j k → BeginsDecl ts j
          go k (inl e) there = inl (there.0, there.1, there.2 ∙ e)
          go k (inr e) there = inr (there.0, there.1, there.2 ∙ e)

      abbrev Shared_at : ℕ → List h.Shared → ℕ → Type 0
      Shared_at i ss j = Along shared_pieces shared_behind (IsShared v) ts i ss j

      shared_next : (ss : List h.Shared) (i j : ℕ) → Shared_at i ss j → RestOfWhole Whole SharedFront ts i → RestOfWhole Whole SharedFront ts j
      shared_next ss i j a r = each_next Whole Next ts shared_pieces shared_behind v (IsShared v) fit (shareds_good v) (shareds_some v) shared_differ next_live ss i j a r

      shared_fault : (ss : List h.Shared) (i j : ℕ) → Shared_at i ss j → RestOfWhole Whole SharedFront ts i → BeginsShared ts j → (f : ParseFault) → FailsAt (Shareds v) ts j f → WholeFails Whole ts f
      shared_fault ss i j a r there f e = many_fault Whole (Shareds v) Next ts j f shared_word there (λ b lb x g. never shared_word (inr (inl refl)) b lb x g) (shared_next ss i j a r) (shareds_good v) next_live e

      after_shared : (ss : List h.Shared) (i j : ℕ) → Shared_at i ss j → RestOfWhole Whole SharedFront ts i → (BeginsShared ts j → ⊥) → RestOfWhole Whole Next ts j
      after_shared ss i j a r none = many_end Whole (Shareds v) Next ts j (shared_next ss i j a r) (shareds_some v) (λ b lb k x e there. none (there.0, there.1, there.2 ∙ shareds_begin v b lb k x e))

-- ---- the answers of the calls that read them

-- a whole is the front, with the version or not, and behind it what `Next` says
pub record IsFrontOf (Whole : Cells → Type 0) (Next : Bool → Cells → Type 0) : Type 0 where
  pub same : IsSame (Either (InLaterVersion (λ v. Front v (Next v))) (Front false (Next false))) Whole
  pub live : (v : Bool) → IsLive (Next v)
  pub never : (v : Bool) → NeverFront (Next v)

module _ {Whole : Cells → Type 0} {Next : Bool → Cells → Type 0} (is : IsFrontOf Whole Next) (ts : List Token) (words : AreWordsFit (is_version_2 (kinds_of ts)) (kinds_of ts)) where
  abbrev Fronts : Bool → Cells → Type 0
  Fronts v = Front v (Next v)

  version_answer : (f : ParseFault) → ReadsVersion (Err f) ts → WholeFails Whole ts f
  version_answer f h = version_fault Whole Fronts is.same (version_never false (Next false) (is.live false) (is.never false)) (front_live true (Next true) (is.live true) (is.never true)) ts words f h

  module _ (r : ℕ × ℕ) (read : ReadsVersion (Ok r) ts) (within : r.1 ≤ length ts) where
    start : RestOfWhole Whole (Front (r.0 == 2) (Next (r.0 == 2))) ts r.1
    start = after_version Whole Fronts is.same (version_never false (Next false) (is.live false) (is.never false)) (front_live true (Next true) (is.live true) (is.never true)) ts words r read

    decls_answer : (f : ParseFault) → ReadsEach (λ (ds : List t.Declared). ds) decl_pieces (r.0 == 2) (IsDeclared (r.0 == 2)) BeginsDecl (Err f) ts r.1 → WholeFails Whole ts f
    decls_answer f e =
        let v = r.0 == 2 in
        decls_fault v (Next v) (is.live v) (is.never v) Whole ts (version_fits ts words r read) e.0 r.1 e.1 (each_along decl_pieces decl_behind (IsDeclared v) ts decl_solid r.1 e.1 e.0 within e.2) start e.3 f
        (fails_from (λ (d : t.Declared). d) whole_decl (IsWholeDecl v) ts e.1 f e.4)

    module _ (ds : List t.Declared) (j : ℕ) (d : EachAt decl_pieces (IsDeclared (r.0 == 2)) ds ts r.1 j × (BeginsDecl ts j → ⊥)) where
      decls_stand : Along decl_pieces decl_behind (IsDeclared (r.0 == 2)) ts r.1 ds j
      decls_stand = each_along decl_pieces decl_behind (IsDeclared (r.0 == 2)) ts decl_solid r.1 j ds within d.0

      behind_decls : RestOfWhole Whole (SharedFront (r.0 == 2) (Next (r.0 == 2))) ts j
      behind_decls = let v = r.0 == 2 in after_decls v (Next v) (is.live v) (is.never v) Whole ts (version_fits ts words r read) ds r.1 j decls_stand start d.1

      shared_answer : (f : ParseFault) → ReadsEach (λ (ss : List h.Shared). ss) shared_pieces (r.0 == 2) (IsShared (r.0 == 2)) BeginsShared (Err f) ts j → WholeFails Whole ts f
      shared_answer f e =
          let v = r.0 == 2 in
          shared_fault v (Next v) (is.live v) (is.never v) Whole ts (version_fits ts words r read) e.0 j e.1 (each_along shared_pieces shared_behind (IsShared v) ts shared_solid j e.1 e.0 d.0.within e.2) behind_decls e.3 f
          (fails_from (λ (s : h.Shared). s) whole_shared (IsWholeShared v) ts e.1 f e.4)

      module _ (ss : List h.Shared) (k : ℕ) (s : EachAt shared_pieces (IsShared (r.0 == 2)) ss ts j k × (BeginsShared ts k → ⊥)) where
        shared_stand : Along shared_pieces shared_behind (IsShared (r.0 == 2)) ts j ss k
        shared_stand = each_along shared_pieces shared_behind (IsShared (r.0 == 2)) ts shared_solid j k ss d.0.within s.0

        behind_front : RestOfWhole Whole (Next (r.0 == 2)) ts k
        behind_front = let v = r.0 == 2 in after_shared v (Next v) (is.live v) (is.never v) Whole ts (version_fits ts words r read) ss j k shared_stand behind_decls s.1

  -- ---- what reading the heading answers

  pub heading_answer : (f : ParseFault) → FailsHeading f ts → WholeFails Whole ts f
  heading_answer f (no_version h) = version_answer f h
  heading_answer f (no_declared version i a e) = decls_answer (version, i) a.read a.within f e
  heading_answer f (no_shared version ds j a e) = shared_answer (version, a.start) a.front.read a.front.within ds j a.decls f e

  module _ (version : ℕ) (ds : List t.Declared) (ss : List h.Shared) (k : ℕ) (a : HeadingAt version ds ss ts k) where
    pub heading_decls : Along decl_pieces decl_behind (IsDeclared (version == 2)) ts a.front.start ds a.start
    heading_decls = decls_stand (version, a.front.start) a.front.front.read a.front.front.within ds a.start a.front.decls

    pub heading_shared : Along shared_pieces shared_behind (IsShared (version == 2)) ts a.start ss k
    heading_shared = shared_stand (version, a.front.start) a.front.front.read a.front.front.within ds a.start a.front.decls ss k a.shared

    pub behind_heading : RestOfWhole Whole (Next (version == 2)) ts k
    behind_heading = behind_front (version, a.front.start) a.front.front.read a.front.front.within ds a.start a.front.decls ss k a.shared

-- ---- reading the heading

pub declared_solid : IsSolidKind declared_kind
declared_solid = record { behind = decl_behind; solid = decl_solid }

pub shareds_solid : IsSolidKind shared_kind
shareds_solid = record { behind = shared_behind; solid = shared_solid }

pub version_text : (ts : List Token) → length ts ≤ 16_777_216 → AreWordsFit (is_version_2 (kinds_of ts)) (kinds_of ts) → (r : ℕ × ℕ) → ReadsVersion (Ok r) ts → IsTextOf r.0 ts
version_text ts size words r read = record { size = size; known = version_known ts r read; words = version_fits ts words r read }

pub heading_fails : (ts : List Token) (f : ParseFault) (r : Result (Heading × ℕ) ParseFault) → IsErrAnd r (λ e. e ≡ f) → FailsHeading f ts → ReadsHeading r ts
heading_fails ts f (Ok x) is h = absurd is
heading_fails ts f (Err e) is h = subst (λ (g : ParseFault). FailsHeading g ts) (sym is) h
