-- Words that fit.
use Rattle.std.proofs.Common.{◌≡◌, ℕ, ◌==◌, Bool, true, false, cond, List, [], ◌∷◌, ◌++◌, codes, Option, Some, None, IfSome, refl, sym, ap, subst, ◌∙◌, ◌⊎◌, inl, inr}
use Rattle.std.specs.Str.{bytes_eq}
use Rattle.spi_lex.specs.declared.token.Kind.{Kind}
use Rattle.spi_lex.specs.declared.token.Kind.TheVariants as K
use Rattle.spi_lex.specs.declared.token.Reserved.{Reserved}
use Rattle.spi_lex.specs.declared.token.Reserved.TheVariants as word
use Rattle.spi_lex.specs.declared.token.Mark.TheVariants as mark
use Rattle.spi_lex.specs.Words.{version_1, word_bytes, word_of}
use Rattle.spi_lex.specs.Lexing.{is_version_2}
use Rattle.spi_tree.specs.Trees as t
use Rattle.spi_tree.specs.Pieces.{kinds_in, decls_pieces, a_reserved, file_pieces, proc_pieces, at_level, version_pieces, opponent_pieces, schedule_pieces, derivation_pieces, ends}
use Rattle.spi_tree.specs.Formed.{IsWordFit, AreWordsFit, is_later, IsDeriv, AreDerivs, IsDerivation}
use Rattle.spi_parse.specs.Formed.{HasRules, HaveRules, IsFormedDerived, IsFile}
use Rattle.spi_parse.proofs.Spell as s
use Rattle.spi_parse.proofs.Viable.{AreSpare}
use Rattle.spi_parse.proofs.ExactLaws.{firsts}
use Rattle.spi_parse.proofs.LiveLaws.{version_fit}
use Rattle.spi_parse.proofs.Versions.{begins_reserved, reserved_first}

pub fewer_words : (l more : List Reserved) (name : List ℕ) → word_of (l ++ more) name ≡ None → word_of l name ≡ None
fewer_words [] more name h = refl
fewer_words (w ∷ l) more name h = go (λ k. fewer_words l more name k) (bytes_eq (word_bytes w) name) h
  where
    go : (word_of (l ++ more) name ≡ None → word_of l name ≡ None) → (b : Bool) → cond b (Some w) (word_of (l ++ more) name) ≡ None → cond b (Some w) (word_of l name) ≡ None
    go ih true k = absurd cc
    go ih false k = ih k

pub fit_any : (v : Bool) (k : Kind) → IsWordFit true k → IsWordFit v k
fit_any true k h = h
fit_any false (K.Word name) h = (h.0, h.1, fewer_words version_1 (word.Hash ∷ word.EndMany ∷ word.Many ∷ []) name h.2)
fit_any false (K.Reserved w) h = tt
fit_any false (K.Number n) h = tt
fit_any false (K.Mark m) h = tt

pub spare_fits : (v : Bool) (c : List (Kind × Bool)) → AreSpare c → AreWordsFit v (firsts c)
spare_fits v [] h = tt
spare_fits v (x ∷ c) h = (fit_any v x.0 h.0, spare_fits v c h.1)

pub fits_append : (v : Bool) (a b : List Kind) → AreWordsFit v a → AreWordsFit v b → AreWordsFit v (a ++ b)
fits_append v [] b h k = k
fits_append v (x ∷ a) b h k = (h.0, fits_append v a b h.1 k)

pub fits_front : (v : Bool) (a b : List Kind) → AreWordsFit v (a ++ b) → AreWordsFit v a
fits_front v [] b h = tt
fits_front v (x ∷ a) b h = (h.0, fits_front v a b h.1)

pub fits_drop : (v : Bool) (a b : List Kind) → AreWordsFit v (a ++ b) → AreWordsFit v b
fits_drop v [] b h = h
fits_drop v (x ∷ a) b h = fits_drop v a b h.1

-- what is made of given tokens and spare ones
pub made_fit : (v : Bool) (ks pre rest : List Kind) (c : List (Kind × Bool)) (tokens : List Kind) → AreWordsFit v ks → ks ≡ pre ++ rest → tokens ≡ pre ++ firsts c → AreSpare c → AreWordsFit v tokens
made_fit v ks pre rest c tokens fit split is spare =
    subst (AreWordsFit v) (sym is) (fits_append v pre (firsts c) (fits_front v pre rest (subst (AreWordsFit v) split fit)) (spare_fits v c spare))

-- ---- files

version_tokens : (l : List Kind) → is_version_2 (K.Word (codes "version") ∷ K.Number 2 ∷ K.Mark mark.Semicolon ∷ l) ≡ true
version_tokens l = refl

first_front : (w : Reserved) (l ks pre rest : List Kind) (c : List Kind) → K.Reserved w ∷ l ≡ pre ++ c → ks ≡ pre ++ rest → AreWordsFit (is_version_2 ks) ks → AreWordsFit false pre
first_front w l ks [] rest c e split fit = tt
first_front w l ks (p ∷ pre) rest c e split fit =
    let same : p ≡ K.Reserved w = cc in
    let begun : ks ≡ K.Reserved w ∷ (pre ++ rest) = split ∙ ap (λ (k : Kind). k ∷ (pre ++ rest)) same in
    let older : is_version_2 ks ≡ false = ap is_version_2 begun ∙ reserved_first w (pre ++ rest) in
    fits_front false (p ∷ pre) rest (subst (AreWordsFit false) split (subst (λ (v : Bool). AreWordsFit v ks) older fit))

later_front : (l ks pre rest : List Kind) (c : List Kind) → K.Word (codes "version") ∷ K.Number 2 ∷ K.Mark mark.Semicolon ∷ l ≡ pre ++ c → ks ≡ pre ++ rest → AreWordsFit (is_version_2 ks) ks → AreWordsFit true pre
later_front l ks [] rest c e split fit = tt
later_front l ks (p ∷ []) rest c e split fit = let same : K.Word (codes "version") ≡ p = cc in (subst (IsWordFit true) same version_fit, tt)
later_front l ks (p ∷ q ∷ []) rest c e split fit =
    let same : K.Word (codes "version") ≡ p = cc in
    let two : K.Number 2 ≡ q = cc in
    (subst (IsWordFit true) same version_fit, (subst (IsWordFit true) two tt, tt))
later_front l ks (p ∷ q ∷ r ∷ pre) rest c e split fit =
    let same : p ≡ K.Word (codes "version") = cc in
    let two : q ≡ K.Number 2 = cc in
    let semi : r ≡ K.Mark mark.Semicolon = cc in
    let begun : ks ≡ K.Word (codes "version") ∷ K.Number 2 ∷ K.Mark mark.Semicolon ∷ (pre ++ rest) = cc (split, same, two, semi) in
    let now : is_version_2 ks ≡ true = ap is_version_2 begun ∙ version_tokens (pre ++ rest) in
    fits_front true (p ∷ q ∷ r ∷ pre) rest (subst (AreWordsFit true) split (subst (λ (v : Bool). AreWordsFit v ks) now fit))

abbrev tokens_in_full : t.File → ℕ → List Kind
tokens_in_full f v = kinds_in (version_pieces v (decls_pieces f.decls (a_reserved word.Process (proc_pieces (at_level 0) f.process (opponent_pieces f.opponent (schedule_pieces f.schedule (derivation_pieces f.derivation (ends f.span []))))))))

front_fits : (f : t.File) (v : ℕ) → (v ≡ 1) ⊎ (v ≡ 2) → (ks pre rest c : List Kind) → tokens_in_full f v ≡ pre ++ c → ks ≡ pre ++ rest → AreWordsFit (is_version_2 ks) ks → AreWordsFit (v == 2) pre
front_fits f v (inl e) ks pre rest c is split fit =
    let b = begins_reserved f.decls (proc_pieces (at_level 0) f.process (opponent_pieces f.opponent (schedule_pieces f.schedule (derivation_pieces f.derivation (ends f.span []))))) in
    let one : tokens_in_full f 1 ≡ pre ++ c = subst (λ (i : ℕ). tokens_in_full f i ≡ pre ++ c) e is in
    subst (λ (i : ℕ). AreWordsFit (i == 2) pre) (sym e) (first_front b.0 b.1 ks pre rest c (sym b.2 ∙ one) split fit)
front_fits f v (inr e) ks pre rest c is split fit =
    let two : tokens_in_full f 2 ≡ pre ++ c = subst (λ (i : ℕ). tokens_in_full f i ≡ pre ++ c) e is in
    subst (λ (i : ℕ). AreWordsFit (i == 2) pre) (sym e) (later_front _ ks pre rest c two split fit)

-- ---- rules

mutual
  ruled_formed : (v : Bool) (d : t.Deriv) → s.IsRuled v d → IsDeriv v d × HasRules v d
  ruled_formed v (t.rule sp w es ds) h = let k = rules_formed v ds h.3 in ((h.2, k.0), (h.0, h.1, k.1))

  rules_formed : (v : Bool) (ds : t.Derivs) → s.AreRuled v ds → AreDerivs v ds × HaveRules v ds
  rules_formed v t.no_derivs h = (tt, tt)
  rules_formed v (t.more_derivs d ds) h = let a = ruled_formed v d h.0 in let b = rules_formed v ds h.1 in ((a.0, b.0), (a.1, b.1))

mutual
  formed_ruled : (v : Bool) (d : t.Deriv) → IsDeriv v d → HasRules v d → s.IsRuled v d
  formed_ruled v (t.rule sp w es ds) h k = (k.0, k.1, h.0, formed_rules v ds h.1 k.2)

  formed_rules : (v : Bool) (ds : t.Derivs) → AreDerivs v ds → HaveRules v ds → s.AreRuled v ds
  formed_rules v t.no_derivs h k = tt
  formed_rules v (t.more_derivs d ds) h k = (formed_ruled v d h.0 k.0, formed_rules v ds h.1 k.1)

derived : (v : Bool) (d : Option t.Deriv) → IfSome d (s.IsRuled v) → IsDerivation v d × IsFormedDerived v d
derived v None h = (tt, tt)
derived v (Some d) h = ruled_formed v d h

underived : (v : Bool) (d : Option t.Deriv) → IsDerivation v d → IsFormedDerived v d → IfSome d (s.IsRuled v)
underived v None h k = tt
underived v (Some d) h k = formed_ruled v d h k

pub file_ruled : (f : t.File) → IsFile f → s.IsRuledFile f
file_ruled f h = record { version = h.formed.version; body = (h.formed.decls, h.formed.process, h.formed.opponent, underived (is_later f) f.derivation h.formed.derivation h.rules) }

pub file_made : (ks : List Kind) → AreWordsFit (is_version_2 ks) ks → (f : t.File) → s.IsRuledFile f → (pre rest : List Kind) (c : List (Kind × Bool)) → ks ≡ pre ++ rest → kinds_in (file_pieces f []) ≡ pre ++ firsts c → AreSpare c → IsFile f
file_made ks fit f h pre rest c split is spare =
    let d = derived (is_later f) f.derivation h.body.3 in
    record {
      formed = record {
        version = h.version;
        decls = h.body.0;
        process = h.body.1;
        opponent = h.body.2;
        derivation = d.0;
        words = subst (AreWordsFit (is_later f)) (sym is) (fits_append (is_later f) pre (firsts c) (front_fits f f.version h.version ks pre rest (firsts c) is split fit) (spare_fits (is_later f) c spare));
      };
      rules = d.1;
    }
