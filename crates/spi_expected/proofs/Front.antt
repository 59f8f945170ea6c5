-- Where reading a front of a file's tokens and one more breaks off.
use Rattle.std.proofs.Common.{◌≡◌, ◌↔◌, ℕ, suc, ◌+◌, ◌<◌, ◌≤◌, Bool, true, false, List, [], ◌∷◌, ◌++◌, length, take, drop, get_or, refl, sym, ap, subst, ◌∙◌, append_assoc, append-nil, true≢false, IsTrue, Result, Ok, Err, OnOk, arith}
use Rattle.std.proofs.lemmas.List.{length-append, length-map, length-take-le, take-append-drop, take-map, take_more, take_all}
use Rattle.spi_lex.specs.declared.token.Kind.{Kind}
use Rattle.spi_lex.specs.declared.token.Token.{Token}
use Rattle.spi_lex.specs.Lexing.{kinds_of}
use Rattle.spi_tree.specs.Trees as t
use Rattle.spi_tree.specs.Pieces.{Piece, kinds_in}
use Rattle.spi_grammar.specs.Exactly.{kinds}
use Rattle.spi_grammar.proofs.Cuts.{Cut, same, behind, before, cut, kinds_append}
use Rattle.spi_parse.specs.Exact.{Spells, ItemBegins, PiecesStartDeep, NoDeepBefore, IsSyntaxAt, IsDeepAt}
use Rattle.spi_parse.specs.Formed.{whole_file, IsFile}
use Rattle.spi_parse.proofs.OneTree.{kinds_spelled}
use Rattle.spi_parts.proofs.Bridge.{kinds_cells, deep_from}
use Rattle.spi_expected.specs.Expected.{candidates, GoesOn, AreThose, none, kept, left}
use Rattle.spi_tree.specs.Formed.{IsWordFit, AreWordsFit}
use Rattle.spi_expected.proofs.Fits.{all_at, candidates_fit}

-- ---- the list of those that go on

pub those_kept : {P : Kind → Type 0} {ks those : List Kind} {k : Kind} → AreThose P ks those → P k → AreThose P (ks ++ k ∷ []) (those ++ k ∷ [])
those_kept none p = kept p none
those_kept (kept q h) p = kept q (those_kept h p)
those_kept (left q h) p = left q (those_kept h p)

pub those_left : {P : Kind → Type 0} {ks those : List Kind} {k : Kind} → AreThose P ks those → (P k → ⊥) → AreThose P (ks ++ k ∷ []) those
those_left none p = left p none
those_left (kept q h) p = kept q (those_left h p)
those_left (left q h) p = left q (those_left h p)

-- ---- no node above a limit starts before the candidate

front_of : (front : List Kind) (k : Kind) (p : List Kind) (x : Kind) (r : List Kind) → front ++ k ∷ [] ≡ p ++ x ∷ r → length p < length front → (c : List Kind) × (front ≡ p ++ x ∷ c)
front_of front k p x r e lt = go (cut front (k ∷ []) p (x ∷ r) e)
  where
    go : Cut front (k ∷ []) p (x ∷ r) → (c : List Kind) × (front ≡ p ++ x ∷ c)
    go (same f g) = absurd (let l = ap length f in omega (arith, l, lt))
    go (behind y d f g) = let j : x ≡ y = cc in (d, subst (λ (z : Kind). front ≡ p ++ z ∷ d) (sym j) f)
    go (before y d f g) = absurd (let l = ap length f ∙ length-append front (y ∷ d) in omega (arith, l, lt))

pub shallow_front : (all front rest : List Kind) (k : Kind) → all ≡ front ++ rest → NoDeepBefore whole_file IsFile all (length front) → NoDeepBefore whole_file IsFile (front ++ k ∷ []) (length front)
shallow_front all front rest k e h p x r s lt f is deep =
    let c = front_of front k p x r s lt in
    h p x (c.0 ++ rest) (e ∙ ap (λ (l : List Kind). l ++ rest) c.1 ∙ append_assoc p (x ∷ c.0) rest) lt f is deep

-- ---- the answers of reading

pub read_whole : (f : t.File) (ts : List Token) (front : List Kind) (k : Kind) → IsFile f → Spells [] 0 (whole_file f) ts → kinds_of ts ≡ front ++ k ∷ [] → GoesOn front k
read_whole f ts front k is spells e = (f, is, [], kinds_spelled 0 (whole_file f) ts spells ∙ e ∙ sym (append-nil (front ++ k ∷ [])))

pub ends_there : (ks : List Kind) (i : ℕ) → IsSyntaxAt whole_file IsFile ks i → i ≡ length ks → ItemBegins whole_file IsFile ks
ends_there ks i s e = subst (λ (l : List Kind). ItemBegins whole_file IsFile l) (sym (s.split ∙ go s.rest (omega (arith, ap length s.split, length-append s.pre s.rest, s.place, e)))) s.begins
  where
    go : (rest : List Kind) → length rest ≡ 0 → s.pre ++ rest ≡ s.pre
    go [] l = append-nil s.pre
    go (x ∷ xs) l = absurd (omega (arith, l))

pub stops_before : (ks : List Kind) (i : ℕ) → IsSyntaxAt whole_file IsFile ks i → (i ≡ length ks → ⊥) → ItemBegins whole_file IsFile ks → ⊥
stops_before ks i s n (f, is, c, b) = go s.rest s.split s.stops
  where
    go : (rest : List Kind) → ks ≡ s.pre ++ rest → Rattle.spi_parse.specs.Exact.ItemStops whole_file IsFile s.pre rest → ⊥
    go [] e h = n (sym s.place ∙ sym (ap length (e ∙ append-nil s.pre)))
    go (x ∷ xs) e h = h f is (xs ++ c) (b ∙ ap (λ (l : List Kind). l ++ c) e ∙ append_assoc s.pre (x ∷ xs) c)

starts_begins : (ps : List Piece) (pre : List Kind) (k : Kind) → PiecesStartDeep ps pre k → (c : List Kind) × (kinds_in ps ≡ (pre ++ k ∷ []) ++ c)
starts_begins ps pre k d =
    let s = deep_from ps pre k d in
    (kinds s.after, sym (kinds_cells ps) ∙ ap kinds s.parts ∙ kinds_append s.before ((k, true) ∷ s.after) ∙ ap (λ (l : List Kind). l ++ k ∷ kinds s.after) s.begins ∙ sym (append_assoc pre (k ∷ []) (kinds s.after)))

pub deep_goes_on : (ks front : List Kind) (k : Kind) (i : ℕ) → IsDeepAt whole_file IsFile ks i → ks ≡ front ++ k ∷ [] → NoDeepBefore whole_file IsFile ks (length front) → GoesOn front k
deep_goes_on ks front k i d e shallow = go (cut d.pre (d.token ∷ d.rest) front (k ∷ []) (sym d.split ∙ e))
  where
    f : t.File
    f = d.part.0

    not_before : length d.pre < length front → ⊥
    not_before lt = shallow d.pre d.token d.rest d.split lt f d.part.1 d.part.2

    here : (pre : List Kind) (x : Kind) → pre ≡ front → x ≡ k → PiecesStartDeep (whole_file f) pre x → GoesOn front k
    here pre x p q s =
        let b = starts_begins (whole_file f) pre x s in
        (f, d.part.1, b.0, b.1 ∙ ap (λ (l : List Kind). (l ++ x ∷ []) ++ b.0) p ∙ ap (λ (z : Kind). (front ++ z ∷ []) ++ b.0) q)

    go : Cut d.pre (d.token ∷ d.rest) front (k ∷ []) → GoesOn front k
    go (same p q) = let j : d.token ≡ k = cc in here d.pre d.token p j d.part.2
    go (behind y m p q) = absurd (let l = ap length q ∙ ap suc (length-append m (d.token ∷ d.rest)) in omega (arith, l))
    go (before y m p q) = absurd (not_before (let l = ap length p ∙ length-append d.pre (y ∷ m) in omega (arith, l)))

-- ---- whether the tokens are begun

-- the answer holds of a front and one token more, where no node above a limit starts before that
abbrev pub FrontIsBegun : List Token → Bool → Type 0
FrontIsBegun ts b =
    (front : List Kind) (k : Kind) → kinds_of ts ≡ front ++ k ∷ [] → NoDeepBefore whole_file IsFile (kinds_of ts) (length front)
    → IsTrue b ↔ GoesOn front k

pub begun_whole : (f : t.File) (ts : List Token) → IsFile f × Spells [] 0 (whole_file f) ts → FrontIsBegun ts true
begun_whole f ts h front k e shallow = (λ _. read_whole f ts front k h.0 h.1 e, λ _. refl)

pub begun_deep : (i : ℕ) (ts : List Token) → IsDeepAt whole_file IsFile (kinds_of ts) i → FrontIsBegun ts true
begun_deep i ts d front k e shallow = (λ _. deep_goes_on (kinds_of ts) front k i d e shallow, λ _. refl)

pub begun_syntax : (i : ℕ) (ts : List Token) (b : Bool) → IsSyntaxAt whole_file IsFile (kinds_of ts) i → IsTrue b ↔ i ≡ length ts → FrontIsBegun ts b
begun_syntax i ts b s at front k e shallow = (
  λ yes. subst (λ (l : List Kind). ItemBegins whole_file IsFile l) e (ends_there (kinds_of ts) i s (at.0 yes ∙ sym (length-map ts (λ (x : Token). x.kind)))),
  λ g. go b refl (at.1) (subst (λ (l : List Kind). ItemBegins whole_file IsFile l) (sym e) g),
)
  where
    go : (v : Bool) → b ≡ v → (i ≡ length ts → IsTrue b) → ItemBegins whole_file IsFile (kinds_of ts) → IsTrue b
    go true h from g = h
    go false h from g = absurd (stops_before (kinds_of ts) i s (λ l. true≢false (sym (from (l ∙ length-map ts (λ (x : Token). x.kind))) ∙ h)) g)

pub begun_front : (ts old : List Token) (k : Kind) (b : Bool) → FrontIsBegun ts b → kinds_of ts ≡ kinds_of old ++ k ∷ []
    → NoDeepBefore whole_file IsFile (kinds_of old ++ k ∷ []) (length old) → IsTrue b ↔ GoesOn (kinds_of old) k
begun_front ts old k b h e shallow =
    h (kinds_of old) k e
    (subst (λ (n : ℕ). NoDeepBefore whole_file IsFile (kinds_of ts) n) (sym (length-map old (λ (x : Token). x.kind)))
    (subst (λ (l : List Kind). NoDeepBefore whole_file IsFile l (length old)) (sym e) shallow))

-- ---- the candidates, one by one

pub taken_kinds : (i : ℕ) (ts : List Token) → kinds_of (take i ts) ≡ take i (kinds_of ts)
taken_kinds i ts = sym (take-map (λ (x : Token). x.kind) i ts)

pub cut_kinds : (all front : List Kind) (i : ℕ) → front ≡ take i all → all ≡ front ++ drop i all
cut_kinds all front i e = sym (take-append-drop i all) ∙ ap (λ (l : List Kind). l ++ drop i all) (sym e)

pub shallow_at : (all : List Kind) (i : ℕ) (front : List Token) (k : Kind) → IsSyntaxAt whole_file IsFile all i → kinds_of front ≡ take i all
    → NoDeepBefore whole_file IsFile (kinds_of front ++ k ∷ []) (length front)
shallow_at all i front k s e =
    subst (λ (n : ℕ). NoDeepBefore whole_file IsFile (kinds_of front ++ k ∷ []) n) same
    (shallow_front all (kinds_of front) (drop i all) k (cut_kinds all (kinds_of front) i e)
    (subst (λ (n : ℕ). NoDeepBefore whole_file IsFile all n) (sym many) s.first))
  where
    within : i ≤ length all
    within = omega (arith, ap length s.split, length-append s.pre s.rest, s.place)

    many : length (kinds_of front) ≡ i
    many = ap length e ∙ length-take-le i all within

    same : length (kinds_of front) ≡ length front
    same = length-map front (λ (x : Token). x.kind)

pub fit_at : (xs : List Kind) (i : ℕ) (x : Kind) → xs ≡ candidates → x ≡ get_or xs i x → i < length xs → IsWordFit true x
fit_at xs i x e is lt = all_at (IsWordFit true) xs i x is lt (subst (λ (l : List Kind). AreWordsFit true l) (sym e) candidates_fit)

pub one_more : (xs : List Kind) (i : ℕ) (x : Kind) → xs ≡ candidates → x ≡ get_or xs i x → i < length xs → take (i + 1) candidates ≡ take i candidates ++ x ∷ []
one_more xs i x e is lt =
    ap (λ (l : List Kind). take (i + 1) l) (sym e) ∙ take_more xs i x lt ∙ ap (λ (y : Kind). take i xs ++ y ∷ []) (sym is)
    ∙ ap (λ (l : List Kind). take i l ++ x ∷ []) e

pub all_tried : (xs : List Kind) (i : ℕ) → xs ≡ candidates → length xs ≤ i → take i candidates ≡ candidates
all_tried xs i e h = take_all i candidates (omega (arith, ap length e, h))

pub on_ok : {T E : Type 0} (r : Result T E) {A B : Type 0} → (A → B) → OnOk r A → OnOk r B
on_ok (Ok x) f h = f h
on_ok (Err e) f h = tt
