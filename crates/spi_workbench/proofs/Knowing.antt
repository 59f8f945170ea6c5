-- The table of abbreviations grows with the declarations.
use Rattle.std.proofs.Common.{◌≡◌, ℕ, ◌+◌, ◌<◌, List, [], ◌∷◌, ◌++◌, length, map, take, get_or, Bool, true, false, cond, refl, sym, ap, ◌∙◌, subst, arith}
use Rattle.spi_term.proofs.Lookup.{map_take_more}
use Rattle.spi_tree.specs.declared.tree.Decl.{Decl}
use Rattle.spi_tree.specs.Views.{decl_of}
use Rattle.std.specs.Prelude.{Option, Some, None}
use Rattle.std.specs.Option.{option_map}
use Rattle.std.specs.Str.{bytes_eq}
use Rattle.std.specs.Map.{lookup}
use Rattle.std.proofs.lemmas.Slice.Eq.{bytes_eq-Decides}
use Rattle.indexmap.specs.IndexMap.{IndexMap, get_by}
use denote.Ref.{Bor}
use Rattle.spi_tree.specs.Trees as t
use Rattle.spi_term.specs.Term.{Ty}
use Rattle.spi_term.specs.Spelling.{ty_nodes, stopped}
use Rattle.spi_scope.specs.Scope.{Word, Names, Abbreviation, Abbreviations, type_of}
use Rattle.spi_scope.specs.Points.{decl_points, decls_points, types_behind, names_behind, all_types, all_names}
use Rattle.spi_workbench.specs.Counting.{all_added}
use Rattle.spi_workbench.specs.Sizes.{Know}

abbrev or_other : {A : Type 0} → Option A → Option A → Option A
or_other None p = p
or_other (Some x) p = Some x

lookup_push : (es : List (Bor (List ℕ) × ℕ)) (k : Bor (List ℕ)) (n : ℕ) (w : Word) → lookup (λ j. bytes_eq w j.now) (es ++ (k, n) ∷ []) ≡ or_other (lookup (λ j. bytes_eq w j.now) es) (cond (bytes_eq w k.now) (Some n) None)
lookup_push [] k n w = refl
lookup_push (e ∷ es) k n w = by (bytes_eq w e.0.now) (lookup_push es k n w)
  where
    by : (b : Bool) → lookup (λ j. bytes_eq w j.now) (es ++ (k, n) ∷ []) ≡ or_other (lookup (λ j. bytes_eq w j.now) es) (cond (bytes_eq w k.now) (Some n) None)
        → cond b (Some e.1) (lookup (λ j. bytes_eq w j.now) (es ++ (k, n) ∷ [])) ≡ or_other (cond b (Some e.1) (lookup (λ j. bytes_eq w j.now) es)) (cond (bytes_eq w k.now) (Some n) None)
    by true h = refl
    by false h = h

type_push : (ts : Abbreviations) (u : Abbreviation) (w : Word) → type_of (ts ++ u ∷ []) w ≡ or_other (type_of ts w) (cond (bytes_eq w u.word) (Some u.stands_for) None)
type_push [] u w = refl
type_push (v ∷ ts) u w = by (bytes_eq w v.word) (type_push ts u w)
  where
    by : (b : Bool) → type_of (ts ++ u ∷ []) w ≡ or_other (type_of ts w) (cond (bytes_eq w u.word) (Some u.stands_for) None)
        → cond b (Some v.stands_for) (type_of (ts ++ u ∷ []) w) ≡ or_other (cond b (Some v.stands_for) (type_of ts w)) (cond (bytes_eq w u.word) (Some u.stands_for) None)
    by true h = refl
    by false h = h

abbrev sized : Option Ty → Option ℕ
sized o = option_map (λ a. stopped (ty_nodes a)) o

sized_else : (o : Option Ty) (b : Bool) (a : Ty) → or_other (sized o) (cond b (Some (stopped (ty_nodes a))) None) ≡ sized (or_other o (cond b (Some a) None))
sized_else None true a = refl
sized_else None false a = refl
sized_else (Some x) b a = refl

-- one more, at the end
pub more_known : {S : Type 0} (m m' : IndexMap (Bor (List ℕ)) ℕ S) (ts : Abbreviations) (k : Bor (List ℕ)) (u : Abbreviation) (n : ℕ) → m'.entries ≡ m.entries ++ (k, n) ∷ [] → k.now ≡ u.word → n ≡ stopped (ty_nodes u.stands_for) → Know m ts → Know m' (ts ++ u ∷ [])
more_known m m' ts k u n e f g know w =
    ap (lookup (λ j. bytes_eq w j.now)) e
    ∙ lookup_push m.entries k n w
    ∙ ap (λ o. or_other o (cond (bytes_eq w k.now) (Some n) None)) (know w)
    ∙ ap (λ x. or_other (sized (type_of ts w)) (cond (bytes_eq w x) (Some n) None)) f
    ∙ ap (λ x. or_other (sized (type_of ts w)) (cond (bytes_eq w u.word) (Some x) None)) g
    ∙ sized_else (type_of ts w) (bytes_eq w u.word) u.stands_for
    ∙ ap sized (sym (type_push ts u w))

-- a spelling that was known has the earlier type
pub known_again : {S : Type 0} (m : IndexMap (Bor (List ℕ)) ℕ S) (ts : Abbreviations) (u : Abbreviation) (n : ℕ) → get_by (λ j. bytes_eq u.word j.now) m ≡ Some n → Know m ts → Know m (ts ++ u ∷ [])
known_again m ts u n e know w = know w ∙ ap sized (same (type_of ts w) refl ∙ sym (type_push ts u w))
  where
    there : sized (type_of ts u.word) ≡ Some n
    there = sym (know u.word) ∙ e

    none : type_of ts w ≡ None → (b : Bool) → bytes_eq w u.word ≡ b → None ≡ cond b (Some u.stands_for) None
    none h false g = refl
    none h true g =
        let f : w ≡ u.word = (bytes_eq-Decides w u.word).0 g in
        let x : sized (type_of ts w) ≡ Some n = ap (λ y. sized (type_of ts y)) f ∙ there in
        let z : sized None ≡ Some n = ap sized (sym h) ∙ x in
        absurd (cc)

    same : (o : Option Ty) → type_of ts w ≡ o → o ≡ or_other o (cond (bytes_eq w u.word) (Some u.stands_for) None)
    same (Some a) h = refl
    same None h = none h (bytes_eq w u.word) refl

-- declarations one after another
pub types_last : (ts : Abbreviations) (xs : Names) (ds : List t.Declared) (d : t.Declared) → all_types ts xs (ds ++ d ∷ []) ≡ types_behind (all_types ts xs ds) (all_names xs ds) d
types_last ts xs [] d = refl
types_last ts xs (c ∷ ds) d = types_last (types_behind ts xs c) (names_behind xs c) ds d

pub added_last : (ts : Abbreviations) (xs : Names) (ds : List t.Declared) (d : t.Declared) → all_added (decls_points ts xs (ds ++ d ∷ [])) ≡ all_added (decls_points ts xs ds) + all_added (decl_points (all_types ts xs ds) (all_names xs ds) d)
added_last ts xs [] d = omega arith
added_last ts xs (c ∷ ds) d = omega (arith, added_last (types_behind ts xs c) (names_behind xs c) ds d)

-- one declaration more
module _ {S : Type 0} (m m' : IndexMap (Bor (List ℕ)) ℕ S) (decls : List Decl) (i : ℕ) (d : Decl) (lt : i < length decls) (is : d ≡ get_or decls i d) where
  front : map decl_of (take (i + 1) decls) ≡ map decl_of (take i decls) ++ decl_of d ∷ []
  front = map_take_more decl_of decls i d lt is

  pub known_next : Know m' (types_behind (all_types [] [] (map decl_of (take i decls))) (all_names [] (map decl_of (take i decls))) (decl_of d)) → Know m' (all_types [] [] (map decl_of (take (i + 1) decls)))
  known_next h =
      let ds = map decl_of (take i decls) in
      subst (λ us. Know m' us) (sym (ap (all_types [] []) front ∙ types_last [] [] ds (decl_of d))) h

  pub counted_next : (n k total : ℕ) → n ≡ stopped (all_added (decls_points [] [] (map decl_of (take i decls)))) → k ≡ stopped (all_added (decl_points (all_types [] [] (map decl_of (take i decls))) (all_names [] (map decl_of (take i decls))) (decl_of d))) → total ≡ stopped (n + k)
      → total ≡ stopped (all_added (decls_points [] [] (map decl_of (take (i + 1) decls))))
  counted_next n k total e f g =
      let ds = map decl_of (take i decls) in
      let h : all_added (decls_points [] [] (map decl_of (take (i + 1) decls))) ≡ all_added (decls_points [] [] (ds ++ decl_of d ∷ [])) = ap (λ l. all_added (decls_points [] [] l)) front in
      omega (arith, e, f, g, h, added_last [] [] ds (decl_of d))
