-- The table of free names grows with the declarations.
use Rattle.std.proofs.Common.{◌≡◌, ℕ, ◌+◌, ◌<◌, List, [], ◌∷◌, ◌++◌, length, map, take, get_or, cond, refl, sym, ap, ◌∙◌}
use Rattle.std.specs.Prelude.{Some}
use Rattle.std.specs.Str.{bytes_eq}
use Rattle.std.proofs.lemmas.List.{map-id}
use Rattle.std.proofs.lemmas.Map.Text.{hash_map_updates_str}
use Rattle.indexmap.specs.IndexMap.{IndexMap, get_by, UpdatesBy}
use denote.Ref.{Bor}
use Rattle.spi_term.proofs.Lookup.{map_take_more}
use Rattle.spi_tree.specs.declared.tree.Decl.{Decl}
use Rattle.spi_tree.specs.declared.tree.SWord.{SWord}
use Rattle.spi_tree.specs.Views.{decl_of}
use Rattle.spi_tree.specs.Trees as t
use Rattle.spi_scope.specs.Scope.{Word, Names, number_of}
use Rattle.spi_scope.specs.Points.{with_free, names_behind, all_names}

abbrev pub Finds : {S : Type 0} → IndexMap (Bor (List ℕ)) ℕ S → Names → Type 0
Finds m xs = (w : Word) → get_by (λ k. bytes_eq w k.now) m ≡ number_of xs w

pub one_found : {S : Type 0} (m n : IndexMap (Bor (List ℕ)) ℕ S) (xs : Names) (x : Word) (i : ℕ) → UpdatesBy (λ j k. bytes_eq j.now k.now) (λ k. bytes_eq x k.now) m n (Some i) → i ≡ length xs → Finds m xs → Finds n (x ∷ xs)
one_found m n xs x i u e h w =
    hash_map_updates_str x m n (Some i) u w
    ∙ ap (λ a. cond (bytes_eq x w) (Some i) a) (h w)
    ∙ ap (λ j. cond (bytes_eq x w) (Some j) (number_of xs w)) e

-- one word more
free_last : (xs : Names) (ws : List SWord) (w : SWord) → with_free xs (ws ++ w ∷ []) ≡ w.word ∷ with_free xs ws
free_last xs [] w = refl
free_last xs (v ∷ ws) w = free_last (v.word ∷ xs) ws w

pub free_next : (xs : Names) (ws : List SWord) (i : ℕ) (w : SWord) → i < length ws → w ≡ get_or ws i w → w.word ∷ with_free xs (take i ws) ≡ with_free xs (take (i + 1) ws)
free_next xs ws i w l e =
    let front : take (i + 1) ws ≡ take i ws ++ w ∷ [] = sym (map-id (take (i + 1) ws)) ∙ map_take_more (λ x. x) ws i w l e ∙ ap (λ (r : List _). r ++ w ∷ []) (map-id (take i ws)) in
    sym (ap (with_free xs) front ∙ free_last xs (take i ws) w)

-- one declaration more
names_last : (xs : Names) (ds : List t.Declared) (d : t.Declared) → all_names xs (ds ++ d ∷ []) ≡ names_behind (all_names xs ds) d
names_last xs [] d = refl
names_last xs (c ∷ ds) d = names_last (names_behind xs c) ds d

pub names_next : (decls : List Decl) (i : ℕ) (d : Decl) → i < length decls → d ≡ get_or decls i d → names_behind (all_names [] (map decl_of (take i decls))) (decl_of d) ≡ all_names [] (map decl_of (take (i + 1) decls))
names_next decls i d l e = sym (ap (all_names []) (map_take_more decl_of decls i d l e) ∙ names_last [] (map decl_of (take i decls)) (decl_of d))
