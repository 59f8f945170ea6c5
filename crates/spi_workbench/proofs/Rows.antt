-- Nodes one after another.
use Rattle.std.proofs.Common.{◌≡◌, ℕ, zero, suc, ◌+◌, ◌≤◌, List, [], ◌∷◌, ◌++◌, length, map, drop, take, sym, ap, ◌∙◌, subst, arith, append_assoc, append-nil, length-drop}
use Rattle.std.specs.Prelude.{Some, slice_get}
use Rattle.std.specs.List.{All}
use Rattle.std.proofs.lemmas.List.{map_push, drop_all, length-map}
use Rattle.spi_term.specs.Term.{Recvs, Serves, Splits, Selects, Decrypts, Checks, Begins, Ends, EndManys, Casts, Freshes, Branches, Pars}
use Rattle.spi_term.specs.Names.{ProcessOver}
use Rattle.spi_term.specs.Spelling.{Shape, leaf_at, prefix_at, fork_at, spelled, HasSmallParts, HaveSmallParts, SpellsProcess, Spelling}
use Rattle.spi_term.specs.View.{shape_of, shapes_of, ty}
use Rattle.spi_term.specs.declared.term.Node.{Node}
use Rattle.spi_term.specs.declared.term.Ty.{Ty as TyValue}
use Rattle.spi_term.proofs.Lists.{drop_get, take_get}
use Rattle.spi_scope.proofs.Closing.{shapes_are, small_nodes}
use Rattle.spi_workbench.specs.Behind.{earlier, StandsBehind, type_made}

drop_next : {A : Type 0} (l : List A) (i : ℕ) (x : A) → slice_get l i ≡ Some x → drop i l ≡ x ∷ drop (i + 1) l
drop_next l i x e = let f : suc i ≡ i + 1 = omega arith in drop_get l i x e ∙ ap (λ n. x ∷ drop n l) f

take_next : {A : Type 0} (l : List A) (i : ℕ) (x : A) → slice_get l i ≡ Some x → take (i + 1) l ≡ take i l ++ x ∷ []
take_next l i x e = let f : i + 1 ≡ suc i = omega arith in ap (λ n. take n l) f ∙ take_get l i x e

-- one more node is copied
pub copied : (n i : ℕ) (ss : List Shape) (x : Shape) (old new : List Node) (node : Node) → slice_get ss i ≡ Some x → shape_of node ≡ earlier n x → new ≡ old ++ node ∷ []
    → map shape_of old ++ map (earlier n) (drop i ss) ≡ map (earlier n) (drop n ss) → map shape_of new ++ map (earlier n) (drop (i + 1) ss) ≡ map (earlier n) (drop n ss)
copied n i ss x old new node g s e h =
    ap (λ l. map shape_of l ++ map (earlier n) (drop (i + 1) ss)) e
    ∙ ap (λ l. l ++ map (earlier n) (drop (i + 1) ss)) (map_push shape_of old node)
    ∙ append_assoc (map shape_of old) (shape_of node ∷ []) (map (earlier n) (drop (i + 1) ss))
    ∙ ap (λ y. map shape_of old ++ y ∷ map (earlier n) (drop (i + 1) ss)) s
    ∙ ap (λ l. map shape_of old ++ map (earlier n) l) (sym (drop_next ss i x g))
    ∙ h

pub all_copied : (n i : ℕ) (ss : List Shape) (ns : List Node) → length ss ≤ i → map shape_of ns ++ map (earlier n) (drop i ss) ≡ map (earlier n) (drop n ss) → map shape_of ns ≡ map (earlier n) (drop n ss)
all_copied n i ss ns le h =
    sym (append-nil (map shape_of ns)) ∙ ap (λ l. map shape_of ns ++ map (earlier n) l) (sym (drop_all i ss le)) ∙ h

pub few_copied : (n : ℕ) (ss : List Shape) (ns : List Node) → map shape_of ns ≡ map (earlier n) (drop n ss) → length ns ≤ length ss
few_copied n ss ns e = omega (arith, length-map ns shape_of, ap length e, length-map (drop n ss) (earlier n), length-drop n ss)

-- one more type is copied
pub type_copied : (i : ℕ) (ss : List Shape) (x : Shape) (old new : List TyValue) (a : TyValue) → slice_get ss i ≡ Some x → ty a ≡ type_made x → new ≡ old ++ a ∷ []
    → map ty old ≡ map type_made (take i ss) → map ty new ≡ map type_made (take (i + 1) ss)
type_copied i ss x old new a g s e h =
    ap (map ty) e ∙ map_push ty old a ∙ ap (λ l. l ++ ty a ∷ []) h ∙ ap (λ b. map type_made (take i ss) ++ b ∷ []) s
    ∙ sym (map_push type_made (take i ss) x) ∙ ap (map type_made) (sym (take_next ss i x g))

small_earlier : (n : ℕ) (x : Shape) → HasSmallParts x → HasSmallParts (earlier n x)
small_earlier n (leaf_at k l) h = h
small_earlier n (prefix_at k (Recvs m t) b) h = h
small_earlier n (prefix_at k (Serves m t) b) h = h
small_earlier n (prefix_at k (Splits m t u) b) h = h
small_earlier n (prefix_at k (Selects m t e u) b) h = h
small_earlier n (prefix_at k (Decrypts m t e) b) h = h
small_earlier n (prefix_at k (Checks m e) b) h = h
small_earlier n (prefix_at k (Begins m) b) h = h
small_earlier n (prefix_at k (Ends m) b) h = h
small_earlier n (prefix_at k (EndManys m) b) h = h
small_earlier n (prefix_at k (Casts m t) b) h = h
small_earlier n (prefix_at k (Freshes t) b) h = h
small_earlier n (fork_at k Pars a r) h = h
small_earlier n (fork_at k (Branches m t u) a r) h = h

small_all : (n : ℕ) (ss : List Shape) → HaveSmallParts ss → HaveSmallParts (map (earlier n) ss)
small_all n [] h = tt
small_all n (x ∷ ss) h = (small_earlier n x h.0, small_all n ss h.1)

small_drop : (n : ℕ) (ss : List Shape) → HaveSmallParts ss → HaveSmallParts (drop n ss)
small_drop zero ss h = h
small_drop (suc n) [] h = h
small_drop (suc n) (x ∷ ss) h = small_drop n ss h.1

pub small_copies : (n : ℕ) (ss : List Shape) (ns : List Node) → map shape_of ns ≡ map (earlier n) (drop n ss) → HaveSmallParts ss → All (λ m. HasSmallParts (shape_of m)) ns
small_copies n ss ns e h = small_nodes ns (map (earlier n) (drop n ss)) e (small_all n (drop n ss) (small_drop n ss h))

-- the nodes spell the part, and no other
pub spells_part : (n : ℕ) (whole part : Spelling) (ns : List Node) → map shape_of ns ≡ map (earlier n) (drop n (spelled whole.names whole.process)) → StandsBehind n whole part → (k : ℕ) → k ≡ whole.names + n → SpellsProcess k part.process (shapes_of ns)
spells_part n whole part ns e h k f =
    let g : part.names ≡ k = h.names ∙ sym f in
    subst (λ m. SpellsProcess m part.process (shapes_of ns)) g (h.over, sym h.nodes ∙ sym e ∙ sym (shapes_are ns))

pub stands_there : (n : ℕ) (whole part : Spelling) (ns : List Node) → map shape_of ns ≡ map (earlier n) (drop n (spelled whole.names whole.process)) → (k : ℕ) → k ≡ whole.names + n → (part.names ≡ k) × SpellsProcess k part.process (shapes_of ns) → StandsBehind n whole part
stands_there n whole part ns e k f h = record {
  names = h.0 ∙ f;
  over = subst (λ m. ProcessOver m part.process) (sym h.0) h.1.0;
  nodes = sym e ∙ sym (shapes_are ns) ∙ sym h.1.1 ∙ ap (λ m. spelled m part.process) (sym h.0);
}
