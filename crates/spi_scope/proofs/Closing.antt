-- A form with two processes is written after its first process.
use Rattle.std.proofs.Common.{◌≡◌, ℕ, suc, ◌+◌, List, [], ◌∷◌, ◌++◌, length, map, refl, sym, ap, ◌∙◌, subst, arith, append_assoc, length-append}
use Rattle.std.specs.Prelude.{slice_set}
use Rattle.std.specs.List.{All, AllByRecursion}
use Rattle.std.proofs.lemmas.List.Elements.{All-from_recursion}
use Rattle.spi_term.specs.Term.{Fork, fork_binds, Process, fork, process_size}
use Rattle.spi_term.specs.Spelling.{Shape, fork_at, flat, HasSmallParts, HaveSmallParts}
use Rattle.spi_term.specs.View.{shape_of, shapes_of}
use Rattle.std.proofs.lemmas.List.{length-map}
use Rattle.spi_term.specs.declared.term.Node.{Node}
use Rattle.spi_term.proofs.Rows.{length_flat}

set_at : {A : Type 0} (old : List A) (x y : A) (a : List A) → slice_set (old ++ x ∷ a) (length old) y ≡ old ++ y ∷ a
set_at [] x y a = refl
set_at (o ∷ old) x y a = ap (λ l. o ∷ l) (set_at old x y a)

closed : {A : Type 0} (old a b : List A) (x y : A) (i : ℕ) → i ≡ length old → slice_set ((old ++ x ∷ []) ++ a) i y ++ b ≡ old ++ y ∷ (a ++ b)
closed old a b x y i e =
    ap (λ n. slice_set ((old ++ x ∷ []) ++ a) n y ++ b) e
    ∙ ap (λ l. slice_set l (length old) y ++ b) (append_assoc old (x ∷ []) a)
    ∙ ap (λ l. l ++ b) (set_at old x y a)
    ∙ append_assoc old (y ∷ a) b

-- a node x, the first process, the node written in the place of x, and the second process
pub fork_nodes : (f : Fork) (old one two three four : List Shape) (p q : Process) (k kp kq at first rest here behind : ℕ) (x : Shape)
    → one ≡ old ++ x ∷ [] → two ≡ one ++ flat here kp p → three ≡ slice_set two at (fork_at k f first rest) → four ≡ three ++ flat behind kq q
    → (i : ℕ) → at ≡ i → i ≡ length old → here ≡ suc i → first ≡ suc i → rest ≡ suc i + process_size p → behind ≡ suc i + process_size p → kp ≡ k + fork_binds f → kq ≡ k + fork_binds f
    → four ≡ old ++ flat i k (fork f p q)
fork_nodes f old one two three four p q k kp kq at first rest here behind x e1 e2 e3 e4 i ea ei eh ef er eb ep eq =
    let j : ℕ = k + fork_binds f in
    e4
    ∙ ap (λ l. l ++ flat behind kq q) (e3 ∙ ap (λ l. slice_set l at (fork_at k f first rest)) (e2 ∙ ap (λ l. l ++ flat here kp p) e1))
    ∙ closed old (flat here kp p) (flat behind kq q) x (fork_at k f first rest) at (ea ∙ ei)
    ∙ ap (λ c. old ++ fork_at k f c rest ∷ (flat here kp p ++ flat behind kq q)) ef
    ∙ ap (λ c. old ++ fork_at k f (suc i) c ∷ (flat here kp p ++ flat behind kq q)) er
    ∙ ap (λ c. old ++ fork_at k f (suc i) (suc i + process_size p) ∷ (flat c kp p ++ flat behind kq q)) eh
    ∙ ap (λ c. old ++ fork_at k f (suc i) (suc i + process_size p) ∷ (flat (suc i) kp p ++ flat c kq q)) eb
    ∙ ap (λ c. old ++ fork_at k f (suc i) (suc i + process_size p) ∷ (flat (suc i) c p ++ flat (suc i + process_size p) kq q)) ep
    ∙ ap (λ c. old ++ fork_at k f (suc i) (suc i + process_size p) ∷ (flat (suc i) j p ++ flat (suc i + process_size p) c q)) eq

-- what is kept of each node grows in the same way: by what stands for x, then by the first process, then by the second
pub fork_kept : {A : Type 0} (old one two three : List A) (x : A) (a b : List A) → one ≡ old ++ x ∷ [] → two ≡ one ++ a → three ≡ two ++ b → three ≡ old ++ x ∷ (a ++ b)
fork_kept old one two three x a b e f g =
    g ∙ ap (λ l. l ++ b) (f ∙ ap (λ l. l ++ a) e) ∙ append_assoc (old ++ x ∷ []) a b ∙ append_assoc old (x ∷ []) (a ++ b)

-- the nodes' shapes, and that each node's parts are small
pub shapes_are : (ns : List Node) → shapes_of ns ≡ map shape_of ns
shapes_are [] = refl
shapes_are (n ∷ ns) = ap (λ l. shape_of n ∷ l) (shapes_are ns)

each_small : (ns : List Node) → HaveSmallParts (map shape_of ns) → AllByRecursion (λ n. HasSmallParts (shape_of n)) ns
each_small [] h = tt
each_small (n ∷ ns) h = (h.0, each_small ns h.1)

pub small_nodes : (ns : List Node) (ss : List Shape) → map shape_of ns ≡ ss → HaveSmallParts ss → All (λ n. HasSmallParts (shape_of n)) ns
small_nodes ns ss e h = All-from_recursion (λ n. HasSmallParts (shape_of n)) ns (each_small ns (subst HaveSmallParts (sym e) h))

-- behind the nodes of a process there are as many more
pub grown : (a b : List Node) (i k : ℕ) (p : Process) → map shape_of b ≡ map shape_of a ++ flat i k p → length b ≡ length a + process_size p
grown a b i k p e = omega (arith, length-map a shape_of, length-map b shape_of, ap length e, length-append (map shape_of a) (flat i k p), length_flat p i k)

-- places, one after another
pub one_more : (n i : ℕ) → n ≡ i → n + 1 ≡ suc i
one_more n i e = omega (arith, e)

pub next_one : (n i : ℕ) → n ≡ i + 1 → n ≡ suc i
next_one n i e = omega (arith, e)

pub next_rest : (r n m i s : ℕ) → r ≡ n → n ≡ m + s → m ≡ i + 1 → r ≡ suc i + s
next_rest r n m i s e f g = omega (arith, e, f, g)

pub none_in : (k : ℕ) → k ≡ k + 0
none_in k = omega arith
