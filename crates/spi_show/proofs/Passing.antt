-- The text of a process piece by piece, on the way through its nodes.
use Rattle.std.proofs.Common.{◌≡◌, ℕ, zero, suc, ◌+◌, ◌-◌, ◌*◌, ◌<◌, ◌≤◌, Bool, true, false, List, [], ◌∷◌, ◌++◌, length, map, reverse, drop, Option, Some, None, refl, sym, ap, ◌∙◌, subst, arith, append_assoc, append-nil}
use Rattle.std.specs.Prelude.{codes, slice_get, if◌then◌else◌}
use Rattle.std.proofs.lemmas.List.{map-append, reverse-append, length-append, length-map, length-reverse}
use Rattle.spi_term.specs.Term.{Leaf, Sends, Stops, Prefix, Fork, Branches, Pars, Process, leaf, prefix, fork, binds, fork_binds, process_size}
use Rattle.spi_term.specs.Spelling.{Shape, leaf_at, prefix_at, fork_at, flat, numbered, spelled}
use Rattle.spi_term.proofs.Numbers.{length_spelled}
use Rattle.spi_show.specs.Terms.{message_text, type_text}
use Rattle.spi_show.specs.Processes.{leaf_text, prefix_text, left_text, right_text, Standing, alone, sequel, is_output, process_text}
use Rattle.spi_show.specs.declared.pieces.Piece as D
use Rattle.spi_show.specs.Pieces.{ShownPiece, words, process, piece, tops, output_in, parts_shown, pieces_at, first_text, first_pieces, node_after, piece_text, piece_parts, piece_after, IsPut}

-- a process that is to come, with so many names in scope
pub data ShownTask : Type 0 where
  task : Process → ℕ → ShownTask

-- their nodes from place i on
abbrev pub shown_nodes : ℕ → List ShownTask → List Shape
shown_nodes i [] = []
shown_nodes i (task q n ∷ ts) = flat i n q ++ shown_nodes (i + process_size q) ts

-- what the pieces say, where these processes come in their places
abbrev pub rest_text : (ℕ → List ℕ) → List ShownPiece → List ShownTask → List ℕ
rest_text spell [] ts = []
rest_text spell (words w ∷ ps) ts = w ++ rest_text spell ps ts
rest_text spell (process at ∷ ps) [] = rest_text spell ps []
rest_text spell (process at ∷ ps) (task q n ∷ ts) = process_text spell at n q ++ rest_text spell ps ts

-- the nodes before place i are written
pub record GoesThrough (spell : ℕ → List ℕ) (ss : List Shape) (all : List ℕ) (i : ℕ) (ps : List ShownPiece) (out : List ℕ) : Type 0 where
  pub tasks : List ShownTask
  pub nodes : drop i ss ≡ shown_nodes i tasks
  pub text : out ++ rest_text spell ps tasks ≡ all

pub goes_start : (spell : ℕ → List ℕ) (k : ℕ) (q : Process) (out : List ℕ) → GoesThrough spell (flat 0 k q) (out ++ process_text spell alone k q) 0 (process alone ∷ []) out
goes_start spell k q out = record {
  tasks = task q k ∷ [];
  nodes = sym (append-nil (flat 0 k q));
  text = ap (λ l. out ++ l) (append-nil (process_text spell alone k q));
}

-- the node at a place is the first one from there on
abbrev first_shape : List Shape → Option Shape
first_shape [] = None
first_shape (x ∷ ss) = Some x

get_first : (ss : List Shape) (i : ℕ) → slice_get ss i ≡ first_shape (drop i ss)
get_first [] zero = refl
get_first [] (suc i) = refl
get_first (x ∷ ss) zero = refl
get_first (x ∷ ss) (suc i) = get_first ss i

drop_next : (ss : List Shape) (i : ℕ) (x : Shape) (r : List Shape) → drop i ss ≡ x ∷ r → drop (i + 1) ss ≡ r
drop_next [] zero x r h = absurd (cc h)
drop_next [] (suc i) x r h = absurd (cc h)
drop_next (y ∷ ss) zero x r h = cc
drop_next (y ∷ ss) (suc i) x r h =
    let n : suc i + 1 ≡ suc (i + 1) = omega arith in
    ap (λ m. drop m (y ∷ ss)) n ∙ drop_next ss i x r h

output_first : (p : Process) (i n : ℕ) (more : List Shape) → output_in (first_shape (flat i n p ++ more)) ≡ is_output p
output_first (leaf (Sends a b)) i n more = refl
output_first (leaf Stops) i n more = refl
output_first (prefix s p) i n more = refl
output_first (fork f p q) i n more = refl

pub flat_at : (p : Process) {i j k n : ℕ} → i ≡ j → k ≡ n → flat i k p ≡ flat j n p
flat_at p {i} {j} {k} {n} h g = ap (λ i. flat i k p) h ∙ ap (λ k. flat j k p) g

nodes_at : (ts : List ShownTask) {i j : ℕ} → i ≡ j → shown_nodes i ts ≡ shown_nodes j ts
nodes_at ts h = ap (λ i. shown_nodes i ts) h

four : (out a b c d r : List ℕ) → (out ++ a) ++ (b ++ (c ++ (d ++ r))) ≡ out ++ ((a ++ (b ++ (c ++ d))) ++ r)
four out a b c d r =
    append_assoc out a (b ++ (c ++ (d ++ r)))
    ∙ ap (λ l. out ++ l) (sym (append_assoc a (b ++ (c ++ d)) r ∙ ap (λ l. a ++ l) (append_assoc b (c ++ d) r ∙ ap (λ l. b ++ l) (append_assoc c d r))))

module _ (spell : ℕ → List ℕ) (ss : List Shape) (all : List ℕ) (i : ℕ) (n : ℕ) (ts : List ShownTask) (ps : List ShownPiece) (out : List ℕ) where
  abbrev Next : Standing → Bool → Option Shape → Type 0
  Next at output o = GoesThrough spell ss all (node_after i o) (first_pieces spell at output o ++ ps) (out ++ first_text spell at output o)

  abbrev rest : List ℕ
  rest = rest_text spell ps ts

  next_leaf : (l : Leaf) (at : Standing) (o : Bool) → drop i ss ≡ shown_nodes i (task (leaf l) n ∷ ts) → out ++ (leaf_text spell n l ++ rest) ≡ all → Next at o (Some (leaf_at n l))
  next_leaf l at o h t = record {
    tasks = ts;
    nodes = drop_next ss i (leaf_at n l) (shown_nodes (i + 1) ts) h;
    text = append_assoc out (leaf_text spell n l) rest ∙ t;
  }

  next_prefix : (s : Prefix) (p : Process) (at : Standing) (o : Bool) → drop i ss ≡ shown_nodes i (task (prefix s p) n ∷ ts) → out ++ ((prefix_text spell n s ++ process_text spell sequel (n + binds s) p) ++ rest) ≡ all → Next at o (Some (prefix_at n s (suc i)))
  next_prefix s p at o h t =
      let m = n + binds s in
      let more = shown_nodes (i + suc (process_size p)) ts in
      let a : suc i ≡ i + 1 = omega arith in
      let z : i + suc (process_size p) ≡ i + 1 + process_size p = omega arith in
      let x = prefix_text spell n s in
      let y = process_text spell sequel m p in
      record {
        tasks = task p m ∷ ts;
        nodes =
            drop_next ss i (prefix_at n s (suc i)) (flat (suc i) m p ++ more) h
            ∙ ap (λ l. l ++ more) (flat_at p a refl)
            ∙ ap (λ l. flat (i + 1) m p ++ l) (nodes_at ts z);
        text = append_assoc out x (y ++ rest) ∙ ap (λ l. out ++ l) (sym (append_assoc x y rest)) ∙ t;
      }

  fork_nodes : (f : Fork) (p q : Process) (m : ℕ) → n + fork_binds f ≡ m → drop i ss ≡ shown_nodes i (task (fork f p q) n ∷ ts) → drop (i + 1) ss ≡ shown_nodes (i + 1) (task p m ∷ (task q m ∷ ts))
  fork_nodes f p q m e h =
      let k = n + fork_binds f in
      let a : suc i ≡ i + 1 = omega arith in
      let c : suc i + process_size p ≡ i + 1 + process_size p = omega arith in
      let z : i + suc (process_size p + process_size q) ≡ i + 1 + process_size p + process_size q = omega arith in
      let fp = flat (suc i) k p in
      let fq = flat (suc i + process_size p) k q in
      let more = shown_nodes (i + suc (process_size p + process_size q)) ts in
      drop_next ss i (fork_at n f (suc i) (suc i + process_size p)) ((fp ++ fq) ++ more) h
      ∙ append_assoc fp fq more
      ∙ ap (λ l. l ++ (fq ++ more)) (flat_at p a e)
      ∙ ap (λ l. flat (i + 1) m p ++ (l ++ more)) (flat_at q c e)
      ∙ ap (λ l. flat (i + 1) m p ++ (flat (i + 1 + process_size p) m q ++ l)) (nodes_at ts z)

  abbrev text_of : Standing → Process → List ℕ
  text_of at p = process_text spell at n p

  par_sequel : (p q : Process) (w : Bool) → drop (i + 1) ss ≡ shown_nodes (i + 1) (task p n ∷ (task q n ∷ ts)) → out ++ ((if w then text_of sequel p ++ (codes "; " ++ text_of sequel q) else codes "(" ++ (text_of sequel p ++ (codes " | " ++ (text_of alone q ++ codes ")")))) ++ rest) ≡ all → Next sequel w (Some (fork_at n Pars (suc i) (suc i + process_size p)))
  par_sequel p q true h t = record {
    tasks = task p n ∷ (task q n ∷ ts);
    nodes = h;
    text = four out [] (text_of sequel p) (codes "; ") (text_of sequel q) rest ∙ t;
  }
  par_sequel p q false h t = record {
    tasks = task p n ∷ (task q n ∷ ts);
    nodes = h;
    text =
        ap (λ l. (out ++ codes "(") ++ (text_of sequel p ++ (codes " | " ++ l))) (sym (append_assoc (text_of alone q) (codes ")") rest))
        ∙ four out (codes "(") (text_of sequel p) (codes " | ") (text_of alone q ++ codes ")") rest
        ∙ t;
  }

  next_cases : (f : Fork) (p q : Process) (at : Standing) (o : Bool) → o ≡ is_output p → drop i ss ≡ shown_nodes i (task (fork f p q) n ∷ ts) → out ++ (text_of at (fork f p q) ++ rest) ≡ all → Next at o (Some (fork_at n f (suc i) (suc i + process_size p)))
  next_cases (Branches m t u) p q at o w h g = record {
    tasks = task p (n + 1) ∷ (task q (n + 1) ∷ ts);
    nodes = fork_nodes (Branches m t u) p q (n + 1) refl h;
    text =
        four out (left_text spell n (message_text spell n m) (type_text spell n t)) (process_text spell sequel (n + 1) p) (right_text spell n (type_text spell n u)) (process_text spell sequel (n + 1) q) rest
        ∙ g;
  }
  next_cases Pars p q alone o w h g = record {
    tasks = task p n ∷ (task q n ∷ ts);
    nodes = fork_nodes Pars p q n (omega arith) h;
    text = four out [] (text_of sequel p) (codes " | ") (text_of alone q) rest ∙ g;
  }
  next_cases Pars p q sequel o w h g =
      subst (λ o. Next sequel o (Some (fork_at n Pars (suc i) (suc i + process_size p)))) (sym w) (par_sequel p q (is_output p) (fork_nodes Pars p q n (omega arith) h) g)

  next_fork : (f : Fork) (p q : Process) (at : Standing) → drop i ss ≡ shown_nodes i (task (fork f p q) n ∷ ts) → out ++ (text_of at (fork f p q) ++ rest) ≡ all → Next at (output_in (slice_get ss (i + 1))) (Some (fork_at n f (suc i) (suc i + process_size p)))
  next_fork f p q at h g =
      let m = n + fork_binds f in
      let w = ap output_in (get_first ss (i + 1) ∙ ap first_shape (fork_nodes f p q m refl h)) ∙ output_first p (i + 1) m (shown_nodes (i + 1 + process_size p) (task q m ∷ ts)) in
      next_cases f p q at (output_in (slice_get ss (i + 1))) w h g

  next_by : (q : Process) (at : Standing) → drop i ss ≡ shown_nodes i (task q n ∷ ts) → out ++ (text_of at q ++ rest) ≡ all → Next at (output_in (slice_get ss (i + 1))) (first_shape (drop i ss))
  next_by (leaf l) at h g =
      let o = output_in (slice_get ss (i + 1)) in
      subst (Next at o) (sym (ap first_shape h)) (next_leaf l at o h g)
  next_by (prefix s p) at h g =
      let o = output_in (slice_get ss (i + 1)) in
      subst (Next at o) (sym (ap first_shape h)) (next_prefix s p at o h g)
  next_by (fork f p q) at h g =
      let o = output_in (slice_get ss (i + 1)) in
      subst (Next at o) (sym (ap first_shape h)) (next_fork f p q at h g)

-- a process is begun
next_process : (spell : ℕ → List ℕ) (ss : List Shape) (all : List ℕ) (i : ℕ) (at : Standing) (ps : List ShownPiece) (out : List ℕ) (ts : List ShownTask) → drop i ss ≡ shown_nodes i ts → out ++ rest_text spell (process at ∷ ps) ts ≡ all → Next spell ss all i 0 [] ps out at (output_in (slice_get ss (i + 1))) (first_shape (drop i ss))
next_process spell ss all i at ps out [] h g =
    let o = output_in (slice_get ss (i + 1)) in
    subst (Next spell ss all i 0 [] ps out at o) (sym (ap first_shape h)) (record {
      tasks = [];
      nodes = h;
      text = ap (λ l. l ++ rest_text spell ps []) (append-nil out) ∙ g;
    })
next_process spell ss all i at ps out (task q n ∷ ts) h g = next_by spell ss all i n ts ps out q at h g

pub goes_next : {spell : ℕ → List ℕ} {ss : List Shape} {all : List ℕ} {i j : ℕ} {rest after : List ShownPiece} {old new : List ℕ} (x : ShownPiece) → GoesThrough spell ss all i (x ∷ rest) old → IsPut spell ss i j x old new rest after → GoesThrough spell ss all j after new
goes_next {spell} {ss} {all} {i} {j} {rest} {after} {old} {new} x g p =
    let moved : GoesThrough spell ss all (piece_after ss i x) (piece_parts spell ss i x ++ rest) (old ++ piece_text spell ss i x) = by x g in
    subst (λ j. GoesThrough spell ss all j after new) (sym p.node) (subst (λ l. GoesThrough spell ss all (piece_after ss i x) l new) (sym p.left) (subst (λ l. GoesThrough spell ss all (piece_after ss i x) (piece_parts spell ss i x ++ rest) l) (sym p.text) moved))
  where
    by : (x : ShownPiece) → GoesThrough spell ss all i (x ∷ rest) old → GoesThrough spell ss all (piece_after ss i x) (piece_parts spell ss i x ++ rest) (old ++ piece_text spell ss i x)
    by (words w) g = record { tasks = g.tasks; nodes = g.nodes; text = append_assoc old w (rest_text spell rest g.tasks) ∙ g.text }
    by (process at) g =
        subst (λ o. GoesThrough spell ss all (node_after i o) (first_pieces spell at (output_in (slice_get ss (i + 1))) o ++ rest) (old ++ first_text spell at (output_in (slice_get ss (i + 1))) o)) (sym (get_first ss i)) (next_process spell ss all i at rest old g.tasks g.nodes g.text)

-- each node brings four pieces at most
few_parts : (at : Standing) (output : Bool) → length (parts_shown at output) ≤ 4
few_parts alone output = omega arith
few_parts sequel true = omega arith
few_parts sequel false = omega arith

few_pieces : (spell : ℕ → List ℕ) (at : Standing) (output : Bool) (x : Shape) → length (pieces_at spell at output x) ≤ 4
few_pieces spell at output (leaf_at n l) = omega arith
few_pieces spell at output (prefix_at n s b) = omega arith
few_pieces spell at output (fork_at n (Branches m t u) a r) = omega arith
few_pieces spell at output (fork_at n Pars a r) = few_parts at output

within : (ss : List Shape) (i : ℕ) (x : Shape) → slice_get ss i ≡ Some x → i < length ss
within [] i x h = absurd (cc h)
within (y ∷ ss) zero x h = omega arith
within (y ∷ ss) (suc i) x h = omega (arith, within ss i x h)

pub fewer : {spell : ℕ → List ℕ} {ss : List Shape} {i j : ℕ} {rest after : List ShownPiece} {old new : List ℕ} (x : ShownPiece) → IsPut spell ss i j x old new rest after → length after + 4 * (length ss - j) ≤ length rest + 4 * (length ss - i)
fewer {spell} {ss} {i} {j} {rest} {after} x p =
    omega (arith, ap length p.left, ap (λ j. length ss - j) p.node, length-append (piece_parts spell ss i x) rest, by x)
  where
    from : (at : Standing) (output : Bool) (o : Option Shape) → ((x : Shape) → o ≡ Some x → i < length ss) → length (first_pieces spell at output o) + 4 * (length ss - node_after i o) ≤ 4 * (length ss - i)
    from at output None w = omega arith
    from at output (Some x) w = omega (arith, w x refl, few_pieces spell at output x)

    by : (x : ShownPiece) → length (piece_parts spell ss i x) + 4 * (length ss - piece_after ss i x) ≤ 4 * (length ss - i)
    by (words w) = omega arith
    by (process at) = from at (output_in (slice_get ss (i + 1))) (slice_get ss i) (within ss i)

-- the stack of pieces, which grows at its end
tops_last : (ps : List D.Piece) (x : D.Piece) → tops (ps ++ x ∷ []) ≡ piece x ∷ tops ps
tops_last ps x = ap reverse (map-append piece ps (x ∷ [])) ∙ reverse-append (map piece ps) (piece x ∷ [])

length_tops : (ps : List D.Piece) → length (tops ps) ≡ length ps
length_tops ps = length-reverse (map piece ps) ∙ length-map ps piece

pub goes_popped : {spell : ℕ → List ℕ} {ss : List Shape} {all : List ℕ} {i j : ℕ} {old new : List ℕ} (x : D.Piece) (ps qs rs : List D.Piece) → ps ≡ qs ++ x ∷ [] → GoesThrough spell ss all i (tops ps) old → IsPut spell ss i j (piece x) old new (tops qs) (tops rs) → GoesThrough spell ss all j (tops rs) new
goes_popped {spell} {ss} {all} {i} {old = old} x ps qs rs h g p =
    goes_next (piece x) (subst (λ l. GoesThrough spell ss all i l old) (ap tops h ∙ tops_last qs x) g) p

pub goes_smaller : {spell : ℕ → List ℕ} {ss : List Shape} {i j : ℕ} {old new : List ℕ} (x : D.Piece) (ps qs rs : List D.Piece) → ps ≡ qs ++ x ∷ [] → IsPut spell ss i j (piece x) old new (tops qs) (tops rs) → length rs + 4 * (length ss - j) < length ps + 4 * (length ss - i)
goes_smaller x ps qs rs h p = omega (arith, fewer (piece x) p, length_tops qs, length_tops rs, ap length h, length-append qs (x ∷ []))

pub goes_from : (spell : ℕ → List ℕ) (k : ℕ) (p : Process) (out : List ℕ) (ps : List D.Piece) (x : D.Piece) → piece x ≡ process alone → ps ≡ x ∷ [] → GoesThrough spell (spelled k p) (out ++ process_text spell alone k (numbered [] k p)) 0 (tops ps) out
goes_from spell k p out ps x e h =
    subst (λ l. GoesThrough spell (spelled k p) (out ++ process_text spell alone k (numbered [] k p)) 0 l out) (sym (ap tops h ∙ ap (λ y. y ∷ []) e)) (goes_start spell k (numbered [] k p) out)

-- behind the last node there is none
none_past : (ss : List Shape) (i : ℕ) → length ss ≤ i → slice_get ss i ≡ None
none_past [] i l = refl
none_past (x ∷ ss) zero l = absurd (omega arith)
none_past (x ∷ ss) (suc i) l = none_past ss i (omega arith)

pub no_node_past : (k : ℕ) (p : Process) (i : ℕ) → process_size p ≤ i → slice_get (spelled k p) i ≡ None
no_node_past k p i l = none_past (spelled k p) i (omega (arith, length_spelled k p))

-- none is left
pub none_put : {spell : ℕ → List ℕ} {ss : List Shape} {i : ℕ} {out : List ℕ} {rest : List ShownPiece} (at : Standing) → slice_get ss i ≡ None → IsPut spell ss i i (process at) out out rest rest
none_put {spell} {ss} {i} {out} {rest} at e =
    let c = output_in (slice_get ss (i + 1)) in
    record {
      node = ap (node_after i) (sym e);
      text = sym (append-nil out) ∙ ap (λ y. out ++ first_text spell at c y) (sym e);
      left = ap (λ y. first_pieces spell at c y ++ rest) (sym e);
    }
