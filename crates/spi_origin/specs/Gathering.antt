-- How the nodes are gathered, from the last to the first: a stack of lists of nodes, one for each process that begins from
-- a place on.
use Rattle.std.specs.Prelude.{◌≡◌, ℕ, suc, ◌+◌, ◌&&◌, Bool, true, false, List, [], ◌∷◌, ◌++◌, length, reverse, Option, Some, None, is_some, nat_lt, ⊤}
use Rattle.spi_count.specs.Keeping.{with_keys}
use Rattle.spi_count.specs.Sums.{name_bound, key_of}
use Rattle.spi_count.specs.declared.keys.Keys.{Keys}
use Rattle.spi_infer.specs.Forms.{effect_of}
use Rattle.spi_infer.specs.Passes.{Note, note_of, act, is_stuck, run_notes}
use Rattle.spi_intern.specs.declared.store.Store.{Store}
use Rattle.spi_message.specs.Forms.{more, on_first, on_rest, cast_effect_of}
use Rattle.spi_rules.specs.Environment.{Env}
use Rattle.spi_origin.specs.declared.gathering.Aim as Declared
use Rattle.spi_origin.specs.declared.gathering.Aim.TheVariants as D
use Rattle.spi_term.specs.Counts.{count}
use Rattle.spi_term.specs.Spelling.{Shape, leaf_at, prefix_at, fork_at}
use Rattle.spi_term.specs.Term.{Atom, ends, checks, many, same_atom, Effect, Prefix, Recvs, Serves, Splits, Selects, Decrypts, Checks, Begins, Ends, EndManys, Casts, Freshes, Process, leaf, prefix, fork, process_size}
use Rattle.spi_term.specs.View.{atom}
use Rattle.spi_intern.specs.Parts.{message_of}

-- which nodes are gathered: those that block, or the origins of an atom
pub data Aim : Type 0 where
  all_blocking : Aim
  all_origins : Atom → Aim

abbrev pub aim_of : Declared.Aim → Aim
aim_of D.Blocking = all_blocking
aim_of (D.Origins a key) = all_origins (atom a)

-- the key is that of the atom's message
abbrev pub HasAimKey : Store → Keys → Declared.Aim → Type 0
HasAimKey s keys D.Blocking = ⊤
HasAimKey s keys (D.Origins a key) =
    (i : ℕ) × with_keys s keys i (message_of (atom a)) × (key ≡ key_of (name_bound (message_of (atom a))) i)

-- the atom stands in an effect
abbrev pub has_left : Atom → Option Effect → Bool
has_left a None = false
has_left a (Some es) = nat_lt 0 (count a es)

-- what is gathered in a process with this effect is kept
abbrev pub keeps : Aim → Option Effect → Bool
keeps all_blocking o = true
keeps (all_origins a) o = has_left a o

-- a form adds the atom
abbrev pub adds_by : Atom → Prefix → Option Effect → Bool
adds_by a (Recvs m t) paid = false
adds_by a (Serves m t) paid = false
adds_by a (Splits m t u) paid = false
adds_by a (Selects m t n u) paid = false
adds_by a (Decrypts m t n) paid = false
adds_by a (Checks m n) paid = is_some paid && same_atom a (checks m)
adds_by a (Begins m) paid = false
adds_by a (Ends m) paid = same_atom a (ends m)
adds_by a (EndManys m) paid = same_atom a (many m)
adds_by a (Casts m t) paid = nat_lt 0 (count a (cast_effect_of t))
adds_by a (Freshes t) paid = false

abbrev pub adds_at : Atom → Shape → Option Effect → Bool
adds_at a (leaf_at k l) paid = false
adds_at a (prefix_at k s b) paid = adds_by a s paid
adds_at a (fork_at k f b r) paid = false

-- the node is itself one of those
abbrev pub picks : Aim → Shape → Note → List (Option Effect) → Bool
picks all_blocking x n st = is_stuck x n st
picks (all_origins a) x n st = adds_at a x n.paid

-- what is gathered in a process, from what is gathered in its processes
abbrev pub with_node : Bool → Bool → ℕ → List ℕ → List ℕ
with_node false picked i l = []
with_node true false i l = l
with_node true true i l = i ∷ l

-- the lists of a form's processes as one
abbrev pub two_as_one : List (List ℕ) → List (List ℕ)
two_as_one [] = []
two_as_one (l ∷ []) = []
two_as_one (l ∷ (l' ∷ ls)) = (l ++ l') ∷ ls

abbrev pub joined_lists : Shape → List (List ℕ) → List (List ℕ)
joined_lists (leaf_at k l) ls = [] ∷ ls
joined_lists (prefix_at k s b) ls = ls
joined_lists (fork_at k f a r) ls = two_as_one ls

abbrev pub at_top : (List ℕ → List ℕ) → List (List ℕ) → List (List ℕ)
at_top f [] = []
at_top f (l ∷ ls) = f l ∷ ls

abbrev pub gathered : Shape → Bool → Bool → ℕ → List (List ℕ) → List (List ℕ)
gathered x kept picked i ls = at_top (with_node kept picked i) (joined_lists x ls)

-- the effect of the process that begins first
abbrev pub top_sum : List (Option Effect) → Option Effect
top_sum [] = None
top_sum (o ∷ st) = o

abbrev pub gather : Aim → ℕ → List Shape → List Note → List (List ℕ)
gather w i [] ns = []
gather w i (x ∷ ss) [] = []
gather w i (x ∷ ss) (n ∷ ns) =
    gathered x (keeps w (top_sum (act x n (run_notes ss ns)))) (picks w x n (run_notes ss ns)) i
    (gather w (suc i) ss ns)

-- The lists one after another, and how long what stands behind each is. Below the last list there may be more
pub data AreMarked : List ℕ → List ℕ → List (List ℕ) → Type 0 where
  marked_none : {fs : List ℕ} → AreMarked [] fs []
  marked_next : {m : ℕ} {l fs ms : List ℕ} {ls : List (List ℕ)}
      → length fs ≡ m → AreMarked ms fs ls → AreMarked (m ∷ ms) (l ++ fs) (l ∷ ls)

-- stacks that grow at their ends
abbrev pub MarkedStacks : List ℕ → List ℕ → List (List ℕ) → Type 0
MarkedStacks marks found ls = AreMarked (reverse marks) (reverse found) ls

-- what is gathered in a process whose bound names are numbers and whose first node is number i
abbrev pub picked : Aim → Process → Env → ℕ → List ℕ
picked w (leaf l) e i =
    with_node (keeps w (effect_of (leaf l) e))
    (picks w (leaf_at (length e) l) (note_of e (leaf_at (length e) l)) []) i []
picked w (prefix s p) e i =
    let x = prefix_at (length e) s (suc i) in
    with_node (keeps w (effect_of (prefix s p) e))
    (picks w x (note_of e x) (effect_of p (e ++ more e s) ∷ [])) i (picked w p (e ++ more e s) (suc i))
picked w (fork f p q) e i =
    let x = fork_at (length e) f (suc i) (suc i + process_size p) in
    with_node (keeps w (effect_of (fork f p q) e))
    (picks w x (note_of e x) (effect_of p (e ++ on_first f) ∷ effect_of q (e ++ on_rest f) ∷ [])) i
    (picked w p (e ++ on_first f) (suc i) ++ picked w q (e ++ on_rest f) (suc i + process_size p))
