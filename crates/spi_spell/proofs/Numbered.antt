-- The derivation and the schedule in the tree of a canonical text: what they stand for, and that nothing is wrong at their
-- points.
use Rattle.std.proofs.Common.{◌≡◌, ℕ, ◌+◌, ◌≤◌, List, [], ◌∷◌, ◌++◌, length, map, Option, Some, None, refl, sym, ◌∙◌, ap, subst, arith}
use Rattle.spi_tree.specs.Trees as t
use Rattle.spi_term.specs.Term.{Message, pair, in_left, in_right, enc, hash, ends, checks, many, message_size}
use Rattle.spi_run.specs.Reduction.{Step, act, talk}
use Rattle.spi_scope.specs.Meaning.{nested}
use Rattle.spi_scope.specs.Parts.{step_in, numbered_message, numbered_messages, numbered_atom, numbered_effect, rule_named, uses_in, all_uses_in}
use Rattle.spi_scope.specs.Points.{in_order, numbered_points, numbered_atom_points, numbered_atoms_points, written_points, deriv_points, derivs_points, derivation_points, steps_points, schedule_points}
use Rattle.spi_scope.specs.First.{Clean}
use Rattle.spi_scope.specs.StandsFor.{schedule_in, derivation_in}
use Rattle.spi_spell.proofs.Printed.{numbered_name, message_tree, second_tree, rest_trees, second_part, atom_tree, atom_trees, step_tree, schedule_tree, written_tree, deriv_tree, deriv_trees, derivation_tree}
use Rattle.spi_spell.proofs.Printable.{AreSteps}
use Rattle.spi_spell.proofs.Shallow.{ArePointsSmall, small}
use Rattle.spi_spell.proofs.Clear.{AddsPoints, next, no_point}

-- ---- messages of a derivation

-- the parts of a tuple behind its first
numbers_mean : (m : Message) → nested (numbered_message (second_tree numbered_name 0 m)) (numbered_messages (rest_trees numbered_name 0 m)) ≡ numbered_message (message_tree numbered_name 0 m)
numbers_mean =
    second_part numbered_name 0 (λ (a : t.Msg) (ms : t.Msgs) (x : t.Msg). nested (numbered_message a) (numbered_messages ms) ≡ numbered_message x)
    (λ x. refl) (λ a b ms. refl)

-- a message is printed as it was read
abbrev IsReadAgain : Message → Type 0
IsReadAgain m = numbered_message (message_tree numbered_name 0 m) ≡ m

pair_again : (a b : Message) → IsReadAgain a → IsReadAgain b → IsReadAgain (pair a b)
pair_again a b f g = λ i. pair (f i) ((numbers_mean b ∙ g) i)

mutual
  read_again : (m : t.Msg) → IsReadAgain (numbered_message m)
  read_again (t.name s w) = refl
  read_again (t.unit s) = refl
  read_again (t.tuple s a b ms) = pair_again (numbered_message a) (nested (numbered_message b) (numbered_messages ms)) (read_again a) (row_again (numbered_message b) (read_again b) ms)
  read_again (t.inl s a) = ap in_left (read_again a)
  read_again (t.inr s a) = ap in_right (read_again a)
  read_again (t.enc s a b) = λ i. enc (read_again a i) (read_again b i)
  read_again (t.hash s a) = ap hash (read_again a)
  read_again (t.num s i) = refl

  row_again : (first : Message) → IsReadAgain first → (ms : t.Msgs) → IsReadAgain (nested first (numbered_messages ms))
  row_again first h t.no_msgs = h
  row_again first h (t.more_msgs m ms) = pair_again first (nested (numbered_message m) (numbered_messages ms)) h (row_again (numbered_message m) (read_again m) ms)

atom_again : (a : t.Atom) → numbered_atom (atom_tree numbered_name 0 (numbered_atom a)) ≡ numbered_atom a
atom_again (t.ends s m) = ap ends (read_again m)
atom_again (t.checks s m) = ap checks (read_again m)
atom_again (t.many s m) = ap many (read_again m)

atoms_again : (es : List t.Atom) → map numbered_atom (atom_trees numbered_name 0 (map numbered_atom es)) ≡ map numbered_atom es
atoms_again [] = refl
atoms_again (a ∷ es) = λ i. atom_again a i ∷ atoms_again es i

effect_again : (es : Option (List t.Atom)) → numbered_effect (written_tree (numbered_effect es)) ≡ numbered_effect es
effect_again None = refl
effect_again (Some es) = ap Some (atoms_again es)

-- ---- derivations

mutual
  deriv_means : (d : t.Deriv) → uses_in (deriv_tree d) ≡ uses_in d
  deriv_means (t.rule s w es ds) = λ i. record { rule = rule_named w.word; taken = effect_again es i } ∷ derivs_mean ds i

  derivs_mean : (ds : t.Derivs) → all_uses_in (deriv_trees ds) ≡ all_uses_in ds
  derivs_mean t.no_derivs = refl
  derivs_mean (t.more_derivs d ds) = λ i. deriv_means d i ++ derivs_mean ds i

pub derivation_means : (d : Option t.Deriv) → derivation_in (derivation_tree d) ≡ derivation_in d
derivation_means None = refl
derivation_means (Some d) = ap Some (deriv_means d)

message_clear : (m : t.Msg) → message_size (numbered_message m) ≤ 200 → AddsPoints 0 (numbered_points (message_tree numbered_name 0 (numbered_message m)))
message_clear m low = record { clear = subst (λ (n : Message). message_size n ≤ 200) (sym (read_again m)) low; weighs = refl }

atom_clear : (a : t.Atom) → ArePointsSmall (numbered_atom_points a) → AddsPoints 0 (numbered_atom_points (atom_tree numbered_name 0 (numbered_atom a)))
atom_clear (t.ends s m) low = message_clear m low
atom_clear (t.checks s m) low = message_clear m low
atom_clear (t.many s m) low = message_clear m low

atoms_clear : (es : List t.Atom) → ArePointsSmall (numbered_atoms_points es) → AddsPoints 0 (numbered_atoms_points (atom_trees numbered_name 0 (map numbered_atom es)))
atoms_clear [] low = no_point
atoms_clear (a ∷ es) low = next (atom_clear a low.0) (atoms_clear es low.1)

written_clear : (es : Option (List t.Atom)) → ArePointsSmall (written_points es) → AddsPoints 0 (written_points (written_tree (numbered_effect es)))
written_clear None low = no_point
written_clear (Some es) low = atoms_clear es low

mutual
  deriv_clear : (d : t.Deriv) → ArePointsSmall (deriv_points d) → AddsPoints 0 (deriv_points (deriv_tree d))
  deriv_clear (t.rule s w es ds) low = next (written_clear es low.0) (derivs_clear ds low.1)

  derivs_clear : (ds : t.Derivs) → ArePointsSmall (derivs_points ds) → AddsPoints 0 (derivs_points (deriv_trees ds))
  derivs_clear t.no_derivs low = no_point
  derivs_clear (t.more_derivs d ds) low = next (deriv_clear d low.0) (derivs_clear ds low.1)

pub derivation_clear : (d : Option t.Deriv) → Clean 0 (in_order (derivation_points d)) → AddsPoints 0 (derivation_points (derivation_tree d))
derivation_clear None clean = no_point
derivation_clear (Some d) clean = deriv_clear d (small (deriv_points d) 0 clean)

-- ---- schedules

steps_mean : (ss : List Step) → map step_in (map step_tree ss) ≡ ss
steps_mean [] = refl
steps_mean (act i ∷ ss) = ap (λ (l : List Step). act i ∷ l) (steps_mean ss)
steps_mean (talk i j ∷ ss) = ap (λ (l : List Step). talk i j ∷ l) (steps_mean ss)

pub schedule_means : (o : Option (List Step)) → schedule_in (schedule_tree o) ≡ o
schedule_means None = refl
schedule_means (Some ss) = ap Some (steps_mean ss)

steps_clear : (i n : ℕ) (ss : List Step) → i + length ss ≤ 10001 → AddsPoints 0 (steps_points i n (map step_tree ss))
steps_clear i n [] few = no_point
steps_clear i n (s ∷ ss) few = next (record { clear = omega (arith, few); weighs = refl }) (steps_clear (i + 1) n ss (omega (arith, few)))

pub schedule_clear : (o : Option (List Step)) → AreSteps o → AddsPoints 0 (schedule_points (schedule_tree o))
schedule_clear None h = no_point
schedule_clear (Some ss) h = steps_clear 1 (length (map step_tree ss)) ss (omega (arith, h.0))
