-- The tree of a file's canonical text stands for the file.
use Rattle.std.proofs.Common.{◌≡◌, ℕ, suc, ◌+◌, ◌^◌, ◌<◌, ◌≤◌, Bool, List, [], ◌∷◌, length, map, Option, Some, None, refl, sym, ◌∙◌, ap, subst, arith}
use Rattle.spi_tree.specs.Trees as t
use Rattle.spi_term.specs.Term.{Process}
use Rattle.spi_term.specs.Spelling.{Spelling}
use Rattle.spi_gen.specs.Handshake.{word}
use Rattle.spi_scope.specs.Scope.{Names, Abbreviations, number_of}
use Rattle.spi_scope.specs.Meaning.{process_in}
use Rattle.spi_scope.specs.Points.{all_names, all_types, free_points, decls_points, process_points, opponent_points, body_points, file_points}
use Rattle.spi_scope.specs.StandsFor.{Meant, StandsFor, over_free, opponent_over}
use Rattle.spi_show.specs.Spelled.{name_text, IsApart}
use Rattle.spi_show.specs.Processes.{alone}
use Rattle.spi_spell.proofs.Printed.{process_tree, free_trees, part_tree, opponent_tree, file_tree}
use Rattle.spi_spell.proofs.Printable.{process_nodes, opponent_nodes, IsPrintablePart, IsOpponentPart, is_later_file, IsPrintable}
use Rattle.spi_spell.proofs.Scopes.{in_scope, scope_length, NamesAreApart, unknown, names_apart, AreSpelled, free_spelled, declared_names, declared_reversed}
use Rattle.spi_spell.proofs.Means.{process_means}
use Rattle.spi_spell.proofs.Clear.{AddsPoints, next, in_all, no_point, counted, clear_clean}
use Rattle.spi_spell.proofs.Pointed.{process_clear}
use Rattle.spi_spell.proofs.Numbered.{derivation_means, derivation_clear, schedule_means, schedule_clear}

module _ (spell : ℕ → List ℕ) (apart : NamesAreApart 100000 spell) where
  -- ---- the free names

  names_clear : (m : ℕ) (ws : List (List ℕ)) → AreSpelled spell m ws → m + length ws ≤ 100000 → AddsPoints (length ws) (free_points (in_scope spell m) (map word ws))
  names_clear m [] h few = no_point
  names_clear m (w ∷ ws) h few =
      let new : number_of (in_scope spell m) w ≡ None = ap (number_of (in_scope spell m)) (sym h.0) ∙ unknown 100000 spell apart m m (omega arith) (omega (arith, few)) in
      let rest : AddsPoints (length ws) (free_points (w ∷ in_scope spell m) (map word ws)) =
      subst (λ (v : List ℕ). AddsPoints (length ws) (free_points (v ∷ in_scope spell m) (map word ws))) h.0 (names_clear (suc m) ws h.1 (omega (arith, few))) in
      in_all (omega arith) (next (next (record { clear = new; weighs = refl }) (counted 1 (word w).span)) rest)

  declared_clear : (names : List (List ℕ)) → AreSpelled spell 0 names → length names ≤ 100000 → AddsPoints (length names) (decls_points [] [] (free_trees names))
  declared_clear [] h few = no_point
  declared_clear (w ∷ ws) h few = in_all (omega arith) (next (names_clear 0 (w ∷ ws) h (omega (arith, few))) no_point)

  -- ---- a process over k names

  module _ (later : Bool) (k : ℕ) (ts : Abbreviations) where
    part_means : (p : Spelling) → IsPrintablePart later k p → k + process_nodes p.process ≤ 100000 → p ≡ over_free ts (in_scope spell k) (part_tree spell p)
    part_means p is few =
        let over : ℕ → ℕ → Spelling = λ n j. record { names = n; process = process_in (λ (s : ℕ). n) ts (in_scope spell k) (process_tree spell alone j p.process) } in
        let process : Process → Spelling = λ q. record { names = k; process = q } in
        let same : p ≡ process p.process = ap (λ (n : ℕ). record { names = n; process = p.process }) is.names in
        same ∙ ap process (sym (process_means 100000 spell apart k ts p.process alone k 0 (omega arith) few is.over))
        ∙ ap (λ (j : ℕ). over k j) (sym is.names) ∙ ap (λ (n : ℕ). over n p.names) (sym (scope_length spell k))

    part_clear : (p : Spelling) → IsPrintablePart later k p → k + process_nodes p.process ≤ 100000 → AddsPoints (process_nodes p.process) (process_points ts (in_scope spell k) (part_tree spell p))
    part_clear p is few =
        subst (λ (j : ℕ). AddsPoints (process_nodes p.process) (process_points ts (in_scope spell k) (process_tree spell alone j p.process))) (sym is.names)
        (process_clear 100000 spell apart k later ts p.process alone k 0 (omega arith) few is.over is.fits)

    opponent_means : (o : Option Spelling) → IsOpponentPart later k o → k + opponent_nodes o ≤ 100000 → o ≡ opponent_over ts (in_scope spell k) (opponent_tree spell o)
    opponent_means None is few = refl
    opponent_means (Some p) is few = ap Some (part_means p is few)

    opponent_clear : (o : Option Spelling) → IsOpponentPart later k o → k + opponent_nodes o ≤ 100000 → AddsPoints (opponent_nodes o) (opponent_points ts (in_scope spell k) (opponent_tree spell o))
    opponent_clear None is few = no_point
    opponent_clear (Some p) is few = part_clear p is few

-- ---- a file

pub tree_stands : (s : ℕ) (f : Meant) (d : Option t.Deriv) → IsPrintable f d → IsApart f.names s → s < 10 ^ 60 → StandsFor (file_tree s f d) f
tree_stands s f d is apart low =
    let spell : ℕ → List ℕ = name_text s f.names in
    let different : NamesAreApart 100000 spell = names_apart f.names s is.distinct apart low in
    let k : ℕ = length f.names in
    let later : Bool = is_later_file f in
    let ts : Abbreviations = all_types [] [] (free_trees f.names) in
    let scope : all_names [] (free_trees f.names) ≡ in_scope spell k = declared_names f.names s in
    let few : k + process_nodes f.process.process ≤ 100000 = omega (arith, is.few) in
    let fewer : k + opponent_nodes f.opponent ≤ 100000 = omega (arith, is.few) in
    let names = declared_clear spell different f.names (free_spelled s f.names) (omega (arith, few)) in
    let process = part_clear spell different later k ts f.process is.process few in
    let opponent = opponent_clear spell different later k ts f.opponent is.opponent fewer in
    let last = next (schedule_clear f.schedule is.schedule) (derivation_clear d is.derivation.small) in
    let body : AddsPoints (process_nodes f.process.process + (opponent_nodes f.opponent + 0)) (body_points ts (all_names [] (free_trees f.names)) (file_tree s f d)) =
    subst (λ (xs : Names). AddsPoints (process_nodes f.process.process + (opponent_nodes f.opponent + 0)) (body_points ts xs (file_tree s f d))) (sym scope) (next process (next opponent last)) in
    record {
      clean = clear_clean (file_points (file_tree s f d)) _ (next names body) (omega (arith, is.few));
      version = refl;
      names = declared_reversed f.names;
      process = part_means spell different later k ts f.process is.process few ∙ ap (λ (xs : Names). over_free ts xs (part_tree spell f.process)) (sym scope);
      opponent = opponent_means spell different later k ts f.opponent is.opponent fewer ∙ ap (λ (xs : Names). opponent_over ts xs (opponent_tree spell f.opponent)) (sym scope);
      schedule = sym (schedule_means f.schedule);
      derivation = is.derivation.uses ∙ sym (derivation_means d);
    }
