-- The file of so many sessions of the handshake: nothing is wrong with it, what it adds to the count, and its process.
use Rattle.std.proofs.Common.{◌≡◌, ℕ, ◌+◌, ◌*◌, ◌≤◌, List, [], true, refl, sym, subst, ap, ◌∙◌, arith}
use Rattle.std.specs.Prelude.{Ok, None}
use Rattle.std.specs.declared.option.Option.{Option}
use Rattle.spi_tree.specs.Trees as t
use Rattle.spi_gen.specs.Handshake.{handshake, declarations}
use Rattle.spi_gen.specs.Sessions.{AreBeside, one_session, two_halves, AreGrouped, alone, in_parentheses, IsSessions}
use Rattle.spi_scope.specs.Scope.{Names, Abbreviations}
use Rattle.spi_scope.specs.Meaning.{process_over}
use Rattle.spi_scope.specs.Points.{Points, ◌⨾◌, whole_type, part, message_head, messages_head, typed_head, new_head, tested_head, split_head, process_points, decls_points, opponent_points, schedule_points, derivation_points, file_points, all_names, all_types, in_order}
use Rattle.spi_scope.specs.First.{count_points, IsClean}
use Rattle.spi_scope.specs.StandsFor.{Meant, StandsFor, over_free}
use Rattle.spi_scope.specs.Gives.{run}
use Rattle.spi_scope.proofs.Counting.{weight}
use Rattle.spi_scope.proofs.Firsts.{is_clean}
use Rattle.spi_term.specs.Spelling.{Spelling}
use Rattle.spi_commands.proofs.LoadProcesses as S
use Rattle.spi_commands.proofs.LoadPoints.{Fit, fit, tested, fit_run}

-- what the declarations bring into scope
abbrev pub types : Abbreviations
types = all_types [] [] declarations

abbrev pub load_names : Names
load_names = all_names [] declarations

declarations_fit : fit (decls_points [] [] declarations) ≡ true
unfolding whole_type
declarations_fit = refl

declarations_weigh : weight (decls_points [] [] declarations) ≡ 12
unfolding whole_type
declarations_weigh = refl

handshake_fits : fit (process_points types load_names handshake) ≡ true
unfolding whole_type part message_head messages_head typed_head new_head tested_head split_head
handshake_fits = refl

handshake_weighs : weight (process_points types load_names handshake) ≡ 80
unfolding whole_type part message_head messages_head typed_head new_head tested_head split_head
handshake_weighs = refl

handshake_means : process_over 3 types load_names handshake ≡ S.handshake_process
handshake_means = refl

mutual
  beside_fit : {n : ℕ} {p : t.Proc} → AreBeside n p → Fit (process_points types load_names p)
  beside_fit one_session = tested (process_points types load_names handshake) handshake_fits
  beside_fit (two_halves two half a b) = (grouped_fit a, (refl, grouped_fit b))

  grouped_fit : {n : ℕ} {p : t.Proc} → AreGrouped n p → Fit (process_points types load_names p)
  grouped_fit alone = tested (process_points types load_names handshake) handshake_fits
  grouped_fit (in_parentheses two a) = beside_fit a

mutual
  beside_weigh : {n : ℕ} {p : t.Proc} → AreBeside n p → weight (process_points types load_names p) + 1 ≡ 81 * n
  beside_weigh one_session = ap (λ w. w + 1) handshake_weighs
  beside_weigh {n} (two_halves two half a b) = omega (arith, two, half, grouped_weigh a, grouped_weigh b)

  grouped_weigh : {n : ℕ} {p : t.Proc} → AreGrouped n p → weight (process_points types load_names p) + 1 ≡ 81 * n
  grouped_weigh alone = ap (λ w. w + 1) handshake_weighs
  grouped_weigh (in_parentheses two a) = beside_weigh a

mutual
  beside_mean : {n : ℕ} {p : t.Proc} → AreBeside n p → S.AreSessions n (process_over 3 types load_names p)
  beside_mean one_session = subst (S.AreSessions 1) (sym handshake_means) S.one_session
  beside_mean (two_halves two half a b) = S.two_halves two half (grouped_mean a) (grouped_mean b)

  grouped_mean : {n : ℕ} {p : t.Proc} → AreGrouped n p → S.AreSessions n (process_over 3 types load_names p)
  grouped_mean alone = subst (S.AreSessions 1) (sym handshake_means) S.one_session
  grouped_mean (in_parentheses two a) = beside_mean a

-- the points of such a file
abbrev points_over : List t.Declared → t.Proc → Option t.Proc → Option (List t.Step) → Option t.Deriv → Points
points_over ds p o s d =
    decls_points [] [] ds ⨾ process_points (all_types [] [] ds) (all_names [] ds) p ⨾ opponent_points (all_types [] [] ds) (all_names [] ds) o ⨾ schedule_points s ⨾ derivation_points d

points_are : {n : ℕ} {tree : t.File} → IsSessions n tree → file_points tree ≡ points_over declarations tree.process None None None
points_are {tree} is =
    ap (λ ds. points_over ds tree.process tree.opponent tree.schedule tree.derivation) is.decls
    ∙ ap (λ o. points_over declarations tree.process o tree.schedule tree.derivation) is.opponent
    ∙ ap (λ s. points_over declarations tree.process None s tree.derivation) is.schedule
    ∙ ap (λ d. points_over declarations tree.process None None d) is.derivation

sessions_run : {n : ℕ} {tree : t.File} → n ≤ 500 → IsSessions n tree → run (file_points tree) 0 ≡ Ok (81 * n + 11)
sessions_run {n} {tree} few is =
    let weighs : 0 + weight (points_over declarations tree.process None None None) ≡ 81 * n + 11 = omega (arith, declarations_weigh, beside_weigh is.process) in
    ap (λ ps. run ps 0) (points_are is)
    ∙ fit_run (points_over declarations tree.process None None None) 0 (tested (decls_points [] [] declarations) declarations_fit, (beside_fit is.process, (tt, (tt, tt)))) (omega (arith, weighs, few))
    ∙ ap (λ d. Ok d) weighs

pub sessions_clean : {n : ℕ} {tree : t.File} → n ≤ 500 → IsSessions n tree → IsClean tree
sessions_clean {n} {tree} few is = (is_clean (file_points tree) (81 * n + 11) (sessions_run few is)).0

pub sessions_count : {n : ℕ} {tree : t.File} → n ≤ 500 → IsSessions n tree → count_points (in_order (file_points tree)) ≡ 81 * n + 11
sessions_count {n} {tree} few is = sym (is_clean (file_points tree) (81 * n + 11) (sessions_run few is)).1

-- the process that it stands for
process_is : {n : ℕ} {tree : t.File} {file : Meant} → IsSessions n tree → StandsFor tree file → file.process ≡ over_free types load_names tree.process
process_is {tree} is stands = stands.process ∙ ap (λ ds. over_free (all_types [] [] ds) (all_names [] ds) tree.process) is.decls

pub sessions_names : {n : ℕ} {tree : t.File} {file : Meant} → IsSessions n tree → StandsFor tree file → file.process.names ≡ 3
sessions_names is stands = ap (λ p. p.names) (process_is is stands)

pub sessions_mean : {n : ℕ} {tree : t.File} {file : Meant} → IsSessions n tree → StandsFor tree file → S.AreSessions n file.process.process
sessions_mean {n} is stands = subst (λ (p : Spelling). S.AreSessions n p.process) (sym (process_is is stands)) (beside_mean is.process)
