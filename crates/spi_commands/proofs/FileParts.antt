-- A file's process and opponent: over how many names they are, and that these names and the steps are few.
use Rattle.std.proofs.Common.{◌≡◌, refl, sym, ap, ◌∙◌, subst, ℕ, ◌+◌, ◌<◌, ◌≤◌, List, [], ◌∷◌, length, map, Option, Some, None, arith}
use Rattle.std.proofs.lemmas.List.{length-map}
use Rattle.spi_lex.specs.Lexing.{kinds_of}
use Rattle.spi_lex.proofs.Lexed.{lexed}
use Rattle.spi_tree.specs.Trees as t
use Rattle.spi_tree.specs.Pieces.{Piece, kinds_in, ends, steps_pieces, schedule_pieces, derivation_pieces}
use Rattle.spi_parse.specs.Formed.{whole_file}
use Rattle.spi_parse.proofs.Wholes.{kinds_count}
use Rattle.spi_term.specs.Spelling.{Spelling}
use Rattle.spi_term.specs.Names.{ProcessOver}
use Rattle.spi_term.specs.Term.{Process}
use Rattle.spi_run.specs.Safety.{beside}
use Rattle.spi_run.specs.Reduction.{Configuration, Step}
use Rattle.spi_run.specs.declared.step.Step as program
use Rattle.spi_run.specs.View.{step as step_of}
use Rattle.spi_scope.specs.declared.file.File.{File}
use Rattle.spi_scope.specs.Parts.{step_in}
use Rattle.spi_scope.specs.Points.{in_order, decls_points, body_points, all_names, all_types}
use Rattle.spi_scope.specs.First.{count_points, Clean, IsClean}
use Rattle.spi_scope.specs.Files.{meant}
use Rattle.spi_scope.specs.StandsFor.{Meant, StandsFor, over_free, opponent_over, schedule_in}
use Rattle.spi_scope.proofs.Firsts.{counted_few}
use Rattle.spi_scope.proofs.Indexing.{all_over, nodes_spell}
use Rattle.spi_scope.proofs.Made.{few_names as few_declared}
use Rattle.spi_spell.proofs.Shallow.{clean_front}
use Rattle.spi_spell.proofs.Weighed.{runs}
use Rattle.spi_commands.specs.Spelled.{limit, IsTreeOf}
use Rattle.spi_commands.specs.Reading.{IsRead}
use Rattle.spi_commands.proofs.FilePieces as Past
use Rattle.spi_commands.proofs.FileRefusals.{HaveOwnTokens, longer_on, tokens_within, spells_kinds}

-- process and opponent are over the free names
is_over : (tree : t.File) (p : t.Proc) → ProcessOver (over_free (all_types [] [] tree.decls) (all_names [] tree.decls) p).names (over_free (all_types [] [] tree.decls) (all_names [] tree.decls) p).process
is_over tree p = (nodes_spell (all_types [] [] tree.decls) (all_names [] tree.decls) (all_over [] [] tree.decls tt) p).0

abbrev IsOver : Spelling → Type 0
IsOver s = ProcessOver s.names s.process

pub process_over_names : (tree : t.File) (file : Meant) → StandsFor tree file → ProcessOver file.process.names file.process.process
process_over_names tree file stands = subst IsOver (sym stands.process) (is_over tree tree.process)

-- what is known of an opponent
record OpponentJoins (file : Meant) (o : Spelling) : Type 0 where
  names : o.names ≡ file.process.names
  over : ProcessOver o.names o.process

joins : (tree : t.File) (file : Meant) (o : Spelling) → StandsFor tree file → file.opponent ≡ Some o → OpponentJoins file o
joins tree file o stands e = by tree.opponent (sym stands.opponent ∙ e)
  where
    by : (p : Option t.Proc) → opponent_over (all_types [] [] tree.decls) (all_names [] tree.decls) p ≡ Some o → OpponentJoins file o
    by None h = absurd (cc)
    by (Some p) h =
        let same : over_free (all_types [] [] tree.decls) (all_names [] tree.decls) p ≡ o = (let g : Some (over_free (all_types [] [] tree.decls) (all_names [] tree.decls) p) ≡ Some o = h in cc) in
        record {
          names = ap (λ (s : Spelling). s.names) (sym same) ∙ ap (λ (s : Spelling). s.names) (sym stands.process);
          over = subst IsOver same (is_over tree p);
        }

pub opponent_names : (tree : t.File) (file : Meant) (o : Spelling) → StandsFor tree file → file.opponent ≡ Some o → file.process.names ≡ o.names
opponent_names tree file o stands e = sym (joins tree file o stands e).names

pub opponent_over_names : (tree : t.File) (file : Meant) (o : Spelling) → StandsFor tree file → file.opponent ≡ Some o → ProcessOver file.process.names o.process
opponent_over_names tree file o stands e =
    let j : OpponentJoins file o = joins tree file o stands e in
    subst (λ (n : ℕ). ProcessOver n o.process) j.names j.over

-- a clean tree has few free names
few_free : (tree : t.File) → IsClean tree → length (all_names [] tree.decls) ≤ 100000
few_free tree clean =
    let ps = decls_points [] [] tree.decls in
    let front : Clean 0 (in_order ps) = clean_front (in_order ps) (in_order (body_points (all_types [] [] tree.decls) (all_names [] tree.decls) tree)) 0 clean in
    few_declared tree.decls (0 + count_points (in_order ps)) (all_names [] tree.decls) (runs ps front) (counted_few (in_order ps) 0 (omega arith) front) refl

-- each step has a token of its own
steps_long : (xs : List t.Step) (r : List Piece) → HaveOwnTokens (length xs) (steps_pieces xs r)
steps_long [] r = omega arith
steps_long (t.act s i ∷ xs) r = let more = steps_long xs r in omega (arith, more)
steps_long (t.talk s i j ∷ xs) r = let more = steps_long xs r in omega (arith, more)

abbrev steps_of_tree : Option (List t.Step) → List t.Step
steps_of_tree None = []
steps_of_tree (Some xs) = xs

schedule_long : (o : Option (List t.Step)) (r : List Piece) → HaveOwnTokens (length (steps_of_tree o)) (schedule_pieces o r)
schedule_long None r = omega arith
schedule_long (Some xs) r = let more = steps_long xs r in omega (arith, more)

same_length : (o : Option (List t.Step)) (steps : List Step) → schedule_in o ≡ Some steps → length steps ≡ length (steps_of_tree o)
same_length None steps h = absurd (cc)
same_length (Some xs) steps h =
    let same : map step_in xs ≡ steps = (let g : Some (map step_in xs) ≡ Some steps = h in cc) in
    ap (λ (l : List Step). length l) (sym same) ∙ length-map xs step_in

few_steps : (bytes : List ℕ) (tree : t.File) (steps : List Step) → IsTreeOf bytes tree → schedule_in tree.schedule ≡ Some steps → length steps ≤ limit
few_steps bytes tree steps is e =
    let n : ℕ = length (steps_of_tree tree.schedule) in
    let long = Past.past_body {P = HaveOwnTokens n} (longer_on n) tree (schedule_long tree.schedule (derivation_pieces tree.derivation (ends tree.span []))) in
    let same : kinds_in (whole_file tree) ≡ kinds_of is.tokens = spells_kinds 0 (whole_file tree) is.tokens is.spelled in
    let each : length (kinds_of is.tokens) ≡ length is.tokens = kinds_count is.tokens in
    let most = tokens_within 0 (length bytes) is.tokens (lexed bytes is.tokens is.lexed).1 in
    let some : n ≤ length (kinds_of is.tokens) = subst (λ ks. n ≤ length ks) same long in
    omega (arith, some, each, most, is.within, same_length tree.schedule steps e)

-- so a replay uses few names, and has few events
pub few_used : (bytes : List ℕ) (f : File) (steps : List program.Step) → IsRead bytes f → (meant f).schedule ≡ Some (map step_of steps) → f.process.names + length steps < 4294967295
few_used bytes f steps (tree, is, stands, marks) e =
    let free = few_free tree stands.clean in
    let names : f.process.names ≡ length (all_names [] tree.decls) = ap (λ (s : Spelling). s.names) stands.process in
    let few = few_steps bytes tree (map step_of steps) is (sym stands.schedule ∙ e) in
    let each : length (map step_of steps) ≡ length steps = length-map steps step_of in
    omega (arith, free, names, few, each)

-- and a play too
pub few_names : (bytes : List ℕ) (f : File) → IsRead bytes f → f.process.names ≤ 100000
few_names bytes f (tree, is, stands, marks) =
    let free = few_free tree stands.clean in
    let names : f.process.names ≡ length (all_names [] tree.decls) = ap (λ (s : Spelling). s.names) stands.process in
    omega (arith, free, names)

pub few_from : (bytes : List ℕ) (f : File) (o : Process) (steps : List program.Step) (c : Configuration) → IsRead bytes f → (meant f).schedule ≡ Some (map step_of steps) → c ≡ beside f.process.names f.process.process o → c.names + length steps < 4294967295
few_from bytes f o steps c r e start =
    let few = few_used bytes f steps r e in
    let names : c.names ≡ f.process.names = ap (λ (c : Configuration). c.names) start in
    omega (arith, few, names)

pub same_names : (bytes : List ℕ) (f : File) (o : Spelling) → IsRead bytes f → (meant f).opponent ≡ Some o → f.process.names ≡ o.names
same_names bytes f o (tree, is, stands, marks) e = opponent_names tree (meant f) o stands e
