-- What a formed tree within the nesting limits stands for can be printed.
use Rattle.std.proofs.Common.{◌≡◌, ℕ, ◌==◌, Bool, List, [], length, refl, sym, ap, ◌∙◌, subst, arith, Option, Some, None}
use Rattle.std.specs.Prelude.{◌⊎◌}
use Rattle.std.specs.List.{AllByRecursion}
use Rattle.std.proofs.lemmas.List.{length-reverse}
use Rattle.spi_lex.specs.declared.token.Kind.{Kind}
use Rattle.spi_lex.specs.declared.token.Kind.TheVariants as kinds
use Rattle.spi_lex.specs.Words.{words_of}
use Rattle.spi_lex.specs.Writing.{IsKind}
use Rattle.spi_tree.specs.Trees as t
use Rattle.spi_tree.specs.Pieces.{Piece, at_level, proc_pieces, opponent_pieces, derivation_pieces, kinds_in, tokens_of}
use Rattle.spi_tree.specs.Formed.{IsProc, IsFormedOpponent, IsDerivation}
use Rattle.spi_parse.specs.Exact.{IsWithin}
use Rattle.spi_parse.specs.Formed.{IsFile, IsFormedDerived, whole_file}
use Rattle.spi_term.specs.Spelling.{Spelling}
use Rattle.spi_scope.specs.Scope.{Names, Abbreviations}
use Rattle.spi_scope.specs.Points.{Points, in_order, process_points, opponent_points, all_names, all_types, file_points}
use Rattle.spi_scope.specs.Over.{AreAbbreviationsOver}
use Rattle.spi_scope.specs.StandsFor.{Meant, StandsFor, over_free, opponent_over}
use Rattle.spi_scope.proofs.Counting.{run_weight, names_weigh, PassesTests, passed}
use Rattle.spi_scope.proofs.Firsts.{counted_few}
use Rattle.spi_scope.proofs.Indexing.{nodes_spell}
use Rattle.spi_scope.proofs.Made.{types_over}
use Rattle.spi_spell.proofs.Printable.{IsPrintablePart, IsOpponentPart, AreDistinct, AreSteps, process_nodes, opponent_nodes, is_later_file, IsPrintable}
use Rattle.spi_spell.proofs.Past.{past_decls, past_version, past_proc, past_opponent, past_schedule, behind_version, behind_decls, behind_proc, behind_opponent, behind_schedule}
use Rattle.spi_spell.proofs.Nesting.{nests}
use Rattle.spi_spell.proofs.Fitted.{TypesFit, process_fits, types_fit}
use Rattle.spi_spell.proofs.Weighed.{nodes_weigh, opponent_weighs, runs}
use Rattle.spi_spell.proofs.Declared.{are_new, names_distinct, reverse_distinct, names_words, reverse_words}
use Rattle.spi_spell.proofs.Behind.{schedule_stands, derivation_clean, derivation_within, derivation_kinds}

-- a process over the free names
part_stands : (later : Bool) (ts : Abbreviations) (xs : Names) (p : t.Proc) (r : List Piece) → AreAbbreviationsOver (length xs) ts → TypesFit later ts → IsProc later (at_level 0) p → IsWithin (proc_pieces (at_level 0) p r) → PassesTests (process_points ts xs p)
    → IsPrintablePart later (length xs) (over_free ts xs p)
part_stands later ts xs p r over fit formed within small = record {
  names = refl;
  over = (nodes_spell ts xs over p).0;
  fits = process_fits later (length xs) ts fit xs p (at_level 0) formed small;
  nests = nests later (λ s. length xs) ts xs p (at_level 0) (at_level 0) r formed within (omega arith);
}

opponent_stands : (later : Bool) (ts : Abbreviations) (xs : Names) (o : Option t.Proc) (r : List Piece) → AreAbbreviationsOver (length xs) ts → TypesFit later ts → IsFormedOpponent later o → IsWithin (opponent_pieces o r) → PassesTests (opponent_points ts xs o)
    → IsOpponentPart later (length xs) (opponent_over ts xs o)
opponent_stands later ts xs None r over fit formed within small = tt
opponent_stands later ts xs (Some p) r over fit formed within small = part_stands later ts xs p r over fit formed within.1 small

-- the same of what is equal
pub part_of : {later other : Bool} {n m : ℕ} {p q : Spelling} → later ≡ other → n ≡ m → p ≡ q → IsPrintablePart other m q → IsPrintablePart later n p
part_of {other = other} {n = n} {m = m} {p = p} a b c h = subst (λ (l : Bool). IsPrintablePart l n p) (sym a) (subst (λ (k : ℕ). IsPrintablePart other k p) (sym b) (subst (λ (s : Spelling). IsPrintablePart other m s) (sym c) h))

pub opponent_of : {later other : Bool} {n m : ℕ} {p q : Option Spelling} → later ≡ other → n ≡ m → p ≡ q → IsOpponentPart other m q → IsOpponentPart later n p
opponent_of {other = other} {n = n} {m = m} {p = p} a b c h = subst (λ (l : Bool). IsOpponentPart l n p) (sym a) (subst (λ (k : ℕ). IsOpponentPart other k p) (sym b) (subst (λ (s : Option Spelling). IsOpponentPart other m s) (sym c) h))

pub printable : (tree : t.File) (f : Meant) → IsFile tree → IsWithin (whole_file tree) → AllByRecursion (IsKind (words_of (tree.version == 2))) (tokens_of tree) → StandsFor tree f → IsPrintable f tree.derivation
printable tree f file within low stands =
    let later : Bool = tree.version == 2 in
    let P : Kind → Type 0 = IsKind (words_of later) in
    let ts : Abbreviations = all_types [] [] tree.decls in
    let xs : Names = all_names [] tree.decls in
    let ps : Points = file_points tree in
    let ran = runs ps stands.clean in
    let few = counted_few (in_order ps) 0 (omega arith) stands.clean in
    let adds = run_weight ps 0 _ ran in
    let small = passed ps 0 _ ran in
    let new = are_new ps 0 _ ran in
    let w1 = past_version tree.version _ within in
    let w2 = (past_decls tree.decls _ w1).1 in
    let w3 = past_proc (at_level 0) tree.process _ w2 in
    let w4 = past_opponent tree.opponent _ w3 in
    let w5 = past_schedule tree.schedule _ w4 in
    let k1 = behind_version P tree.version _ low in
    let k2 = (behind_decls P tree.decls _ k1).1 in
    let k3 = behind_proc P (at_level 0) tree.process _ k2 in
    let k4 = behind_opponent P tree.opponent _ k3 in
    let k5 = behind_schedule P tree.schedule _ k4 in
    let over : AreAbbreviationsOver (length xs) ts = types_over tree.decls ts xs refl refl in
    let fit : TypesFit later ts = types_fit later [] [] tree.decls tt file.formed.decls small.0 in
    let v : is_later_file f ≡ later = ap (λ (n : ℕ). n == 2) stands.version in
    let n : length f.names ≡ length xs = ap length stands.names ∙ length-reverse xs in
    let words : AllByRecursion (λ w. IsKind (words_of later) (kinds.Word w)) f.names =
    subst (λ (ws : Names). AllByRecursion (λ w. IsKind (words_of later) (kinds.Word w)) ws) (sym stands.names) (reverse_words P xs (names_words P [] tree.decls _ tt k1)) in
    let p : process_nodes f.process.process ≡ process_nodes (over_free ts xs tree.process).process = ap (λ (s : Spelling). process_nodes s.process) stands.process in
    let o : opponent_nodes f.opponent ≡ opponent_nodes (opponent_over ts xs tree.opponent) = ap opponent_nodes stands.opponent in
    record {
      version = subst (λ (n : ℕ). (n ≡ 1) ⊎ (n ≡ 2)) (sym stands.version) file.formed.version;
      words = subst (λ (l : Bool). AllByRecursion (λ w. IsKind (words_of l) (kinds.Word w)) f.names) (sym v) words;
      distinct = subst AreDistinct (sym stands.names) (reverse_distinct xs (names_distinct [] [] tree.decls tt new.0));
      process = part_of v n stands.process (part_stands later ts xs tree.process _ over fit file.formed.process w2 small.1.0);
      opponent = opponent_of v n stands.opponent (opponent_stands later ts xs tree.opponent _ over fit file.formed.opponent w3 small.1.1.0);
      few = omega (arith, n, p, o, names_weigh [] [] tree.decls, nodes_weigh (length xs) ts xs tree.process, opponent_weighs ts xs tree.opponent, adds, few);
      schedule = subst AreSteps (sym stands.schedule) (schedule_stands (words_of later) tree.schedule _ k4 new.1.1.1.0);
      derivation = record {
        uses = stands.derivation;
        formed = subst (λ (l : Bool). IsDerivation l tree.derivation) (sym v) file.formed.derivation;
        rules = subst (λ (l : Bool). IsFormedDerived l tree.derivation) (sym v) file.rules;
        within = derivation_within tree.derivation tree.span w5;
        kinds = subst (λ (l : Bool). AllByRecursion (IsKind (words_of l)) (kinds_in (derivation_pieces tree.derivation []))) (sym v) (derivation_kinds P tree.derivation tree.span k5);
        small = derivation_clean tree.derivation small.1.1.1.1;
      };
    }
