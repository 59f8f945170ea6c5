-- The canonical text of a file writes the tokens of its tree, and these are the tokens of a file of its version.
use Rattle.std.proofs.Common.{◌≡◌, ℕ, ◌+◌, ◌<◌, ◌≤◌, ◌^◌, Bool, true, false, IsTrue, if◌then◌else◌, List, [], ◌∷◌, ◌++◌, length, map, codes, Option, Some, None, refl, sym, ap, subst, arith, append-nil}
use Rattle.std.proofs.lemmas.Fmt.{decimal_digit}
use Rattle.std.specs.Fmt.{decimal}
use Rattle.std.specs.List.{AllByRecursion}
use Rattle.spi_lex.specs.declared.token.Kind.TheVariants as kinds
use Rattle.spi_lex.specs.declared.token.Reserved.TheVariants as word
use Rattle.spi_lex.specs.declared.token.Mark.TheVariants as mark
use Rattle.spi_lex.specs.Words.{words_of}
use Rattle.spi_lex.specs.Lexing.{is_version_2}
use Rattle.spi_lex.specs.Writing.{is_apart, Writes, IsKind, AreKinds, first_version, later_version}
use Rattle.spi_tree.specs.Trees as t
use Rattle.spi_tree.specs.Pieces.{Piece, closes, a_token, a_word, a_number, a_mark, kinds_in, tokens_of, words_pieces, decls_pieces, steps_pieces, opponent_pieces, schedule_pieces, derivation_pieces, proc_pieces, at_level}
use Rattle.spi_tree.specs.Formed.{AreWordsFit, IsDerivation}
use Rattle.spi_parse.specs.Formed.{IsFormedDerived}
use Rattle.spi_parse.proofs.LiveLaws.{version_fit}
use Rattle.spi_parse.proofs.Lexed.{kinds_fit}
use Rattle.spi_parse.proofs.Versions.{reserved_first}
use Rattle.spi_term.specs.Spelling.{Spelling}
use Rattle.spi_gen.specs.Handshake.{word}
use Rattle.spi_run.specs.Reduction.{Step, act, talk}
use Rattle.spi_scope.specs.Parts.{uses_in}
use Rattle.spi_scope.specs.StandsFor.{Meant, derivation_in}
use Rattle.spi_show.specs.Spelled.{name_text}
use Rattle.spi_show.specs.Processes.{alone, process_text}
use Rattle.spi_show.specs.Steps.{step_text, steps_text}
use Rattle.spi_show.specs.Derivations.{uses_text}
use Rattle.spi_show.specs.Files.{words_text, free_text, spelling_line, opponent_text, schedule_part, derivation_part, file_text}
use Rattle.spi_spell.specs.Joined.{HasLowPlaces}
use Rattle.spi_spell.proofs.Texts.{act_kind, talk_kind}
use Rattle.spi_spell.proofs.Printed as printed
use Rattle.spi_spell.proofs.Printed.{free_trees, part_tree, opponent_tree, step_tree, schedule_tree, derivation_tree, file_tree}
use Rattle.spi_spell.proofs.Printable.{IsPrintablePart, IsOpponentPart, process_nodes, opponent_nodes, AreSteps, is_later_file, IsPrintable}
use Rattle.spi_spell.proofs.Names.{name_fit}
use Rattle.spi_spell.proofs.Prints as prints
use Rattle.spi_spell.proofs.Prints.{Prints}
use Rattle.spi_spell.proofs.PrintsProcesses.{process}
use Rattle.spi_spell.proofs.PrintsDerivations.{deriv, deriv_low}

-- ---- the version and the free names

abbrev pub with_version : Bool → List Piece → List Piece
with_version later r = if later then a_token (kinds.Word (codes "version")) (a_number 2 (a_mark mark.Semicolon r)) else r

two : (more : List ℕ) → 50 ∷ more ≡ decimal 2 ++ more
two more = ap (λ (ds : List ℕ). ds ++ more) (sym (decimal_digit 2 (omega arith)))

version : (later : Bool) (r : List Piece) (more : List ℕ) → Prints later (kinds_in r) more
    → Prints later (kinds_in (with_version later r)) ((if later then codes "version 2;\n" else []) ++ more)
version true r more p =
    prints.spelling (codes "version") version_fit refl (prints.space (prints.rewritten (decimal 2 ++ (59 ∷ 10 ∷ more)) (50 ∷ 59 ∷ 10 ∷ more) (sym (two (59 ∷ 10 ∷ more)))
    (prints.number 2 (omega arith) refl (prints.mark mark.Semicolon (prints.line p)))))
version false r more p = p

abbrev AllFit : Bool → List (List ℕ) → Type 0
AllFit later ws = AllByRecursion (λ w. IsKind (words_of later) (kinds.Word w)) ws

words_apart : (ws : List (List ℕ)) (more : List ℕ) → IsTrue (is_apart more) → IsTrue (is_apart (words_text ws ++ more))
words_apart [] more apart = apart
words_apart (w ∷ ws) more apart = refl

semicolon_apart : (ws : List (List ℕ)) (more : List ℕ) → IsTrue (is_apart ((words_text ws ++ codes ";\n") ++ more))
semicolon_apart [] more = refl
semicolon_apart (w ∷ ws) more = refl

words : (later : Bool) (ws : List (List ℕ)) → AllFit later ws → (r : List Piece) (more : List ℕ) → IsTrue (is_apart more) → Prints later (kinds_in r) more
    → Prints later (kinds_in (words_pieces (map word ws) r)) (words_text ws ++ more)
words later [] fit r more apart p = p
words later (w ∷ ws) fit r more apart p =
    prints.mark mark.Comma (prints.space (prints.part w (words_text ws) more (prints.spelling w fit.0 (words_apart ws more apart) (words later ws fit.1 r more apart p))))

free : (later : Bool) (ws : List (List ℕ)) → AllFit later ws → (r : List Piece) (more : List ℕ) → Prints later (kinds_in r) more
    → Prints later (kinds_in (decls_pieces (free_trees ws) r)) (free_text ws ++ more)
free later [] fit r more p = p
free later (w ∷ ws) fit r more p =
    prints.keyword word.Free refl refl (prints.space (prints.part w (words_text ws ++ codes ";\n") more (prints.spelling w fit.0 (semicolon_apart ws more)
    (prints.part (words_text ws) (codes ";\n") more (words later ws fit.1 _ _ refl (prints.mark mark.Semicolon (prints.line p)))))))

-- ---- the parts

-- what the names are spelled as fits
abbrev NamesFit : Bool → (ℕ → List ℕ) → Type 0
NamesFit later spell = (i : ℕ) → i < 100000 → IsKind (words_of later) (kinds.Word (spell i))

line : (later : Bool) (spell : ℕ → List ℕ) → NamesFit later spell → (k : ℕ) (p : Spelling) → IsPrintablePart later k p → k + process_nodes p.process ≤ 100000
    → (r : List Piece) (more : List ℕ) → Prints later (kinds_in r) more → Prints later (kinds_in (proc_pieces (at_level 0) (part_tree spell p) r)) (spelling_line spell p ++ more)
line later spell fit k p part few r more h =
    let all = part.names in
    prints.part (process_text spell alone p.names p.process) (codes "\n") more
    (process later 100000 spell fit k 0 p.names alone p.process (record { free = omega arith; bound = omega arith; all = omega arith }) (omega arith) part.over part.fits (at_level 0) r (10 ∷ more) refl (prints.line h))

opponent : (later : Bool) (spell : ℕ → List ℕ) → NamesFit later spell → (k : ℕ) (o : Option Spelling) → IsOpponentPart later k o → k + opponent_nodes o ≤ 100000
    → (r : List Piece) (more : List ℕ) → Prints later (kinds_in r) more → Prints later (kinds_in (opponent_pieces (opponent_tree spell o) r)) (opponent_text spell o ++ more)
opponent later spell fit k None part few r more h = h
opponent later spell fit k (Some p) part few r more h = prints.keyword word.Opponent refl refl (prints.space (line later spell fit k p part few r more h))

steps : (later : Bool) (ss : List Step) → AllByRecursion HasLowPlaces ss → (r : List Piece) (more : List ℕ) → Prints later (kinds_in r) more
    → Prints later (kinds_in (steps_pieces (map step_tree ss) r)) (steps_text ss ++ more)
steps later [] low r more h = h
steps later (act i ∷ ss) low r more h =
    prints.part (step_text (act i)) (steps_text ss) more (prints.spelling (codes "act") (act_kind later) refl (prints.space
    (prints.part (decimal i) (codes ";\n") (steps_text ss ++ more) (prints.number i low.0 refl (prints.mark mark.Semicolon (prints.line (steps later ss low.1 r more h)))))))
steps later (talk i j ∷ ss) low r more h =
    let after : List ℕ = steps_text ss ++ more in
    prints.part (step_text (talk i j)) (steps_text ss) more (prints.spelling (codes "talk") (talk_kind later) refl (prints.space
    (prints.part (decimal i) (codes " " ++ (decimal j ++ codes ";\n")) after (prints.number i low.0.0 refl (prints.space
    (prints.part (decimal j) (codes ";\n") after (prints.number j low.0.1 refl (prints.mark mark.Semicolon (prints.line (steps later ss low.1 r more h))))))))))

schedule : (later : Bool) (o : Option (List Step)) → AreSteps o → (r : List Piece) (more : List ℕ) → Prints later (kinds_in r) more
    → Prints later (kinds_in (schedule_pieces (schedule_tree o) r)) (schedule_part o ++ more)
schedule later None are r more h = h
schedule later (Some ss) are r more h = prints.keyword word.Schedule refl refl (prints.line (steps later ss are.1 r more h))

derivation : (later : Bool) (d : Option t.Deriv) → IsDerivation later d → IsFormedDerived later d → AllByRecursion (IsKind (words_of later)) (kinds_in (derivation_pieces d []))
    → (r : List Piece) → Prints later (kinds_in r) [] → Prints later (kinds_in (derivation_pieces (derivation_tree d) r)) (derivation_part (derivation_in d))
derivation later None formed rules fit r h = h
derivation later (Some d) formed rules fit r h =
    let low = deriv_low later 1 d [] formed rules fit.1 in
    prints.keyword word.Derivation refl refl (prints.line (prints.rewritten (uses_text (uses_in d ++ [])) (uses_text (uses_in d)) (ap uses_text (append-nil (uses_in d))) (deriv later 1 d low.0 r [] h)))

-- ---- the file

module _ (s : ℕ) (f : Meant) (d : Option t.Deriv) (is : IsPrintable f d) (low : s < 10 ^ 60) where
  abbrev later : Bool
  later = is_later_file f

  abbrev spell : ℕ → List ℕ
  spell = name_text s f.names

  abbrev tree : t.File
  tree = file_tree s f d

  abbrev behind : List Piece
  behind = decls_pieces tree.decls (a_token (kinds.Reserved word.Process) (proc_pieces (at_level 0) tree.process (opponent_pieces tree.opponent (schedule_pieces tree.schedule (derivation_pieces tree.derivation (closes 0 ∷ []))))))

  pub file_prints : Prints later (tokens_of tree) (file_text s f)
  file_prints =
      let fit = name_fit later s f.names is.words low in
      let few = is.few in
      let for_process : length f.names + process_nodes f.process.process ≤ 100000 = omega arith in
      let for_opponent : length f.names + opponent_nodes f.opponent ≤ 100000 = omega arith in
      let of = is.derivation in
      let last = prints.rewritten (derivation_part (derivation_in d)) (derivation_part f.derivation) (ap derivation_part (sym of.uses)) (derivation later d of.formed of.rules of.kinds (closes 0 ∷ []) (prints.empty later)) in
      let steps = schedule later f.schedule is.schedule _ _ last in
      let other = opponent later spell fit (length f.names) f.opponent is.opponent for_opponent _ _ steps in
      let first = line later spell fit (length f.names) f.process is.process for_process _ _ other in
      version later behind _ (free later f.names is.words _ _ (prints.keyword word.Process refl refl (prints.space first)))

  pub file_writes : Writes (tokens_of tree) (file_text s f)
  file_writes = file_prints.writes

  -- a declaration behind its first token
  abbrev decl_rest : List ℕ → List (List ℕ) → List Piece → List Piece
  decl_rest w ws r = a_word false (word w) (words_pieces (map word ws) (a_mark mark.Semicolon (closes 0 ∷ r)))

  no_version : (ws : List (List ℕ)) (r : List Piece) → is_version_2 (kinds_in (decls_pieces (free_trees ws) (a_token (kinds.Reserved word.Process) r))) ≡ false
  no_version [] r = reserved_first word.Process (kinds_in r)
  no_version (w ∷ ws) r = reserved_first word.Free (kinds_in (decl_rest w ws (a_token (kinds.Reserved word.Process) r)))

  with_kinds : (later : Bool) (r : List Piece) → is_version_2 (kinds_in r) ≡ false → AllByRecursion (IsKind (words_of later)) (kinds_in (with_version later r))
      → AreKinds (kinds_in (with_version later r)) × (is_version_2 (kinds_in (with_version later r)) ≡ later)
  with_kinds true r none fit = (later_version fit.1.1.1, refl)
  with_kinds false r none fit = (first_version none fit, none)

  both : AreKinds (tokens_of tree) × (is_version_2 (tokens_of tree) ≡ later)
  both = with_kinds later behind (no_version f.names _) file_prints.kinds

  pub file_kinds : AreKinds (tokens_of tree)
  file_kinds = both.0

  pub file_words : AreWordsFit later (tokens_of tree)
  file_words = subst (λ (v : Bool). AreWordsFit v (tokens_of tree)) both.1 (kinds_fit (tokens_of tree) both.0)
