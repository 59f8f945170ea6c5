-- A file with a derivation or a schedule more.
use Rattle.std.proofs.Common.{◌≡◌, ℕ, ◌+◌, ◌≤◌, true, false, List, [], ◌∷◌, ◌++◌, length, map, Option, Some, None, Ok, refl, sym, ◌∙◌, ap, subst, arith, append-nil}
use Rattle.std.specs.List.{AllByRecursion}
use Rattle.spi_lex.specs.declared.token.Token.{Token}
use Rattle.spi_lex.specs.declared.token.Kind.TheVariants as kinds
use Rattle.spi_lex.specs.declared.token.Reserved.TheVariants as word
use Rattle.spi_lex.specs.Lexing.{kinds_of, Lexes}
use Rattle.spi_lex.proofs.Lexed.{lexed}
use Rattle.spi_tree.specs.Trees as t
use Rattle.spi_tree.specs.Pieces.{Piece, opens, cell, closes, a_reserved, at_level, proc_pieces, decls_pieces, version_pieces, opponent_pieces, schedule_pieces, derivation_pieces, deriv_pieces, steps_pieces, ends}
use Rattle.spi_tree.specs.Formed.{is_later}
use Rattle.spi_parse.specs.Exact.{Spells}
use Rattle.spi_parse.specs.Formed.{IsFile, whole_file}
use Rattle.spi_parse.proofs.Lexed.{kinds_fit}
use Rattle.spi_parse.proofs.Spell.{IsRuledFile}
use Rattle.spi_parse.proofs.Spelled.{tokens_spelled, spelled_within}
use Rattle.spi_parse.proofs.Words.{file_ruled, file_made}
use Rattle.spi_term.specs.Spelling.{Spelling}
use Rattle.spi_run.specs.Reduction.{Step}
use Rattle.spi_rules.specs.Derivations.{RuleUse}
use Rattle.spi_scope.specs.Points.{Point, added, in_order, all_names, all_types, file_points, decls_points, process_points, opponent_points, schedule_points, steps_points, derivation_points, deriv_points}
use Rattle.spi_scope.specs.First.{Clean, IsClean}
use Rattle.spi_scope.specs.Parts.{uses_in, step_in}
use Rattle.spi_scope.specs.StandsFor.{Meant, StandsFor, derivation_in, schedule_in}
use Rattle.spi_deriv.specs.Canonical.{Canonical}
use Rattle.spi_deriv.specs.Text.{derivation_text}
use Rattle.spi_spell.specs.Spelled.{limit, IsTreeOf, SpellsFile}
use Rattle.spi_spell.specs.Joined.{with_derivation, with_schedule, joined_texts, schedule_text, HasLowPlaces}
use Rattle.spi_spell.proofs.Together.{text_behind}
use Rattle.spi_tree.proofs.Same.{same_version, same_decls, same_proc, same_opponent, same_schedule}
use Rattle.spi_spell.proofs.Derived.{Derives, FollowsRules, rule_words}
use Rattle.spi_spell.proofs.Reading.{reads_behind}
use Rattle.spi_spell.proofs.Fitting.{FitsNesting, effect_derives}
use Rattle.spi_spell.proofs.Past.{past_version, past_decls}
use Rattle.spi_spell.proofs.Shallow.{proc_fits, small}
use Rattle.spi_spell.proofs.Texts.{derivation_kinds, derivation_writes, steps_kinds, schedule_kinds, schedule_writes}
use Rattle.spi_spell.proofs.Scheduled.{read_steps, steps_clean}

-- ---- the pieces of a file up to its schedule and up to its derivation

abbrev to_schedule : t.File → List Piece → List Piece
to_schedule f r = version_pieces f.version (decls_pieces f.decls (a_reserved word.Process (proc_pieces (at_level 0) f.process (opponent_pieces f.opponent r))))

-- with more tokens behind, the tokens spell these pieces in place of those
record SpellsInPlace (more : List Token) (x y : List Piece) : Type 0 where
  pub on : (e : ℕ) (ts : List Token) → Spells [] e x ts → Spells [] e y (ts ++ more)

piece_on : (more : List Token) (p : Piece) (x y : List Piece) → SpellsInPlace more x y → (e : ℕ) (ts : List Token) → Spells [] e (p ∷ x) ts → Spells [] e (p ∷ y) (ts ++ more)
piece_on more (opens from) x y f e [] h = absurd h
piece_on more (opens from) x y f e (t ∷ ts) h = (h.0, f.on e (t ∷ ts) h.1)
piece_on more (cell kind deep) x y f e [] h = absurd h
piece_on more (cell kind deep) x y f e (t ∷ ts) h = (h.0, h.1, f.on t.span.to ts h.2)
piece_on more (closes to) x y f e ts h = (h.0, f.on e ts h.1)

one_on : (more : List Token) (p : Piece) (x y : List Piece) → SpellsInPlace more x y → SpellsInPlace more (p ∷ x) (p ∷ y)
one_on more p x y f = record { on = piece_on more p x y f }

schedule_on : (more : List Token) (f : t.File) (x y : List Piece) → SpellsInPlace more x y → SpellsInPlace more (opens f.span.from ∷ to_schedule f x) (opens f.span.from ∷ to_schedule f y)
schedule_on more f x y h =
    let behind = same_opponent (SpellsInPlace more) (one_on more) f.opponent h in
    let process = same_proc (SpellsInPlace more) (one_on more) (at_level 0) f.process behind in
    let word_process = one_on more (cell (kinds.Reserved word.Process) false) _ _ process in
    let decls = same_decls (SpellsInPlace more) (one_on more) f.decls word_process in
    one_on more (opens f.span.from) _ _ (same_version (SpellsInPlace more) (one_on more) f.version decls)

derivation_on : (more : List Token) (f : t.File) (x y : List Piece) → SpellsInPlace more x y
    → SpellsInPlace more (opens f.span.from ∷ to_schedule f (schedule_pieces f.schedule x)) (opens f.span.from ∷ to_schedule f (schedule_pieces f.schedule y))
derivation_on more f x y h = schedule_on more f _ _ (same_schedule (SpellsInPlace more) (one_on more) f.schedule h)

-- the end of a file
closed_on : (more : List Token) (to : ℕ) (y : List Piece) → ((e : ℕ) → Spells [] e y more) → SpellsInPlace more (closes to ∷ []) y
closed_on more to y f = record { on = λ e ts h. subst (λ (us : List Token). Spells [] e y (us ++ more)) (sym h.1) (f e) }

-- a file with no derivation, up to its end
to_end : (f : t.File) (ts : List Token) → f.derivation ≡ None → Spells [] 0 (whole_file f) ts → Spells [] 0 (opens f.span.from ∷ to_schedule f (schedule_pieces f.schedule (closes f.span.to ∷ []))) ts
to_end f ts none h = subst (λ (o : Option t.Deriv). Spells [] 0 (opens f.span.from ∷ to_schedule f (schedule_pieces f.schedule (derivation_pieces o (ends f.span [])))) ts) none h

-- ---- formed files

made : (f : t.File) (bytes : List ℕ) (ts : List Token) → Lexes bytes (Ok ts) → IsRuledFile f → Spells [] 0 (whole_file f) ts → IsFile f
made f bytes ts l h spelled =
    let ks = kinds_of ts in
    let tokens = tokens_spelled f ts spelled in
    file_made ks (kinds_fit ks (lexed bytes ts l).0) f h ks [] [] (sym (append-nil ks)) (tokens ∙ sym (append-nil ks)) tt

-- ---- derivations

no_derivation : (o : Option t.Deriv) → derivation_in o ≡ None → o ≡ None
no_derivation None h = refl
no_derivation (Some d) h = absurd cc

no_schedule : (o : Option (List t.Step)) → schedule_in o ≡ None → o ≡ None
no_schedule None h = refl
no_schedule (Some ss) h = absurd cc

-- a derivation of the file's process fits
derived : (bytes : List ℕ) (tree : t.File) (file : Meant) (d : List RuleUse) → IsTreeOf bytes tree → StandsFor tree file → Canonical d file.process.names file.process.process → Derives (is_later tree) 1 d
derived bytes tree file d is stands canonical =
    let later = is_later tree in
    let ts = all_types [] [] tree.decls in
    let xs = all_names [] tree.decls in
    let within = past_decls tree.decls _ (past_version tree.version _ (spelled_within [] 0 (whole_file tree) is.tokens is.spelled)) in
    let few = small (file_points tree) 0 stands.clean in
    let fits = proc_fits later (λ (s : ℕ). length xs) ts xs tree.process (at_level 0) _ 1 is.formed.formed.process within.1 few.1.0 (omega arith) in
    let of_file : FitsNesting later 1 file.process.process = subst (λ (s : Spelling). FitsNesting later 1 s.process) (sym stands.process) fits in
    subst (Derives later 1) canonical.are (effect_derives later 1 canonical.has canonical.canonical of_file)

abbrev tree_with_derivation : t.File → t.Deriv → ℕ → t.File
tree_with_derivation f d end = record { span = record { from = f.span.from; to = end }; version = f.version; decls = f.decls; process = f.process; opponent = f.opponent; schedule = f.schedule; derivation = Some d }

abbrev points_with : t.File → List Point → List Point
points_with f l =
    let ts = all_types [] [] f.decls in
    let xs = all_names [] f.decls in
    in_order (decls_points [] [] f.decls) ++ (in_order (process_points ts xs f.process) ++ (in_order (opponent_points ts xs f.opponent) ++ l))

module _ (bytes : List ℕ) (file : Meant) (tree : t.File) (is : IsTreeOf bytes tree) (stands : StandsFor tree file) (none : file.derivation ≡ None) where
  tree_none : tree.derivation ≡ None
  tree_none = no_derivation tree.derivation (sym stands.derivation ∙ none)

  pub with_a_derivation : (d : List RuleUse) → Canonical d file.process.names file.process.process → length (joined_texts bytes (derivation_text d)) ≤ limit → SpellsFile (joined_texts bytes (derivation_text d)) (with_derivation file d)
  with_a_derivation d canonical short =
      let derives = derived bytes tree file d is stands canonical in
      let b = text_behind bytes (derivation_text d) is.tokens word.Derivation (rule_words d) is.lexed (derivation_writes d derives.plain) (derivation_kinds false d) (derivation_kinds true d) in
      let x = reads_behind (FollowsRules (is_later tree)) uses_in (deriv_pieces 1) d word.Derivation (rule_words d) b.more (λ e ts. derives.read e ts []) b.kinds_are in
      let y = x.reads in
      let f : t.File = tree_with_derivation tree y.read y.rest.end in
      let old = to_end tree is.tokens tree_none is.spelled in
      let spelled : Spells [] 0 (whole_file f) (is.tokens ++ b.more) = (derivation_on b.more tree _ _ (closed_on b.more tree.span.to (a_reserved word.Derivation (deriv_pieces 1 y.read (closes y.rest.end ∷ []))) x.spells)).on 0 is.tokens old in
      let before = file_ruled tree is.formed in
      let ruled : IsRuledFile f = record { version = before.version; body = (before.body.0, before.body.1, before.body.2, y.is.0) } in
      let last : in_order (derivation_points tree.derivation) ≡ in_order (deriv_points y.read) = ap (λ (o : Option t.Deriv). in_order (derivation_points o)) tree_none ∙ sym y.is.1 in
      let clean : IsClean f = subst (λ (l : List Point). Clean 0 (points_with tree (in_order (schedule_points tree.schedule) ++ l))) last stands.clean in (
        f,
        record { within = short; tokens = is.tokens ++ b.more; lexed = b.lexed; formed = made f (joined_texts bytes (derivation_text d)) (is.tokens ++ b.more) b.lexed ruled spelled; spelled = spelled },
        record { clean = clean; version = stands.version; names = stands.names; process = stands.process; opponent = stands.opponent; schedule = stands.schedule; derivation = ap Some (sym y.are) },
      )

-- ---- schedules

abbrev tree_with_schedule : t.File → List t.Step → ℕ → t.File
tree_with_schedule f xs end = record { span = record { from = f.span.from; to = end }; version = f.version; decls = f.decls; process = f.process; opponent = f.opponent; schedule = Some xs; derivation = None }

-- other points at the end
clean_more : (ps qs rs : List Point) (c : ℕ) → ((d : ℕ) → Clean d qs → Clean d rs) → Clean c (ps ++ qs) → Clean c (ps ++ rs)
clean_more [] qs rs c f h = f c h
clean_more (p ∷ ps) qs rs c f h = (h.0, clean_more ps qs rs (c + added p) f h.1)

clean_with : (f : t.File) (qs rs : List Point) → ((d : ℕ) → Clean d qs → Clean d rs) → Clean 0 (points_with f qs) → Clean 0 (points_with f rs)
clean_with f qs rs h clean =
    let ts = all_types [] [] f.decls in
    let xs = all_names [] f.decls in
    let before = in_order (decls_points [] [] f.decls) in
    let process = in_order (process_points ts xs f.process) in
    let opponent = in_order (opponent_points ts xs f.opponent) in
    clean_more before (process ++ (opponent ++ qs)) (process ++ (opponent ++ rs)) 0
    (λ c. clean_more process (opponent ++ qs) (opponent ++ rs) c (λ d. clean_more opponent qs rs d h)) clean

module _ (bytes : List ℕ) (file : Meant) (tree : t.File) (is : IsTreeOf bytes tree) (stands : StandsFor tree file) (no_steps : file.schedule ≡ None) (none : file.derivation ≡ None) where
  pub with_a_schedule : (steps : List Step) → length steps ≤ 10000 → AllByRecursion HasLowPlaces steps → length (joined_texts bytes (schedule_text steps)) ≤ limit → SpellsFile (joined_texts bytes (schedule_text steps)) (with_schedule file steps)
  with_a_schedule steps few places short =
      let bare = no_schedule tree.schedule (sym stands.schedule ∙ no_steps) in
      let plain = no_derivation tree.derivation (sym stands.derivation ∙ none) in
      let b = text_behind bytes (schedule_text steps) is.tokens word.Schedule (steps_kinds steps) is.lexed (schedule_writes steps) (schedule_kinds false steps places) (schedule_kinds true steps places) in
      let x = reads_behind (λ (ss : List t.Step). length ss ≡ length steps) (λ (ss : List t.Step). map step_in ss) steps_pieces steps word.Schedule (steps_kinds steps) b.more (λ e ts. read_steps steps e ts []) b.kinds_are in
      let y = x.reads in
      let f : t.File = tree_with_schedule tree y.read y.rest.end in
      let no_end = to_end tree is.tokens plain is.spelled in
      let old : Spells [] 0 (opens tree.span.from ∷ to_schedule tree (closes tree.span.to ∷ [])) is.tokens =
      subst (λ (o : Option (List t.Step)). Spells [] 0 (opens tree.span.from ∷ to_schedule tree (schedule_pieces o (closes tree.span.to ∷ []))) is.tokens) bare no_end in
      let spelled : Spells [] 0 (whole_file f) (is.tokens ++ b.more) = (schedule_on b.more tree _ _ (closed_on b.more tree.span.to (a_reserved word.Schedule (steps_pieces y.read (closes y.rest.end ∷ []))) x.spells)).on 0 is.tokens old in
      let before = file_ruled tree is.formed in
      let ruled : IsRuledFile f = record { version = before.version; body = (before.body.0, before.body.1, before.body.2, tt) } in
      let number = y.is in
      let new : (d : ℕ) → Clean d (in_order (schedule_points tree.schedule) ++ in_order (derivation_points tree.derivation)) → Clean d (in_order (steps_points 1 (length y.read) y.read) ++ []) =
      λ d h. subst (Clean d) (sym (append-nil (in_order (steps_points 1 (length y.read) y.read)))) (steps_clean 1 (length y.read) d y.read (omega arith)) in
      let clean : IsClean f = clean_with tree _ _ new stands.clean in (
        f,
        record { within = short; tokens = is.tokens ++ b.more; lexed = b.lexed; formed = made f (joined_texts bytes (schedule_text steps)) (is.tokens ++ b.more) b.lexed ruled spelled; spelled = spelled },
        record { clean = clean; version = stands.version; names = stands.names; process = stands.process; opponent = stands.opponent; schedule = ap Some (sym y.are); derivation = none },
      )
