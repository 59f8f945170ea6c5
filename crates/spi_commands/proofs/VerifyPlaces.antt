-- The rule uses of a tree's derivation: where they stand, how many they are, and that they are one tree.
use Rattle.std.proofs.Common.{◌≡◌, sym, subst, ap, ◌∙◌, refl, ℕ, suc, ◌+◌, ◌≤◌, ◌≢◌, Bool, true, false, List, [], ◌∷◌, ◌++◌, length, length-append, append-nil, append_assoc, Option, Some, None, arith}
use Rattle.std.proofs.lemmas.Slice.Eq.{bytes_eq-Decides}
use Rattle.spi_text.specs.declared.lines.Span.{Span}
use Rattle.spi_lex.specs.Lexing.{kinds_of}
use Rattle.spi_lex.proofs.Lexed.{lexed}
use Rattle.spi_tree.specs.Trees as t
use Rattle.spi_tree.specs.Formed.{is_later}
use Rattle.spi_tree.specs.Pieces.{Piece, opens, kinds_in, ends, deriv_pieces, derivs_pieces, derivation_pieces, file_pieces}
use Rattle.spi_parse.specs.Formed.{IsFile, IsFormedDerived, HasRules, HaveRules, count_derivs, is_written, whole_file}
use Rattle.spi_parse.specs.Rules.{rules_of, arity_by, arity_of, writes_effect}
use Rattle.spi_parse.proofs.Wholes.{kinds_count}
use Rattle.spi_rules.specs.declared.rule.Rule.{Rule}
use Rattle.spi_rules.specs.declared.rule.Rule.TheVariants.{ProcSub}
use Rattle.spi_rules.specs.Rule.{arity, rule_spelled, named}
use Rattle.spi_rules.specs.Derivations.{RuleUse}
use Rattle.spi_rules.specs.Deriv.{IsUse, sub_use, other_use, AreTrees, no_tree, tree as a_tree, IsTree}
use Rattle.spi_rules.proofs.Named.{named_spelled}
use Rattle.spi_scope.proofs.Rules.{rule_found}
use Rattle.spi_scope.specs.Parts.{rule_named, numbered_effect, uses_in, all_uses_in, use_places, all_use_places}
use Rattle.spi_scope.specs.Files.{rule_places}
use Rattle.spi_scope.specs.StandsFor.{derivation_in}
use Rattle.spi_term.specs.Lists.{In, in_later}
use Rattle.spi_commands.specs.Spelled.{limit, IsTreeOf}
use Rattle.spi_commands.specs.Verifying.{rule_at}
use Rattle.spi_commands.proofs.FilePieces as Past
use Rattle.spi_commands.proofs.FilePlaces.{at_first, either, opened_within}
use Rattle.spi_commands.proofs.FileRefusals.{HaveOwnTokens, longer_on, tokens_within, spells_kinds}

-- a use stands among the pieces of its derivation
abbrev IsAmongPieces : Piece → List Piece → Type 0
IsAmongPieces x r = In x r

stands_on : (x : Piece) (a : Piece) (r : List Piece) → IsAmongPieces x r → IsAmongPieces x (a ∷ r)
stands_on x a r i = in_later i

mutual
  use_in : (n : ℕ) (d : t.Deriv) (s : Span) (r : List Piece) → In s (use_places d) → In (opens s.from) (deriv_pieces n d r)
  use_in n (t.rule u w es ds) s r i =
      at_first i (λ j. in_later (in_later (in_later (Past.past_written {P = IsAmongPieces (opens s.from)} (stands_on (opens s.from)) es _ (more_in (n + 1) ds s _ j)))))

  more_in : (n : ℕ) (ds : t.Derivs) (s : Span) (r : List Piece) → In s (all_use_places ds) → In (opens s.from) (derivs_pieces n ds r)
  more_in n t.no_derivs s r i = elim i [ ]
  more_in n (t.more_derivs d ds) s r i =
      either (use_places d) (all_use_places ds) i (λ k. use_in n d s _ k) (λ k. Past.past_deriv {P = IsAmongPieces (opens s.from)} (stands_on (opens s.from)) n d _ (more_in n ds s r k))

derivation_in_pieces : (o : Option t.Deriv) (s : Span) (r : List Piece) → In s (rule_places o) → In (opens s.from) (derivation_pieces o r)
derivation_in_pieces None s r i = elim i [ ]
derivation_in_pieces (Some d) s r i = in_later (use_in 1 d s r i)

use_opens : (tree : t.File) (s : Span) → In s (rule_places tree.derivation) → In (opens s.from) (file_pieces tree [])
use_opens tree s i = Past.past_parts {P = IsAmongPieces (opens s.from)} (stands_on (opens s.from)) tree (derivation_in_pieces tree.derivation s _ i)

-- each use that is asked for stands in the bytes
pub rule_within : (bytes : List ℕ) (tree : t.File) → IsTreeOf bytes tree → (i : ℕ) → (rule_at tree i).from ≤ length bytes
rule_within bytes tree is = opened_within bytes tree is (rule_places tree.derivation) (use_opens tree)

-- each use has a token of its own
mutual
  uses_long : (n k : ℕ) (d : t.Deriv) (r : List Piece) → HaveOwnTokens k r → HaveOwnTokens (length (uses_in d) + k) (deriv_pieces n d r)
  uses_long n k (t.rule s w es ds) r h =
      let more = Past.past_written {P = HaveOwnTokens (length (all_uses_in ds) + k)} (longer_on (length (all_uses_in ds) + k)) es (derivs_pieces (n + 1) ds (ends s r)) (all_long (n + 1) k ds (ends s r) h) in
      omega (arith, more)

  all_long : (n k : ℕ) (ds : t.Derivs) (r : List Piece) → HaveOwnTokens k r → HaveOwnTokens (length (all_uses_in ds) + k) (derivs_pieces n ds r)
  all_long n k t.no_derivs r h = let e : k ≤ length (kinds_in r) = h in omega (arith, e)
  all_long n k (t.more_derivs d ds) r h =
      let more = uses_long n (length (all_uses_in ds) + k) d (derivs_pieces n ds r) (all_long n k ds r h) in
      omega (arith, more, length-append (uses_in d) (all_uses_in ds))

abbrev uses_of_tree : Option (List RuleUse) → List RuleUse
uses_of_tree None = []
uses_of_tree (Some us) = us

derivation_long : (o : Option t.Deriv) (r : List Piece) → HaveOwnTokens (length (uses_of_tree (derivation_in o))) (derivation_pieces o r)
derivation_long None r = omega arith
derivation_long (Some d) r = let h = uses_long 1 0 d r (omega arith) in omega (arith, h)

pub few_uses : (bytes : List ℕ) (tree : t.File) (us : List RuleUse) → IsTreeOf bytes tree → derivation_in tree.derivation ≡ Some us → length us ≤ limit
few_uses bytes tree us is e =
    let long = Past.past_parts {P = HaveOwnTokens (length (uses_of_tree (derivation_in tree.derivation)))} (longer_on (length (uses_of_tree (derivation_in tree.derivation)))) tree (derivation_long tree.derivation _) in
    let same : kinds_in (whole_file tree) ≡ kinds_of is.tokens = spells_kinds 0 (whole_file tree) is.tokens is.spelled in
    let each : length (kinds_of is.tokens) ≡ length is.tokens = kinds_count is.tokens in
    let most = tokens_within 0 (length bytes) is.tokens (lexed bytes is.tokens is.lexed).1 in
    let own : uses_of_tree (derivation_in tree.derivation) ≡ us = ap uses_of_tree e in
    let some : length us ≤ length (kinds_of is.tokens) = subst (λ (v : List RuleUse). length v ≤ length (kinds_of is.tokens)) own (subst (λ ks. length (uses_of_tree (derivation_in tree.derivation)) ≤ length ks) same long) in
    omega (arith, some, each, most, is.within)

-- the rule of a word, in a formed derivation
rule_of : (later : Bool) (w : List ℕ) (n : ℕ) → arity_of later w ≡ Some n → (r : Rule) × (rule_spelled r ≡ w) × (arity r ≡ n)
rule_of later w n e = by (named (rules_of later) w) refl e
  where
    by : (o : Option Rule) → named (rules_of later) w ≡ o → arity_by o ≡ Some n → (r : Rule) × (rule_spelled r ≡ w) × (arity r ≡ n)
    by None f g = absurd (cc)
    by (Some r) f g = (r, named_spelled (rules_of later) w r f, (let same : Some (arity r) ≡ Some n = g in cc))

is_sub : (w : List ℕ) → writes_effect w ≡ true → ProcSub ≡ rule_named w
is_sub w h = rule_found ProcSub w ((bytes_eq-Decides (rule_spelled ProcSub) w).0 h)

isnt_sub : (w : List ℕ) (r : Rule) → rule_spelled r ≡ w → writes_effect w ≡ false → rule_named w ≢ ProcSub
isnt_sub w r s h e =
    let named : r ≡ ProcSub = rule_found r w s ∙ e in
    let yes' : writes_effect w ≡ true = (bytes_eq-Decides (rule_spelled ProcSub) w).1 (sym (ap rule_spelled named) ∙ s) in
    absurd (cc)

use_of : (w : List ℕ) (r : Rule) (es : Option (List t.Atom)) → rule_spelled r ≡ w → writes_effect w ≡ is_written es → IsUse (record { rule = rule_named w; taken = numbered_effect es })
use_of w r None s h = other_use (rule_named w) (isnt_sub w r s h)
use_of w r (Some es) s h = subst (λ (q : Rule). IsUse (record { rule = q; taken = numbered_effect (Some es) })) (is_sub w h) (sub_use _)

mutual
  tree_of : (later : Bool) (d : t.Deriv) (n : ℕ) (us : List RuleUse) → HasRules later d → AreTrees n us → AreTrees (suc n) (uses_in d ++ us)
  tree_of later (t.rule s w es ds) n us h ts =
      let (r, spells, own) = rule_of later w.word (count_derivs ds) h.0 in
      let count : count_derivs ds ≡ arity (rule_named w.word) = sym own ∙ ap arity (rule_found r w.word spells) in
      a_tree (use_of w.word r es spells h.1) (subst (λ (k : ℕ). AreTrees (k + n) (all_uses_in ds ++ us)) count (trees_of later ds n us h.2 ts))

  trees_of : (later : Bool) (ds : t.Derivs) (n : ℕ) (us : List RuleUse) → HaveRules later ds → AreTrees n us → AreTrees (count_derivs ds + n) (all_uses_in ds ++ us)
  trees_of later t.no_derivs n us h ts = subst (λ (k : ℕ). AreTrees k us) (let e : n ≡ 0 + n = omega arith in e) ts
  trees_of later (t.more_derivs d ds) n us h ts =
      let same : suc (count_derivs ds + n) ≡ suc (count_derivs ds) + n = omega arith in
      subst (λ (k : ℕ). AreTrees k ((uses_in d ++ all_uses_in ds) ++ us)) same (subst (λ (l : List RuleUse). AreTrees (suc (count_derivs ds + n)) l) (sym (append_assoc (uses_in d) (all_uses_in ds) us)) (tree_of later d (count_derivs ds + n) (all_uses_in ds ++ us) h.0 (trees_of later ds n us h.1 ts)))

pub one_derivation : (tree : t.File) (us : List RuleUse) → IsFile tree → derivation_in tree.derivation ≡ Some us → IsTree us
one_derivation tree us is e = by tree.derivation is.rules e
  where
    by : (o : Option t.Deriv) → IsFormedDerived (is_later tree) o → derivation_in o ≡ Some us → IsTree us
    by None h f = absurd (cc)
    by (Some d) h f =
        let same : uses_in d ≡ us = (let g : Some (uses_in d) ≡ Some us = f in cc) in
        subst IsTree (append-nil (uses_in d) ∙ same) (tree_of (is_later tree) d 0 [] h no_tree)
