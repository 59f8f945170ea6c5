-- What a narration is refused for: its number has a name, and it stands in the bytes.
use Rattle.std.proofs.Common.{◌≡◌, inl, inr, ℕ, ◌≤◌, List, [], ◌∷◌, length, Option, IfSome, IsSome, refl, ap, subst, arith}
use Rattle.spi_text.specs.declared.lines.Span.{Span}
use Rattle.spi_lex.specs.declared.token.Token.{Token}
use Rattle.spi_lex.specs.Writing.{AreSpans, spans_of}
use Rattle.spi_lex.proofs.Lexed.{lexed}
use Rattle.spi_tree.specs.Trees as t
use Rattle.spi_tree.specs.Pieces.{Piece, opens, cell, closes, ends}
use Rattle.spi_term.specs.Lists.{In, in_first, in_later}
use Rattle.spi_parse.specs.Exact.{Spells}
use Rattle.spi_scope.specs.declared.fault.ScopeFault.{ScopeFault}
use Rattle.spi_scope.specs.FaultPlaces.{span_from, StartsAt}
use Rattle.spi_scope.specs.First.{HasFirst}
use Rattle.spi_report.specs.Names.{name_of}
use Rattle.spi_narrate.specs.Narrations as n
use Rattle.spi_narrate.specs.declared.fault.NarrateFault.TheVariants.{UnknownRole, RoleTwice, NarrationTooLarge}
use Rattle.spi_heading.specs.Each.{each_pieces}
use Rattle.spi_narrate.specs.Grammar.{whole_narration, line_pieces, HasRole}
use Rattle.spi_weave.specs.Starts.{StartBy}
use Rattle.spi_weave.specs.Woven.{woven}
use Rattle.spi_weave.proofs.Starting.{woven_starts, lines_of, fault_starts, channel_starts, line_from, line_starts}
use Rattle.spi_narrator.specs.declared.answer.Refusal.{Refusal}
use Rattle.spi_narrator.specs.Answers.{line_span, LineIn, RefusesNarration as RefusesTelling, not_free, out_of_scope, not_ready, too_large}
use Rattle.spi_commands.specs.Refusals.{IsTooMuch, too_much}
use Rattle.spi_commands.specs.Narrating.{IsNarrationOf, IsFaulty, unknown_role, role_twice, narration_too_large, telling_number, telling_from, IsNarrationUntold, untold, RefusesNarrate}
use Rattle.spi_commands.proofs.FileRefusals.{unlexed_named, unlexed_within, unparsed_named, unparsed_within, scope_named, spans_end}
use Rattle.spi_commands.proofs.FileScopes.{first_is_fault}

abbrev pub FaultsStand : Type 0
FaultsStand = (tree : t.File) (fault : ScopeFault) → HasFirst tree fault → StartsAt tree (span_from fault)

-- ---- names

faulty_named : {x : n.Narration} {number : ℕ} {offset : Option ℕ} {shown : List ℕ} → IsFaulty x number offset shown → IsSome (name_of number)
faulty_named (unknown_role s f) = refl
faulty_named (role_twice s f) = refl
faulty_named (narration_too_large s count f) = refl

telling_named : (x : n.Narration) (r : Refusal) → RefusesTelling x r → IsSome (name_of (telling_number r))
telling_named x r (not_free f) = refl
telling_named x r (out_of_scope {f = f} h first) = scope_named f (first_is_fault (woven x) f first)
telling_named x r (not_ready h stands f l) = refl
telling_named x r (too_large h stands f l) = refl

untold_named : {x : n.Narration} {number : ℕ} {offset : Option ℕ} {shown : List ℕ} → IsNarrationUntold x number offset shown → IsSome (name_of number)
untold_named {x} (untold {r = r} why) = telling_named x r why

much_named : {count number : ℕ} {offset : Option ℕ} {shown : List ℕ} → IsTooMuch count number offset shown → IsSome (name_of number)
much_named (too_much l) = refl

pub narrate_named : (bytes : List ℕ) (number : ℕ) (offset : Option ℕ) (shown : List ℕ) → RefusesNarrate bytes number offset shown → IsSome (name_of number)
narrate_named bytes number offset shown (inl h) = unlexed_named h
narrate_named bytes number offset shown (inr (inl h)) = unparsed_named h
narrate_named bytes number offset shown (inr (inr (inl (x, is, h)))) = faulty_named h
narrate_named bytes number offset shown (inr (inr (inr (inl (x, is, h))))) = untold_named h
narrate_named bytes number offset shown (inr (inr (inr (inr (x, told, is, tells, (text, canonical, h)))))) = much_named h

-- ---- places

-- what tokens spell starts in the bytes
spelled_starts : (end at e : ℕ) (ps : List Piece) (ts : List Token) → Spells [] e ps ts → AreSpans at (spans_of ts) end → StartBy end ps
spelled_starts end at e [] ts h spans = tt
spelled_starts end at e (opens from ∷ ps) [] h spans = absurd h
spelled_starts end at e (opens from ∷ ps) (tok ∷ ts) h spans =
    let m = spans_end tok.span.to end (spans_of ts) spans.2 in
    let f = h.0 in
    let l = spans.1 in
    (omega (arith, f, m, l), spelled_starts end at e ps (tok ∷ ts) h.1 spans)
spelled_starts end at e (cell k deep ∷ ps) [] h spans = absurd h
spelled_starts end at e (cell k deep ∷ ps) (tok ∷ ts) h spans = spelled_starts end tok.span.to tok.span.to ps ts h.2 spans.2
spelled_starts end at e (closes to ∷ ps) ts h spans = spelled_starts end at e ps ts h.1 spans

starts : (bytes : List ℕ) (x : n.Narration) → IsNarrationOf bytes x → StartBy (length bytes) (whole_narration x)
starts bytes x is = spelled_starts (length bytes) 0 0 (whole_narration x) is.tokens is.spelled.1 (lexed bytes is.tokens is.lexed).1

there_starts : (end from : ℕ) (ps : List Piece) → In (opens from) ps → StartBy end ps → from ≤ end
there_starts end from [] i h = elim i [ ]
there_starts end from (opens other ∷ ps) in_first h = h.0
there_starts end from (opens other ∷ ps) (in_later i) h = there_starts end from ps i h.1
there_starts end from (cell k deep ∷ ps) (in_later i) h = there_starts end from ps i h
there_starts end from (closes to ∷ ps) (in_later i) h = there_starts end from ps i h

faulty_within : {bytes : List ℕ} {x : n.Narration} {number : ℕ} {offset : Option ℕ} {shown : List ℕ} → IsNarrationOf bytes x → IsFaulty x number offset shown → IfSome offset (λ at. at ≤ length bytes)
faulty_within {bytes} {x} is (unknown_role s {w = w} f) = fault_starts (length bytes) x (UnknownRole s w) (starts bytes x is) f
faulty_within {bytes} {x} is (role_twice s {w = w} f) = fault_starts (length bytes) x (RoleTwice s w) (starts bytes x is) f
faulty_within {bytes} {x} is (narration_too_large s count f) = fault_starts (length bytes) x (NarrationTooLarge s count) (starts bytes x is) f

line_same : (l : n.Line) → (line_span l).from ≡ line_from 0 l
line_same (n.local s w f) = refl
line_same (n.pass s from to c m x) = refl

line_within : (end : ℕ) (x : n.Narration) (i : ℕ) (s : Span) → StartBy end (whole_narration x) → LineIn x.lines i s → s.from ≤ end
line_within end x i s h (l, e, is) =
    let a = line_starts end x.lines i l _ e (lines_of end x h) in
    let b = ap (λ (z : Span). z.from) is in
    let c = line_same l in
    omega (arith, a, b, c)

telling_within : FaultsStand → (end : ℕ) (x : n.Narration) (r : Refusal) → HasRole x.roles → StartBy end (whole_narration x) → RefusesTelling x r → telling_from r ≤ end
telling_within standing end x r has h (not_free f) =
    channel_starts end f.before f.after f.span f.from f.to _ f.message f.name _ (subst (λ (ls : List n.Line). StartBy end (each_pieces line_pieces ls (ends x.span []))) f.cut (lines_of end x h))
telling_within standing end x r has h (out_of_scope {f = f} c first) = there_starts end (span_from f) _ (standing (woven x) f first) (woven_starts x end has h)
telling_within standing end x r has h (not_ready {i = i} {s = s} c stands f l) = line_within end x i s h l
telling_within standing end x r has h (too_large {i = i} {s = s} c stands f l) = line_within end x i s h l

untold_within : {bytes : List ℕ} {x : n.Narration} {number : ℕ} {offset : Option ℕ} {shown : List ℕ} → FaultsStand → IsNarrationOf bytes x → IsNarrationUntold x number offset shown → IfSome offset (λ at. at ≤ length bytes)
untold_within {bytes} {x} standing is (untold {r = r} why) = telling_within standing (length bytes) x r is.spelled.0.roles (starts bytes x is) why

much_within : (bytes : List ℕ) {count number : ℕ} {offset : Option ℕ} {shown : List ℕ} → IsTooMuch count number offset shown → IfSome offset (λ at. at ≤ length bytes)
much_within bytes (too_much l) = tt

pub narrate_within : FaultsStand → (bytes : List ℕ) (number : ℕ) (offset : Option ℕ) (shown : List ℕ) → RefusesNarrate bytes number offset shown → IfSome offset (λ at. at ≤ length bytes)
narrate_within standing bytes number offset shown (inl h) = unlexed_within h
narrate_within standing bytes number offset shown (inr (inl h)) = unparsed_within h
narrate_within standing bytes number offset shown (inr (inr (inl (x, is, h)))) = faulty_within is h
narrate_within standing bytes number offset shown (inr (inr (inr (inl (x, is, h))))) = untold_within standing is.0 h
narrate_within standing bytes number offset shown (inr (inr (inr (inr (x, told, is, tells, (text, canonical, h)))))) = much_within bytes h
