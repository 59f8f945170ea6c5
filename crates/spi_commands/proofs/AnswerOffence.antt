-- The refusal of an opponent part that is none.
use Rattle.std.proofs.Common.{◌≡◌, ℕ, ◌≤◌, List, [], length, Some, Result, IfOk, sym, subst, ap, ◌∙◌}
use Rattle.spi_text.specs.declared.lines.Span.{Span}
use Rattle.spi_term.specs.Spelling.{Spelling, spelled}
use Rattle.spi_opponent.specs.Allowed.{IsFirstOffence}
use Rattle.spi_scope.specs.declared.file.File.{File}
use Rattle.spi_scope.specs.Files.{meant, Marked, marked}
use Rattle.spi_scope.specs.Places.{place_in}
use Rattle.spi_report.specs.declared.refusal.Refusal.{Refusal}
use Rattle.spi_report.specs.Refused.{refused_text}
use Rattle.spi_commands.specs.declared.answer.Answer.{Answer}
use Rattle.spi_commands.specs.declared.answer.Stop.{Stop}
use Rattle.spi_commands.specs.declared.status.Status.TheVariants.{Refused}
use Rattle.spi_commands.specs.Refusals.{IsLineOf}
use Rattle.spi_commands.specs.Beside.{HasOffence, offence, opponent_at}
use Rattle.spi_commands.specs.Reading.{IsRead}
use Rattle.spi_commands.proofs.FilePlaces.{opponent_within}
use Rattle.spi_commands.proofs.AnswerLines.{line_if}

-- where the file tells that a node of the opponent stands
abbrev pub node_of : Marked → ℕ → Span
node_of m i = place_in m.opponent i

pub node_within : (bytes : List ℕ) (f : File) (i : ℕ) → IsRead bytes f → (node_of (marked f) i).from ≤ length bytes
node_within bytes f i (tree, is, stands, marks) = subst (λ m. (node_of m i).from ≤ length bytes) (sym marks) (opponent_within bytes tree is i)

-- the line of the first node that no opponent has
pub offence_line : (bytes : List ℕ) (f : File) (node : ℕ) (r : Refusal) (result : Result Answer Stop) → IsRead bytes f → (o : Spelling) × ((meant f).opponent ≡ Some o) × IsFirstOffence (spelled o.names o.process) node
    → r.number ≡ 39 → r.offset ≡ Some (node_of (marked f) node).from → r.shown.items ≡ [] → IfOk result (λ a. (a.status ≡ Refused) × (a.output.items ≡ refused_text bytes r))
    → IfOk result (λ a. (a.status ≡ Refused) × IsLineOf bytes (HasOffence bytes) a.output.items)
offence_line bytes f node r result (tree, is, stands, marks) (o, e, first) n p s h =
    let there : r.offset ≡ Some (opponent_at tree node).from = p ∙ ap (λ m. Some (node_of m node).from) marks in
    line_if bytes [] 39 (Some (opponent_at tree node).from) r (HasOffence bytes) result (tree, meant f, o, is, stands, e, offence first) n there s h
