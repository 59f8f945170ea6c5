-- What `narrate` answers on a narration.
use Rattle.std.proofs.Common.{inr, ℕ, ◌≤◌, List, Result, Ok, IfOk, length}
use Rattle.spi_lex.specs.declared.token.Token.{Token}
use Rattle.spi_lex.specs.Lexing.{Lexes}
use Rattle.spi_scope.specs.StandsFor.{Meant}
use Rattle.spi_narrate.specs.Narrations as n
use Rattle.spi_narrate.specs.Reads.{IsNarrationSpelled}
use Rattle.spi_narrator.specs.Answers.{IsTold}
use Rattle.spi_commands.specs.declared.answer.Answer.{Answer}
use Rattle.spi_commands.specs.Canonical.{ShowsTo}
use Rattle.spi_commands.specs.Narrating.{IsNarrationOf, SpellsNarration, RefusesNarrate, SpellsTelling, NarratesTo}
use Rattle.spi_commands.proofs.AnswerText.{shown_as}

-- its text, or the refusal
pub tells : {E : Type 0} (bytes : List ℕ) (x : n.Narration) (told : Meant) (result : Result Answer E) → SpellsNarration bytes x → IsTold x told → IfOk result (λ a. ShowsTo bytes told a.status a.output.items) → IfOk result (λ a. NarratesTo bytes a.status a.output.items)
tells bytes x told result is means h =
    shown_as bytes told (SpellsTelling bytes) (RefusesNarrate bytes) result
    (λ output p. (x, told, is, means, p)) (λ n o s l. inr (inr (inr (inr (x, told, is, means, l))))) h

-- a narration that is read
pub narration_of_bytes : (bytes : List ℕ) (tokens : List Token) (x : n.Narration) → length bytes ≤ 16777216 → Lexes bytes (Ok tokens) → IsNarrationSpelled x tokens → IsNarrationOf bytes x
narration_of_bytes bytes tokens x few h is = record { within = few; tokens = tokens; lexed = h; spelled = is }
