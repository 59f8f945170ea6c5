-- The canonical text of a file as an answer.
use Rattle.std.proofs.Common.{◌≡◌, ℕ, ◌+◌, ◌<◌, ◌≤◌, List, ◌++◌, Option, Result, Ok, Err, IfOk, refl, sym, ap, ◌∙◌, length, length-append, arith}
use Rattle.std.specs.Prelude.{codes}
use Rattle.spi_scope.specs.StandsFor.{Meant}
use Rattle.spi_show.specs.Spelled.{IsShift}
use Rattle.spi_show.specs.Files.{IsCanonicalText, file_text}
use Rattle.spi_commands.specs.declared.answer.Answer.{Answer}
use Rattle.spi_commands.specs.declared.answer.Stop.{Stop}
use Rattle.spi_commands.specs.declared.status.Status.{Status}
use Rattle.spi_commands.specs.declared.status.Status.TheVariants.{Yes, No, Refused, ReadFault, WriteFault, NoMemory, Usage}
use Rattle.spi_commands.specs.Answers.{Answers, never}
use Rattle.spi_spell.specs.Joined.{joined_texts}
use Rattle.spi_commands.specs.Spelled.{limit}
use Rattle.spi_commands.specs.Refusals.{IsLineOf, IsTooMuch, FitsBehind}
use Rattle.spi_commands.specs.Canonical.{IsPrint, IsLong, HasLongPrint, ShowsTo}
use Rattle.spi_commands.proofs.AnswerLines.{refuses_by, line_map, much, more_than}

-- a file has one canonical text
one_shift : (free : List (List ℕ)) (s r : ℕ) → IsShift free s → IsShift free r → s ≡ r
one_shift free s r a b =
    let low : ¬ (s < r) = λ h. b.least s h a.apart in
    let high : ¬ (r < s) = λ h. a.least r h b.apart in
    omega (arith, low, high)

one_text : (file : Meant) (text other : List ℕ) → IsCanonicalText file text → IsCanonicalText file other → text ≡ other
one_text file text other (s, is, e) (r, that, d) = e ∙ ap (λ (s : ℕ). file_text s file) (one_shift file.names s r is that) ∙ sym d

pub never_longer : (file : Meant) (output : List ℕ) → IsPrint file output → IsLong file → ⊥
never_longer file output (is, short) (text, that, long) =
    let equal : length output ≡ length text = ap (λ (t : List ℕ). length t) (one_text file output text is that) in
    absurd (omega (arith, equal, short, long))

pub long_of : (file : Meant) {number : ℕ} {offset : Option ℕ} {shown : List ℕ} → HasLongPrint file number offset shown → IsLong file
long_of file (text, is, h) = (text, is, more_than h)

-- a text that is longer than a file may be
pub long_text : (bytes text : List ℕ) (file : Meant) (count : ℕ) (result : Result Answer Stop) → IsCanonicalText file text → count ≡ length text
    → IfOk result (λ a. (a.status ≡ Refused) × IsLineOf bytes (IsTooMuch count) a.output.items) → IfOk result (λ a. ShowsTo bytes file a.status a.output.items)
long_text bytes text file count result is e h =
    refuses_by bytes (IsTooMuch count) (HasLongPrint file) _ _ result (λ n o s m. (text, is, much count (length text) n o s e m)) h

-- a text that is to stand behind bytes
joined_long : (bytes text : List ℕ) → length (joined_texts bytes text) ≡ length bytes + 1 + length text
joined_long bytes text = let e = length-append bytes (codes "\n" ++ text) in omega (arith, e)

pub text_fits : (bytes text : List ℕ) → length bytes + 1 + length text ≤ limit → FitsBehind bytes text Yes text
text_fits bytes text l = let long = joined_long bytes text in (refl, omega (arith, long, l))

pub text_overflows : (bytes text : List ℕ) (count : ℕ) (result : Result Answer Stop) → count ≡ length bytes + 1 + length text
    → IfOk result (λ a. (a.status ≡ Refused) × IsLineOf bytes (IsTooMuch count) a.output.items) → IfOk result (λ a. FitsBehind bytes text a.status a.output.items)
text_overflows bytes text count result e h =
    let same : count ≡ length (joined_texts bytes text) = e ∙ sym (joined_long bytes text) in
    refuses_by bytes (IsTooMuch count) (IsTooMuch (length (joined_texts bytes text))) _ _ result (λ n o s m. much count (length (joined_texts bytes text)) n o s same m) h

-- what is shown of a file is what a command answers that has the file
shows : (bytes output : List ℕ) (file : Meant) (accepted : List ℕ → Type 0) (causes : ℕ → Option ℕ → List ℕ → Type 0) (status : Status) → ((output : List ℕ) → IsPrint file output → accepted output) → ((n : ℕ) (o : Option ℕ) (s : List ℕ) → HasLongPrint file n o s → causes n o s)
    → ShowsTo bytes file status output → Answers accepted never (IsLineOf bytes causes) status output
shows bytes output file accepted causes Yes f g is = f output is
shows bytes output file accepted causes No f g is = absurd is
shows bytes output file accepted causes Refused f g is = line_map bytes output (HasLongPrint file) causes g is
shows bytes output file accepted causes ReadFault f g is = absurd is
shows bytes output file accepted causes WriteFault f g is = absurd is
shows bytes output file accepted causes NoMemory f g is = absurd is
shows bytes output file accepted causes Usage f g is = absurd is

pub shown_as : {E : Type 0} (bytes : List ℕ) (file : Meant) (accepted : List ℕ → Type 0) (causes : ℕ → Option ℕ → List ℕ → Type 0) (result : Result Answer E) → ((output : List ℕ) → IsPrint file output → accepted output) → ((n : ℕ) (o : Option ℕ) (s : List ℕ) → HasLongPrint file n o s → causes n o s)
    → IfOk result (λ a. ShowsTo bytes file a.status a.output.items) → IfOk result (λ a. Answers accepted never (IsLineOf bytes causes) a.status a.output.items)
shown_as bytes file accepted causes (Ok a) f g is = shows bytes a.output.items file accepted causes a.status f g is
shown_as bytes file accepted causes (Err e) f g is = tt
