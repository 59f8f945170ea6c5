-- What is taken of an input.
use Rattle.std.proofs.Common.{◌≡◌, ℕ, ◌+◌, ◌<◌, ◌≤◌, List, [], ◌++◌, length, Option, Some, None, Result, Ok, Err, IfOk, IfSome, ap, sym, ◌∙◌, arith, append-nil, take, refl, inl}
use Rattle.std.specs.Prelude.{OnOk}
use Rattle.std.specs.Fmt.{decimal}
use Rattle.std.specs.Io.KnownBytes.{Appends}
use Rattle.std.proofs.lemmas.Grind.{common_steps}
use Rattle.spi_io.specs.Causes.{TakesCount, TakesAllBytes, PutsPrefix}
use Rattle.spi_report.specs.declared.refusal.Refusal.{Refusal}
use Rattle.spi_report.specs.Refused.{refused_text}
use Rattle.spi_commands.specs.declared.text.Text.{Text}
use Rattle.spi_commands.specs.Spelled.{limit}
use Rattle.spi_commands.specs.Reading.{GivesText}
use Rattle.spi_commands.specs.Refusals.{IsUnlexed, too_long, layered, IsLineOf, Refuses, IsRefusal}
use Rattle.spi_commands.specs.Run.{TakesInput}

-- without a place the line doesn't depend on the bytes
pub no_place : (bytes others : List ℕ) (r : Refusal) → r.offset ≡ None → refused_text others r ≡ refused_text bytes r
no_place bytes others r e = rw e refl

-- more bytes than the limit were taken
pub taken_long : (old new : Option (List ℕ)) → TakesCount old new (limit + 1) → IfSome old (λ bytes. limit < length bytes)
taken_long None new t = tt
taken_long (Some bytes) None t = absurd t.2
taken_long (Some bytes) (Some rest) t = grind (arith, common_steps)

-- the bytes that were left are those that were taken
pub all_taken : (bytes : List ℕ) (new : Option (List ℕ)) (taken : List ℕ) → TakesAllBytes (Some bytes) new taken → bytes ≡ taken
all_taken bytes None taken all = absurd all.taken
all_taken bytes (Some rest) taken all = all.taken ∙ ap (λ (r : List ℕ). taken ++ r) all.ended ∙ append-nil taken

pub takes_all : (old new : Option (List ℕ)) (taken : List ℕ) → length taken ≤ limit → TakesAllBytes old new taken → TakesInput old new
takes_all None new taken few all = tt
takes_all (Some bytes) new taken few all =
    let same : length bytes ≡ length taken = ap (λ (l : List ℕ). length l) (all_taken bytes new taken all) in
    (λ l. all.ended, λ l. absurd (omega (arith, few, same, l)))

pub takes_long : (old new : Option (List ℕ)) → TakesCount old new (limit + 1) → TakesInput old new
takes_long None new t = tt
takes_long (Some bytes) new t = let long = taken_long (Some bytes) new t in (λ l. absurd (omega (arith, long, l)), λ l. t)

-- the text of the bytes that were left
pub text_taken : (old new : Option (List ℕ)) (taken : List ℕ) → TakesAllBytes old new taken → IfSome old (λ bytes. bytes ≡ taken)
text_taken None new taken all = tt
text_taken (Some bytes) new taken all = all_taken bytes new taken all

pub text_long : {E : Type 0} (left : Option (List ℕ)) (result : Result Text E) → IfSome left (λ bytes. limit < length bytes) → IfOk result (λ text. (bytes : List ℕ) → limit < length bytes → GivesText bytes text) → IfOk result (λ text. IfSome left (λ bytes. GivesText bytes text))
text_long None (Ok a) long is = tt
text_long (Some bytes) (Ok a) long is = is bytes long
text_long left (Err e) long is = tt

-- what a sink held stays in front
pub keeps_front : (x : Option (List ℕ)) → (output : List ℕ) × Appends x x output
keeps_front None = ([], tt)
keeps_front (Some bytes) = ([], sym (append-nil bytes))

pub prefix_front : (old new : Option (List ℕ)) (output : List ℕ) → PutsPrefix old new output → (put : List ℕ) × Appends old new put
prefix_front old new output (n, few, put) = (take n output, put)

-- a refusal of a file comes before the others
pub first_of_all : (bytes line : List ℕ) (later : ℕ → Option ℕ → List ℕ → Type 0) → IsRefusal bytes line → IsLineOf bytes (layered (Refuses bytes) later) line
first_of_all bytes line later (r, h, e) = (r, inl h, e)

-- the line of bytes that are too many doesn't depend on them
pub long_line : (others bytes line : List ℕ) (r : Refusal) → limit < length bytes → r.number ≡ 2 → r.offset ≡ None → r.shown.items ≡ decimal (limit + 1) → line ≡ refused_text others r → IsLineOf bytes (IsUnlexed bytes) line
long_line others bytes line r l n o s is = (r, rw (n, o, s) (too_long l), is ∙ no_place bytes others r o)

-- what holds of each answer
pub on_ok : {T E : Type 0} (result : Result T E) (P : Type 0) → P → OnOk result P
on_ok (Ok a) P p = p
on_ok (Err e) P p = tt
