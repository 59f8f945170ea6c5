-- The lines of refusals, in a table of answers.
use Rattle.std.proofs.Common.{◌≡◌, ◌⊎◌, ℕ, ◌<◌, List, Option, None, Result, Ok, Err, IfOk, refl, sym, subst, inl, inr}
use Rattle.std.specs.Prelude.{◌↔◌}
use Rattle.spi_report.specs.declared.refusal.Refusal.{Refusal}
use Rattle.spi_report.specs.Refused.{refused_text}
use Rattle.spi_commands.specs.declared.answer.Answer.{Answer}
use Rattle.spi_commands.specs.declared.status.Status.{Status}
use Rattle.spi_commands.specs.declared.status.Status.TheVariants.{Yes, No, Refused, ReadFault, WriteFault, NoMemory, Usage}
use Rattle.spi_commands.specs.Spelled.{limit, SpellsNone}
use Rattle.spi_commands.specs.Answers.{Answers, never}
use Rattle.spi_commands.specs.Refusals.{layered, IsLineOf, IsCause, IsTooMuch, too_much, Refuses, IsRefusal}

-- the causes of a line are these too
pub line_map : (bytes output : List ℕ) (causes wanted : ℕ → Option ℕ → List ℕ → Type 0) → ((n : ℕ) (o : Option ℕ) (s : List ℕ) → causes n o s → wanted n o s) → IsLineOf bytes causes output → IsLineOf bytes wanted output
line_map bytes output causes wanted f (r, h, e) = (r, f r.number r.offset r.shown.items h, e)

-- the line of one cause
pub one_line : (bytes shown output : List ℕ) (number : ℕ) (offset : Option ℕ) (r : Refusal) (causes : ℕ → Option ℕ → List ℕ → Type 0) → causes number offset shown → r.number ≡ number → r.offset ≡ offset → r.shown.items ≡ shown → output ≡ refused_text bytes r → IsLineOf bytes causes output
one_line bytes shown output number offset r causes h n o s e = (r, rw (n, o, s) h, e)

pub line_if : {E : Type 0} (bytes shown : List ℕ) (number : ℕ) (offset : Option ℕ) (r : Refusal) (causes : ℕ → Option ℕ → List ℕ → Type 0) (result : Result Answer E) → causes number offset shown → r.number ≡ number → r.offset ≡ offset → r.shown.items ≡ shown
    → IfOk result (λ a. (a.status ≡ Refused) × (a.output.items ≡ refused_text bytes r)) → IfOk result (λ a. (a.status ≡ Refused) × IsLineOf bytes causes a.output.items)
line_if bytes shown number offset r causes (Ok a) h n o s is = (is.0, one_line bytes shown a.output.items number offset r causes h n o s is.1)
line_if bytes shown number offset r causes (Err e) h n o s is = tt

-- the one cause is one of these
pub cause_is : {E : Type 0} (bytes shown : List ℕ) (number : ℕ) (offset : Option ℕ) (causes : ℕ → Option ℕ → List ℕ → Type 0) (result : Result Answer E) → causes number offset shown
    → IfOk result (λ a. (a.status ≡ Refused) × IsLineOf bytes (IsCause number offset shown) a.output.items) → IfOk result (λ a. (a.status ≡ Refused) × IsLineOf bytes causes a.output.items)
cause_is bytes shown number offset causes (Ok a) h (e, (r, (n, o, s), line)) = (e, one_line bytes shown a.output.items number offset r causes h n o s line)
cause_is bytes shown number offset causes (Err e) h is = tt

-- what it shows, said in another way
pub cause_shown : {E : Type 0} (bytes shown text : List ℕ) (number : ℕ) (result : Result Answer E) → text ≡ shown
    → IfOk result (λ a. (a.status ≡ Refused) × IsLineOf bytes (IsCause number None text) a.output.items) → IfOk result (λ a. (a.status ≡ Refused) × IsLineOf bytes (IsCause number None shown) a.output.items)
cause_shown bytes shown text number result e h =
    subst (λ (s : List ℕ). IfOk result (λ a. (a.status ≡ Refused) × IsLineOf bytes (IsCause number None s) a.output.items)) e h

-- a refusal is the answer of a table that has its causes
pub refuses_by : {E : Type 0} (bytes : List ℕ) (causes wanted : ℕ → Option ℕ → List ℕ → Type 0) (accepted denied : List ℕ → Type 0) (result : Result Answer E) → ((n : ℕ) (o : Option ℕ) (s : List ℕ) → causes n o s → wanted n o s)
    → IfOk result (λ a. (a.status ≡ Refused) × IsLineOf bytes causes a.output.items) → IfOk result (λ a. Answers accepted denied (IsLineOf bytes wanted) a.status a.output.items)
refuses_by bytes causes wanted accepted denied (Ok a) f (e, line) =
    subst (λ (s : Status). Answers accepted denied (IsLineOf bytes wanted) s a.output.items) (sym e) (line_map bytes a.output.items causes wanted f line)
refuses_by bytes causes wanted accepted denied (Err e) f h = tt

-- and so is one that comes before the others
pub refused_first : (accepted denied : List ℕ → Type 0) (bytes output : List ℕ) (later : ℕ → Option ℕ → List ℕ → Type 0) (status : Status) → status ≡ Refused → IsRefusal bytes output → Answers accepted denied (IsLineOf bytes (layered (Refuses bytes) later)) status output
refused_first accepted denied bytes output later status e (r, h, line) =
    subst (λ (s : Status). Answers accepted denied (IsLineOf bytes (layered (Refuses bytes) later)) s output) (sym e) (r, inl h, line)

-- a text that is too long, where its length is counted so
pub much : (count most : ℕ) (number : ℕ) (offset : Option ℕ) (shown : List ℕ) → count ≡ most → IsTooMuch count number offset shown → IsTooMuch most number offset shown
much count most number offset shown e h = subst (λ n. IsTooMuch n number offset shown) e h

pub more_than : {count number : ℕ} {offset : Option ℕ} {shown : List ℕ} → IsTooMuch count number offset shown → limit < count
more_than (too_much l) = l

-- ---- tables without a no

-- yes where there is such an output, and refused where there is this reason for none
pub record IsYesOrRefused (accepted : List ℕ → Type 0) (reason : Type 0) (status : Status) : Type 0 where
  pub yes : (status ≡ Yes) ↔ ((output : List ℕ) × accepted output)
  pub refused : (status ≡ Refused) ↔ reason

pub yes_or_refused : (bytes : List ℕ) (accepted : List ℕ → Type 0) (causes : ℕ → Option ℕ → List ℕ → Type 0) (reason : Type 0) → ((output : List ℕ) → accepted output → reason → ⊥) → ((n : ℕ) (o : Option ℕ) (s : List ℕ) → causes n o s → reason)
    → (output : List ℕ) (status : Status) → Answers accepted never (IsLineOf bytes causes) status output → IsYesOrRefused accepted reason status
yes_or_refused bytes accepted causes reason apart reasons output Yes is = record {
  yes = (λ e. (output, is), λ a. refl);
  refused = (λ e. absurd (cc), λ why. absurd (apart output is why));
}
yes_or_refused bytes accepted causes reason apart reasons output No is = absurd is
yes_or_refused bytes accepted causes reason apart reasons output Refused (r, h, line) =
    let why : reason = reasons r.number r.offset r.shown.items h in
    record {
      yes = (λ e. absurd (cc), λ a. absurd (apart a.0 a.1 why));
      refused = (λ e. why, λ w. refl);
    }
yes_or_refused bytes accepted causes reason apart reasons output ReadFault is = absurd is
yes_or_refused bytes accepted causes reason apart reasons output WriteFault is = absurd is
yes_or_refused bytes accepted causes reason apart reasons output NoMemory is = absurd is
yes_or_refused bytes accepted causes reason apart reasons output Usage is = absurd is

-- a text of a file: refused where the bytes spell no file, or where it is too long
pub text_or_refused : (bytes : List ℕ) (accepted : List ℕ → Type 0) (later : ℕ → Option ℕ → List ℕ → Type 0) (long : Type 0) → ((n : ℕ) (o : Option ℕ) (s : List ℕ) → Refuses bytes n o s → SpellsNone bytes) → ((n : ℕ) (o : Option ℕ) (s : List ℕ) → later n o s → long)
    → ((output : List ℕ) → accepted output → SpellsNone bytes → ⊥) → ((output : List ℕ) → accepted output → long → ⊥)
    → (output : List ℕ) (status : Status) → Answers accepted never (IsLineOf bytes (layered (Refuses bytes) later)) status output → IsYesOrRefused accepted (SpellsNone bytes ⊎ long) status
text_or_refused bytes accepted later long none_of long_by spells fits output status is =
    yes_or_refused bytes accepted (layered (Refuses bytes) later) (SpellsNone bytes ⊎ long) apart reasons output status is
  where
    apart : (output : List ℕ) → accepted output → SpellsNone bytes ⊎ long → ⊥
    apart output given (inl none) = spells output given none
    apart output given (inr more) = fits output given more

    reasons : (n : ℕ) (o : Option ℕ) (s : List ℕ) → layered (Refuses bytes) later n o s → SpellsNone bytes ⊎ long
    reasons n o s (inl refuses) = inl (none_of n o s refuses)
    reasons n o s (inr why) = inr (long_by n o s why)

-- the output of a yes
pub accepted_at : (bytes : List ℕ) (accepted : List ℕ → Type 0) (causes : ℕ → Option ℕ → List ℕ → Type 0) (output : List ℕ) (status : Status) → Answers accepted never (IsLineOf bytes causes) status output → status ≡ Yes → accepted output
accepted_at bytes accepted causes output status is e = let at_yes : Answers accepted never (IsLineOf bytes causes) Yes output = subst (λ (s : Status). Answers accepted never (IsLineOf bytes causes) s output) e is in at_yes
