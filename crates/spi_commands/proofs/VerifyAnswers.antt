-- What `verify` answers on a file.
use Rattle.std.proofs.Common.{◌≡◌, ℕ, ◌<◌, ◌≤◌, List, [], length, sym, subst, ◌∙◌, refl, Option, Some, None, Result, Ok, Err, IfOk, arith, inl, inr}
use Rattle.std.proofs.lemmas.List.{length-map}
use Rattle.std.specs.Prelude.{codes, vec_len}
use Rattle.spi_text.specs.declared.lines.Span.{Span}
use Rattle.spi_term.specs.Term.{Effect, Process}
use Rattle.spi_term.specs.Counts.{SameEffect}
use Rattle.spi_term.specs.declared.term.Effect as declared
use Rattle.spi_scope.specs.declared.file.File.{File}
use Rattle.spi_scope.specs.Files.{meant, Marked, marked, uses_of}
use Rattle.spi_scope.specs.Places.{place_in}
use Rattle.spi_rules.specs.Environment.{untrusted}
use Rattle.spi_rules.specs.Derivations.{RuleUse, Proves}
use Rattle.spi_rules.specs.Deriv.{rule_use, rule_uses, IsTree}
use Rattle.spi_rules.specs.declared.deriv.Deriv.{Deriv}
use Rattle.spi_fault.specs.declared.fault.Fault.{Fault}
use Rattle.spi_fault.specs.Faults.{ToldFault, told, IsUnpaid, TellsUnpaid}
use Rattle.spi_report.specs.Fault.{fault_text}
use Rattle.spi_report.specs.Wrong.{wrong_text}
use Rattle.spi_audit.specs.declared.audited.Audited.{Audited}
use Rattle.spi_audit.specs.declared.audited.Audited.TheVariants.{Proved, WrongStep, Unpaid}
use Rattle.spi_audit.specs.Audit.{IsAudited, AreOneAnswer, IsWrongAt, LeavesUnpaid}
use Rattle.spi_commands.specs.declared.answer.Answer.{Answer}
use Rattle.spi_commands.specs.declared.answer.Stop.{Stop}
use Rattle.spi_commands.specs.declared.status.Status.{Status}
use Rattle.spi_commands.specs.declared.status.Status.TheVariants.{Yes, No, Refused}
use Rattle.spi_commands.specs.Refusals.{layered, IsLineOf, Refuses, IsMissing}
use Rattle.spi_commands.specs.Verifying.{IsUnprovedLine, LacksDerivation, VerifiesTo}
use Rattle.spi_commands.specs.Reading.{IsRead}
use Rattle.spi_commands.proofs.AnswerNo.{place_told, names_told}
use Rattle.spi_commands.proofs.AnswerLines.{refuses_by}
use Rattle.spi_commands.proofs.VerifyPlaces.{rule_within, few_uses, one_derivation}

-- where the file tells that a use stands
abbrev pub use_of : Marked → ℕ → Span
use_of m i = place_in m.rules i

pub use_within : (bytes : List ℕ) (f : File) (i : ℕ) → IsRead bytes f → (use_of (marked f) i).from ≤ length bytes
use_within bytes f i (tree, is, stands, marks) = subst (λ m. (use_of m i).from ≤ length bytes) (sym marks) (rule_within bytes tree is i)

-- what an audit asks of a derivation
pub audits_few : (bytes : List ℕ) (f : File) (d : Deriv) → IsRead bytes f → uses_of f.derivation ≡ Some (rule_uses d) → vec_len d.uses < 4294967296
audits_few bytes f d (tree, is, stands, marks) e =
    let few = few_uses bytes tree (rule_uses d) is (sym stands.derivation ∙ e) in
    let same = length-map d.uses.items rule_use in
    omega (arith, few, same)

pub audits_tree : (bytes : List ℕ) (f : File) (d : Deriv) → IsRead bytes f → uses_of f.derivation ≡ Some (rule_uses d) → IsTree (rule_uses d)
audits_tree bytes f d (tree, is, stands, marks) e = one_derivation tree (rule_uses d) is.formed (sym stands.derivation ∙ e)

-- a missing derivation
pub lacks : (bytes : List ℕ) (f : File) (result : Result Answer Stop) → IsRead bytes f → uses_of f.derivation ≡ None → IfOk result (λ a. (a.status ≡ Refused) × IsLineOf bytes (IsMissing (codes "derivation")) a.output.items) → IfOk result (λ a. VerifiesTo bytes a.status a.output.items)
lacks bytes f result (tree, is, stands, marks) e h =
    refuses_by bytes (IsMissing (codes "derivation")) (layered (Refuses bytes) (LacksDerivation bytes)) _ _ result (λ n o s m. inr ((meant f, (tree, is, stands), e), m)) h

-- a proof
pub proved : (bytes output : List ℕ) (f : File) (us : List RuleUse) (status : Status) → IsRead bytes f → uses_of f.derivation ≡ Some us → Proves us (untrusted f.process.names) f.process.process [] → status ≡ Yes → output ≡ codes "yes\n" → VerifiesTo bytes status output
proved bytes output f us status (tree, is, stands, marks) e p yes' text =
    let wanted : VerifiesTo bytes Yes output = ((meant f, us, (tree, is, stands), e, p), text) in
    subst (λ s. VerifiesTo bytes s output) (sym yes') wanted

-- the line of a wrong step
pub wrong_line : (bytes output : List ℕ) (f : File) (us : List RuleUse) (i : ℕ) → IsRead bytes f → uses_of f.derivation ≡ Some us → IsWrongAt (untrusted f.process.names) f.process.process us i → output ≡ wrong_text bytes (use_of (marked f) i) i → IsUnprovedLine bytes output
wrong_line bytes output f us i (tree, is, stands, marks) e w t =
    (tree, meant f, us, is, stands, e, inl (i, w, subst (λ m. output ≡ wrong_text bytes (use_of m i) i) marks t))

-- the line of what is left unpaid
unpaid_line : (bytes output : List ℕ) (f : File) (us : List RuleUse) (es : Effect) (fault : ToldFault) → IsRead bytes f → uses_of f.derivation ≡ Some us → LeavesUnpaid (untrusted f.process.names) f.process.process us es → IsUnpaid (names_told (marked f)) es fault → output ≡ fault_text bytes (place_told (marked f)) (names_told (marked f)) fault → IsUnprovedLine bytes output
unpaid_line bytes output f us es fault (tree, is, stands, marks) e l u t =
    (tree, meant f, us, is, stands, e, inr (es, fault, l, subst (λ m. IsUnpaid (names_told m) es fault) marks u, subst (λ m. output ≡ fault_text bytes (place_told m) (names_told m) fault) marks t))

pub unpaid_answer : (bytes : List ℕ) (f : File) (es : Effect) (fault : Fault) (result : Result Answer Stop) → IsRead bytes f → (us : List RuleUse) × (uses_of f.derivation ≡ Some us) × LeavesUnpaid (untrusted f.process.names) f.process.process us es → TellsUnpaid (names_told (marked f)) es (Some fault)
    → IfOk result (λ a. (a.status ≡ No) × (a.output.items ≡ fault_text bytes (place_told (marked f)) (names_told (marked f)) (told fault))) → IfOk result (λ a. (a.status ≡ No) × IsUnprovedLine bytes a.output.items)
unpaid_answer bytes f es fault (Ok a) r (us, e, l) u h = (h.0, unpaid_line bytes a.output.items f us es (told fault) r e l u h.1)
unpaid_answer bytes f es fault (Err s) r l u h = tt

left_some : (k : ℕ) (p : Process) (us : List RuleUse) (es : Effect) → LeavesUnpaid (untrusted k) p us es → es ≡ [] → ⊥
left_some k p us es (e, j, pay, same, some) h = some (subst (λ fs. SameEffect fs []) (sym h) (record { at = λ a. refl }))

pub never_empty : (k : ℕ) (p : Process) (es : Effect) (o : Option (List RuleUse)) → (us : List RuleUse) × (o ≡ Some us) × LeavesUnpaid (untrusted k) p us es → es ≡ [] → ⊥
never_empty k p es o (us, e, l) h = left_some k p us es l h

-- two answers that are not one
abbrev pub OneAudit : Type 0
OneAudit = (k : ℕ) (p : Process) (us : List RuleUse) (a b : Audited) → IsAudited k p us a → IsAudited k p us b → AreOneAnswer a b

unproved : (bytes : List ℕ) (f : File) (us : List RuleUse) (a : Answer) → IsRead bytes f → uses_of f.derivation ≡ Some us → (Proves us (untrusted f.process.names) f.process.process [] → ⊥) → (a.status ≡ No) × IsUnprovedLine bytes a.output.items → VerifiesTo bytes a.status a.output.items
unproved bytes f us a (tree, is, stands, marks) e none h =
    let wanted : VerifiesTo bytes No a.output.items = ((meant f, us, (tree, is, stands), e, none), h.1) in
    subst (λ s. VerifiesTo bytes s a.output.items) (sym h.0) wanted

pub unproved_step : (bytes : List ℕ) (f : File) (us : List RuleUse) (i : ℕ) (result : Result Answer Stop) → OneAudit → IsRead bytes f → uses_of f.derivation ≡ Some us → IsAudited f.process.names f.process.process us (WrongStep i) → IfOk result (λ a. (a.status ≡ No) × IsUnprovedLine bytes a.output.items) → IfOk result (λ a. VerifiesTo bytes a.status a.output.items)
unproved_step bytes f us i (Ok a) one r e w h = unproved bytes f us a r e (λ p. one f.process.names f.process.process us Proved (WrongStep i) p w) h
unproved_step bytes f us i (Err s) one r e w h = tt

pub unproved_unpaid : (bytes : List ℕ) (f : File) (us : List RuleUse) (e : declared.Effect) (result : Result Answer Stop) → OneAudit → IsRead bytes f → uses_of f.derivation ≡ Some us → IsAudited f.process.names f.process.process us (Unpaid e) → IfOk result (λ a. (a.status ≡ No) × IsUnprovedLine bytes a.output.items) → IfOk result (λ a. VerifiesTo bytes a.status a.output.items)
unproved_unpaid bytes f us e (Ok a) one r d l h = unproved bytes f us a r d (λ p. one f.process.names f.process.process us Proved (Unpaid e) p l) h
unproved_unpaid bytes f us e (Err s) one r d l h = tt
