use Rattle.std.proofs.Common.{◌≡◌, ℕ, suc, Bool, true, not, ◌&&◌, subst, sym, IfOk}
use Rattle.spi_term.specs.Term.{Effect}
use Rattle.spi_effect.specs.Made.{are_many, mentions, is_within}
use Rattle.spi_intern.specs.declared.store.Store.{Store}
use Rattle.spi_intern.specs.Table.{TellsAll}
use Rattle.spi_intern.specs.Atoms.{SaysAtom}
use Rattle.spi_audit.specs.declared.notes.Note.{Note}
use Rattle.spi_audit.specs.declared.notes.Note.TheVariants as N
use Rattle.spi_count.specs.Keeping.{IsKeyed, HaveKeys}
use Rattle.spi_audit.specs.Accounts.{Held, LeavesOne, LeavesTwo}
use Rattle.spi_count.specs.Sums.{Below}
use Rattle.spi_audit.specs.Notes.{ChangesOne}
use Rattle.spi_audit.proofs.Turning.{same_one, leave_one_changes, leave_two_changes, serve_changes, taken_changes, if_ok}
use Rattle.spi_audit.proofs.changing.change_one.Goals as goal

pub returns-in-Same : goal.returns-in-Same
returns-in-Same c = subst (λ (o : Note). ChangesOne c.args.store.now c.args.keys.now o c.args.account.now true c.args.account.now) (sym c.in-Same.is) (same_one c.args.store.now c.args.keys.now c.args.account.now)

pub returns-in-LeaveOne : goal.returns-in-LeaveOne
returns-in-LeaveOne c =
    subst (λ (o : Note). IfOk c.leave_one.result (λ (b : Bool). ChangesOne c.args.store.now c.args.keys.now o c.args.account.now b c.leave_one.new.account)) (sym c.in-LeaveOne.is)
    (if_ok {P = λ (b : Bool). LeavesOne c.args.store.now c.args.keys.now c.in-LeaveOne.scope c.args.account.now b c.leave_one.new.account} {Q = λ (b : Bool). ChangesOne c.args.store.now c.args.keys.now (N.LeaveOne c.in-LeaveOne.scope) c.args.account.now b c.leave_one.new.account} c.leave_one.result
    (λ r l. leave_one_changes c.args.store.now c.args.keys.now c.in-LeaveOne.scope c.args.account.now c.leave_one.new.account r l) c.leave_one.ensures)

pub returns-in-LeaveTwo : goal.returns-in-LeaveTwo
returns-in-LeaveTwo c =
    subst (λ (o : Note). IfOk c.leave_two.result (λ (b : Bool). ChangesOne c.args.store.now c.args.keys.now o c.args.account.now b c.leave_two.new.account)) (sym c.in-LeaveTwo.is)
    (if_ok {P = λ (b : Bool). LeavesTwo c.args.store.now c.args.keys.now c.in-LeaveTwo.scope c.args.account.now b c.leave_two.new.account} {Q = λ (b : Bool). ChangesOne c.args.store.now c.args.keys.now (N.LeaveTwo c.in-LeaveTwo.scope) c.args.account.now b c.leave_two.new.account} c.leave_two.result
    (λ r l. leave_two_changes c.args.store.now c.args.keys.now c.in-LeaveTwo.scope c.args.account.now c.leave_two.new.account r l) c.leave_two.ensures)

pub returns-in-Serve : goal.returns-in-Serve
returns-in-Serve c =
    subst (λ (o : Note). IfOk c.serve.result (λ (b : Bool). ChangesOne c.args.store.now c.args.keys.now o c.args.account.now b c.serve.new.account)) (sym c.in-Serve.is)
    (if_ok {P = λ (b : Bool). (es : Effect) → Held c.args.store.now c.args.keys.now (suc c.in-Serve.scope) c.args.account.now es → Held c.args.store.now c.args.keys.now c.in-Serve.scope c.serve.new.account es × (b ≡ are_many es && not (mentions c.in-Serve.scope es))} {Q = λ (b : Bool). ChangesOne c.args.store.now c.args.keys.now (N.Serve c.in-Serve.scope) c.args.account.now b c.serve.new.account} c.serve.result
    (λ r l. serve_changes c.args.store.now c.args.keys.now c.in-Serve.scope c.args.account.now c.serve.new.account r l) c.serve.ensures)

pub returns-in-Taken : goal.returns-in-Taken
returns-in-Taken c =
    subst (λ (o : Note). IfOk c.written_over.result (λ (b : Bool). ChangesOne c.args.store.now c.args.keys.now o c.args.account.now b c.written_over.new.account)) (sym c.in-Taken.is)
    (if_ok {P = λ (b : Bool). (s : Store) (fs es : Effect) (k : ℕ) → IsKeyed s c.args.keys.now → TellsAll (SaysAtom s.messages) c.deref.result.now fs → HaveKeys s c.args.keys.now fs → Below k fs → Held s c.args.keys.now k c.args.account.now es → Held s c.args.keys.now k c.written_over.new.account fs × (b ≡ is_within es fs)} {Q = λ (b : Bool). ChangesOne c.args.store.now c.args.keys.now (N.Taken c.in-Taken.ids) c.args.account.now b c.written_over.new.account} c.written_over.result
    (λ r l. taken_changes c.args.store.now c.args.keys.now c.in-Taken.ids c.args.account.now c.written_over.new.account r c.requires.before.keyed (λ fs es k t g w h. l c.args.store.now fs es k c.requires.before.keyed (subst (λ xs. TellsAll (SaysAtom c.args.store.now.messages) xs fs) (sym c.deref.ensures.value) t) g w h)) c.written_over.ensures)
