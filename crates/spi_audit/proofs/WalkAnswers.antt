-- What an audit answers, where each use fits.
use Rattle.std.proofs.Common.{◌≡◌, sym, subst, ℕ, List, [], ◌∷◌, length}
use Rattle.std.specs.Prelude.{Vec}
use Rattle.std.specs.declared.alloc.Global.{Global}
use Rattle.spi_term.specs.Term.{Process}
use Rattle.spi_term.specs.Names.{ProcessOver}
use Rattle.spi_rules.specs.Environment.{untrusted}
use Rattle.spi_rules.specs.Derivations.{RuleUse}
use Rattle.spi_intern.specs.declared.store.Store.{Store}
use Rattle.spi_audit.specs.declared.audited.Audited.{Audited}
use Rattle.spi_count.specs.declared.keys.Keys.{Keys}
use Rattle.spi_audit.specs.declared.notes.Note.{Note}
use Rattle.spi_audit.specs.declared.walking.Walk.TheVariants as W
use Rattle.spi_audit.specs.Fits.{of_process}
use Rattle.spi_audit.specs.Audit.{IsAudited}
use Rattle.spi_audit.specs.Changes.{Change, AreScoped}
use Rattle.spi_count.specs.Keeping.{AreKept}
use Rattle.spi_audit.specs.Notes.{AreNoted, IsRooted}
use Rattle.spi_audit.specs.Settled.{IsSettled}
use Rattle.spi_audit.specs.Walking.{IsWalked}
use Rattle.spi_audit.proofs.Settling.{root_scoped, settled_audited}

module _ (r s : Store) (ks : Keys) (k : ℕ) (p : Process) (us : List RuleUse) (notes : Vec Note Global) (e : r ≡ s) (over : ProcessOver k p) (w : IsWalked s ks (of_process (untrusted k) p) us (W.Fitting notes)) where
  noted : AreNoted r ks w.0 notes.items
  noted = subst (λ s. AreNoted s ks w.0 notes.items) (sym e) w.2

  pub fitting_rooted : AreKept s ks → IsRooted r ks notes.items
  fitting_rooted h = record { changes = w.0; names = length (untrusted k); kept = subst (λ s. AreKept s ks) (sym e) h; noted = noted; scoped = root_scoped k p over w.1 }

  pub fitting_audited : (a : Audited) → ((cs : List Change) (n : ℕ) → AreNoted r ks cs notes.items → AreScoped (n ∷ []) cs → IsSettled cs a) → IsAudited k p us a
  fitting_audited a h = settled_audited k p us w.0 a over w.1 (h w.0 (length (untrusted k)) noted (root_scoped k p over w.1))
