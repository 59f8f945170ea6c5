-- Premises of a process's use, as the judge goes on.
use Rattle.std.proofs.Common.{◌≡◌, sym, ap, ◌∙◌, subst, ℕ, List, [], ◌∷◌, ◌++◌, length}
use Rattle.spi_term.specs.Term.{Message, Ty, Process}
use Rattle.spi_term.specs.Spelling.{Shape}
use Rattle.spi_rules.specs.Environment.{Env}
use Rattle.spi_intern.specs.Meaning.{Keeps}
use Rattle.spi_intern.specs.declared.store.Store.{Store}
use Rattle.spi_intern.proofs.Meanings.{means_keeps}
use Rattle.spi_message.proofs.Standing.{stand_length}
use Rattle.spi_message.specs.Judging.{Numbered, Stands, IsKept}
use Rattle.spi_audit.specs.declared.asked.Asked.{Asked}
use Rattle.spi_audit.specs.declared.asked.Asked.TheVariants as A
use Rattle.spi_audit.specs.declared.asked.Binding.{Binding}
use Rattle.spi_audit.specs.Fits.{of_process}
use Rattle.spi_audit.specs.Asked.{Bound, bound_none, bound_one, bound_two, Located, IsTypeAsked, IsBegun, BeginsWalk, begun_none, begun_next, AreOpen, open_processes}
use Rattle.spi_message.proofs.Tested.{stands_kept}

-- what is asked stays as the store grows
pub asked_later : {s r : Store} {a : Asked} {m : Message} {t : Ty} → Keeps s r → IsTypeAsked s a m t → IsTypeAsked r a m t
asked_later k h = record { id = h.id; ty = h.ty; is = h.is; at = k.messages.at _ _ h.at; means = means_keeps k h.means }

pub bound_later : {s r : Store} {b : Binding} {e : Env} → Keeps s r → Bound s b e → Bound r b e
bound_later k bound_none = bound_none
bound_later k (bound_one m) = bound_one (means_keeps k m)
bound_later k (bound_two m n) = bound_two (means_keeps k m) (means_keeps k n)

-- a process begins in what the judge stood for before
pub begins_later : (i j k l : Numbered) {node : ℕ} {types : Env → Env} {a : Asked} → IsKept i j → Keeps k.store l.store → BeginsWalk j k node types a → BeginsWalk i l node types a
begins_later i j k l {node = node} f g h = record {
  names = h.names;
  is = h.is ∙ ap (λ ids. A.Process node (length ids) h.names) f.types;
  bound = λ e s. bound_later g (h.bound e (stands_kept {j = i} {k = j} f s));
}

-- the process in an environment
pub is_begun : (j k : Numbered) (ss : List Shape) {node : ℕ} (types : Env → Env) {a : Asked} (e e' : Env) (p : Process) → e' ≡ e ++ types e → Stands j e → BeginsWalk j k node types a → Located ss node (e ++ types e) p → IsBegun k.store ss e a e' p
is_begun j k ss {node = node} types e e' p q s h l = record {
  node = node;
  names = h.names;
  types = types e;
  is = h.is ∙ ap (λ n. A.Process node n h.names) (stand_length s);
  bound = h.bound e s;
  env_is = q;
  located = subst (λ f. Located ss node f p) (sym q) l;
}

-- one process, behind messages
pub process_open : {s : Store} {ss : List Shape} {env e : Env} {a : Asked} {p : Process} → IsBegun s ss env a e p → AreOpen s ss env (a ∷ []) (of_process e p ∷ [])
process_open h = open_processes (begun_next h begun_none)

pub two_open : {s : Store} {ss : List Shape} {env e f : Env} {a b : Asked} {p q : Process} → IsBegun s ss env a e p → IsBegun s ss env b f q → AreOpen s ss env (a ∷ (b ∷ [])) (of_process e p ∷ (of_process f q ∷ []))
two_open h g = open_processes (begun_next h (begun_next g begun_none))
