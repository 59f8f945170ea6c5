-- What is kept of the use that is asked of a process at a node.
use Rattle.std.proofs.Common.{◌≡◌, ℕ, length, Result, Ok, Err, IfOk, sym, ap, ◌∙◌}
use Rattle.spi_term.specs.Term.{Message, Ty, Leaf, Serves, Splits, Casts, Freshes, Branches, Pars}
use Rattle.spi_term.specs.Spelling.{Shape, leaf_at, prefix_at, fork_at}
use Rattle.spi_rules.specs.Environment.{Env}
use Rattle.spi_rules.specs.declared.rule.Rule.{Rule}
use Rattle.spi_message.specs.Judging.{Numbered, Stands}
use Rattle.spi_message.proofs.Standing.{stand_length}
use Rattle.spi_count.specs.declared.keys.Keys.{Keys}
use Rattle.spi_audit.specs.declared.notes.Note.{Note}
use Rattle.spi_audit.specs.declared.notes.Note.TheVariants as N
use Rattle.spi_audit.specs.Changes.{one_left, two_left, served, chosen, made, cast_change, shape_change}
use Rattle.spi_audit.specs.Notes.{NotedAs, NotesNode, noted_empty, noted_one, noted_two, noted_serve, noted_branch, noted_both}
use Rattle.spi_audit.proofs.NoteChanges.{noted_as}

module _ (old new : Numbered) (ks : Keys) (rule : Rule) (x : Shape) where
  -- where the shape is known, a note for it in each environment
  node_as : (o : Note) (y : Shape) → x ≡ y → ((e : Env) → Stands old e → NotedAs new.store ks (shape_change rule e y) o) → NotesNode old new ks rule x o
  node_as o y q f = record { at = λ e s. noted_as new.store ks o (ap (shape_change rule e) q) (f e s) }

  -- forms with no process in them, and two processes side by side
  pub leaf_noted : (k : ℕ) (l : Leaf) → x ≡ leaf_at k l → NotesNode old new ks rule x N.Empty
  leaf_noted k l q = node_as N.Empty (leaf_at k l) q (λ e s. noted_empty)

  pub pars_noted : (k a b : ℕ) → x ≡ fork_at k Pars a b → NotesNode old new ks rule x N.Both
  pars_noted k a b q = node_as N.Both (fork_at k Pars a b) q (λ e s. noted_both)

  -- names that are bound
  module _ (k : ℕ) (scope : k ≡ length old.types) where
    as_long : (e : Env) → Stands old e → length e ≡ k
    as_long e s = sym (scope ∙ stand_length s)

    pub one_named : (y : Shape) → x ≡ y → ((e : Env) → shape_change rule e y ≡ one_left (length e)) → NotesNode old new ks rule x (N.LeaveOne k)
    one_named y q f = node_as (N.LeaveOne k) y q (λ e s. noted_as new.store ks (N.LeaveOne k) (f e ∙ ap one_left (as_long e s)) noted_one)

    pub two_named : (n b : ℕ) (m : Message) (t u : Ty) → x ≡ prefix_at n (Splits m t u) b → NotesNode old new ks rule x (N.LeaveTwo k)
    two_named n b m t u q = node_as (N.LeaveTwo k) (prefix_at n (Splits m t u) b) q (λ e s. noted_as new.store ks (N.LeaveTwo k) (ap two_left (as_long e s)) noted_two)

    pub serves_noted : (n b : ℕ) (m : Message) (t : Ty) → x ≡ prefix_at n (Serves m t) b → NotesNode old new ks rule x (N.Serve k)
    serves_noted n b m t q = node_as (N.Serve k) (prefix_at n (Serves m t) b) q (λ e s. noted_as new.store ks (N.Serve k) (ap served (as_long e s)) noted_serve)

    pub cases_noted : (n a b : ℕ) (m : Message) (t u : Ty) → x ≡ fork_at n (Branches m t u) a b → NotesNode old new ks rule x (N.Case k)
    cases_noted n a b m t u q = node_as (N.Case k) (fork_at n (Branches m t u) a b) q (λ e s. noted_as new.store ks (N.Case k) (ap chosen (as_long e s)) noted_branch)

    -- what a function of its own notes
    pub makes_noted : {E : Type 0} (r : Result Note E) (n b : ℕ) (t : Ty) → x ≡ prefix_at n (Freshes t) b → IfOk r (λ o. (keys : Keys) → NotedAs new.store keys (made k) o) → IfOk r (NotesNode old new ks rule x)
    makes_noted (Ok o) n b t q h = node_as o (prefix_at n (Freshes t) b) q (λ e s. noted_as new.store ks o (ap made (as_long e s)) (h ks))
    makes_noted (Err z) n b t q h = tt

    pub casts_noted : {E : Type 0} (r : Result Note E) (n b : ℕ) (m : Message) (t : Ty) → x ≡ prefix_at n (Casts m t) b → IfOk r (NotedAs new.store ks (cast_change rule k t)) → IfOk r (NotesNode old new ks rule x)
    casts_noted (Ok o) n b m t q h = node_as o (prefix_at n (Casts m t) b) q (λ e s. noted_as new.store ks o (ap (λ k. cast_change rule k t) (as_long e s)) h)
    casts_noted (Err z) n b m t q h = tt
