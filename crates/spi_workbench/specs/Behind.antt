-- The nodes of a process that stands behind `new`s, and the types that these make. No public clause names it.
use Rattle.std.specs.Prelude.{◌≡◌, ℕ, ◌+◌, ◌-◌, drop, map}
use Rattle.spi_term.specs.Term.{Ty, un, Prefix, Recvs, Serves, Splits, Selects, Decrypts, Checks, Begins, Ends, EndManys, Casts, Freshes}
use Rattle.spi_term.specs.Names.{ProcessOver}
use Rattle.spi_term.specs.Spelling.{Shape, leaf_at, prefix_at, fork_at, spelled, Spelling}
use Rattle.spi_term.specs.View.{shape_of_form}
use Rattle.spi_term.specs.declared.term.Form.{Form}

-- a node whose processes stand n places earlier
abbrev pub earlier : ℕ → Shape → Shape
earlier n (leaf_at k l) = leaf_at k l
earlier n (prefix_at k s b) = prefix_at k s (b - n)
earlier n (fork_at k f a r) = fork_at k f (a - n) (r - n)

-- the new form is the old one, whose processes stand n places earlier
abbrev pub IsEarlier : ℕ → Form → Form → Type 0
IsEarlier n old new = (k : ℕ) → shape_of_form k new ≡ earlier n (shape_of_form k old)

-- a form with one process that takes a message apart, another one with one process, or one with none or two
pub data ShapeKind : Type 0 where
  opening_form : ShapeKind
  plain_form : ShapeKind
  end_or_fork : ShapeKind

abbrev pub kind_of_prefix : Prefix → ShapeKind
kind_of_prefix (Recvs m t) = plain_form
kind_of_prefix (Serves m t) = plain_form
kind_of_prefix (Splits m t u) = opening_form
kind_of_prefix (Selects m t n u) = opening_form
kind_of_prefix (Decrypts m t n) = opening_form
kind_of_prefix (Checks m n) = plain_form
kind_of_prefix (Begins m) = plain_form
kind_of_prefix (Ends m) = plain_form
kind_of_prefix (EndManys m) = plain_form
kind_of_prefix (Casts m t) = plain_form
kind_of_prefix (Freshes t) = plain_form

abbrev pub kind_of_form : Shape → ShapeKind
kind_of_form (leaf_at k l) = end_or_fork
kind_of_form (prefix_at k s b) = kind_of_prefix s
kind_of_form (fork_at k f a r) = end_or_fork

-- the part is the process behind the first n nodes, each of which binds a name
pub record StandsBehind (n : ℕ) (whole part : Spelling) : Type 0 where
  pub names : part.names ≡ whole.names + n
  pub over : ProcessOver part.names part.process
  pub nodes : map (earlier n) (drop n (spelled whole.names whole.process)) ≡ spelled part.names part.process

-- the type that a `new` makes
abbrev pub type_made : Shape → Ty
type_made (leaf_at k l) = un
type_made (prefix_at k (Recvs m t) b) = un
type_made (prefix_at k (Serves m t) b) = un
type_made (prefix_at k (Splits m t u) b) = un
type_made (prefix_at k (Selects m t n u) b) = un
type_made (prefix_at k (Decrypts m t n) b) = un
type_made (prefix_at k (Checks m n) b) = un
type_made (prefix_at k (Begins m) b) = un
type_made (prefix_at k (Ends m) b) = un
type_made (prefix_at k (EndManys m) b) = un
type_made (prefix_at k (Casts m t) b) = un
type_made (prefix_at k (Freshes t) b) = t
type_made (fork_at k f a r) = un
