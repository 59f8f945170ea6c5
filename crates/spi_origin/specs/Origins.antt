-- Origins: the nodes of a process that put an atom in its least effect.
use Rattle.std.specs.Prelude.{◌≡◌, ℕ, ◌+◌, ◌<◌, []}
use Rattle.spi_rules.specs.Blocking.{Child, NodeOf}
use Rattle.spi_rules.specs.Environment.{Env, untrusted}
use Rattle.spi_rules.specs.Least.{Least}
use Rattle.spi_rules.specs.Processes.{IsNonce}
use Rattle.spi_term.specs.Counts.{count}
use Rattle.spi_term.specs.Lists.{In}
use Rattle.spi_term.specs.Term.{Message, Atom, ends, checks, many, Effect, nonce, Process, check, end, end_many, cast}

-- the rule for the process's form adds the atom to the effect of what follows
pub data AddsToEffect (env : Env) : Process → Atom → Type 0 where
  adds_check : {m n : Message} {p : Process} {fs : Effect} → IsNonce [] env n fs
      → AddsToEffect env (check m n p) (checks m)
  adds_end : {m : Message} {p : Process} → AddsToEffect env (end m p) (ends m)
  adds_end_many : {m : Message} {p : Process} → AddsToEffect env (end_many m p) (many m)
  adds_cast : {a : Atom} {m : Message} {p : Process} {fs : Effect} → In a fs
      → AddsToEffect env (cast m (nonce fs) p) a

-- the atom stands in the least effect of the process
pub record IsLeft (a : Atom) (env : Env) (p : Process) : Type 0 where
  pub effect : Effect
  pub least : Least env p effect
  pub some : 0 < count a effect

-- IsOrigin a env p i: node i of p puts a in the least effect of p. The rule for the node's form adds it, and it is left in
-- the least effect of the node's process and of each process that the node stands in, up to p
pub data IsOrigin (a : Atom) : Env → Process → ℕ → Type 0 where
  origin_here : {env : Env} {p : Process} → IsLeft a env p → AddsToEffect env p a → IsOrigin a env p 0
  origin_below : {env env' : Env} {p p' : Process} {i j : ℕ}
      → IsLeft a env p → Child env p i env' p' → IsOrigin a env' p' j → IsOrigin a env p (i + j)

-- the same for the process of a node, where the k free names are untrusted, by the numbers of the whole process's nodes
abbrev pub IsOriginIn : ℕ → Process → ℕ → Atom → ℕ → Type 0
IsOriginIn k p node a i =
    (env : Env) × (q : Process) × (j : ℕ) × NodeOf (untrusted k) p node env q × IsOrigin a env q j
    × (i ≡ node + j)
