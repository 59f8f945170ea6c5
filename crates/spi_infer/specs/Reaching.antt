-- The way from the root of a process to a node.
use Rattle.std.specs.Prelude.{◌≡◌, ℕ, ◌<◌, ◌≤◌, ◌++◌, ⊤}
use Rattle.spi_term.specs.Spelling.{Shape, leaf_at, prefix_at, fork_at}
use Rattle.spi_rules.specs.Environment.{Env}
use Rattle.spi_message.specs.Forms.{more, on_first, on_rest}

-- the process in a form that has the node `target` begins at place i, and the types in scope there are e'
abbrev pub Descends : Shape → ℕ → Env → ℕ → Env → Type 0
Descends (leaf_at k l) target e i e' = ⊤
Descends (prefix_at k s b) target e i e' = (i ≡ b) × (e' ≡ e ++ more e s)
Descends (fork_at k f a r) target e i e' =
    (target < r → (i ≡ a) × (e' ≡ e ++ on_first f)) × (r ≤ target → (i ≡ r) × (e' ≡ e ++ on_rest f))
