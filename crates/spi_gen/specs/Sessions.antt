-- So many sessions of the handshake beside one another.
use Rattle.std.specs.Prelude.{◌≡◌, ℕ, ◌+◌, ◌-◌, ◌/◌, ◌≤◌, None}
use Rattle.spi_tree.specs.Trees as t
use Rattle.spi_gen.specs.Handshake.{handshake, declarations}
use Rattle.spi_tree.specs.Trees.{nowhere}

mutual
  -- n sessions in the place of a process: one alone, or one half, rounded up, beside the other
  pub data AreBeside : ℕ → t.Proc → Type 0 where
    one_session : AreBeside 1 handshake
    two_halves : {n m : ℕ} {p q : t.Proc} → 2 ≤ n → m ≡ (n + 1) / 2 → AreGrouped m p → AreGrouped (n - m) q
        → AreBeside n (t.par nowhere p q)

  -- n sessions in the place of a part: one alone, or several in parentheses
  pub data AreGrouped : ℕ → t.Proc → Type 0 where
    alone : AreGrouped 1 handshake
    in_parentheses : {n : ℕ} {p q : t.Proc} → 2 ≤ n → AreBeside n (t.par nowhere p q)
        → AreGrouped n (t.group nowhere p q)

-- the file of n sessions
pub record IsSessions (n : ℕ) (file : t.File) : Type 0 where
  pub span : file.span ≡ nowhere
  pub version : file.version ≡ 1
  pub decls : file.decls ≡ declarations
  pub process : AreBeside n file.process
  pub opponent : file.opponent ≡ None
  pub schedule : file.schedule ≡ None
  pub derivation : file.derivation ≡ None
