-- The file's process beside its opponent part.
use Rattle.std.specs.Prelude.{◌≡◌, ℕ, List, [], Some, None, codes}
use Rattle.std.specs.declared.option.Option.{Option}
use Rattle.spi_text.specs.declared.lines.Span.{Span}
use Rattle.spi_tree.specs.Trees.{File}
use Rattle.spi_term.specs.Spelling.{Spelling, spelled}
use Rattle.spi_run.specs.Opponent.{IsOpponent}
use Rattle.spi_run.specs.Safety.{beside}
use Rattle.spi_opponent.specs.Allowed.{IsFirstOffence}
use Rattle.spi_replay.specs.Stepping.{Pooled}
use Rattle.spi_scope.specs.Files.{opponent_places}
use Rattle.spi_scope.specs.Places.{place_in}
use Rattle.spi_scope.specs.StandsFor.{Meant, StandsFor}
use Rattle.spi_commands.specs.Spelled.{IsTreeOf, SpellsFile}
use Rattle.spi_commands.specs.Refusals.{IsMissing}

-- the process at place 0 and the opponent at place 1, with at most so many places
abbrev pub replay_pool : ℕ → Meant → Spelling → Pooled
replay_pool most file o =
    record { configuration = beside file.process.names file.process.process o.process; most = most }

-- the file has this opponent part, and it is an opponent
abbrev pub HasOpponent : Meant → Spelling → Type 0
HasOpponent file o = (file.opponent ≡ Some o) × IsOpponent o.process

-- the file has no opponent part
abbrev pub LacksOpponent : List ℕ → ℕ → Option ℕ → List ℕ → Type 0
LacksOpponent bytes number offset shown =
    (file : Meant) × SpellsFile bytes file × (file.opponent ≡ None)
    × IsMissing (codes "opponent") number offset shown

-- where node number i of a tree's opponent part stands
abbrev pub opponent_at : File → ℕ → Span
opponent_at tree i = place_in (opponent_places tree.opponent) i

-- the opponent part of a tree's file is no opponent; this is the first node that no opponent has
pub data IsOffence (tree : File) (o : Spelling) : ℕ → Option ℕ → List ℕ → Type 0 where
  offence : {node : ℕ} → IsFirstOffence (spelled o.names o.process) node
      → IsOffence tree o 39 (Some (opponent_at tree node).from) []

abbrev pub HasOffence : List ℕ → ℕ → Option ℕ → List ℕ → Type 0
HasOffence bytes number offset shown =
    (tree : File) × (file : Meant) × (o : Spelling) × IsTreeOf bytes tree × StandsFor tree file
    × (file.opponent ≡ Some o)
    × IsOffence tree o number offset shown
