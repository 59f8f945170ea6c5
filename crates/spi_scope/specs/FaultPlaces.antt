-- Where the place of a fault is.
use Rattle.std.specs.Prelude.{ℕ, []}
use Rattle.spi_term.specs.Lists.{In}
use Rattle.spi_tree.specs.Trees as t
use Rattle.spi_tree.specs.Pieces.{opens, file_pieces}
use Rattle.spi_scope.specs.declared.fault.ScopeFault.{ScopeFault}
use Rattle.spi_scope.specs.declared.fault.ScopeFault.TheVariants.{UnknownName, UnknownType, NameTwice, TypeTwice, MessageTooLarge, TypeTooLarge, FileTooLarge, ScheduleTooLong, NoMemory}

-- where the span of a fault starts. Want of memory has none
abbrev pub span_from : ScopeFault → ℕ
span_from (UnknownName s w) = s.from
span_from (UnknownType s w) = s.from
span_from (NameTwice s w) = s.from
span_from (TypeTwice s w) = s.from
span_from (MessageTooLarge s n) = s.from
span_from (TypeTooLarge s n) = s.from
span_from (FileTooLarge s n) = s.from
span_from (ScheduleTooLong s n) = s.from
span_from NoMemory = 0

-- a node or a word of the tree starts at this offset
abbrev pub StartsAt : t.File → ℕ → Type 0
StartsAt tree from = In (opens from) (file_pieces tree [])
