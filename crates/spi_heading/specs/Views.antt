-- What declared names are without where they lie in memory.
use Rattle.spi_tree.specs.Views.{ty_of}
use Rattle.spi_heading.specs.declared.shared.Named.{Named}
use Rattle.spi_heading.specs.declared.shared.Shared.{Shared}
use Rattle.spi_heading.specs.Headings as h

abbrev pub named_of : Named → h.Named
named_of x = record { name = x.name; ty = ty_of x.ty.value }

abbrev pub shared_of : Shared → h.Shared
shared_of s = record { span = s.span; name = s.name; ty = ty_of s.ty }
