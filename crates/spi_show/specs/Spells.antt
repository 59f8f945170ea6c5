-- What a way to spell names means.
use Rattle.std.specs.Prelude.{ℕ, List}
use Rattle.spi_show.specs.declared.spell.NameSpelling.{NameSpelling}
use Rattle.spi_show.specs.declared.spell.NameSpelling.TheVariants.{Numbered, Named}
use Rattle.spi_show.specs.declared.spell.Spell.{Spell}
use Rattle.spi_show.specs.Spelled.{name_text, numbered_text}

abbrev pub name_spelling : NameSpelling → ℕ → List ℕ
name_spelling Numbered = numbered_text
name_spelling (Named free s) = name_text s free.now

abbrev pub spelling : Spell → ℕ → List ℕ
spelling s = name_spelling s.names
