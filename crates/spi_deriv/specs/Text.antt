-- The text of a derivation.
pub use Rattle.spi_show.specs.Derivations.{taken_text, use_text, uses_text, derivation_text}
