use Rattle.std.proofs.Common.{refl}
use Rattle.spi_lex.specs.Numbered.{listed}
use Rattle.spi_heading.specs.Reading.{no_version, no_declared, no_shared}
use Rattle.spi_heading.proofs.Fronts.{declared_solid, shareds_solid, version_text, heading_fails}
use Rattle.spi_heading.proofs.heading.heading_at.Goals as goal

pub returns-in_err-version-clause-read : goal.returns-in_err-version-clause-read
returns-in_err-version-clause-read c = heading_fails (listed c.args.tokens.now) c.in_err-version.field-0.0 c.from_residual.result c.from_residual.ensures.1 (no_version c.in_err-version.ensures.read)

pub parts_at-requires : goal.parts_at-requires
parts_at-requires c = λ k. ((refl, tt), (version_text (listed c.args.tokens.now) c.requires.size c.requires.words (c.in_ok-version.version, c.in_ok-version.start) c.in_ok-version.ensures.read, (c.in_ok-version.ensures.within, declared_solid)))

pub returns-in_err-decls-clause-read : goal.returns-in_err-decls-clause-read
returns-in_err-decls-clause-read c =
    heading_fails (listed c.args.tokens.now) c.in_err-decls.field-0.0 c.from_residual-in_err-decls.result c.from_residual-in_err-decls.ensures.1
    (no_declared c.in_ok-version.version c.in_ok-version.start (record { read = c.in_ok-version.ensures.read; within = c.in_ok-version.ensures.within }) c.in_err-decls.ensures)

pub parts_at-requires-2 : goal.parts_at-requires-2
parts_at-requires-2 c = λ k. ((refl, tt), (version_text (listed c.args.tokens.now) c.requires.size c.requires.words (c.in_ok-version.version, c.in_ok-version.start) c.in_ok-version.ensures.read, (c.in_ok-decls.ensures.0.within, shareds_solid)))

pub returns-in_err-shared-clause-read : goal.returns-in_err-shared-clause-read
returns-in_err-shared-clause-read c =
    heading_fails (listed c.args.tokens.now) c.in_err-shared.field-0.0 c.from_residual-in_err-shared.result c.from_residual-in_err-shared.ensures.1
    (no_shared c.in_ok-version.version _ c.in_ok-decls.shared_start (record { start = c.in_ok-version.start; front = record { read = c.in_ok-version.ensures.read; within = c.in_ok-version.ensures.within }; decls = c.in_ok-decls.ensures }) c.in_err-shared.ensures)

pub returns-clause-read : goal.returns-clause-read
returns-clause-read c = record {
  start = c.in_ok-decls.shared_start;
  front = record { start = c.in_ok-version.start; front = record { read = c.in_ok-version.ensures.read; within = c.in_ok-version.ensures.within }; decls = c.in_ok-decls.ensures };
  shared = c.in_ok-shared.ensures;
}

pub returns-clause-text : goal.returns-clause-text
returns-clause-text c = version_text (listed c.args.tokens.now) c.requires.size c.requires.words (c.in_ok-version.version, c.in_ok-version.start) c.in_ok-version.ensures.read

pub returns-clause-within : goal.returns-clause-within
returns-clause-within c = c.in_ok-shared.ensures.0.within
