use Rattle.std.proofs.Common.{◌≡◌, drop}
use Rattle.std.specs.List.{fold}
use Rattle.clap.specs.Words.{app_of}
use Rattle.spi_commands.specs.Options.{row_words, with_command}
use Rattle.spi_commands.proofs.options.with_forms.Given as goal

-- the rows so far have their forms
abbrev pub invariant-loop-row : goal.invariant-loop-row
invariant-loop-row g l = record {
  on : fold (with_command l.counted) (app_of l.initial.form) (row_words l.rows) ≡ fold (with_command l.counted) (app_of l.form) (row_words (drop l.row-index l.rows));
}
