use Rattle.std.proofs.Common.{◌≡◌, ◌∙◌, sym, subst, map, true, true≢false}
use Rattle.std.specs.Prelude.{IfSome, string_bytes}
use Rattle.clap.specs.Words.{app_of, kind_of, rows_of, found_of, matches_of, subcommand_rows_of}
use Rattle.clap.specs.declared.error.kind.ErrorKind.TheVariants.{OutOfMemory}
use Rattle.spi_commands.specs.Asked.{AreNumbersKnown}
use Rattle.spi_commands.proofs.WordsTables.{asked_within}
use Rattle.spi_commands.proofs.WordsDashes.{dashes_ask_nothing}
use Rattle.spi_commands.proofs.WordsFound.{fault_asks_nothing, found_is_asked, same_kind}
use Rattle.spi_commands.proofs.asked.asked_of.Goals as goal

pub returns-then-has_dashes_in-clause-value : goal.returns-then-has_dashes_in-clause-value
returns-then-has_dashes_in-clause-value c = dashes_ask_nothing (map string_bytes c.args.words.now) c.args.players (sym c.has_dashes_in.ensures ∙ c.if-has_dashes_in.true)

pub returns-in-Ok-clause-value : goal.returns-in-Ok-clause-value
returns-in-Ok-clause-value c = found_is_asked (app_of c.in_ok-form.form) (map string_bytes c.args.words.now) c.args.players (subcommand_rows_of c.in-Ok.matches)
    (rows_of (found_of c.in-Ok.matches)) (matches_of (app_of c.in_ok-form.form) (map string_bytes c.args.words.now)) c.read_from.result
    c.in_ok-form.ensures (sym c.has_dashes_in.ensures ∙ c.if-has_dashes_in.false) c.in-Ok.ensures.kinds c.in-Ok.ensures.matches c.read_from.ensures

pub returns-in-Ok-clause-within : goal.returns-in-Ok-clause-within
returns-in-Ok-clause-within c = subst (λ o. IfSome o (AreNumbersKnown c.args.players)) (sym (returns-in-Ok-clause-value c)) (asked_within (map string_bytes c.args.words.now) c.args.players)

pub returns-in-Err-2-clause-value : goal.returns-in-Err-2-clause-value
returns-in-Err-2-clause-value c =
    let memory : kind_of c.in-Err-2.field-0 ≡ OutOfMemory → ⊥ = λ e.
    let kind : c.kind.result ≡ OutOfMemory = c.kind.ensures ∙ same_kind c.try_get_matches_from.result c.in-Err.e c.in-Err-2.field-0 c.in-Err.is c.in-Err-2.is ∙ e in
    let same : c.eq.result ≡ true = rw kind at c.eq.ensures in
    true≢false (sym same ∙ c.if-eq.false) in
    fault_asks_nothing (app_of c.in_ok-form.form) (map string_bytes c.args.words.now) c.args.players c.in-Err-2.field-0
    c.in_ok-form.ensures (sym c.has_dashes_in.ensures ∙ c.if-has_dashes_in.false) c.in-Err-2.ensures.kinds memory
