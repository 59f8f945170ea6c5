use Rattle.std.proofs.Common.{refl, string_bytes}
use Rattle.spi_commands.proofs.PlayAnswers.{refused_line}
use Rattle.spi_commands.proofs.play.refused.Goals as goal

pub returns-in_ok-shown-in-BadPick-clause-ok : goal.returns-in_ok-shown-in-BadPick-clause-ok
returns-in_ok-shown-in-BadPick-clause-ok c =
    refused_line c.args.bytes.now (string_bytes c.in_ok-shown-in-BadPick.shown) 70 c.args.fault.now _ c.placeless.result c.in-BadPick.is (λ e. cc) refl c.in_ok-shown-in-BadPick.ensures.ok c.placeless.ensures.ok

pub returns-in_ok-shown-in-RunMessageTooLarge-clause-ok : goal.returns-in_ok-shown-in-RunMessageTooLarge-clause-ok
returns-in_ok-shown-in-RunMessageTooLarge-clause-ok c =
    refused_line c.args.bytes.now (string_bytes c.in_ok-shown-in-RunMessageTooLarge.shown) 71 c.args.fault.now _ c.placeless-in-RunMessageTooLarge.result c.in-RunMessageTooLarge.is (λ e. cc) refl c.in_ok-shown-in-RunMessageTooLarge.ensures.ok c.placeless-in-RunMessageTooLarge.ensures.ok

pub returns-in_ok-shown-in-TooManyPlaces-clause-ok : goal.returns-in_ok-shown-in-TooManyPlaces-clause-ok
returns-in_ok-shown-in-TooManyPlaces-clause-ok c =
    refused_line c.args.bytes.now (string_bytes c.in_ok-shown-in-TooManyPlaces.shown) 72 c.args.fault.now _ c.placeless-in-TooManyPlaces.result c.in-TooManyPlaces.is (λ e. cc) refl c.in_ok-shown-in-TooManyPlaces.ensures.ok c.placeless-in-TooManyPlaces.ensures.ok
