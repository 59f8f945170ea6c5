-- The text of a no.
use Rattle.std.specs.Prelude.{ℕ, List, [], ◌++◌, Some, codes}
use Rattle.std.specs.Fmt.{decimal}
use Rattle.spi_text.specs.declared.lines.Span.{Span}
use Rattle.spi_fault.specs.declared.fault.Reason.{Reason}
use Rattle.spi_fault.specs.declared.fault.Reason.TheVariants.{ChannelNotUn, DatumNotUn, BadType, WrongScrutinee, WrongKey, NotANonce, NotALabel, NotGenerative, BodyHasEffect, EffectEscapes, Unpaid, WrongFirst, BadCast}
use Rattle.spi_fault.specs.Faults.{Thing, nothing, the_message, the_atom, ToldFault}
use Rattle.spi_show.specs.Report.{message_text, reported_atom}
use Rattle.spi_report.specs.Refused.{place_text}

abbrev pub reason_number : Reason → ℕ
reason_number ChannelNotUn = 40
reason_number DatumNotUn = 41
reason_number BadType = 42
reason_number WrongScrutinee = 43
reason_number WrongKey = 44
reason_number NotANonce = 45
reason_number NotALabel = 46
reason_number NotGenerative = 47
reason_number BodyHasEffect = 48
reason_number EffectEscapes = 49
reason_number Unpaid = 50
reason_number WrongFirst = 51
reason_number BadCast = 52

abbrev pub reason_text : Reason → List ℕ
reason_text ChannelNotUn = codes "ChannelNotUn"
reason_text DatumNotUn = codes "DatumNotUn"
reason_text BadType = codes "BadType"
reason_text WrongScrutinee = codes "WrongScrutinee"
reason_text WrongKey = codes "WrongKey"
reason_text NotANonce = codes "NotANonce"
reason_text NotALabel = codes "NotALabel"
reason_text NotGenerative = codes "NotGenerative"
reason_text BodyHasEffect = codes "BodyHasEffect"
reason_text EffectEscapes = codes "EffectEscapes"
reason_text Unpaid = codes "Unpaid"
reason_text WrongFirst = codes "WrongFirst"
reason_text BadCast = codes "BadCast"

-- what it shows, if anything
abbrev pub thing_text : List (List ℕ) → Thing → List ℕ
thing_text names nothing = []
thing_text names (the_message m) = codes ": " ++ message_text names m
thing_text names (the_atom a) = codes ": " ++ reported_atom names a

-- `no: N Name at L:C: shown` and a LF, where the nodes stand at these places and have these names in scope
abbrev pub fault_text : List ℕ → (ℕ → Span) → (ℕ → List (List ℕ)) → ToldFault → List ℕ
fault_text bytes place spelled f =
    codes "no: " ++ decimal (reason_number f.reason) ++ codes " " ++ reason_text f.reason
    ++ place_text bytes (Some (place f.node).from) ++ thing_text (spelled f.scope_of) f.shown ++ codes "\n"
