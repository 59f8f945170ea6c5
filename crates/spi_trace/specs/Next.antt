-- What an event asks of those before it, so that events are paid.
use Rattle.std.specs.Prelude.{◌≡◌, ◌<◌, ⊤, List, ◌∷◌, ◌++◌}
use Rattle.spi_term.specs.Lists.{In}
use Rattle.spi_run.specs.Reduction.{Event, begun, ended, ended_many}
use Rattle.spi_run.specs.Safety.{begins_of, ends_of}
use Rattle.spi_trace.specs.declared.paid.Ends.{Ends}
use Rattle.spi_trace.specs.declared.paid.Ends.TheVariants.{Single, Many}

-- an end: fewer ends than begins of its label
abbrev pub EndIsPaid : List Event → Event → Type 0
EndIsPaid before (begun m) = ⊤
EndIsPaid before (ended m) = ends_of m before < begins_of m before
EndIsPaid before (ended_many m) = ⊤

-- an endmany: a begin of its label
abbrev pub ManyIsPaid : List Event → Event → Type 0
ManyIsPaid before (begun m) = ⊤
ManyIsPaid before (ended m) = ⊤
ManyIsPaid before (ended_many m) = In (begun m) before

abbrev pub IsPaidAs : Ends → List Event → Event → Type 0
IsPaidAs Single before e = EndIsPaid before e
IsPaidAs Many before e = ManyIsPaid before e

-- each event of a list, by those before it
abbrev pub Each : (List Event → Event → Type 0) → List Event → Type 0
Each P es = (pre : List Event) (e : Event) (post : List Event) → es ≡ pre ++ e ∷ post → P pre e
