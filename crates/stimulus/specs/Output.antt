-- The printed lines: for each event its number, and the outputs of the domains that tick in it.
use Rattle.std.specs.Prelude.{ℕ, suc, Bool, List, [], ◌∷◌, ◌++◌, decimal, if◌then◌else◌}
use Rattle.chw_bits.specs.Hex.{hex_digits}
use Rattle.chw_clock.specs.Histories.{ticks}
use Rattle.chw_clock.specs.declared.event.Event.{Event}
use Rattle.chw_clock.specs.declared.event.Port.{Port}
use Rattle.chw_clock.specs.declared.event.Ports.{Ports}

-- an output whose domain ticks: a space, the name, `=` and the digits
abbrev pub output_text : Event → Port → List Bool → List ℕ
output_text event port bits =
    if ticks event port.dom then 32 ∷ (port.name ++ 61 ∷ hex_digits bits) else []

abbrev pub outputs_text : Event → List Port → List (List Bool) → List ℕ
outputs_text event (port ∷ ports) (bits ∷ outputs) =
    output_text event port bits ++ outputs_text event ports outputs
outputs_text event _ _ = []

-- the line of an event: its number, a colon, the outputs, and a line feed
abbrev pub line_text : ℕ → Ports → Event → List (List Bool) → List ℕ
line_text number ports event outputs =
    decimal number ++ 58 ∷ (outputs_text event ports.outputs outputs ++ 10 ∷ [])

-- the lines of events from a number on, each with its outputs
abbrev pub lines_from : ℕ → Ports → List Event → List (List (List Bool)) → List ℕ
lines_from number ports (event ∷ events) (outputs ∷ more) =
    line_text number ports event outputs ++ lines_from (suc number) ports events more
lines_from number ports _ _ = []

-- the printed lines of events
abbrev pub Lines : Ports → List Event → List (List (List Bool)) → List ℕ
Lines ports events outputs = lines_from 0 ports events outputs
