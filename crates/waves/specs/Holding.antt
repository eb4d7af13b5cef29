-- What a printer of waves holds.
use Rattle.std.specs.Prelude.{◌≡◌, ℕ, ◌+◌, ◌<◌, ◌==◌, Bool, true, if◌then◌else◌}
use Rattle.std.specs.Prelude.{List, [], ◌∷◌, ◌++◌, length, map}
use Rattle.chw_bits.specs.Bitwise.{one_bit}
use Rattle.chw_clock.specs.declared.event.Event.{Event}
use Rattle.chw_clock.specs.declared.event.Port.{Port}
use Rattle.chw_clock.specs.declared.event.Ports.{Ports}
use Rattle.verilog_text.specs.Text.{clock_names}
use Rattle.waves.specs.Vcd.{Vcd, event_text, header_text, values_at}
use Rattle.waves.specs.declared.values.Values.{Values}

-- the ports, how many events were printed, the values at the last time, of which there are none
-- before the first event, and the text
pub record Printed : Type 0 where
  pub ports : Ports
  pub events : ℕ
  pub last : List (List Bool)
  pub text : List ℕ

-- what is held before the first event
abbrev pub no_events : Ports → Printed
no_events ports = record { ports = ports; events = 0; last = []; text = header_text ports }

-- what is held with one event more
abbrev pub with_event : Event → List (List Bool) → Printed → Printed
with_event event outputs it = record {
  ports = it.ports;
  events = it.events + 1;
  last = values_at it.ports true event outputs;
  text = it.text ++ event_text it.events it.ports it.last event outputs;
}

-- the values at the last time of these events, and before the first event these values
abbrev pub last_values : Ports → List (List Bool) → List Event → List (List (List Bool))
    → List (List Bool)
last_values ports last (event ∷ events) (outputs ∷ others) =
    last_values ports (values_at ports true event outputs) events others
last_values ports last _ _ = last

-- the text is that of these events, each with its outputs
pub record HoldsVcd (events : List Event) (outputs : List (List (List Bool))) (it : Printed)
    : Type 0 where
  pub each : length outputs ≡ length events
  pub count : it.events ≡ length events
  pub last : it.last ≡ last_values it.ports [] events outputs
  pub text : it.text ≡ Vcd it.ports events outputs

-- all values of a table, in the order of the variables
abbrev pub listed : Values → List (List Bool)
listed values = map one_bit values.levels.items ++ (values.inputs.items ++ values.outputs.items)

-- the values of a table that were shown, when so many events were printed
abbrev pub shown : ℕ → Values → List (List Bool)
shown events values = if events == 0 then [] else listed values

-- the widths of ports
abbrev pub widths : List Port → List ℕ
widths = map (λ port. port.width)

-- the table has the levels of all clocks and resets, once an event was printed, and values of the
-- widths of the inputs and the outputs
pub record FitsTable (ports : Ports) (events : ℕ) (values : Values) : Type 0 where
  pub levels : 0 < events
      → length values.levels.items ≡ length (clock_names ports.resets 0 ports.domains)
  pub inputs : map length values.inputs.items ≡ widths ports.inputs
  pub outputs : map length values.outputs.items ≡ widths ports.outputs
