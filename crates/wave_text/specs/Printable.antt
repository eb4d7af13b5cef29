-- What is printed as waves that are read back.
use Rattle.std.specs.Prelude.{◌≡◌, ◌*◌, ◌<◌, ◌≤◌, ◌^◌, Bool, List, length}
use Rattle.std.specs.List.{AllByRecursion}
use Rattle.chw_clock.specs.Histories.{HaveWidths}
use Rattle.chw_clock.specs.declared.event.Event.{Event}
use Rattle.chw_clock.specs.declared.event.Port.{Port}
use Rattle.chw_clock.specs.declared.event.Ports.{Ports}
use Rattle.net_rules.specs.PortsHold.{PortsHold}

-- it has a bit, and its width fits its type
abbrev pub HasBits : Port → Type 0
HasBits port = (1 ≤ port.width) × (port.width < 2 ^ 32)

-- the ports hold and have bits, the values have their widths, and the times fit their type
pub record ArePrintable (ports : Ports) (events : List Event) (outputs : List (List (List Bool)))
    : Type 0 where
  pub holds : PortsHold ports
  pub input_bits : AllByRecursion HasBits ports.inputs
  pub output_bits : AllByRecursion HasBits ports.outputs
  pub events_fit : AllByRecursion (λ event. HaveWidths ports.inputs event.inputs) events
  pub outputs_fit : AllByRecursion (HaveWidths ports.outputs) outputs
  pub each : length outputs ≡ length events
  pub few : 2 * length events ≤ 2 ^ 64
