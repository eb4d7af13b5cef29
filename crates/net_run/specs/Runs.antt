-- The run of a flat net.
use Rattle.std.specs.Prelude.{◌≡◌, ℕ, Bool, List, [], ◌∷◌}
use Rattle.chw_clock.specs.declared.event.Event.{Event}
use Rattle.netlist.specs.NetValue.{ReadValues}
use Rattle.netlist.specs.declared.net.Flat.{Flat}
use Rattle.stimulus.specs.Output.{Lines}
use Rattle.waves.specs.Vcd.{Vcd}

-- behind a past, the latest event first, come these events, and at each of them the outputs have
-- these bits, which are those at the history up to it
pub data OutputsAt (flat : Flat)
    : (past events : List Event) → List (List (List Bool)) → Type 0 where
  none : (past : List Event) → OutputsAt flat past [] []
  more : (past events : List Event) (event : Event) (outputs : List (List Bool))
      (others : List (List (List Bool))) → ReadValues flat (event ∷ past) flat.outputs outputs
      → OutputsAt flat (event ∷ past) events others
      → OutputsAt flat past (event ∷ events) (outputs ∷ others)

-- the text has the lines of the events, with the outputs at each of them
pub record IsRun (flat : Flat) (events : List Event) (text : List ℕ) : Type 0 where
  pub outputs : List (List (List Bool))
  pub shown : OutputsAt flat [] events outputs
  pub text_is : text ≡ Lines flat.ports events outputs

-- the text has the waves of the events, with the outputs at each of them
pub record IsWaveRun (flat : Flat) (events : List Event) (text : List ℕ) : Type 0 where
  pub outputs : List (List (List Bool))
  pub shown : OutputsAt flat [] events outputs
  pub text_is : text ≡ Vcd flat.ports events outputs
