-- The shared net of a flat net, as one module.
use Rattle.std.specs.Prelude.{◌≡◌, ℕ, List, ◌++◌, length, map, take, slice_index}
use Rattle.net_flat.specs.Flattened.{IsFlatOf}
use Rattle.net_rules.specs.WellFormed.{WellFormed}
use Rattle.netlist.specs.Orders.{HasNoLoop}
use Rattle.netlist.specs.Sound.{Sound}
use Rattle.netlist.specs.declared.net.Flat.{Flat}
use Rattle.netlist.specs.declared.net.Module.{Module}
use Rattle.netlist.specs.declared.net.Net.{Net}
use Rattle.net_share.specs.Making.{AreMade}
use Rattle.net_share.specs.Renaming.{new_wires}
use Rattle.share_laws.specs.Shares.{Shares, as_net}
use Rattle.wire_classes.specs.declared.classes.Classes.{Classes}

-- the module has the inputs of the flat net, then these wires, and their cells
pub record IsModuleBy (flat : Flat) (c : Classes) (kept names : List ℕ) (m : Module) : Type 0 where
  pub inputs : m.inputs ≡ length flat.ports.inputs
  pub widths : m.widths
      ≡ take (length flat.ports.inputs) flat.widths ++ map (λ w. slice_index flat.widths w) kept
  pub outputs : m.outputs ≡ new_wires names flat.outputs
  pub cells : AreMade flat c names (length flat.ports.inputs) kept m.cells

-- the net is the shared net of the flat one, as one module
pub record IsShared (flat : Flat) (net : Net) : Type 0 where
  pub shared : Flat
  pub shares : Shares flat shared
  pub same : net ≡ as_net shared

-- so, and the net is well formed, its flat net is the shared one, and this is sound without a loop
pub record IsSharedNet (flat : Flat) (net : Net) : Type 0 where
  pub shared : Flat
  pub shares : Shares flat shared
  pub same : net ≡ as_net shared
  pub well_formed : WellFormed net
  pub flattens : IsFlatOf net shared
  pub sound : Sound shared
  pub no_loop : HasNoLoop shared
