-- The net of a normal form.
use Rattle.std.specs.Prelude.{ℕ, List}
use Rattle.chw_terms.specs.declared.program.Program.{Program}
use Rattle.chw_terms.specs.declared.scene.Made.{Made}
use Rattle.chw_meaning.specs.Means.{HasPorts}
use Rattle.netlist.specs.declared.net.Net.{Net}
use Rattle.net_built.specs.Circuits.{Ground}
use Rattle.net_built.specs.Modules.{IsOrderOfModules, AreModules}

-- what a program's bodies are built over
abbrev pub ground_of : Program → List ℕ → Ground
ground_of p order = record { datas = p.datas; order = order }

-- the net is what is built of the program's made definitions in normal form: it has the program's
-- ports, and the modules of the made definitions that have one, in order
pub record Built (p : Program) (state : List Made) (net : Net) : Type 0 where
  pub ports : HasPorts p net.ports
  pub order : List ℕ
  pub is_order : IsOrderOfModules p.datas state order
  pub modules : AreModules (ground_of p order) state order net.modules
