-- What a net is built of.
use Rattle.std.specs.Prelude.{◌≡◌, ℕ, List, length, Some, slice_get}
use Rattle.chw_types.specs.declared.declarations.Data.{Data}
use Rattle.chw_terms.specs.declared.scene.Made.{Made}
use Rattle.netlist.specs.declared.net.Module.{Module}
use Rattle.net_built.specs.Circuits.{Ground}
use Rattle.net_built.specs.Modules.{IsModuleOf, IsOrderOfModules}
use Rattle.net_ready.specs.Ready.{ModuleReady}
use Rattle.net_build.specs.Marks.{AreBelow}

-- each made definition is ready to be built
abbrev pub EachIsReady : List Data → List Made → Type 0
EachIsReady datas state = (m : ℕ) (it : Made) → slice_get state m ≡ Some it → ModuleReady datas it

-- bodies are built over these data types, and the made definitions that have modules, which are
-- there, in their order
pub record IsGround (datas : List Data) (state : List Made) (ground : Ground) : Type 0 where
  pub datas_are : ground.datas ≡ datas
  pub is_order : IsOrderOfModules datas state ground.order
  pub below : AreBelow (length state) ground.order

-- the module at this place of the order: of the made definition that stands there
pub record IsModuleAt (ground : Ground) (state : List Made) (i : ℕ) (built : Module) : Type 0 where
  pub m : ℕ
  pub at : slice_get ground.order i ≡ Some m
  pub it : Made
  pub is : slice_get state m ≡ Some it
  pub is_module : IsModuleOf ground it built
