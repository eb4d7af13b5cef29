-- What is promised of instances and the blocks of their bodies.
use Rattle.std.specs.Prelude.{◌≡◌, ℕ, zero, List, [], Some, slice_get}
use Rattle.chw_types.specs.TypeTree.{TypeTree}
use Rattle.chw_terms.specs.declared.scene.Made.{Made}
use Rattle.chw_terms.specs.TermTree.{TermTree}
use Rattle.chw_meaning.specs.Values.{History, Thunk, Thunks}
use Rattle.carrying.specs.TermLaws.{under_lambdas}
use Rattle.netlist.specs.declared.net.Module.{Module}
use Rattle.use_laws.specs.ValueIn.{IsModuleAt}
use Rattle.net_built.specs.Built.{ground_of}
use Rattle.net_built.specs.Circuits.{place_in}
use Rattle.net_built.specs.Modules.{IsModuleOf}
use Rattle.net_built.specs.Terms.{Variable}
use Rattle.net_means.specs.CircuitBits.Instances.{Design, Parameters, InstanceAt, BlockAt}

-- the module at the place of a made definition is the module of its body
abbrev pub ModulesAreTheirs : Type 0
ModulesAreTheirs =
    (d : Design) (m : ℕ) (inner : Module)
    → slice_get d.net.modules (place_in d.built.order m) ≡ Some inner
    → (it : Made) × (slice_get d.state m ≡ Some it)
    × IsModuleOf (ground_of d.program d.built.order) it inner

-- in an instance of a made definition, whose module this is, stands the block of the body, with the
-- parameters in scope and the module's outputs as its result
pub record BodyStands (d : Design) (inputs : List Thunk) (path : List ℕ) (h : History)
    (γ : Thunks) (it : Made) (inner : Module) : Type 0 where
  pub params : List TypeTree
  pub term : TermTree
  pub body : it.body ≡ under_lambdas params term
  pub scope : List Variable
  pub parameters : Parameters d.program.datas it.sort zero params [] scope
  pub stands :
      BlockAt d inputs path h
      (record {
        sort = it.sort;
        scope = scope;
        outside = γ;
        term = term;
        results = inner.outputs;
      })

-- so it is in each instance
abbrev pub BodiesStand : Type 0
BodiesStand =
    (d : Design) (inputs : List Thunk) (path : List ℕ) (h : History) (m : ℕ) (γ : Thunks)
    (it : Made) (inner : Module)
    → InstanceAt d inputs path h m γ → slice_get d.state m ≡ Some it
    → IsModuleAt d.net path inner → IsModuleOf (ground_of d.program d.built.order) it inner
    → BodyStands d inputs path h γ it inner
