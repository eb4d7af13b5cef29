-- What is promised of what is ready to be built.
use Rattle.std.specs.Prelude.{◌≡◌, ℕ, suc, ◌≤◌, ◌<◌, List, length, Some}
use Rattle.std.specs.List.{slice_get, AllByRecursion}
use Rattle.chw_base.specs.declared.index.WireId.{WireId}
use Rattle.chw_types.specs.declared.declarations.Data.{Data}
use Rattle.chw_terms.specs.declared.program.Program.{Program}
use Rattle.chw_terms.specs.declared.scene.Made.{Made}
use Rattle.chw_terms.specs.declared.scene.Sort.TheVariants.{Value, Circuit}
use Rattle.chw_terms.specs.TermTree.{TermTree}
use Rattle.netlist.specs.declared.net.Module.{Module}
use Rattle.netlist.specs.declared.net.Net.{Net}
use Rattle.normal_forms.specs.Uses.{Uses, IsAcyclic}
use Rattle.net_built.specs.Bodies.{BlockBuilt}
use Rattle.net_built.specs.Built.{Built}
use Rattle.net_built.specs.Circuits.{Ground}
use Rattle.net_built.specs.Loops.{HasNoLoops}
use Rattle.net_built.specs.Modules.{HasOutputs, IsOrderOfModules, IsModuleOf}
use Rattle.net_built.specs.Terms.{Variable}
use Rattle.net_built.specs.Wires.{Piece}
use Rattle.net_ready.specs.Drafts.{Known, BlockDrafted, Passes, bindings_in}
use Rattle.net_ready.specs.Ready.{types_on, BlockReady, ModuleReady, StateReady}

-- the block of a circuit that is ready has cells and result wires, from each wire on
abbrev pub ReadyCircuitsAreBuilt : Type 0
ReadyCircuitsAreBuilt =
    (ground : Ground) (scope : List Variable) (n : ℕ) (e : TermTree)
    → BlockReady ground.datas Circuit (types_on scope) e
    → (p : Piece) × (wires : List WireId) × BlockBuilt ground Circuit scope n e p wires

-- of the block of a value that is ready there is a pass, whatever is known
abbrev pub DraftsAreThere : Type 0
DraftsAreThere =
    (ground : Ground) (known : Known) (at : ℕ) (scope : List Variable) (n : ℕ) (e : TermTree)
    → BlockReady ground.datas Value (types_on scope) e
    → (p : Piece) × (wires : List WireId) × (found : Known)
    × BlockDrafted ground known at scope n e p wires found

-- a pass that gives what was known builds the block
abbrev pub SettledDraftsAreBuilt : Type 0
SettledDraftsAreBuilt =
    (ground : Ground) (known found : Known) (scope : List Variable) (n : ℕ) (e : TermTree)
    (p : Piece) (wires : List WireId)
    → BlockDrafted ground known 0 scope n e p wires found → known ≡ found
    → BlockBuilt ground Value scope n e p wires

-- where no binding leads back to itself, there are at most as many passes as bindings, and one
-- more, that don't give what they knew
abbrev pub PassesAreFew : Type 0
PassesAreFew =
    (ground : Ground) (scope : List Variable) (n : ℕ) (e : TermTree) (k : ℕ) (known : Known)
    → HasNoLoops e → Passes ground scope n e k known → k ≤ suc (bindings_in e)

-- the block of a value that is ready, in which no binding leads back to itself, has cells and
-- result wires, from each wire on
abbrev pub ReadyValuesAreBuilt : Type 0
ReadyValuesAreBuilt =
    (ground : Ground) (scope : List Variable) (n : ℕ) (e : TermTree)
    → BlockReady ground.datas Value (types_on scope) e → HasNoLoops e
    → (p : Piece) × (wires : List WireId) × BlockBuilt ground Value scope n e p wires

-- a made definition that is ready has a module, whatever the order of the modules
abbrev pub ReadyModulesAreBuilt : Type 0
ReadyModulesAreBuilt =
    (ground : Ground) (it : Made) → ModuleReady ground.datas it
    → (built : Module) × IsModuleOf ground it built

-- where none uses itself, those that are used are there and so is the first one, and what each
-- gives has parts, there is an order of modules, of made definitions that are there
abbrev pub OrdersAreThere : Type 0
OrdersAreThere =
    (datas : List Data) (state : List Made)
    → IsAcyclic state → ((m n : ℕ) → Uses state m n → n < length state) → 0 < length state
    → ((m : ℕ) (it : Made) → slice_get state m ≡ Some it → (count : ℕ) × HasOutputs datas it count)
    → (order : List ℕ) × IsOrderOfModules datas state order
    × AllByRecursion (λ m. m < length state) order

-- a state that is ready has a net
abbrev pub ReadyStatesHaveNets : Type 0
ReadyStatesHaveNets =
    (p : Program) (state : List Made) → StateReady p state → (net : Net) × Built p state net
