-- A made definition that is ready has a module, and a state that is ready has a net.
use Rattle.std.proofs.Common.{◌≡◌, ℕ, ◌+◌, ◌<◌, List, [], ◌∷◌, ◌++◌, length, Some, refl, ap}
use Rattle.std.specs.List.{slice_get, AllByRecursion}
use Rattle.chw_base.specs.declared.index.WireId.{WireId}
use Rattle.chw_types.specs.TypeTree.{TypeTree}
use Rattle.chw_terms.specs.declared.program.Program.{Program}
use Rattle.chw_terms.specs.declared.scene.Made.{Made}
use Rattle.chw_terms.specs.declared.scene.Sort.{Sort}
use Rattle.chw_terms.specs.declared.scene.Sort.TheVariants.{Value, Circuit}
use Rattle.chw_terms.specs.TermTree.{TermTree}
use Rattle.netlist.specs.declared.net.Module.{Module}
use Rattle.netlist.specs.declared.net.Net.{Net}
use Rattle.net_built.specs.Bodies.{BlockBuilt, BodyBuilt, body_lambda, body_block}
use Rattle.net_built.specs.Built.{Built, ground_of}
use Rattle.net_built.specs.Circuits.{Ground}
use Rattle.net_built.specs.Loops.{HasNoLoops}
use Rattle.net_built.specs.Modules.{HasOutputs, IsModuleOf, AreModules}
use Rattle.net_built.specs.Terms.{Variable, variable}
use Rattle.net_built.specs.Wires.{wire_count, new_wires, present, Piece}
use Rattle.net_ready.specs.Ready.{types_on, BlockReady, BodyReady, ready_lambda, ready_block, ModuleReady, StateReady}
use Rattle.net_ready.proofs.MadeUsed.{made_there}
use Rattle.net_ready.proofs.OrdersThere.{order_there}
use Rattle.net_ready.proofs.PassesFew.{value_there}
use Rattle.net_ready.proofs.ReadyCircuits.{block_there}

any_block_there : (ground : Ground) (sort : Sort) (vars : List TypeTree) (e : TermTree) → BlockReady ground.datas sort vars e → (sort ≡ Value → HasNoLoops e) → (scope : List Variable) (n : ℕ) → types_on scope ≡ vars
    → (p : Piece) × (wires : List WireId) × BlockBuilt ground sort scope n e p wires
any_block_there ground Value vars e ready free scope n types = value_there ground scope n e (free refl) vars ready types
any_block_there ground Circuit vars e ready free scope n types = block_there ground ready scope n types

body_there : (ground : Ground) (sort : Sort) {vars : List TypeTree} {e : TermTree} → BodyReady ground.datas sort vars e → (sort ≡ Value → HasNoLoops e) → (scope : List Variable) (n : ℕ) → types_on scope ≡ vars
    → (inputs : List ℕ) × (p : Piece) × (outputs : List WireId) × BodyBuilt ground sort scope n e inputs p outputs
body_there ground sort (ready_lambda {t = t} {widths = widths} parts more) free scope n types =
    let below = body_there ground sort more free (variable t (new_wires n widths) ∷ scope) (n + wire_count widths) (ap (λ ts. t ∷ ts) types) in
    (present widths ++ below.0, below.1, below.2, body_lambda parts below.3)
body_there ground sort {vars} {e} (ready_block ready) free scope n types =
    let block = any_block_there ground sort vars e ready free scope n types in
    ([], block.0, block.1, body_block block.2)

pub module_there : (ground : Ground) (it : Made) → ModuleReady ground.datas it → (built : Module) × IsModuleOf ground it built
module_there ground it ready =
    let body = body_there ground it.sort ready.body ready.free [] 0 refl in
    let inputs : List ℕ = body.0 in
    let p : Piece = body.1 in
    let outputs : List WireId = body.2 in (
      record { inputs = length inputs; widths = inputs ++ p.widths; outputs = outputs; cells = p.cells },
      record { inputs = inputs; cells = p; body = body.3; are_inputs = refl; are_widths = refl; are_cells = refl },
    )

modules_there : (ground : Ground) (state : List Made) → ((m : ℕ) (it : Made) → slice_get state m ≡ Some it → ModuleReady ground.datas it) → (ms : List ℕ) → AllByRecursion (λ m. m < length state) ms
    → (built : List Module) × AreModules ground state ms built
modules_there ground state ready [] h = ([], tt)
modules_there ground state ready (m ∷ ms) h =
    let it = made_there state m h.0 in
    let first = module_there ground it.0 (ready m it.0 it.1) in
    let rest = modules_there ground state ready ms h.1 in
    (first.0 ∷ rest.0, ((it.0, it.1, first.1), rest.1))

pub net_there : (p : Program) (state : List Made) → StateReady p state → (net : Net) × Built p state net
net_there p state ready =
    let outputs : (m : ℕ) (it : Made) → slice_get state m ≡ Some it → (count : ℕ) × HasOutputs p.datas it count = λ m it is. ((ready.each m it is).outputs, (ready.each m it is).result) in
    let order = order_there p.datas state ready.acyclic ready.there outputs ready.first in
    let modules = modules_there (ground_of p order.0) state ready.each order.0 order.2 in (
      record { ports = ready.ports; modules = modules.0 },
      record { ports = ready.are_ports; order = order.0; is_order = order.1; modules = modules.1 },
    )
