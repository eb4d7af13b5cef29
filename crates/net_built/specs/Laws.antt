-- What is promised of what is built.
use Rattle.std.specs.Prelude.{◌≡◌, ℕ, List, [], Some, slice_get, ◌∷◌, length}
use Rattle.chw_base.specs.declared.index.WireId.{WireId}
use Rattle.chw_types.specs.declared.declarations.Data.{Data}
use Rattle.chw_types.specs.TypeTree.{TypeTree}
use Rattle.chw_terms.specs.declared.program.Program.{Program}
use Rattle.chw_terms.specs.declared.scene.Made.{Made}
use Rattle.chw_terms.specs.declared.scene.Sort.TheVariants.{Value, Circuit}
use Rattle.chw_terms.specs.TermTree.{TermTree, var}
use Rattle.netlist.specs.declared.net.Module.{Module}
use Rattle.netlist.specs.declared.net.Net.{Net}
use Rattle.normal_forms.specs.Normal.{IsNormal}
use Rattle.net_built.specs.Bodies.{BodyBuilt, ValueCells}
use Rattle.net_built.specs.Built.{Built}
use Rattle.net_built.specs.Circuits.{Ground}
use Rattle.net_built.specs.Loops.{HasNoLoops}
use Rattle.net_built.specs.Modules.{IsOrderOfModules, AreModules}
use Rattle.net_built.specs.InOrder.{DrivesInOrder}
use Rattle.net_built.specs.Terms.{Variable, wires_at}
use Rattle.net_built.specs.Wires.{Piece, wire_count}

-- a state has one order of modules
abbrev pub OneOrder : Type 0
OneOrder =
    (datas : List Data) (state : List Made) (a b : List ℕ)
    → IsOrderOfModules datas state a → IsOrderOfModules datas state b → a ≡ b

-- the body of a circuit has at most one list of inputs, one of cells and one of outputs
abbrev pub OneCircuit : Type 0
OneCircuit =
    (ground : Ground) (e : TermTree) (ins jns : List ℕ) (p q : Piece) (r v : List WireId)
    → BodyBuilt ground Circuit [] 0 e ins p r → BodyBuilt ground Circuit [] 0 e jns q v
    → (ins ≡ jns) × (p ≡ q) × (r ≡ v)

-- in no value of the state a binding leads back to itself
abbrev pub ValuesHaveNoLoops : List Made → Type 0
ValuesHaveNoLoops state =
    (m : ℕ) (it : Made) → slice_get state m ≡ Some it → it.sort ≡ Value → HasNoLoops it.body

-- made definitions have at most one list of modules
abbrev pub OneListOfModules : Type 0
OneListOfModules =
    (ground : Ground) (state : List Made) (ms : List ℕ) (a b : List Module)
    → ValuesHaveNoLoops state → AreModules ground state ms a → AreModules ground state ms b
    → a ≡ b

-- at most one net is built of a state in normal form
abbrev pub OneNetBuilt : Type 0
OneNetBuilt =
    (p : Program) (state : List Made) (a b : Net)
    → IsNormal p state → Built p state a → Built p state b → a ≡ b

-- the cells of a right side of values drive its wires in order, if a variable that it copies has as
-- many wires as the right side's width asks for
abbrev pub ValuesDriveInOrder : Type 0
ValuesDriveInOrder =
    (ground : Ground) (scope : List Variable) (n w : ℕ) (h : TermTree) (ts : List TypeTree)
    (es : List TermTree) (p : Piece)
    → ((x : ℕ) → h ≡ var x → length (wires_at scope x) ≡ wire_count (w ∷ []))
    → ValueCells ground scope n w h ts es p → DrivesInOrder n p
