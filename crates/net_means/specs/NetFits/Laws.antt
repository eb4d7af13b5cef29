-- What is promised of what is built.
use Rattle.std.specs.Prelude.{◌≡◌, ℕ, ◌+◌, ◌<◌, ◌≤◌, List, [], ◌∷◌, length, take, Some, slice_get}
use Rattle.std.specs.List.{AllByRecursion}
use Rattle.chw_base.specs.declared.index.WireId.{WireId}
use Rattle.chw_clock.specs.declared.event.Port.{Port}
use Rattle.chw_clock.specs.declared.event.Ports.{Ports}
use Rattle.chw_types.specs.TypeTree.{TypeTree}
use Rattle.chw_terms.specs.declared.program.Program.{Program}
use Rattle.chw_terms.specs.declared.rule.Rule.{Rule}
use Rattle.chw_terms.specs.declared.scene.Made.{Made}
use Rattle.chw_terms.specs.declared.scene.Sort.TheVariants.{Value, Circuit}
use Rattle.chw_terms.specs.TermTree.{TermTree}
use Rattle.chw_layout.specs.Measured.{HasWidth as TypeHasWidth}
use Rattle.chw_meaning.specs.Means.{HasPorts}
use Rattle.chw_typing.specs.Programs.{IsSound}
use Rattle.chw_typing.specs.Scopes.{Setting}
use Rattle.chw_typing.specs.Typing.{HasType}
use Rattle.netlist.specs.Sound.{IsWire}
use Rattle.netlist.specs.declared.net.Module.{Module}
use Rattle.netlist.specs.declared.net.Net.{Net}
use Rattle.net_rules.specs.PortsHold.{PortsHold}
use Rattle.net_rules.specs.WellFormed.{DriversHold, LimitsHold, NamesExist, NamesHold}
use Rattle.net_rules.specs.WellFormed.{Together, WellFormed, WidthsHold}
use Rattle.rewriting.specs.Named.{UnderLambdas}
use Rattle.rewriting.specs.Origins.{Origins, setting_at}
use Rattle.rewriting.specs.Runs.{Run, Step}
use Rattle.normal_forms.specs.Circuits.{IsCircuitBody}
use Rattle.normal_forms.specs.Normal.{IsNormal}
use Rattle.rule_types.specs.States.{IsTypedState}
use Rattle.normal_form.specs.Entries.{BeginsWithTop}
use Rattle.net_built.specs.Bodies.{BodyBuilt}
use Rattle.net_built.specs.Built.{Built, ground_of}
use Rattle.net_built.specs.Circuits.{Ground}
use Rattle.net_built.specs.InOrder.{DrivesInOrder}
use Rattle.net_built.specs.Loops.{HasNoLoops}
use Rattle.net_built.specs.Modules.{IsModuleOf}
use Rattle.net_built.specs.Terms.{result_of}
use Rattle.net_built.specs.Wires.{Piece, present}
use Rattle.net_means.specs.NetFits.Widths.{AreWide}

-- what terms typed over this are built over, with modules in this order
abbrev pub ground_over : Setting → List ℕ → Ground
ground_over s order = record { datas = s.datas; order = order }

-- the cells of a typed value's body, where no binding leads back to itself, drive its wires in
-- order, from behind the inputs on, each one once
abbrev pub ValueBodiesDriveInOrder : Type 0
ValueBodiesDriveInOrder =
    (s : Setting) (order : List ℕ) (e : TermTree) (t : TypeTree) (inputs : List ℕ) (p : Piece)
    (outputs : List WireId)
    → IsSound s → HasType s [] [] e t → HasNoLoops e
    → BodyBuilt (ground_over s order) Value [] 0 e inputs p outputs
    → DrivesInOrder (length inputs) p

-- and the cells of a typed circuit's body in normal form drive its wires in order, from behind the
-- inputs on, each one once
abbrev pub CircuitBodiesDriveInOrder : Type 0
CircuitBodiesDriveInOrder =
    (o : Origins) (order : List ℕ) (e inner : TermTree) (ty t : TypeTree) (path : List ℕ)
    (vars : List TypeTree) (inputs : List ℕ) (p : Piece) (outputs : List WireId)
    → IsSound (setting_at o) → HasType (setting_at o) [] [] e t
    → UnderLambdas [] e ty path vars inner → IsCircuitBody o inner
    → BodyBuilt (ground_over (setting_at o) order) Circuit [] 0 e inputs p outputs
    → DrivesInOrder (length inputs) p

-- each module that is built of a typed normal state keeps the rule on drivers: each wire that is no
-- input is driven once, and if it isn't the last, it has an output
abbrev pub DriversAreKept : Type 0
DriversAreKept =
    (p : Program) (state : List Made) (net : Net) (i : ℕ) (m : Module)
    → IsTypedState p state → IsNormal p state → Built p state net
    → slice_get net.modules i ≡ Some m → DriversHold net i m

-- what is built has a module
abbrev pub HasModules : Type 0
HasModules =
    (p : Program) (state : List Made) (net : Net) → Built p state net → 1 ≤ length net.modules

-- what the cells of the module at this place of the net name exists: what they drive and read are
-- wires, their domains are of the net, and uses are of modules before, with as many inputs and
-- outputs; and the module's outputs are wires, if it has a wire
pub record NamesThere (net : Net) (i : ℕ) (m : Module) : Type 0 where
  pub cells : AllByRecursion
      (NamesExist (length net.ports.domains) (take i net.modules) m.widths) m.cells
  pub outputs : 1 ≤ length m.widths → AllByRecursion (IsWire m.widths) m.outputs

-- so it is in each module that is built of a typed normal state
abbrev pub NamesAreThere : Type 0
NamesAreThere =
    (p : Program) (state : List Made) (net : Net) (i : ℕ) (m : Module)
    → IsTypedState p state → IsNormal p state → Built p state net
    → slice_get net.modules i ≡ Some m → NamesThere net i m

-- the outputs of the module at a place of the order, which is that of a made definition of values,
-- are as wide as what it gives
abbrev pub ValueOutputsAreWide : Type 0
ValueOutputsAreWide =
    (p : Program) (state : List Made) (net : Net) (number w : ℕ) (it : Made) (m : Module)
    → IsTypedState p state → IsNormal p state → (of : Built p state net)
    → slice_get state number ≡ Some it → it.sort ≡ Value → IsModuleOf (ground_of p of.order) it m
    → TypeHasWidth p.datas (result_of it.ty) w → AreWide m.widths m.outputs (present (w ∷ []))

-- each module but the last that is built of a typed normal state has a wire
abbrev pub WiresAreThere : Type 0
WiresAreThere =
    (p : Program) (state : List Made) (net : Net) (i : ℕ) (m : Module)
    → IsTypedState p state → IsNormal p state → Built p state net
    → slice_get net.modules i ≡ Some m → i + 1 < length net.modules → 1 ≤ length m.widths

-- each state of a run begins with the program's top
abbrev pub RunsBeginWithTop : Type 0
RunsBeginWithTop =
    (rules : List Rule) (p : Program) (n : ℕ) (steps : List Step) (made : List Made)
    → Run rules p n steps made → BeginsWithTop p made

-- the module at this place of the net keeps the rule on names, and its first wires, which are its
-- inputs, are as wide as the ports
pub record TopKept (net : Net) (i : ℕ) (m : Module) : Type 0 where
  pub names : NamesHold net i m
  pub inputs : Together (λ (port : Port) width. port.width ≡ width) net.ports.inputs m.widths

-- so it is with the last module that is built of a typed normal state that begins with the top
abbrev pub TopsAreKept : Type 0
TopsAreKept =
    (p : Program) (state : List Made) (net : Net) (i : ℕ) (m : Module)
    → IsTypedState p state → IsNormal p state → Built p state net
    → BeginsWithTop p state
    → slice_get net.modules i ≡ Some m → i + 1 ≡ length net.modules → TopKept net i m

-- what isn't proved of the nets that are built: each module keeps the rules on widths and on limits
pub record KeepsTheRest (net : Net) : Type 0 where
  pub widths : (i : ℕ) (m : Module) → slice_get net.modules i ≡ Some m → WidthsHold net i m
  pub limits : (i : ℕ) (m : Module) → slice_get net.modules i ≡ Some m → LimitsHold net i m

-- with this, what is built of a typed normal state is well formed, if the state begins with the
-- top
abbrev pub BuiltIsWellFormed : Type 0
BuiltIsWellFormed =
    (p : Program) (state : List Made) (net : Net)
    → IsTypedState p state → IsNormal p state → Built p state net
    → BeginsWithTop p state → KeepsTheRest net → WellFormed net

-- so is what is built of a typed normal state to which a run leads
abbrev pub RunsBuildWellFormed : Type 0
RunsBuildWellFormed =
    (rules : List Rule) (p : Program) (n : ℕ) (steps : List Step) (state : List Made) (net : Net)
    → Run rules p n steps state → IsTypedState p state → IsNormal p state → Built p state net
    → KeepsTheRest net → WellFormed net

-- the ports of a typed state's program keep the rules on ports
abbrev pub PortsAreKept : Type 0
PortsAreKept =
    (p : Program) (state : List Made) (ports : Ports)
    → IsTypedState p state → HasPorts p ports → PortsHold ports
