-- The last module that is built has outputs as wide as the program's ports.
use Rattle.std.proofs.Common.{◌≡◌, ℕ, zero, suc, ◌+◌, arith, List, [], ◌∷◌, ◌++◌, length, map, Some, refl, sym, ap, subst, length-append}
use Rattle.std.specs.List.{slice_get}
use Rattle.chw_base.specs.declared.index.WireId.{WireId}
use Rattle.chw_clock.specs.declared.event.Port.{Port}
use Rattle.chw_types.specs.declared.declarations.Data.{Data}
use Rattle.type_ports.specs.declared.ports.Leaf.{Leaf}
use Rattle.type_ports.specs.Ports.{Leaves}
use Rattle.chw_types.specs.TypeTree.{TypeTree}
use Rattle.type_laws.specs.SameKept.{FieldsKeepSame}
use Rattle.chw_terms.specs.declared.program.Program.{Program}
use Rattle.chw_terms.specs.declared.scene.Made.{Made}
use Rattle.chw_terms.specs.declared.scene.Sort.TheVariants.{Circuit}
use Rattle.chw_typing.specs.Scopes.{Setting}
use Rattle.chw_meaning.specs.Means.{LeadsFrom, leads_to, leads_from, PortsOf, no_ports, port_and, no_port_and}
use Rattle.layout_laws.specs.SameLayout.{SameKeepsMeasure}
use Rattle.netlist.specs.Sound.{HasWidth}
use Rattle.netlist.specs.declared.net.Module.{Module}
use Rattle.netlist.specs.declared.net.Net.{Net}
use Rattle.net_rules.specs.PortsHold.{PortsHold}
use Rattle.net_rules.specs.WellFormed.{Together, TopWidthsHold}
use Rattle.normal_forms.specs.Normal.{IsNormal}
use Rattle.rewriting.specs.Steps.{origins_in}
use Rattle.rewriting.specs.Origins.{setting_at}
use Rattle.rule_types.specs.States.{IsTypedState, StatesHaveTypedOrigins}
use Rattle.chw_typing.specs.SpineLaws.{ConAtArguments, ConIsSaturated, PrimAtArguments}
use Rattle.net_built.specs.Built.{Built, ground_of}
use Rattle.net_built.specs.Data.{HaveWidths, port_parts}
use Rattle.net_built.specs.Modules.{IsModuleOf}
use Rattle.net_built.specs.Terms.{result_of}
use Rattle.net_built.specs.Wires.{present}
use Rattle.net_grounds.specs.Facts.{Facts}
use Rattle.normal_form.specs.Entries.{BeginsWithTop}
use Rattle.net_means.specs.NetFits.Widths.{AreWide}
use Rattle.net_means.proofs.NetFits.Beginning.{begins_with_circuit, begins_with_type}
use Rattle.net_means.proofs.NetFits.Calls.{ParamParts, no_params, param_and, body_params}
use Rattle.net_means.proofs.NetFits.Drivers.{module_at, as_many}
use Rattle.net_means.proofs.NetFits.Ports.{payloads}
use Rattle.net_means.proofs.NetFits.Tops.{last_kept}
use Rattle.net_means.proofs.NetWidths.UsedWidths.{outputs_wide}

-- the widths of leaves that have ports, those of width 0 too
record PortWidths (datas : List Data) (ls : List Leaf) (ports : List Port) : Type 0 where
  pub widths : List ℕ
  pub have : HaveWidths datas (payloads ls) widths
  pub are : present widths ≡ map (λ (port : Port). port.width) ports

port_widths : {datas : List Data} {ls : List Leaf} {names : List (List ℕ)} {ports : List Port} → PortsOf datas ls names ports → PortWidths datas ls ports
port_widths no_ports = record { widths = []; have = tt; are = refl }
port_widths (port_and {w = w} h more) =
    let rest = port_widths more in record { widths = suc w ∷ rest.widths; have = (h, rest.have); are = ap (λ (ws : List ℕ). suc w ∷ ws) rest.are }
port_widths (no_port_and h more) = let rest = port_widths more in record { widths = zero ∷ rest.widths; have = (h, rest.have); are = rest.are }

-- the result of a type that leads to a port has the port's leaves
result_led : {datas : List Data} {t r : TypeTree} {inputs : List ℕ} {ins outs : List Leaf} → ParamParts datas Circuit t inputs r → LeadsFrom datas t ins outs → Leaves datas r outs
result_led (no_params asks) (leads_to l) = l
result_led (no_params asks) (leads_from l more) = absurd asks
result_led (param_and parts more) (leads_to l) = elim l [ ]
result_led (param_and parts more) (leads_from l rest) = result_led more rest

-- wires as wide as ports
together_ports : (all : List ℕ) (ports : List Port) (wires : List WireId) → AreWide all wires (map (λ (port : Port). port.width) ports) → Together (λ (port : Port) (w : WireId). HasWidth all w port.width) ports wires
together_ports all [] wires h k x y e f = absurd cc
together_ports all (port ∷ ports) [] h k x y e f = absurd cc
together_ports all (port ∷ ports) (a ∷ wires) h zero x y e f =
    let is : port ≡ x = cc in
    let wire : a ≡ y = cc in
    subst (λ (port : Port). HasWidth all y port.width) is (subst (λ a. HasWidth all a port.width) wire h.0)
together_ports all (port ∷ ports) (a ∷ wires) h (suc k) x y e f = together_ports all ports wires h.1 k x y e f

last_there : (below : List ℕ) (m i n : ℕ) → i ≡ length below → slice_get (below ++ m ∷ []) i ≡ Some n → m ≡ n
last_there [] m zero n l e = cc
last_there [] m (suc i) n l e = absurd (omega (arith, l))
last_there (k ∷ below) m zero n l e = absurd (omega (arith, l))
last_there (k ∷ below) m (suc i) n l e = last_there below m i n (omega (arith, l)) e

module _ (facts : Facts) (keep : FieldsKeepSame) (law : SameKeepsMeasure) (con_args : ConAtArguments) (saturated : ConIsSaturated) (prim_args : PrimAtArguments) (typed_origins : StatesHaveTypedOrigins) (p : Program) (state : List Made) (net : Net) (of : Built p state net) (typed : IsTypedState p state) (normal : IsNormal p state) (begins : BeginsWithTop p state) (rules : PortsHold net.ports) where
  -- the module of the first made definition
  top_outputs : (it : Made) (built : Module) → slice_get state 0 ≡ Some it → IsModuleOf (ground_of p of.order) it built → Together (λ (port : Port) (w : WireId). HasWidth built.widths w port.width) net.ports.outputs built.outputs
  top_outputs it built is made_of =
      let s : Setting = setting_at (origins_in p state) in
      let sound = (typed_origins p state typed).sound in
      let body = normal.bodies 0 it is in
      let circuit = begins_with_circuit begins it is in
      let ports = of.ports in
      let type = begins_with_type begins it ports.it is ports.top.held in
      let outs = port_widths ports.outputs in
      let params : ParamParts p.datas Circuit it.ty made_of.inputs (result_of it.ty) =
      subst (λ sort. ParamParts p.datas sort it.ty made_of.inputs (result_of it.ty)) circuit (body_params facts keep law s sound made_of.body body.under body.typed.has body.typed.same) in
      let led : Leaves p.datas (result_of it.ty) ports.outs = result_led params (subst (λ t. LeadsFrom p.datas t ports.ins ports.outs) (sym type) ports.top.leads) in
      let wide = outputs_wide facts keep law prim_args typed_origins p state net of typed normal Circuit 0 it built outs.widths is circuit made_of (port_parts led outs.have) in
      together_ports built.widths net.ports.outputs built.outputs (subst (AreWide built.widths built.outputs) outs.are wide)

  pub top_widths : (i : ℕ) (built : Module) → slice_get net.modules i ≡ Some built → i + 1 ≡ length net.modules → TopWidthsHold net.ports built
  top_widths i built here last =
      let below : List ℕ = of.is_order.below in
      let at = module_at (ground_of p of.order) state of.order net.modules i built of.modules here in
      let many = as_many (ground_of p of.order) state of.order net.modules of.modules in
      let longer : length (below ++ 0 ∷ []) ≡ length below + 1 = length-append below (0 ∷ []) in
      let size : length of.order ≡ length (below ++ 0 ∷ []) = ap (λ (l : List ℕ). length l) of.is_order.whole in
      let end : i ≡ length below = omega (arith, last, many, longer, size) in
      let number : 0 ≡ at.number = last_there below 0 i at.number end (subst (λ l. slice_get l i ≡ Some at.number) of.is_order.whole at.here) in
      record {
        inputs = (last_kept facts keep law con_args saturated prim_args typed_origins p state net of typed normal begins rules i built here last).inputs;
        outputs = top_outputs at.it built (subst (λ n. slice_get state n ≡ Some at.it) (sym number) at.is) at.made_of;
      }
