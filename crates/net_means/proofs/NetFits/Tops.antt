-- The last module that is built has the inputs and the outputs of the program's ports.
use Rattle.std.proofs.Common.{◌≡◌, ℕ, zero, suc, ◌+◌, ◌≤◌, arith, List, [], ◌∷◌, ◌++◌, length, map, Some, refl, sym, ap, ◌∙◌, subst, length-append}
use Rattle.std.specs.List.{slice_get}
use Rattle.std.proofs.lemmas.List.{length-map}
use Rattle.std.proofs.lemmas.Option.{slice_get_within}
use Rattle.chw_clock.specs.declared.event.Port.{Port}
use Rattle.chw_types.specs.declared.declarations.Data.{Data}
use Rattle.type_ports.specs.declared.ports.Leaf.{Leaf}
use Rattle.type_ports.specs.Ports.{Leaves}
use Rattle.chw_types.specs.TypeTree.{TypeTree}
use Rattle.type_laws.specs.SameKept.{FieldsKeepSame}
use Rattle.chw_terms.specs.declared.program.Program.{Program}
use Rattle.chw_terms.specs.declared.scene.Made.{Made}
use Rattle.chw_terms.specs.declared.scene.Sort.TheVariants.{Circuit}
use Rattle.chw_typing.specs.Scopes.{Setting}
use Rattle.chw_meaning.specs.Means.{LeadsFrom, leads_to, leads_from, PortsOf, no_ports, port_and, no_port_and}
use Rattle.layout_laws.specs.SameLayout.{SameKeepsMeasure}
use Rattle.netlist.specs.declared.net.Module.{Module}
use Rattle.netlist.specs.declared.net.Net.{Net}
use Rattle.net_rules.specs.PortsHold.{PortsHold}
use Rattle.normal_forms.specs.Normal.{IsNormal}
use Rattle.rewriting.specs.Steps.{origins_in}
use Rattle.rewriting.specs.Origins.{setting_at}
use Rattle.rule_types.specs.States.{IsTypedState, StatesHaveTypedOrigins}
use Rattle.chw_typing.specs.SpineLaws.{ConAtArguments, ConIsSaturated, PrimAtArguments}
use Rattle.net_built.specs.Built.{Built, ground_of}
use Rattle.net_built.specs.Data.{HaveWidths, HasParts, port_parts}
use Rattle.net_built.specs.Modules.{IsModuleOf}
use Rattle.net_built.specs.Terms.{result_of}
use Rattle.net_built.specs.Wires.{wire_count, present}
use Rattle.net_grounds.specs.Facts.{Facts}
use Rattle.normal_form.specs.Entries.{BeginsWithTop}
use Rattle.net_means.specs.NetFits.Laws.{TopKept}
use Rattle.net_means.proofs.NetFits.Beginning.{begins_with_circuit, begins_with_type}
use Rattle.net_means.proofs.NetFits.Calls.{ParamParts, no_params, param_and, body_params}
use Rattle.net_means.proofs.NetFits.Drivers.{module_at, as_many}
use Rattle.net_means.proofs.NetFits.Names.{names_there, circuit_outputs}
use Rattle.net_means.proofs.NetFits.Outputs.{outputs_counted}
use Rattle.net_means.proofs.NetFits.Ports.{payloads, present_append, split}
use Rattle.net_means.proofs.NetFits.Uses.{order_behind}

-- the widths of leaves that have ports, those of width 0 too
record PortWidths (datas : List Data) (ls : List Leaf) (ports : List Port) : Type 0 where
  pub widths : List ℕ
  pub have : HaveWidths datas (payloads ls) widths
  pub are : present widths ≡ map (λ (port : Port). port.width) ports

port_widths : {datas : List Data} {ls : List Leaf} {names : List (List ℕ)} {ports : List Port} → PortsOf datas ls names ports → PortWidths datas ls ports
port_widths no_ports = record { widths = []; have = tt; are = refl }
port_widths (port_and {w = w} h more) =
    let rest = port_widths more in record { widths = suc w ∷ rest.widths; have = (h, rest.have); are = ap (λ (ws : List ℕ). suc w ∷ ws) rest.are }
port_widths (no_port_and h more) = let rest = port_widths more in record { widths = zero ∷ rest.widths; have = (h, rest.have); are = rest.are }

-- the parts of a type's parameters are the leaves of the ports from which it leads, and its result
-- has the others
params_led : Facts → {datas : List Data} {t r : TypeTree} {inputs : List ℕ} {ins outs : List Leaf} → ParamParts datas Circuit t inputs r → LeadsFrom datas t ins outs → (ws : List ℕ) → HaveWidths datas (payloads ins) ws → (inputs ≡ present ws) × Leaves datas r outs
params_led facts (no_params asks) (leads_to l) [] h = (refl, l)
params_led facts (no_params asks) (leads_to l) (w ∷ ws) h = absurd h
params_led facts (no_params asks) (leads_from l more) ws h = absurd asks
params_led facts (param_and parts more) (leads_to l) ws h = elim l [ ]
params_led facts {datas} (param_and {ws = vs} {ins = left} parts more) (leads_from {ls = ls} {ins = ins} l rest) ws h =
    let s = split datas ls ins ws h in
    let first : vs ≡ s.first = facts.built.parts_once parts (port_parts l s.have) in
    let others = params_led facts more rest s.rest s.others in
    ((λ i. present (first i) ++ others.0 i) ∙ sym (present_append s.first s.rest) ∙ ap (λ ws. present ws) (sym s.are), others.1)

-- the ports are as wide as the first of these widths
in_front : (ports : List Port) (more : List ℕ) (k : ℕ) (port : Port) (width : ℕ) → slice_get ports k ≡ Some port → slice_get (map (λ (port : Port). port.width) ports ++ more) k ≡ Some width → port.width ≡ width
in_front [] more k port width e f = absurd cc
in_front (x ∷ ports) more zero port width e f =
    let is : x ≡ port = cc in
    let wide : x.width ≡ width = cc in
    ap (λ (x : Port). x.width) (sym is) ∙ wide
in_front (x ∷ ports) more (suc k) port width e f = in_front ports more k port width e f

last_there : (below : List ℕ) (m i n : ℕ) → i ≡ length below → slice_get (below ++ m ∷ []) i ≡ Some n → m ≡ n
last_there [] m zero n l e = cc
last_there [] m (suc i) n l e = absurd (omega (arith, l))
last_there (k ∷ below) m zero n l e = absurd (omega (arith, l))
last_there (k ∷ below) m (suc i) n l e = last_there below m i n (omega (arith, l)) e

module _ (facts : Facts) (keep : FieldsKeepSame) (law : SameKeepsMeasure) (con_args : ConAtArguments) (saturated : ConIsSaturated) (prim_args : PrimAtArguments) (typed_origins : StatesHaveTypedOrigins) (p : Program) (state : List Made) (net : Net) (of : Built p state net) (typed : IsTypedState p state) (normal : IsNormal p state) (begins : BeginsWithTop p state) (rules : PortsHold net.ports) where
  -- the module of the first made definition
  top_kept : (i : ℕ) → i ≤ length of.order → (it : Made) (built : Module) → slice_get net.modules i ≡ Some built → slice_get of.order i ≡ Some 0 → slice_get state 0 ≡ Some it → IsModuleOf (ground_of p of.order) it built → TopKept net i built
  top_kept i l it built here place is made_of =
      let s : Setting = setting_at (origins_in p state) in
      let sound = (typed_origins p state typed).sound in
      let body = normal.bodies 0 it is in
      let closed = (typed.each 0 it is).closed in
      let circuit = begins_with_circuit begins it is in
      let ports = of.ports in
      let type = begins_with_type begins it ports.it is ports.top.held in
      let ins = port_widths ports.inputs in
      let outs = port_widths ports.outputs in
      let params : ParamParts p.datas Circuit it.ty made_of.inputs (result_of it.ty) =
      subst (λ sort. ParamParts p.datas sort it.ty made_of.inputs (result_of it.ty)) circuit (body_params facts keep law s sound made_of.body body.under body.typed.has body.typed.same) in
      let led = params_led facts params (subst (λ t. LeadsFrom p.datas t ports.ins ports.outs) (sym type) ports.top.leads) ins.widths ins.have in
      let wide : made_of.inputs ≡ map (λ (port : Port). port.width) net.ports.inputs = led.0 ∙ ins.are in
      let parts : HasParts p.datas it.sort (result_of it.ty) outs.widths =
      subst (λ sort. HasParts p.datas sort (result_of it.ty) outs.widths) (sym circuit) (port_parts led.1 outs.have) in
      let counted : length built.outputs ≡ wire_count outs.widths =
      outputs_counted facts keep law s of.order it.sort it.body body.inner it.ty body.typed.type closed.kind body.path body.vars made_of.inputs made_of.cells built.outputs outs.widths sound made_of.body body.under body.typed.has closed.has body.typed.same (λ v. facts.built.normal_free p state normal 0 it is v) parts in
      let count_ins : length made_of.inputs ≡ length net.ports.inputs = ap (λ (ws : List ℕ). length ws) wide ∙ length-map net.ports.inputs (λ (port : Port). port.width) in
      let count_outs : wire_count outs.widths ≡ length net.ports.outputs = ap (λ (ws : List ℕ). length ws) outs.are ∙ length-map net.ports.outputs (λ (port : Port). port.width) in
      let before = (order_behind p state net of).each i 0 it place is in
      let widths : built.widths ≡ map (λ (port : Port). port.width) net.ports.inputs ++ made_of.cells.widths = made_of.are_widths ∙ ap (λ (ws : List ℕ). ws ++ made_of.cells.widths) wide in
      record {
        names = record {
          cells = (names_there facts keep law con_args saturated prim_args typed_origins p state net of typed normal i built here).cells;
          outputs = circuit_outputs facts keep law con_args saturated prim_args typed_origins p state net of typed normal i l 0 it built is before made_of circuit;
          top = λ last. record { rules = rules; inputs = sym (made_of.are_inputs ∙ count_ins); outputs = sym (counted ∙ count_outs) };
        };
        inputs = λ k port width e f. in_front net.ports.inputs made_of.cells.widths k port width e (subst (λ ws. slice_get ws k ≡ Some width) widths f);
      }

  pub last_kept : (i : ℕ) (built : Module) → slice_get net.modules i ≡ Some built → i + 1 ≡ length net.modules → TopKept net i built
  last_kept i built here last =
      let below : List ℕ = of.is_order.below in
      let at = module_at (ground_of p of.order) state of.order net.modules i built of.modules here in
      let many = as_many (ground_of p of.order) state of.order net.modules of.modules in
      let longer : length (below ++ 0 ∷ []) ≡ length below + 1 = length-append below (0 ∷ []) in
      let size : length of.order ≡ length (below ++ 0 ∷ []) = ap (λ (l : List ℕ). length l) of.is_order.whole in
      let end : i ≡ length below = omega (arith, last, many, longer, size) in
      let number : 0 ≡ at.number = last_there below 0 i at.number end (subst (λ l. slice_get l i ≡ Some at.number) of.is_order.whole at.here) in
      let within = slice_get_within of.order i at.number at.here in
      top_kept i (omega (arith, within)) at.it built here (subst (λ n. slice_get of.order i ≡ Some n) (sym number) at.here) (subst (λ n. slice_get state n ≡ Some at.it) (sym number) at.is) at.made_of
