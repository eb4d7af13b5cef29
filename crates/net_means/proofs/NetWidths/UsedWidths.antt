-- Uses of modules that are built agree in width with the modules.
use Rattle.std.specs.Prelude.{IfSome}
use Rattle.std.proofs.Common.{◌≡◌, inl, inr, ℕ, zero, suc, ◌≤◌, arith, List, [], ◌∷◌, ◌++◌, length, map, take, Some, sym, ap, ◌∙◌, subst}
use Rattle.std.specs.List.{slice_get}
use Rattle.chw_base.specs.declared.index.WireId.{WireId}
use Rattle.chw_types.specs.declared.kind.Kind.{Kind}
use Rattle.chw_types.specs.TypeTree.{TypeTree}
use Rattle.type_laws.specs.SameKept.{FieldsKeepSame}
use Rattle.chw_terms.specs.declared.program.Program.{Program}
use Rattle.chw_terms.specs.declared.scene.Made.{Made}
use Rattle.chw_terms.specs.declared.scene.Sort.{Sort}
use Rattle.chw_terms.specs.declared.scene.Sort.TheVariants.{Value, Circuit}
use Rattle.chw_typing.specs.Scopes.{Setting, HasKind}
use Rattle.layout_laws.specs.SameLayout.{SameKeepsMeasure}
use Rattle.netlist.specs.Sound.{HasWidth}
use Rattle.netlist.specs.declared.net.Cell.TheVariants.{Use}
use Rattle.netlist.specs.declared.net.Module.{Module}
use Rattle.netlist.specs.declared.net.Net.{Net}
use Rattle.net_rules.specs.WellFormed.{AgreesUse, Together, WidthsAgree}
use Rattle.normal_forms.specs.Normal.{IsNormal}
use Rattle.rewriting.specs.Steps.{origins_in}
use Rattle.rewriting.specs.Origins.{MadeOf, Origins, setting_at, made_of}
use Rattle.rule_types.specs.States.{IsTypedState, StatesHaveTypedOrigins}
use Rattle.chw_typing.specs.SpineLaws.{PrimAtArguments}
use Rattle.net_built.specs.Bodies.{BodyBuilt}
use Rattle.net_built.specs.Built.{Built, ground_of}
use Rattle.net_built.specs.Circuits.{module_of}
use Rattle.net_built.specs.Data.{HasParts, value_part}
use Rattle.net_built.specs.Modules.{IsModuleOf}
use Rattle.net_built.specs.Terms.{operands_of, result_of, wires_at, wires_of_all}
use Rattle.net_built.specs.Wires.{present, wire_count, new_wires}
use Rattle.net_grounds.specs.Facts.{Facts}
use Rattle.net_means.proofs.Lists.{found_in_map, same_some}
use Rattle.net_means.specs.NetFits.Widths.{AreWide, StandFrom}
use Rattle.net_means.proofs.NetFits.Calls.{ParamParts, body_params, result_parts, lifted_on, lifted_parts}
use Rattle.net_means.proofs.NetFits.OutputWidths.{value_outputs}
use Rattle.net_means.proofs.NetFits.Outputs.{value_width}
use Rattle.net_means.proofs.NetFits.Uses.{BeforePlace, used_there}
use Rattle.net_means.proofs.NetFits.ValueWidths.{variable_wide}
use Rattle.net_means.proofs.NetFits.Wide.{all_stand, wide_from}
use Rattle.net_means.proofs.NetWidths.CallWidths.{VarWide, spine_called, called_whole, lifted_called, lifted_whole}
use Rattle.net_means.proofs.NetWidths.CircuitForms.{LiftedFit, CircuitsFit}
use Rattle.net_means.proofs.NetWidths.CircuitWalk.{circuit_outputs_wide}
use Rattle.net_means.proofs.NetWidths.PortsWide.{none_wide, port_wide, ports_held}
use Rattle.net_means.proofs.NetWidths.ValueSides.{ValuesFit}

-- wires as wide as the first ones of a module
together_front : (all : List ℕ) (reads : List WireId) (ins more : List ℕ) → AreWide all reads ins → Together (HasWidth all) reads (ins ++ more)
together_front all [] ins more h k x y e f = absurd cc
together_front all (a ∷ reads) [] more h k x y e f = absurd h
together_front all (a ∷ reads) (w ∷ ins) more h zero x y e f =
    let wire : a ≡ x = cc in
    let width : w ≡ y = cc in
    subst (λ a. HasWidth all a y) wire (subst (λ w. HasWidth all a w) width h.0)
together_front all (a ∷ reads) (w ∷ ins) more h (suc k) x y e f = together_front all reads ins more h.1 k x y e f

-- wires and others that are as wide
together_same : (all others : List ℕ) (drives outputs : List WireId) (ws : List ℕ) → AreWide all drives ws → AreWide others outputs ws → Together (λ (w : WireId) (output : WireId). slice_get all w.number ≡ slice_get others output.number) drives outputs
together_same all others [] outputs ws h g k x y e f = absurd cc
together_same all others (a ∷ drives) [] ws h g k x y e f = absurd cc
together_same all others (a ∷ drives) (b ∷ outputs) [] h g k x y e f = absurd h
together_same all others (a ∷ drives) (b ∷ outputs) (w ∷ ws) h g zero x y e f =
    let one : a ≡ x = cc in
    let other : b ≡ y = cc in
    sym (ap (λ (a : WireId). slice_get all a.number) one) ∙ h.0 ∙ sym g.0 ∙ ap (λ (b : WireId). slice_get others b.number) other
together_same all others (a ∷ drives) (b ∷ outputs) (w ∷ ws) h g (suc k) x y e f = together_same all others drives outputs ws h.1 g.1 k x y e f

module _ (facts : Facts) (keep : FieldsKeepSame) (law : SameKeepsMeasure) (prim_args : PrimAtArguments) (typed_origins : StatesHaveTypedOrigins) (p : Program) (state : List Made) (net : Net) (of : Built p state net) (typed : IsTypedState p state) (normal : IsNormal p state) where
  -- the outputs of a made definition's module are as wide as the parts of what it gives
  pub outputs_wide : (sort : Sort) (m : ℕ) (it : Made) (built : Module) (ws : List ℕ) → slice_get state m ≡ Some it → it.sort ≡ sort → IsModuleOf (ground_of p of.order) it built → HasParts p.datas sort (result_of it.ty) ws → AreWide built.widths built.outputs (present ws)
  outputs_wide Value m it built ws is value made_of parts =
      let w = value_width parts in
      subst (λ ws. AreWide built.widths built.outputs (present ws)) (sym w.2) (value_outputs facts law typed_origins p state net typed normal of m w.0 it built is value made_of w.1)
  outputs_wide Circuit m it built ws is circuit made_of parts =
      let o : Origins = origins_in p state in
      let sound = (typed_origins p state typed).sound in
      let body = normal.bodies m it is in
      let closed = (typed.each m it is).closed in
      let built_so : BodyBuilt (ground_of p of.order) Circuit [] 0 it.body made_of.inputs made_of.cells built.outputs =
      subst (λ (sort : Sort). BodyBuilt (ground_of p of.order) sort [] 0 it.body made_of.inputs made_of.cells built.outputs) circuit made_of.body in
      circuit_outputs_wide facts keep law o of.order sound built.widths built_so body.under body.typed.has closed.has body.typed.same (record { same = tt }) (none_wide p.datas built.widths)
      (subst (StandFrom built.widths 0) made_of.are_widths (all_stand built.widths)) ws parts

  type_known : (m : ℕ) (it : Made) → slice_get state m ≡ Some it → slice_get (setting_at (origins_in p state)).made m ≡ Some it.ty
  type_known m it is = found_in_map (λ (x : MadeOf). x.ty) (map made_of state) m (made_of it) (found_in_map made_of state m it is)

  sort_of : (m : ℕ) (it : MadeOf) (jt : Made) (sort : Sort) → slice_get (origins_in p state).made m ≡ Some it → it.sort ≡ sort → slice_get state m ≡ Some jt → jt.sort ≡ sort
  sort_of m it jt sort known value is =
      let same : made_of jt ≡ it = same_some (found_in_map made_of state m jt is) known in
      ap (λ (x : MadeOf). x.sort) same ∙ value

  -- a use of a made definition that stands before agrees with its module
  use_fits : (i : ℕ) → i ≤ length of.order → (sort : Sort) (m : ℕ) (it : MadeOf) → slice_get (origins_in p state).made m ≡ Some it → it.sort ≡ sort → BeforePlace p.datas state of.order i m → (all : List ℕ) (reads : List WireId) (n : ℕ) (ws : List ℕ) → StandFrom all n (present ws) → 1 ≤ wire_count ws
      → ((whole : TypeTree) → slice_get (setting_at (origins_in p state)).made m ≡ Some whole → HasParts p.datas sort (result_of whole) ws)
      → ((whole : TypeTree) (k : Kind) (ins : List ℕ) (r : TypeTree) → slice_get (setting_at (origins_in p state)).made m ≡ Some whole → HasKind (setting_at (origins_in p state)) [] whole k → ParamParts p.datas sort whole ins r → AreWide all reads ins)
      → WidthsAgree (take i net.modules) all (Use (module_of (ground_of p of.order) m) reads (new_wires n ws))
  use_fits i l sort m it known value (inl (jt, is, none)) all reads n ws stand some result inputs =
      let parts = subst (λ sort. HasParts p.datas sort (result_of jt.ty) ws) (sym (sort_of m it jt sort known value is)) (result jt.ty (type_known m jt is)) in
      let same : none.widths ≡ ws = facts.built.parts_once none.parts parts in
      let count : wire_count none.widths ≡ wire_count ws = ap (λ ws. wire_count ws) same in
      let are = none.are in
      absurd (omega (arith, some, count, are))
  use_fits i l sort m it known value (inr less) all reads n ws stand some result inputs =
      let u = used_there p state net of i m l less in
      let s : Setting = setting_at (origins_in p state) in
      let body = normal.bodies m u.it u.is in
      let sound = (typed_origins p state typed).sound in
      let closed = (typed.each m u.it u.is).closed in
      let sorts = sort_of m it u.it sort known value u.is in
      let params : ParamParts p.datas sort u.it.ty u.made_of.inputs (result_of u.it.ty) =
      subst (λ sort. ParamParts p.datas sort u.it.ty u.made_of.inputs (result_of u.it.ty)) sorts (body_params facts keep law s sound u.made_of.body body.under body.typed.has body.typed.same) in
      let outs : AreWide u.used.widths u.used.outputs (present ws) = outputs_wide sort m u.it u.used ws u.is sorts u.made_of (result u.it.ty (type_known m u.it u.is)) in
      let ins : AreWide all reads u.made_of.inputs = inputs u.it.ty closed.kind u.made_of.inputs (result_of u.it.ty) (type_known m u.it u.is) closed.has params in
      let agrees : AgreesUse all u.used reads (new_wires n ws) =
      record {
        inputs = subst (λ ws. Together (HasWidth all) reads ws) (sym u.made_of.are_widths) (together_front all reads u.made_of.inputs u.made_of.cells.widths ins);
        outputs = together_same all u.used.widths (new_wires n ws) u.used.outputs (present ws) (wide_from all n (present ws) stand) outs;
      } in
      subst (λ found. IfSome found (λ used. AgreesUse all used reads (new_wires n ws))) (sym u.found) agrees

  pub value_uses : (i : ℕ) → i ≤ length of.order → (all : List ℕ) → ValuesFit (origins_in p state) of.order (take i net.modules) all (λ m. BeforePlace p.datas state of.order i m)
  value_uses i l all = λ vars scope e m n w t u k it known value head types variables has kind same has_width fit wide before stand some.
      let s : Setting = setting_at (origins_in p state) in
      let sound = (typed_origins p state typed).sound in
      let each : VarWide s all Value vars scope =
      λ x t u k ws has kind same parts.
      let v = value_width parts in
      subst (λ ws. AreWide all (wires_at scope x) (present ws)) (sym v.2) (variable_wide facts law s all sound vars scope x t u k v.0 fit (wide x) has kind same v.1) in
      use_fits i l Value m it known value before all (wires_of_all scope (operands_of e)) n (w ∷ []) stand some
      (λ whole found. result_parts facts keep law s sound vars m whole found e t u k (w ∷ []) head types has kind same (value_part has_width))
      (λ whole j ins r found of_kind params.
      called_whole facts keep law s sound all t u k (w ∷ []) (wires_of_all scope (operands_of e)) ins r (spine_called facts s all Value vars scope m whole j ins r each found of_kind params e u head types variables has) kind same (value_part has_width))

  pub circuit_uses : (i : ℕ) → i ≤ length of.order → (all : List ℕ) → CircuitsFit (origins_in p state) of.order (take i net.modules) all (λ m. BeforePlace p.datas state of.order i m)
  circuit_uses i l all = λ vars scope e m n ws t u k it known circuit head types variables has kind same parts fit wide before stand some.
      let s : Setting = setting_at (origins_in p state) in
      let sound = (typed_origins p state typed).sound in
      let each : VarWide s all Circuit vars scope = λ x t u k ws has kind same parts. port_wide facts keep law s sound all vars scope x t u k ws fit wide has kind same parts in
      use_fits i l Circuit m it known circuit before all (wires_of_all scope (operands_of e)) n ws stand some
      (λ whole found. result_parts facts keep law s sound vars m whole found e t u k ws head types has kind same parts)
      (λ whole j ins r found of_kind params.
      called_whole facts keep law s sound all t u k ws (wires_of_all scope (operands_of e)) ins r (spine_called facts s all Circuit vars scope m whole j ins r each found of_kind params e u head types variables has) kind same parts)

  pub lifted_uses : (i : ℕ) → i ≤ length of.order → (all : List ℕ) → LiftedFit (origins_in p state) of.order (take i net.modules) all (λ m. BeforePlace p.datas state of.order i m)
  lifted_uses i l all = λ vars scope e count m lifted n ws t u k it known value has kind same parts fit wide scoped before stand some.
      let s : Setting = setting_at (origins_in p state) in
      let sound = (typed_origins p state typed).sound in
      use_fits i l Value m it known value before all (wires_of_all scope (lifted_on lifted)) n ws stand some
      (λ whole found. lifted_parts facts keep law prim_args s sound vars scope fit (ports_held s all scope wide) scoped whole found lifted t u k ws has kind same parts)
      (λ whole j ins r found of_kind params.
      lifted_whole facts keep law prim_args s sound all vars scope fit wide scoped t u k ws (wires_of_all scope (lifted_on lifted)) ins r (lifted_called facts keep law prim_args s sound all vars scope fit wide scoped m whole j ins r found of_kind params lifted u has) kind same parts)
