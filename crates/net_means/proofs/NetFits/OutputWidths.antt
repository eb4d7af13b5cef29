-- The outputs of modules of values are as wide as what these give; each module but the last has a wire.
use Rattle.std.proofs.Common.{◌≡◌, ℕ, suc, ◌+◌, ◌<◌, ◌≤◌, arith, List, [], ◌∷◌, length, Some, refl, sym, ap, subst}
use Rattle.std.specs.List.{slice_get, AllByRecursion}
use Rattle.std.proofs.lemmas.Option.{slice_get_within}
use Rattle.chw_base.specs.declared.index.WireId.{WireId}
use Rattle.type_laws.specs.SameKept.{FieldsKeepSame}
use Rattle.chw_terms.specs.declared.program.Program.{Program}
use Rattle.chw_terms.specs.declared.scene.Made.{Made}
use Rattle.chw_terms.specs.declared.scene.Sort.{Sort}
use Rattle.chw_terms.specs.declared.scene.Sort.TheVariants.{Value, Circuit}
use Rattle.chw_typing.specs.Scopes.{Setting}
use Rattle.chw_layout.specs.Measured.{HasWidth}
use Rattle.layout_laws.specs.SameLayout.{SameKeepsMeasure}
use Rattle.netlist.specs.Sound.{IsWire}
use Rattle.netlist.specs.declared.net.Module.{Module}
use Rattle.netlist.specs.declared.net.Net.{Net}
use Rattle.rewriting.specs.Origins.{Origins, setting_at}
use Rattle.rewriting.specs.Steps.{origins_in}
use Rattle.normal_forms.specs.Normal.{HasForm, IsNormal}
use Rattle.normal_forms.specs.Values.{IsBlock}
use Rattle.rule_types.specs.States.{IsTypedState, StatesHaveTypedOrigins}
use Rattle.chw_typing.specs.SpineLaws.{ConAtArguments, ConIsSaturated, PrimAtArguments}
use Rattle.net_built.specs.Bodies.{BodyBuilt}
use Rattle.net_built.specs.Built.{Built, ground_of}
use Rattle.net_built.specs.Data.{HasParts}
use Rattle.net_built.specs.Modules.{IsModuleOf, HasOutputs}
use Rattle.net_built.specs.Terms.{result_of}
use Rattle.net_built.specs.Wires.{present, wire_count}
use Rattle.net_grounds.specs.Facts.{Facts}
use Rattle.net_means.proofs.Lists.{same_some}
use Rattle.net_means.specs.NetFits.Widths.{AreWide, StandFrom}
use Rattle.net_means.proofs.NetFits.Drivers.{module_at, has_output, some_outputs}
use Rattle.net_means.proofs.NetFits.Names.{circuit_outputs}
use Rattle.net_means.proofs.NetFits.Outputs.{value_width}
use Rattle.net_means.proofs.NetFits.Uses.{order_behind}
use Rattle.net_means.proofs.NetFits.ValueWidths.{body_wide, none_wide}
use Rattle.net_means.proofs.NetFits.Wide.{all_stand, wide_length, wide_some}

some_wire : (all : List ℕ) (ws : List WireId) → AllByRecursion (IsWire all) ws → 1 ≤ length ws → 1 ≤ length all
some_wire all [] h l = absurd (omega (arith, l))
some_wire all (w ∷ ws) h l = let here = h.0 in omega (arith, here)

module _ (facts : Facts) (law : SameKeepsMeasure) (typed_origins : StatesHaveTypedOrigins) (p : Program) (state : List Made) (net : Net) (typed : IsTypedState p state) (normal : IsNormal p state) (of : Built p state net) where
  pub value_outputs : (number w : ℕ) (it : Made) (built : Module) → slice_get state number ≡ Some it → it.sort ≡ Value → IsModuleOf (ground_of p of.order) it built → HasWidth p.datas (result_of it.ty) w → AreWide built.widths built.outputs (present (w ∷ []))
  value_outputs number w it built is value made_of has =
      let o : Origins = origins_in p state in
      let s : Setting = setting_at o in
      let sound = (typed_origins p state typed).sound in
      let body = normal.bodies number it is in
      let closed = (typed.each number it is).closed in
      let built_so : BodyBuilt (ground_of p of.order) Value [] 0 it.body made_of.inputs made_of.cells built.outputs =
      subst (λ (sort : Sort). BodyBuilt (ground_of p of.order) sort [] 0 it.body made_of.inputs made_of.cells built.outputs) value made_of.body in
      let form : IsBlock o body.vars body.inner = subst (λ (sort : Sort). HasForm o sort body.vars body.inner) value body.form in
      body_wide facts law o s of.order built.widths sound built_so body.under form body.typed.has closed.has body.typed.same (record { same = tt }) tt
      (subst (StandFrom built.widths 0) made_of.are_widths (all_stand built.widths)) (none_wide facts p.datas built.widths) (facts.built.normal_free p state normal number it is value) w has

  value_wires : (number count : ℕ) (it : Made) (built : Module) → slice_get state number ≡ Some it → it.sort ≡ Value → IsModuleOf (ground_of p of.order) it built → HasOutputs p.datas it (suc count) → 1 ≤ length built.widths
  value_wires number count it built is value made_of out =
      let parts : HasParts p.datas Value (result_of it.ty) out.widths = subst (λ (sort : Sort). HasParts p.datas sort (result_of it.ty) out.widths) value out.parts in
      let w = value_width parts in
      let wide = value_outputs number w.0 it built is value made_of w.1 in
      let size : length built.outputs ≡ wire_count (w.0 ∷ []) = wide_length built.widths built.outputs (present (w.0 ∷ [])) wide in
      let count_is : wire_count out.widths ≡ wire_count (w.0 ∷ []) = ap (λ ws. wire_count ws) w.2 in
      let are = out.are in
      wide_some built.widths built.outputs (present (w.0 ∷ [])) wide (omega (arith, size, count_is, are))

module _ (facts : Facts) (keep : FieldsKeepSame) (law : SameKeepsMeasure) (con_args : ConAtArguments) (saturated : ConIsSaturated) (prim_args : PrimAtArguments) (typed_origins : StatesHaveTypedOrigins) (p : Program) (state : List Made) (net : Net) (of : Built p state net) (typed : IsTypedState p state) (normal : IsNormal p state) where
  wires_by : (sort : Sort) (i : ℕ) → i ≤ length of.order → (number count : ℕ) (it : Made) (built : Module) → it.sort ≡ sort → slice_get of.order i ≡ Some number → slice_get state number ≡ Some it → IsModuleOf (ground_of p of.order) it built → HasOutputs p.datas it (suc count) → 1 ≤ length built.widths
  wires_by Value i l number count it built value here is made_of out = value_wires facts law typed_origins p state net typed normal of number count it built is value made_of out
  wires_by Circuit i l number count it built circuit here is made_of out =
      let before = (order_behind p state net of).each i number it here is in
      some_wire built.widths built.outputs (circuit_outputs facts keep law con_args saturated prim_args typed_origins p state net of typed normal i l number it built is before made_of circuit)
      (has_output facts keep law typed_origins p state of.order number it built count typed normal is made_of out)

  pub some_wires : (i : ℕ) (built : Module) → slice_get net.modules i ≡ Some built → i + 1 < length net.modules → 1 ≤ length built.widths
  some_wires i built here less =
      let at = module_at (ground_of p of.order) state of.order net.modules i built of.modules here in
      let within = slice_get_within of.order i at.number at.here in
      let out = some_outputs p state net of i at.number less at.here in
      wires_by at.it.sort i (omega (arith, within)) at.number out.1 at.it built refl at.here at.is at.made_of (subst (λ it. HasOutputs p.datas it (suc out.1)) (sym (same_some at.is out.2)) out.3)
