-- The modules that are built drive each wire once that is no input.
use Rattle.std.proofs.Common.{◌≡◌, ℕ, zero, suc, List, [], ◌∷◌, Some, refl, subst}
use Rattle.std.specs.List.{slice_get}
use Rattle.type_laws.specs.SameKept.{FieldsKeepSame}
use Rattle.chw_terms.specs.declared.program.Program.{Program}
use Rattle.chw_terms.specs.declared.scene.Made.{Made}
use Rattle.chw_terms.specs.declared.scene.Sort.{Sort}
use Rattle.chw_terms.specs.declared.scene.Sort.TheVariants.{Value, Circuit}
use Rattle.layout_laws.specs.SameLayout.{SameKeepsMeasure}
use Rattle.netlist.specs.declared.net.Module.{Module}
use Rattle.netlist.specs.declared.net.Net.{Net}
use Rattle.normal_forms.specs.Normal.{IsNormal, HasForm}
use Rattle.rewriting.specs.Steps.{origins_in}
use Rattle.rewriting.specs.Origins.{setting_at}
use Rattle.chw_typing.specs.SpineLaws.{ConAtArguments, ConIsSaturated, PrimAtArguments}
use Rattle.rule_types.specs.States.{IsTypedState, StatesHaveTypedOrigins}
use Rattle.net_built.specs.Bodies.{BodyBuilt}
use Rattle.net_built.specs.Built.{Built, ground_of}
use Rattle.net_built.specs.Modules.{IsModuleOf, AreModules}
use Rattle.net_grounds.specs.Facts.{Facts}
use Rattle.net_means.proofs.NetFits.CircuitBodies.{circuit_body_ordered}
use Rattle.net_means.proofs.NetFits.EachOnce.{DrivesEachOnce, module_drives}
use Rattle.net_means.proofs.NetFits.ValueDrivers.{value_body_ordered}

module _ (facts : Facts) (keep : FieldsKeepSame) (law : SameKeepsMeasure) (con_args : ConAtArguments) (saturated : ConIsSaturated) (prim_args : PrimAtArguments) (typed_origins : StatesHaveTypedOrigins) where
  by_sort : (p : Program) (state : List Made) (order : List ℕ) (m : ℕ) (it : Made) (built : Module) (sort : Sort) → IsTypedState p state → IsNormal p state → slice_get state m ≡ Some it → IsModuleOf (ground_of p order) it built → it.sort ≡ sort → DrivesEachOnce built
  by_sort p state order m it built Value typed normal is made_of value =
      let body = normal.bodies m it is in
      let sound = (typed_origins p state typed).sound in
      let free = facts.built.normal_free p state normal m it is value in
      let of_value : BodyBuilt (ground_of p order) Value [] 0 it.body made_of.inputs made_of.cells built.outputs =
      subst (λ sort. BodyBuilt (ground_of p order) sort [] 0 it.body made_of.inputs made_of.cells built.outputs) value made_of.body in
      module_drives (ground_of p order) it built made_of
      (value_body_ordered facts law (setting_at (origins_in p state)) order it.body body.typed.type made_of.inputs made_of.cells built.outputs sound body.typed.has free of_value)
  by_sort p state order m it built Circuit typed normal is made_of circuit =
      let body = normal.bodies m it is in
      let sound = (typed_origins p state typed).sound in
      let form = subst (λ sort. HasForm (origins_in p state) sort body.vars body.inner) circuit body.form in
      let of_circuit : BodyBuilt (ground_of p order) Circuit [] 0 it.body made_of.inputs made_of.cells built.outputs =
      subst (λ sort. BodyBuilt (ground_of p order) sort [] 0 it.body made_of.inputs made_of.cells built.outputs) circuit made_of.body in
      module_drives (ground_of p order) it built made_of
      (circuit_body_ordered facts keep law con_args saturated prim_args (origins_in p state) order it.body body.inner it.ty body.typed.type body.path body.vars made_of.inputs made_of.cells built.outputs sound body.typed.has body.under form of_circuit)

  pub made_module_drives : (p : Program) (state : List Made) (order : List ℕ) (m : ℕ) (it : Made) (built : Module) → IsTypedState p state → IsNormal p state → slice_get state m ≡ Some it → IsModuleOf (ground_of p order) it built → DrivesEachOnce built
  made_module_drives p state order m it built typed normal is made_of = by_sort p state order m it built it.sort typed normal is made_of refl

  listed : (p : Program) (state : List Made) (order ms : List ℕ) (modules : List Module) (i : ℕ) (built : Module) → IsTypedState p state → IsNormal p state → AreModules (ground_of p order) state ms modules → slice_get modules i ≡ Some built → DrivesEachOnce built
  listed p state order [] [] i built typed normal all is = absurd cc
  listed p state order [] (x ∷ modules) i built typed normal all is = absurd all
  listed p state order (m ∷ ms) [] i built typed normal all is = absurd all
  listed p state order (m ∷ ms) (x ∷ modules) zero built typed normal all is =
      let same : x ≡ built = cc in
      subst (λ built. DrivesEachOnce built) same (made_module_drives p state order m all.0.0 x typed normal all.0.1 all.0.2)
  listed p state order (m ∷ ms) (x ∷ modules) (suc i) built typed normal all is = listed p state order ms modules i built typed normal all.1 is

  pub net_drives : (p : Program) (state : List Made) (net : Net) (i : ℕ) (built : Module) → IsTypedState p state → IsNormal p state → Built p state net → slice_get net.modules i ≡ Some built → DrivesEachOnce built
  net_drives p state net i built typed normal of is = listed p state of.order of.order net.modules i built typed normal of.modules is
