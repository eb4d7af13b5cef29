-- What is built keeps the rules on widths and on limits.
use Rattle.std.proofs.Common.{◌≡◌, ℕ, ◌≤◌, arith, List, length, Some}
use Rattle.std.specs.List.{slice_get}
use Rattle.chw_base.specs.declared.limits.TheConstants.{MADE_DEFINITIONS}
use Rattle.chw_types.specs.SamePromises.{SameValues}
use Rattle.type_laws.specs.SameKept.{FieldsKeepSame}
use Rattle.chw_terms.specs.declared.program.Program.{Program}
use Rattle.chw_terms.specs.declared.scene.Made.{Made}
use Rattle.layout_laws.specs.SameLayout.{SameKeepsMeasure}
use Rattle.netlist.specs.declared.net.Module.{Module}
use Rattle.netlist.specs.declared.net.Net.{Net}
use Rattle.net_rules.specs.WellFormed.{LimitsHold, WidthsHold}
use Rattle.normal_forms.specs.Normal.{IsNormal}
use Rattle.rule_types.specs.States.{IsTypedState, StatesHaveTypedOrigins}
use Rattle.chw_typing.specs.SpineLaws.{ConAtArguments, ConIsSaturated, PrimAtArguments}
use Rattle.net_built.specs.Built.{Built}
use Rattle.net_grounds.specs.Facts.{Facts}
use Rattle.normal_form.specs.Entries.{BeginsWithTop}
use Rattle.net_means.proofs.NetFits.PortRules.{ports_hold}
use Rattle.net_means.proofs.NetWidths.Count.{modules_few}
use Rattle.net_means.proofs.NetWidths.ModulesKept.{module_kept}
use Rattle.net_means.proofs.NetWidths.TopWidths.{top_widths}

module _ (facts : Facts) (keep : FieldsKeepSame) (law : SameKeepsMeasure) (values : SameValues) (con_args : ConAtArguments) (saturated : ConIsSaturated) (prim_args : PrimAtArguments) (typed_origins : StatesHaveTypedOrigins) (p : Program) (state : List Made) (net : Net) (i : ℕ) (m : Module) (typed : IsTypedState p state) (normal : IsNormal p state) (of : Built p state net) where
  pub widths_hold : BeginsWithTop p state → slice_get net.modules i ≡ Some m → WidthsHold net i m
  widths_hold begins here =
      record {
        cells = (module_kept facts keep law values con_args saturated prim_args typed_origins p state net of typed normal i m here).agree;
        top = λ last. top_widths facts keep law con_args saturated prim_args typed_origins p state net of typed normal begins (ports_hold facts typed_origins p state net.ports typed of.ports) i m here last;
      }

  pub limits_hold : length state ≤ MADE_DEFINITIONS → slice_get net.modules i ≡ Some m → LimitsHold net i m
  limits_hold few here =
      let kept = module_kept facts keep law values con_args saturated prim_args typed_origins p state net of typed normal i m here in
      let many = modules_few facts p state net of in
      record { widths = kept.small; words = kept.few; modules = λ first. omega (arith, few, many) }
