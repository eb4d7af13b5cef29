-- What is left for a net that is built to be well formed.
use Rattle.std.proofs.Common.{◌≡◌, ℕ, ◌+◌, ◌==◌, Bool, true, false, arith, List, length, Some, refl}
use Rattle.std.specs.List.{slice_get}
use Rattle.std.proofs.lemmas.Bool.{eqb-true, eqb-false}
use Rattle.std.proofs.lemmas.Option.{slice_get_within}
use Rattle.type_laws.specs.SameKept.{FieldsKeepSame}
use Rattle.chw_terms.specs.declared.program.Program.{Program}
use Rattle.chw_terms.specs.declared.scene.Made.{Made}
use Rattle.layout_laws.specs.SameLayout.{SameKeepsMeasure}
use Rattle.netlist.specs.declared.net.Module.{Module}
use Rattle.netlist.specs.declared.net.Net.{Net}
use Rattle.net_rules.specs.PortsHold.{PortsHold}
use Rattle.net_rules.specs.WellFormed.{NamesHold, EachRuleHolds, WellFormed}
use Rattle.net_rules.specs.declared.well_formed.NetCode.TheVariants.{Name, Width, Driver, Limit}
use Rattle.normal_forms.specs.Normal.{IsNormal}
use Rattle.rule_types.specs.States.{IsTypedState, StatesHaveTypedOrigins}
use Rattle.chw_typing.specs.SpineLaws.{ConAtArguments, ConIsSaturated, PrimAtArguments}
use Rattle.net_built.specs.Built.{Built}
use Rattle.net_grounds.specs.Facts.{Facts}
use Rattle.normal_form.specs.Entries.{BeginsWithTop}
use Rattle.net_means.specs.NetFits.Laws.{KeepsTheRest}
use Rattle.net_means.proofs.NetFits.Drivers.{drivers_hold, has_module}
use Rattle.net_means.proofs.NetFits.Modules.{net_drives}
use Rattle.net_means.proofs.NetFits.Names.{names_there}
use Rattle.net_means.proofs.NetFits.OutputWidths.{some_wires}
use Rattle.net_means.proofs.NetFits.Tops.{last_kept}

module _ (facts : Facts) (keep : FieldsKeepSame) (law : SameKeepsMeasure) (con_args : ConAtArguments) (saturated : ConIsSaturated) (prim_args : PrimAtArguments) (typed_origins : StatesHaveTypedOrigins) (p : Program) (state : List Made) (net : Net) (of : Built p state net) (typed : IsTypedState p state) (normal : IsNormal p state) (begins : BeginsWithTop p state) (rules : PortsHold net.ports) (rest : KeepsTheRest net) where
  names_by : (i : ℕ) (m : Module) → slice_get net.modules i ≡ Some m → (b : Bool) → (i + 1 == length net.modules) ≡ b → NamesHold net i m
  names_by i m here true e = (last_kept facts keep law con_args saturated prim_args typed_origins p state net of typed normal begins rules i m here (eqb-true (i + 1) (length net.modules) e)).names
  names_by i m here false e =
      let within = slice_get_within net.modules i m here in
      let other = eqb-false (i + 1) (length net.modules) e in
      let there = names_there facts keep law con_args saturated prim_args typed_origins p state net of typed normal i m here in
      record { cells = there.cells; outputs = there.outputs (some_wires facts keep law con_args saturated prim_args typed_origins p state net of typed normal i m here (omega (arith, within, other))); top = λ last. absurd (omega (arith, last, other)) }

  each_rule : (i : ℕ) (m : Module) → slice_get net.modules i ≡ Some m → EachRuleHolds net i m
  each_rule i m here Name = names_by i m here (i + 1 == length net.modules) refl
  each_rule i m here Width = rest.widths i m here
  each_rule i m here Driver = drivers_hold facts keep law typed_origins p state net i m typed normal of here (net_drives facts keep law con_args saturated prim_args typed_origins p state net i m typed normal of here)
  each_rule i m here Limit = rest.limits i m here

  pub well_formed : WellFormed net
  well_formed = record { some = has_module p state net of; rules = each_rule }
