-- Modules that are built keep the rules on widths and on limits.
use Rattle.std.proofs.Common.{◌≡◌, ℕ, zero, suc, ◌+◌, ◌≤◌, arith, List, [], ◌∷◌, ◌++◌, length, take, Some, refl, sym, subst}
use Rattle.std.specs.List.{slice_get, AllByRecursion}
use Rattle.std.proofs.lemmas.Option.{slice_get_within}
use Rattle.chw_types.specs.SamePromises.{SameValues}
use Rattle.type_laws.specs.SameKept.{FieldsKeepSame}
use Rattle.chw_terms.specs.declared.program.Program.{Program}
use Rattle.chw_terms.specs.declared.scene.Made.{Made}
use Rattle.chw_terms.specs.declared.scene.Sort.{Sort}
use Rattle.chw_terms.specs.declared.scene.Sort.TheVariants.{Value, Circuit}
use Rattle.chw_typing.specs.Scopes.{Setting}
use Rattle.layout_laws.specs.SameLayout.{SameKeepsMeasure}
use Rattle.netlist.specs.Sound.{IsWireWidth}
use Rattle.netlist.specs.declared.net.Cell.{Cell}
use Rattle.netlist.specs.declared.net.Cell.TheVariants.{Ram}
use Rattle.netlist.specs.declared.net.Module.{Module}
use Rattle.netlist.specs.declared.net.Net.{Net}
use Rattle.net_rules.specs.WellFormed.{HasFewWords, WidthsAgree}
use Rattle.normal_forms.specs.Normal.{IsNormal, HasForm}
use Rattle.rewriting.specs.Steps.{origins_in}
use Rattle.rewriting.specs.Origins.{Origins, setting_at}
use Rattle.rule_types.specs.States.{IsTypedState, StatesHaveTypedOrigins}
use Rattle.chw_typing.specs.SpineLaws.{ConAtArguments, ConIsSaturated, PrimAtArguments}
use Rattle.net_built.specs.Bodies.{BodyBuilt}
use Rattle.net_built.specs.Built.{Built, ground_of}
use Rattle.net_built.specs.Modules.{IsModuleOf, made_in}
use Rattle.net_built.specs.Terms.{wires_at}
use Rattle.net_built.specs.Wires.{Piece}
use Rattle.net_grounds.specs.Facts.{Facts}
use Rattle.net_means.specs.NetFits.Widths.{StandFrom}
use Rattle.net_means.proofs.NetFits.Drivers.{module_at}
use Rattle.net_means.proofs.NetFits.Reading.{Under, IsPlain, ReadsWires}
use Rattle.net_means.proofs.NetFits.Scopes.{none_sized}
use Rattle.net_means.proofs.NetFits.Uses.{BeforePlace, AllBefore, order_behind}
use Rattle.net_means.proofs.NetFits.ValueReads.{ValueCalls, body_reads}
use Rattle.net_means.proofs.NetFits.ValueWidths.{none_wide}
use Rattle.net_means.proofs.NetFits.Wide.{all_stand}
use Rattle.net_means.proofs.NetWidths.CircuitWalk.{circuit_body_kept}
use Rattle.net_means.proofs.NetWidths.PortsWide.{none_wide as no_ports}
use Rattle.net_means.proofs.NetWidths.Small.{Small, then_small}
use Rattle.net_means.proofs.NetWidths.UsedWidths.{value_uses, circuit_uses, lifted_uses}
use Rattle.net_means.proofs.NetWidths.ValueWalk.{value_body_kept}

-- what isn't a RAM has no words
plain_few : (cell : Cell) → IsPlain cell → HasFewWords cell
plain_few (Ram w domain words inputs) is = absurd is
plain_few _ is = tt

each_few : (total : ℕ) (cells : List Cell) → AllByRecursion (λ cell. ReadsWires HasFewWords total cell) cells → AllByRecursion HasFewWords cells
each_few total [] h = tt
each_few total (cell ∷ cells) h = (h.0.1.1, each_few total cells h.1)

nowhere : (total x : ℕ) → Under total (wires_at [] x)
nowhere total zero = tt
nowhere total (suc x) = tt

-- what is said of a module's wires and cells
pub record ModuleKept (earlier : List Module) (m : Module) : Type 0 where
  pub agree : AllByRecursion (WidthsAgree earlier m.widths) m.cells
  pub small : AllByRecursion IsWireWidth m.widths
  pub few : AllByRecursion HasFewWords m.cells

-- so of the cells and inputs of a body
record BodyKept (earlier : List Module) (all inputs : List ℕ) (p : Piece) : Type 0 where
  pub agree : AllByRecursion (WidthsAgree earlier all) p.cells
  pub widths : Small p.widths
  pub ins : Small inputs
  pub few : AllByRecursion HasFewWords p.cells

module _ (facts : Facts) (keep : FieldsKeepSame) (law : SameKeepsMeasure) (values : SameValues) (con_args : ConAtArguments) (saturated : ConIsSaturated) (prim_args : PrimAtArguments) (typed_origins : StatesHaveTypedOrigins) (p : Program) (state : List Made) (net : Net) (of : Built p state net) (typed : IsTypedState p state) (normal : IsNormal p state) where
  by_sort : (i : ℕ) → i ≤ length of.order → (m : ℕ) (it : Made) (built : Module) (sort : Sort) → slice_get state m ≡ Some it → AllBefore p.datas state of.order i (made_in it.body) → (made_of : IsModuleOf (ground_of p of.order) it built) → it.sort ≡ sort → BodyKept (take i net.modules) built.widths made_of.inputs made_of.cells
  by_sort i l m it built Value is before made_of value =
      let o : Origins = origins_in p state in
      let s : Setting = setting_at o in
      let body = normal.bodies m it is in
      let sound = (typed_origins p state typed).sound in
      let free = facts.built.normal_free p state normal m it is value in
      let form = subst (λ (sort : Sort). HasForm o sort body.vars body.inner) value body.form in
      let built_so : BodyBuilt (ground_of p of.order) Value [] 0 it.body made_of.inputs made_of.cells built.outputs =
      subst (λ (sort : Sort). BodyBuilt (ground_of p of.order) sort [] 0 it.body made_of.inputs made_of.cells built.outputs) value made_of.body in
      let stand : StandFrom built.widths 0 (made_of.inputs ++ made_of.cells.widths) = subst (StandFrom built.widths 0) made_of.are_widths (all_stand built.widths) in
      let kept = value_body_kept facts law values con_args saturated o of.order sound (take i net.modules) built.widths (λ m. BeforePlace p.datas state of.order i m) (value_uses facts keep law prim_args typed_origins p state net of typed normal i l built.widths) built_so body.under form before body.typed.has (record { same = tt }) tt stand (none_wide facts p.datas built.widths) free in
      let total : ℕ = length made_of.inputs + length made_of.cells.widths in
      let room : 0 + length made_of.inputs + length made_of.cells.widths ≤ total = omega arith in
      let calls : ValueCalls o of.order HasFewWords (λ m. BeforePlace p.datas state of.order i m) = λ vars scope e m n w t u k it known value head types variables has kind same wide fit sized before some. tt in
      let reads = body_reads facts law o of.order sound HasFewWords plain_few (λ m. BeforePlace p.datas state of.order i m) calls total built_so body.under form before body.typed.has (record { same = tt }) (none_sized s) room (λ l y. nowhere total y) free in
      record { agree = kept.0.agree.cells; widths = kept.0.small; ins = kept.1; few = each_few total made_of.cells.cells reads.0.cells }
  by_sort i l m it built Circuit is before made_of circuit =
      let o : Origins = origins_in p state in
      let body = normal.bodies m it is in
      let sound = (typed_origins p state typed).sound in
      let form = subst (λ (sort : Sort). HasForm o sort body.vars body.inner) circuit body.form in
      let built_so : BodyBuilt (ground_of p of.order) Circuit [] 0 it.body made_of.inputs made_of.cells built.outputs =
      subst (λ (sort : Sort). BodyBuilt (ground_of p of.order) sort [] 0 it.body made_of.inputs made_of.cells built.outputs) circuit made_of.body in
      let stand : StandFrom built.widths 0 (made_of.inputs ++ made_of.cells.widths) = subst (StandFrom built.widths 0) made_of.are_widths (all_stand built.widths) in
      let kept = circuit_body_kept facts keep law values con_args saturated o of.order sound (take i net.modules) built.widths (λ m. BeforePlace p.datas state of.order i m) (lifted_uses facts keep law prim_args typed_origins p state net of typed normal i l built.widths) (circuit_uses facts keep law prim_args typed_origins p state net of typed normal i l built.widths) built_so body.under form before body.typed.has (record { same = tt }) (no_ports p.datas built.widths) tt stand in
      record { agree = kept.0.kept.agree.cells; widths = kept.0.kept.small; ins = kept.1; few = kept.0.few.cells }

  -- each module that is built
  pub module_kept : (i : ℕ) (built : Module) → slice_get net.modules i ≡ Some built → ModuleKept (take i net.modules) built
  module_kept i built here =
      let at = module_at (ground_of p of.order) state of.order net.modules i built of.modules here in
      let within = slice_get_within of.order i at.number at.here in
      let before = (order_behind p state net of).each i at.number at.it at.here at.is in
      let kept = by_sort i (omega (arith, within)) at.number at.it built at.it.sort at.is before at.made_of refl in
      let cells = at.made_of.are_cells in
      let all : Small (at.made_of.inputs ++ at.made_of.cells.widths) = then_small at.made_of.inputs at.made_of.cells.widths kept.ins kept.widths in
      record {
        agree = subst (λ (cs : List Cell). AllByRecursion (WidthsAgree (take i net.modules) built.widths) cs) (sym cells) kept.agree;
        small = subst (λ ws. AllByRecursion IsWireWidth ws) (sym at.made_of.are_widths) all.each;
        few = subst (λ (cs : List Cell). AllByRecursion HasFewWords cs) (sym cells) kept.few;
      }
