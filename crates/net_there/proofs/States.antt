-- Entries in normal form are ready, and so there is a well formed net of each.
use Rattle.std.proofs.Common.{◌≡◌, ◌≤◌, ℕ, List, [], length, refl, subst}
use Rattle.std.proofs.lemmas.Option.{slice_get_within}
use Rattle.chw_base.specs.declared.limits.TheConstants.{MADE_DEFINITIONS}
use Rattle.chw_clock.specs.declared.event.Ports.{Ports}
use Rattle.type_laws.specs.SameKept.{FieldsKeepSame}
use Rattle.chw_terms.specs.declared.program.Def.{Def}
use Rattle.chw_terms.specs.declared.program.Program.{Program}
use Rattle.chw_terms.specs.declared.rule.Rule.{Rule}
use Rattle.chw_terms.specs.declared.scene.Made.{Made}
use Rattle.chw_terms.specs.declared.scene.Sort.TheVariants.{Circuit}
use Rattle.chw_terms.specs.Tidy.{IsTidy}
use Rattle.chw_typing.specs.Programs.{IsTyped, LeadsToPort}
use Rattle.chw_typing.specs.Scopes.{Setting}
use Rattle.chw_meaning.specs.Means.{HasPorts}
use Rattle.layout_laws.specs.SameLayout.{SameKeepsMeasure}
use Rattle.rewriting.specs.Named.{UnderLambdas}
use Rattle.rewriting.specs.Origins.{setting_at}
use Rattle.rewriting.specs.Runs.{Run, Step}
use Rattle.rewriting.specs.Steps.{origins_in}
use Rattle.rule_types.specs.States.{IsTypedState, StatesHaveTypedOrigins}
use Rattle.made_states.specs.Laws.{RunsKeepState}
use Rattle.normal_forms.specs.Normal.{IsNormal}
use Rattle.normal_forms.specs.Uses.{IsAcyclic}
use Rattle.normal_form.proofs.There.{uses_are_there}
use Rattle.normal_form.specs.Entries.{BeginsWithTop, IsEntry}
use Rattle.netlist.specs.declared.net.Net.{Net}
use Rattle.net_rules.specs.WellFormed.{WellFormed}
use Rattle.net_built.specs.Built.{Built}
use Rattle.net_built.specs.Terms.{result_of}
use Rattle.net_ready.specs.Laws.{ReadyStatesHaveNets}
use Rattle.net_ready.specs.Ready.{StateReady}
use Rattle.net_grounds.specs.Facts.{Facts}
use Rattle.net_means.proofs.Lists.{same_some}
use Rattle.net_means.proofs.NetFits.Beginning.{begins_with_circuit, begins_with_type}
use Rattle.net_means.specs.NetFits.Laws.{RunsBeginWithTop}
use Rattle.net_means.specs.NetWidths.Laws.{StatesBuildWellFormed}
use Rattle.net_there.proofs.Measured.{HasSomeParts, AllHaveParts}
use Rattle.net_there.proofs.Modules.{params_parts, result_parts}
use Rattle.net_there.proofs.Ports.{ports_there}
use Rattle.net_there.specs.Laws.{ModulesAreReady, PortsAreThere, StatesAreReady}

pub state_ports : Facts → FieldsKeepSame → SameKeepsMeasure → StatesHaveTypedOrigins → (p : Program) (state : List Made) → IsTypedState p state → IsNormal p state → BeginsWithTop p state → (ports : Ports) × HasPorts p ports
state_ports facts keep law typed_origins p state typed normal begins =
    let datas = p.datas in
    let s : Setting = setting_at (origins_in p state) in
    let sound = (typed_origins p state typed).sound in
    let b = normal.bodies 0 begins.it begins.is_first in
    let circuit = begins_with_circuit begins begins.it begins.is_first in
    let type : begins.it.ty ≡ begins.top.ty = begins_with_type begins begins.it begins.top begins.is_first begins.held in
    let same : typed.typed.top.0 ≡ begins.top = same_some typed.typed.top.1 begins.held in
    let leads : LeadsToPort datas begins.top.ty (length p.top.inputs) (length p.top.outputs) = subst (λ (top : Def). LeadsToPort datas top.ty (length p.top.inputs) (length p.top.outputs)) same typed.typed.top.2 in
    let under = subst (λ t. UnderLambdas [] begins.it.body t b.path b.vars b.inner) type b.under in
    let parts = subst (λ sort. AllHaveParts datas sort b.vars) circuit (params_parts b) in
    let result = subst (λ t. HasSomeParts datas Circuit (result_of t)) type (subst (λ sort. HasSomeParts datas sort (result_of begins.it.ty)) circuit (result_parts b)) in
    ports_there facts keep law p s sound refl begins.top begins.held leads under b.typed.has parts result

pub state_ready : ModulesAreReady → PortsAreThere → (p : Program) (state : List Made) → IsEntry p state → IsNormal p state → IsAcyclic state → StateReady p state
state_ready modules ports p state entry normal acyclic =
    let at = ports p state entry.typed normal entry.begins in
    record {
      each = λ m it is. modules p state m it entry.typed normal is;
      acyclic = acyclic;
      there = uses_are_there p state normal;
      first = slice_get_within state 0 entry.begins.it entry.begins.is_first;
      ports = at.0;
      are_ports = at.1;
    }

pub state_built : StatesAreReady → ReadyStatesHaveNets → StatesBuildWellFormed → (p : Program) (state : List Made) → IsEntry p state → IsNormal p state → IsAcyclic state → (net : Net) × Built p state net × WellFormed net
state_built ready build formed p state entry normal acyclic =
    let net = build p state (ready p state entry normal acyclic) in
    (net.0, net.1, formed p state net.0 entry.typed normal net.1 entry.begins entry.few)

pub run_built : StatesAreReady → ReadyStatesHaveNets → StatesBuildWellFormed → RunsBeginWithTop → RunsKeepState → (rules : List Rule) (p : Program) (n : ℕ) (steps : List Step) (state : List Made) → IsTidy p → IsTyped p → Run rules p n steps state → length state ≤ MADE_DEFINITIONS → IsNormal p state → IsAcyclic state → (net : Net) × Built p state net × WellFormed net
run_built ready build formed begin kept rules p n steps state tidy typed run few normal acyclic =
    let entry : IsEntry p state = record { typed = kept rules p n steps state tidy typed run; begins = begin rules p n steps state run; few = few } in
    state_built ready build formed p state entry normal acyclic
