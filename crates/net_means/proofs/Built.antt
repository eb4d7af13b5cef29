-- The flat net of a normal state to which a run leads has the bits of what the program means.
use Rattle.std.proofs.Common.{◌≡◌, ◌<◌, ◌↔◌, ℕ, ◌+◌, Bool, List, [], length, sym, ap, ◌∙◌, subst, arith}
use Rattle.chw_clock.specs.Histories.{FitsPorts}
use Rattle.chw_base.specs.declared.index.WireId.{WireId}
use Rattle.chw_clock.specs.declared.event.Event.{Event}
use Rattle.chw_clock.specs.declared.event.Ports.{Ports}
use Rattle.chw_types.specs.SamePromises.{SameValues}
use Rattle.type_laws.specs.SameKept.{FieldsKeepSame}
use Rattle.chw_terms.specs.Tidy.{IsTidy}
use Rattle.chw_terms.specs.declared.program.Program.{Program}
use Rattle.chw_terms.specs.declared.rule.Rule.{Rule}
use Rattle.chw_terms.specs.declared.scene.Made.{Made}
use Rattle.chw_typing.specs.Programs.{IsTyped}
use Rattle.rewriting.specs.Runs.{Run, Step}
use Rattle.rule_types.specs.States.{IsTypedState, StatesHaveTypedOrigins}
use Rattle.normal_forms.specs.Laws.{OneWhole}
use Rattle.normal_forms.specs.Normal.{IsNormal}
use Rattle.normal_forms.specs.Uses.{IsAcyclic}
use Rattle.chw_layout.specs.EncodingPromises.{EncodingHasWidth}
use Rattle.chw_meaning.specs.Laws.{OnePorts}
use Rattle.chw_meaning.specs.Means.{HasPorts, Fit}
use Rattle.chw_meaning.specs.Values.{History}
use Rattle.carrying.specs.YieldLaws.{ShownIsYielded}
use Rattle.act_runs.specs.Laws.{RunActs, RunGives}
use Rattle.netlist.specs.NetValue.{NetValue}
use Rattle.netlist.specs.Orders.{IsOrder}
use Rattle.netlist.specs.Sound.{Sound}
use Rattle.netlist.specs.declared.net.Flat.{Flat}
use Rattle.netlist.specs.declared.net.Module.{Module}
use Rattle.netlist.specs.declared.net.Net.{Net}
use Rattle.net_flat.specs.Flattened.{IsFlatOf}
use Rattle.net_rules.specs.WellFormed.{NamesHold, WellFormed}
use Rattle.net_rules.specs.declared.well_formed.NetCode.TheVariants.{Name}
use Rattle.use_laws.specs.ValueIn.{BeginsAt, IsModuleAt, ValueIn}
use Rattle.use_laws.specs.ValueIn.BeginsAt.{top as begins_at_top}
use Rattle.use_laws.specs.ValueIn.IsModuleAt.{top as module_at_top}
use Rattle.net_built.specs.Built.{Built}
use Rattle.net_grounds.specs.Facts.{Facts}
use Rattle.normal_form.specs.Entries.{BeginsWithTop}
use Rattle.net_means.specs.NetFits.Laws.{RunsBeginWithTop}
use Rattle.net_means.specs.CircuitBits.Instances.{Design}
use Rattle.net_means.specs.NetBits.Whole.{AllHaveBits}
use Rattle.net_means.specs.Outputs.{NetMeans, OutputMeans}
use Rattle.net_means.proofs.Means.{output_means}
use Rattle.net_means.proofs.Tops.{design, TopModule, top_module}
use Rattle.net_means.proofs.Wholes.{AreWholes, is_whole}

-- what is promised of the bits of a net of modules
abbrev pub BitsThroughUses : Type 0
BitsThroughUses =
    (net : Net) (flat : Flat) (path : List ℕ) (m : Module) (base : ℕ) (h : List Event) (w : ℕ) (bits : List Bool) → WellFormed net → IsFlatOf net flat → IsModuleAt net path m → BeginsAt net path base → w < length m.widths
    → (ValueIn net path h w bits ↔ NetValue flat h (base + w) bits)

module _ (facts : Facts) (through : BitsThroughUses) (wide : EncodingHasWidth) (values : SameValues) (keep : FieldsKeepSame) (yielded : ShownIsYielded) (one_ports : OnePorts) (one_whole : OneWhole) (typed_origins : StatesHaveTypedOrigins) (acts : RunActs) (gives : RunGives) (begin : RunsBeginWithTop) (all : AllHaveBits) where
  module _ (rules : List Rule) (p : Program) (n : ℕ) (steps : List Step) (state : List Made) (net : Net) (flat : Flat) (places : List ℕ) (tidy : IsTidy p) (typed : IsTyped p) (run : Run rules p n steps state) (normal : IsNormal p state) (acyclic : IsAcyclic state) (built : Built p state net) (formed : WellFormed net) (is_flat : IsFlatOf net flat) (sound : Sound flat) (order : IsOrder flat places) where
    typed_state : IsTypedState p state
    typed_state = (acts rules p n steps state tidy typed run).0

    begins : BeginsWithTop p state
    begins = begin rules p n steps state run

    wholes : AreWholes state
    wholes = facts.built.each_is_whole p state normal acyclic

    abbrev d : Design
    d = design one_whole p state net (typed_origins p state typed_state).sound tidy.inhabited normal built wholes

    first : TopModule p state net built is_flat.m
    first = top_module p state net built is_flat.place is_flat.m is_flat.top

    each : (h : History) (k : ℕ) → Fit p h → k < length flat.outputs → OutputMeans p flat h k
    each h k fit l =
        let same = one_ports p fit.ports net.ports fit.are_ports built.ports in
        let fits : FitsPorts net.ports h = subst (λ ports. FitsPorts ports h) same fit.fits in
        output_means facts all wide values keep yielded d flat places formed is_flat sound order first.it typed_state begins first.is_first first.made_of h fit fits
        (λ w bits below v.
        let none : 0 + w ≡ w = omega arith in
        subst (λ w. NetValue flat h w bits) none
        ((through net flat [] is_flat.m 0 h w bits formed is_flat (module_at_top is_flat.place is_flat.m is_flat.top) begins_at_top below).0 v))
        (gives rules p n steps state fit.are_ports.it (d.wholes 0) tidy typed run fit.are_ports.top.held (is_whole state wholes 0 first.it first.is_first)) k l

    pub built_means : NetMeans p flat
    built_means =
        let names : NamesHold net is_flat.place is_flat.m = formed.rules is_flat.place is_flat.m is_flat.top.stands Name in
        let count = (names.top is_flat.top.last).outputs in
        record {
          ports = subst (HasPorts p) (sym is_flat.ports) built.ports;
          as_many = ap (λ (ws : List WireId). length ws) is_flat.outputs ∙ sym count ∙ ap (λ (ports : Ports). length ports.outputs) (sym is_flat.ports);
          each = each;
        }
