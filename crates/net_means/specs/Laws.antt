-- What is promised of the outputs of built nets.
use Rattle.std.specs.Prelude.{◌≡◌, ℕ, Bool, List, Some, slice_get}
use Rattle.chw_base.specs.declared.index.WireId.{WireId}
use Rattle.chw_terms.specs.Tidy.{IsTidy}
use Rattle.chw_terms.specs.declared.program.Program.{Program}
use Rattle.chw_terms.specs.declared.rule.Rule.{Rule}
use Rattle.chw_terms.specs.declared.scene.Made.{Made}
use Rattle.chw_typing.specs.Programs.{IsTyped}
use Rattle.rewriting.specs.Runs.{Run, Step}
use Rattle.rule_types.specs.States.{IsTypedState}
use Rattle.normal_forms.specs.Normal.{IsNormal}
use Rattle.normal_forms.specs.Uses.{IsAcyclic}
use Rattle.chw_layout.specs.Datum.{Datum}
use Rattle.chw_meaning.specs.Means.{Fit, Means}
use Rattle.chw_meaning.specs.Values.{History}
use Rattle.netlist.specs.NetValue.{NetValue}
use Rattle.netlist.specs.Orders.{IsOrder}
use Rattle.netlist.specs.Sound.{Sound}
use Rattle.netlist.specs.declared.net.Flat.{Flat}
use Rattle.netlist.specs.declared.net.Net.{Net}
use Rattle.net_flat.specs.Flattened.{IsFlatOf}
use Rattle.net_rules.specs.WellFormed.{WellFormed}
use Rattle.net_built.specs.Built.{Built}
use Rattle.normal_form.specs.Entries.{BeginsWithTop}
use Rattle.net_means.specs.CircuitBits.Instances.{Design}
use Rattle.net_means.specs.Inputs.{TopGiven}
use Rattle.net_means.specs.Outputs.{NetMeans, OutputMeans}

-- at a history of the program the top's inputs have the bits of what its streams are
abbrev pub InputsAreGiven : Type 0
InputsAreGiven =
    (d : Design) (top : Made) (last : History)
    → IsTypedState d.program d.state → BeginsWithTop d.program d.state
    → slice_get d.state 0 ≡ Some top → (fit : Fit d.program last)
    → TopGiven d top.ty fit.are_ports.outs fit.streams last

-- the flat net of what is built of a tidy and typed program has at its outputs the bits of what the
-- program means: where a run leads to the state, it is normal, and no made definition uses itself,
-- the net is well formed, and the flat net is sound and has an order
abbrev pub BuiltNetsMean : Type 0
BuiltNetsMean =
    (rules : List Rule) (p : Program) (n : ℕ) (steps : List Step) (state : List Made) (net : Net)
    (flat : Flat) (places : List ℕ)
    → IsTidy p → IsTyped p → Run rules p n steps state → IsNormal p state → IsAcyclic state
    → Built p state net → WellFormed net → IsFlatOf net flat → Sound flat → IsOrder flat places
    → NetMeans p flat

-- an output has no other bits at a history, and means no other data value
abbrev pub OutputsHaveOneMeaning : Type 0
OutputsHaveOneMeaning =
    (p : Program) (flat : Flat) (h : History) (k : ℕ) (v : Datum) (wire : WireId) (bits : List Bool)
    → Sound flat → (o : OutputMeans p flat h k) → Means p h k v
    → slice_get flat.outputs k ≡ Some wire → NetValue flat h wire.number bits
    → (o.value ≡ v) × (o.bits ≡ bits)
