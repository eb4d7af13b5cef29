-- The waves of a simulation are read back.
use Rattle.std.proofs.Common.{◌≡◌, ℕ, suc, zero, ◌+◌, ◌*◌, ◌<◌, ◌≤◌, Bool, true, false, List, [], ◌∷◌, length, Some, refl, ap, sym, subst, arith}
use Rattle.std.specs.List.{AllByRecursion}
use Rattle.std.specs.Prelude.{if◌then◌else◌, nat_le, slice_get}
use Rattle.std.proofs.lemmas.Bool.{leb-true}
use Rattle.chw_base.specs.declared.limits.TheConstants.{DATA_BITS, SCALAR_BITS}
use Rattle.chw_clock.specs.Histories.{FitsEvent, HaveWidths}
use Rattle.chw_clock.specs.declared.event.Event.{Event}
use Rattle.chw_clock.specs.declared.event.Port.{Port}
use Rattle.chw_clock.specs.declared.event.Ports.{Ports}
use Rattle.chw_types.specs.TypeTree.{TypeTree}
use Rattle.chw_types.specs.declared.declarations.Data.{Data}
use Rattle.type_ports.specs.declared.ports.Leaf.{Leaf}
use Rattle.chw_terms.specs.declared.program.Program.{Program}
use Rattle.chw_layout.specs.EncodingPromises.{EncodingHasWidth}
use Rattle.chw_layout.specs.Measured.{HasWidth, Measure, Measured, closed_value, fits, measured_data, measured_scalar, measured_vector, tag_width, too_wide}
use Rattle.chw_layout.specs.declared.outcome.NoLayout.TheVariants.{Scalar as OverScalar}
use Rattle.chw_layout.proofs.Fitting.{tagged_fits, vector_fits}
use Rattle.chw_meaning.specs.Means.{HasPorts, IsPortAt, PortsOf, no_port_and, no_ports, port_and, port_here, port_later, port_of, port_past}
use Rattle.chw_meaning.specs.Values.{History}
use Rattle.chw_meaning.proofs.GivenOnce.{wide_and_empty}
use Rattle.chw_meaning.proofs.Once.{same_some}
use Rattle.chw_norm.specs.Laws.{LastStatesAreTyped}
use Rattle.net_means.specs.NetFits.Laws.{PortsAreKept}
use Rattle.wave_text.specs.Printable.{ArePrintable, HasBits}
use Rattle.wave_text.specs.PrintedWave.{vcd_wave}
use Rattle.wave_text.specs.Values.{at_time}
use Rattle.wave_text.specs.VcdText.{VcdText}
use Rattle.waves.specs.Vcd.{Vcd, values_at, variables}
use Rattle.answers.specs.SimAnswer.Laws.{WavesAreRead}
use Rattle.answers.specs.SimAnswer.Simulation.{AreMeant, IsMeant, MeantAt, meant_at_more, meant_at_none}
use Rattle.answers.proofs.Compilation.Ends.{is_typed}
use Rattle.answers.proofs.SimAnswer.Histories.{stimulus_fits}
use Rattle.answers.proofs.SimAnswer.Tops.{top_once}

-- ---- the widths of ports

scalar_few : (x w : ℕ) (b : Bool) → (b ≡ true → x ≤ SCALAR_BITS) → fits w ≡ (if b then fits x else too_wide (OverScalar x)) → w ≤ DATA_BITS
scalar_few x w true few e = let same : w ≡ x = cc in let least = few refl in omega (arith, same, least)
scalar_few x w false few e = absurd (cc)

width_few : {datas : List Data} {t : TypeTree} {m : Measure} → Measured datas t m → (w : ℕ) → fits w ≡ m → w ≤ DATA_BITS
width_few (measured_scalar {w = x}) w e = scalar_few (closed_value x) w (nat_le (closed_value x) SCALAR_BITS) (leb-true (closed_value x) SCALAR_BITS) e
width_few (measured_vector {n = n} {m = m} element) w e = (vector_fits (closed_value n) m w e).within
width_few (measured_data {it = it} {m = m} at many cons) w e = (tagged_fits (tag_width (length it.cons)) m w e).within

ports_wide : {datas : List Data} {leaves : List Leaf} {names : List (List ℕ)} {ports : List Port} → PortsOf datas leaves names ports → AllByRecursion HasBits ports
ports_wide no_ports = tt
ports_wide (port_and {w = w} wide more) = let few = width_few wide (suc w) refl in ((omega arith, omega (arith, few)), ports_wide more)
ports_wide (no_port_and empty more) = ports_wide more

-- the port of a leaf is as wide as its type
port_width : {datas : List Data} {leaves : List Leaf} {names : List (List ℕ)} {ports : List Port} {j k : ℕ} → PortsOf datas leaves names ports → IsPortAt datas leaves j k
    → (leaf : Leaf) (port : Port) → slice_get leaves j ≡ Some leaf → slice_get ports k ≡ Some port → HasWidth datas leaf.payload port.width
port_width no_ports below leaf port at there = elim below [ ]
port_width {datas} (port_and {leaf = it} {name = name} {w = w} wide more) (port_here v) leaf port at there =
    let one : it ≡ leaf = same_some refl at in
    let two : port_of name it (suc w) ≡ port = same_some refl there in
    subst (λ (l : Leaf). HasWidth datas l.payload port.width) one (subst (λ (q : Port). HasWidth datas it.payload q.width) two wide)
port_width (port_and wide more) (port_later v below) leaf port at there = port_width more below leaf port at there
port_width (port_and wide more) (port_past v below) leaf port at there = wide_and_empty v (_, wide)
port_width (no_port_and empty more) (port_here v) leaf port at there = wide_and_empty empty (_, v)
port_width (no_port_and empty more) (port_later v below) leaf port at there = wide_and_empty empty (_, v)
port_width (no_port_and empty more) (port_past v below) leaf port at there = port_width more below leaf port at there

-- ---- the widths of values

have_each : (ports : List Port) (values : List (List Bool)) → length values ≡ length ports
    → ((k : ℕ) (port : Port) (bits : List Bool) → slice_get ports k ≡ Some port → slice_get values k ≡ Some bits → length bits ≡ port.width) → HaveWidths ports values
have_each [] [] many each = tt
have_each [] (bits ∷ values) many each = absurd (omega (arith, many))
have_each (port ∷ ports) [] many each = absurd (omega (arith, many))
have_each (port ∷ ports) (bits ∷ values) many each =
    (each zero port bits refl refl, have_each ports values (omega (arith, many)) (λ k q b. each (suc k) q b))

module _ (width : EncodingHasWidth) (p : Program) (ports : Ports) (has : HasPorts p ports) where
  bits_wide : (h : History) (k : ℕ) (port : Port) (bits : List Bool) → slice_get ports.outputs k ≡ Some port → IsMeant p h k bits → length bits ≡ port.width
  bits_wide h k port bits at meant =
      let same : has.outs ≡ meant.means.outs = (top_once has.top meant.means.top).1 in
      let of : PortsOf p.datas meant.means.outs p.top.outputs ports.outputs = subst (λ ls. PortsOf p.datas ls p.top.outputs ports.outputs) same has.outputs in
      width p.datas meant.leaf.payload meant.value port.width bits (port_width of meant.means.is_port meant.leaf port meant.is_leaf at) meant.encodes

  outputs_wide : (h : History) (outputs : List (List Bool)) → AreMeant p (length ports.outputs) h outputs → HaveWidths ports.outputs outputs
  outputs_wide h outputs are =
      have_each ports.outputs outputs are.as_many (λ k port bits at there. bits_wide h k port bits at (are.each k bits there))

  all_wide : (past events : List Event) (outputs : List (List (List Bool))) → MeantAt p (length ports.outputs) past events outputs
      → AllByRecursion (HaveWidths ports.outputs) outputs × (length outputs ≡ length events)
  all_wide past _ _ (meant_at_none _) = (tt, refl)
  all_wide past _ _ (meant_at_more _ events event outputs others are rest) =
      let more = all_wide (event ∷ past) events others rest in
      ((outputs_wide (event ∷ past) outputs are, more.0), ap suc more.1)

inputs_fit : (ports : Ports) (events : List Event) → AllByRecursion (FitsEvent ports) events → AllByRecursion (λ (event : Event). HaveWidths ports.inputs event.inputs) events
inputs_fit ports [] fit = tt
inputs_fit ports (event ∷ events) fit = (fit.0.inputs, inputs_fit ports events fit.1)

-- ---- the law

abbrev pub PrintedAreRead : Type 0
PrintedAreRead =
    (ports : Ports) (events : List Event) (outputs : List (List (List Bool))) → ArePrintable ports events outputs
    → VcdText (Vcd ports events outputs) (vcd_wave ports events outputs)

abbrev pub HaveValuesBefore : Type 0
HaveValuesBefore =
    (ports : Ports) (events : List Event) (outputs : List (List (List Bool))) (k var : ℕ) (event : Event) (values : List (List Bool))
    → ArePrintable ports events outputs → slice_get events k ≡ Some event → slice_get outputs k ≡ Some values → var < length (variables ports)
    → at_time (vcd_wave ports events outputs) var (2 * k) ≡ slice_get (values_at ports false event values) var

abbrev pub HaveValuesAtEdges : Type 0
HaveValuesAtEdges =
    (ports : Ports) (events : List Event) (outputs : List (List (List Bool))) (k var : ℕ) (event : Event) (values : List (List Bool))
    → ArePrintable ports events outputs → slice_get events k ≡ Some event → slice_get outputs k ≡ Some values → var < length (variables ports)
    → at_time (vcd_wave ports events outputs) var (2 * k + 1) ≡ slice_get (values_at ports true event values) var

pub waves_are_read : LastStatesAreTyped → PortsAreKept → EncodingHasWidth → PrintedAreRead → HaveValuesBefore → HaveValuesAtEdges → WavesAreRead
waves_are_read last_typed kept width read before edges p budget state text lines tidy typed ends sim =
    let ports = sim.ports in
    let events = sim.events in
    let outputs = sim.outputs in
    let has = sim.stimulus.has.are_ports in
    let wide = all_wide width p ports has [] events outputs sim.meant in
    let few = sim.stimulus.read.few in
    let printable : ArePrintable ports events outputs = record {
      holds = kept p state ports (is_typed last_typed tidy typed ends) has;
      input_bits = ports_wide has.inputs;
      output_bits = ports_wide has.outputs;
      events_fit = inputs_fit ports events (stimulus_fits text ports events sim.stimulus.read);
      outputs_fit = wide.0;
      each = wide.1;
      few = omega (arith, few);
    } in
    record {
      ports = ports;
      events = events;
      stimulus = sim.stimulus;
      outputs = outputs;
      meant = sim.meant;
      wave = vcd_wave ports events outputs;
      read = subst (λ it. VcdText it (vcd_wave ports events outputs)) (sym sim.lines_are) (read ports events outputs printable);
      shows = record {
        vars = refl;
        before = λ k var event values at there within. before ports events outputs k var event values printable at there within;
        edges = λ k var event values at there within. edges ports events outputs k var event values printable at there within;
      };
    }
