-- A printed text is that of the printed wave.
use Rattle.std.proofs.Common.{◌≡◌, ℕ, ◌+◌, ◌*◌, ◌<◌, ◌≤◌, ◌^◌, Bool, true, false, List, [], ◌∷◌, ◌++◌, length, map, codes, refl, sym, ap, ◌∙◌, subst, arith}
use Rattle.std.specs.List.{AllByRecursion}
use Rattle.chw_base.specs.Names.{IsUpper}
use Rattle.chw_clock.specs.Histories.{HaveWidths}
use Rattle.chw_clock.specs.declared.event.Event.{Event}
use Rattle.chw_clock.specs.declared.event.Port.{Port}
use Rattle.chw_clock.specs.declared.event.Ports.{Ports}
use Rattle.net_rules.specs.PortsHold.{FitsPort}
use Rattle.verilog_text.specs.Text.{clock_names}
use Rattle.waves.specs.Vcd.{Vcd, code_of, input_variable, output_variable, signal, values_at, variables}
use Rattle.waves.specs.declared.wave.WaveVar.{WaveVar}
use Rattle.wave_text.specs.Printable.{ArePrintable, HasBits}
use Rattle.wave_text.specs.PrintedWave.{events_steps, vcd_wave}
use Rattle.wave_text.specs.VcdText.{IsCode, IsName, IsSource, Source, VcdText}
use Rattle.wave_text.specs.Words.{words_of}
use Rattle.wave_text.proofs.GoodTokens.{AreCodes, events_good, first_good, last_good, variables_good}
use Rattle.wave_text.proofs.Judging.{Sized, events_fine, events_rise, named_numbers, named_vars, numbers_distinct, timed_known, timed_rise, timed_steps, timed_widths}
use Rattle.wave_text.proofs.Plain.{clock_words, port_name, visible_code}
use Rattle.wave_text.proofs.Lists.{all_append}
use Rattle.wave_text.proofs.Spaced.{IsToken, placed, words_spaced}
use Rattle.wave_text.proofs.Telling.{Filled, IsGood, declare_last, declare_variables, prints_events}
use Rattle.wave_text.proofs.Tokens.{events_tokens, first_tokens, last_tokens, variables_tokens, vcd_is, vcd_tokens}

-- what the laws of the printer say of codes and widths
pub record Laws : Type 0 where
  pub distinct : (j k : ℕ) → code_of j ≡ code_of k → j ≡ k
  pub codes : AreCodes
  pub widths : (ports : Ports) (risen : Bool) (event : Event) (outputs : List (List Bool)) → HaveWidths ports.inputs event.inputs
      → HaveWidths ports.outputs outputs → map length (values_at ports risen event outputs) ≡ map (λ (it : WaveVar). it.width) (variables ports)

signals_good : (names : List (List ℕ)) → AllByRecursion IsName names → AllByRecursion IsGood (map signal names)
signals_good [] names_are = tt
signals_good (n ∷ names) names_are = (record { name = names_are.0; some = omega arith; fits = omega arith }, signals_good names names_are.1)

inputs_good : (domains : List (List ℕ)) (count : ℕ) (ports : List Port) → AllByRecursion IsUpper domains → AllByRecursion (FitsPort count) ports
    → AllByRecursion HasBits ports → AllByRecursion IsGood (map (input_variable domains) ports)
inputs_good domains count [] uppers fit have = tt
inputs_good domains count (port ∷ ports) uppers fit have = (
  record { name = port_name 105 domains port refl refl uppers fit.0.1; some = have.0.0; fits = have.0.1 },
  inputs_good domains count ports uppers fit.1 have.1,
)

outputs_good : (domains : List (List ℕ)) (count : ℕ) (ports : List Port) → AllByRecursion IsUpper domains → AllByRecursion (FitsPort count) ports
    → AllByRecursion HasBits ports → AllByRecursion IsGood (map (output_variable domains) ports)
outputs_good domains count [] uppers fit have = tt
outputs_good domains count (port ∷ ports) uppers fit have = (
  record { name = port_name 111 domains port refl refl uppers fit.0.1; some = have.0.0; fits = have.0.1 },
  outputs_good domains count ports uppers fit.1 have.1,
)

all_good : (ports : Ports) (events : List Event) (outputs : List (List (List Bool))) → ArePrintable ports events outputs → AllByRecursion IsGood (variables ports)
all_good ports events outputs known =
    let domains = known.holds.domains in
    let names = clock_names ports.resets 0 ports.domains in
    let ins = map (input_variable ports.domains) ports.inputs in
    let outs = map (output_variable ports.domains) ports.outputs in
    all_append IsGood (map signal names) (ins ++ outs) (signals_good names (clock_words ports.resets 0 ports.domains domains.names))
    (all_append IsGood ins outs (inputs_good ports.domains (length ports.domains) ports.inputs domains.names known.holds.inputs.0 known.input_bits)
    (outputs_good ports.domains (length ports.domains) ports.outputs domains.names known.holds.outputs.0 known.output_bits))

sized : (laws : Laws) (ports : Ports) (events : List Event) (outputs : List (List (List Bool))) → AllByRecursion (λ (event : Event). HaveWidths ports.inputs event.inputs) events
    → AllByRecursion (HaveWidths ports.outputs) outputs → Sized (map (λ (it : WaveVar). it.width) (variables ports)) ports events outputs
sized laws ports [] outputs ins outs = tt
sized laws ports (event ∷ events) [] ins outs = tt
sized laws ports (event ∷ events) (shown ∷ outputs) ins outs =
    (laws.widths ports false event shown ins.0 outs.0, laws.widths ports true event shown ins.0 outs.0, sized laws ports events outputs ins.1 outs.1)

good_sizes : (vars : List WaveVar) → AllByRecursion IsGood vars → AllByRecursion (λ (n : ℕ). 1 ≤ n) (map (λ (it : WaveVar). it.width) vars)
good_sizes [] good = tt
good_sizes (it ∷ vars) good = (good.0.some, good_sizes vars good.1)

have_bits : (sizes : List ℕ) (values : List (List Bool)) → AllByRecursion (λ (n : ℕ). 1 ≤ n) sizes → map length values ≡ sizes → AllByRecursion (λ (value : List Bool). 0 < length value) values
have_bits sizes [] some same = tt
have_bits [] (value ∷ values) some same = cc
have_bits (n ∷ sizes) (value ∷ values) some same =
    let here : length value ≡ n = cc in
    let others : map length values ≡ sizes = cc in
    let low = some.0 in
    (omega arith, have_bits sizes values some.1 others)

filled : (sizes : List ℕ) (ports : Ports) (events : List Event) (outputs : List (List (List Bool))) → AllByRecursion (λ (n : ℕ). 1 ≤ n) sizes → Sized sizes ports events outputs → Filled ports events outputs
filled sizes ports [] outputs some size = tt
filled sizes ports (event ∷ events) [] some size = tt
filled sizes ports (event ∷ events) (shown ∷ outputs) some size = (
  have_bits sizes (values_at ports false event shown) some size.0,
  have_bits sizes (values_at ports true event shown) some size.1,
  filled sizes ports events outputs some size.2,
)

pub printed_waves_are_read : Laws → (ports : Ports) (events : List Event) (outputs : List (List (List Bool))) → ArePrintable ports events outputs
    → VcdText (Vcd ports events outputs) (vcd_wave ports events outputs)
printed_waves_are_read laws ports events outputs known =
    let vars = variables ports in
    let sizes = map (λ (it : WaveVar). it.width) vars in
    let good = all_good ports events outputs known in
    let few = known.few in
    let few_events : 2 * (0 + length events) ≤ 2 ^ 64 = omega arith in
    let size = sized laws ports events outputs known.events_fit known.outputs_fit in
    let code : (k : ℕ) → IsCode (code_of k) = λ k. visible_code (code_of k) (laws.codes.some k) (laws.codes.visible k) in
    let steps = events_steps 0 ports [] events outputs in
    let rest = events_tokens 0 ports [] events outputs in
    let prints = prints_events code 0 ports [] events outputs (filled sizes ports events outputs (good_sizes vars good) size) few_events in
    let declares = declare_variables code 0 vars (last_tokens ++ rest) steps good (λ j. declare_last j rest steps prints) in
    let behind = 0 + length (codes "$timescale") + 1 + length (codes "1") + 1 + length (codes "ns") + 1 + length (codes "$end") + 1 + length (codes "$scope") + 1
    + length (codes "module") + 1 + length (codes "chw_top") + 1 + length (codes "$end") + 1 in
    let it = declares behind in
    let source : Source = record { declared = it.0; moments = it.1 } in
    let numbers = named_numbers it.0 vars it.3 in
    let fine = events_fine sizes 0 ports [] events outputs size in
    let tokens =
    all_append IsToken first_tokens (variables_tokens 0 vars ++ (last_tokens ++ rest)) first_good
    (all_append IsToken (variables_tokens 0 vars) (last_tokens ++ rest) (variables_good laws.codes 0 vars good)
    (all_append IsToken last_tokens rest last_good (events_good laws.codes 0 ports [] events outputs few_events))) in
    let words : words_of (Vcd ports events outputs) ≡ placed 0 (vcd_tokens ports events outputs) =
    ap words_of (vcd_is ports events outputs) ∙ words_spaced 0 (vcd_tokens ports events outputs) tokens in
    record {
      source = source;
      words = subst (λ ws. IsSource ws source) (sym words) (refl, (refl, (refl, (refl, (refl, (refl, (refl, (refl, it.2))))))));
      right = record {
        distinct = numbers_distinct laws.distinct it.0 sizes numbers;
        known = timed_known laws.distinct it.0 sizes it.1 steps numbers it.4 fine;
        widths = timed_widths laws.distinct it.0 sizes it.1 steps numbers it.4 fine;
        rise = timed_rise 0 it.1 steps it.4 (events_rise 0 0 ports [] events outputs (omega arith));
      };
      wave_is = λ i. record {
        vars = sym (named_vars 0 it.0 vars it.3) i;
        steps = sym (timed_steps laws.distinct it.0 sizes it.1 steps numbers it.4 fine) i;
      };
    }
