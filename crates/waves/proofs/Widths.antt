-- Each variable's value has its width.
use Rattle.std.proofs.Common.{◌≡◌, ℕ, Bool, List, [], ◌∷◌, ◌++◌, length, map, refl, sym, ap, ◌∙◌, arith}
use Rattle.std.proofs.lemmas.List.{map-append}
use Rattle.chw_bits.specs.Bitwise.{one_bit}
use Rattle.chw_clock.specs.Histories.{HaveWidths}
use Rattle.chw_clock.specs.declared.event.Event.{Event}
use Rattle.chw_clock.specs.declared.event.Port.{Port}
use Rattle.chw_clock.specs.declared.event.Ports.{Ports}
use Rattle.verilog_text.specs.Text.{clock_names}
use Rattle.waves.specs.Holding.{widths}
use Rattle.waves.specs.Vcd.{input_variable, levels, output_variable, signal, values_at, variables}
use Rattle.waves.specs.declared.wave.WaveVar.{WaveVar}
use Rattle.waves.proofs.Tables.{level_count, widths_of}

signal_widths : (bits : List Bool) (names : List (List ℕ)) → length bits ≡ length names → map length (map one_bit bits) ≡ map (λ (it : WaveVar). it.width) (map signal names)
signal_widths [] [] same = refl
signal_widths [] (word ∷ names) same = absurd (omega arith)
signal_widths (bit ∷ bits) [] same = absurd (omega arith)
signal_widths (bit ∷ bits) (word ∷ names) same = ap (λ ns. 1 ∷ ns) (signal_widths bits names (omega arith))

input_widths : (domains : List (List ℕ)) (ports : List Port) → widths ports ≡ map (λ (it : WaveVar). it.width) (map (input_variable domains) ports)
input_widths domains [] = refl
input_widths domains (port ∷ ports) = ap (λ ns. port.width ∷ ns) (input_widths domains ports)

output_widths : (domains : List (List ℕ)) (ports : List Port) → widths ports ≡ map (λ (it : WaveVar). it.width) (map (output_variable domains) ports)
output_widths domains [] = refl
output_widths domains (port ∷ ports) = ap (λ ns. port.width ∷ ns) (output_widths domains ports)

pub value_widths : (ports : Ports) (risen : Bool) (event : Event) (outputs : List (List Bool)) → HaveWidths ports.inputs event.inputs
    → HaveWidths ports.outputs outputs → map length (values_at ports risen event outputs) ≡ map (λ (it : WaveVar). it.width) (variables ports)
value_widths ports risen event outputs inputs_fit outputs_fit =
    let W : WaveVar → ℕ = λ it. it.width in
    let bits = levels ports risen event in
    let names = clock_names ports.resets 0 ports.domains in
    let ins = map (input_variable ports.domains) ports.inputs in
    let outs = map (output_variable ports.domains) ports.outputs in
    let first = signal_widths bits names (level_count ports risen event 0 ports.domains) in
    let second = widths_of ports.inputs event.inputs inputs_fit ∙ input_widths ports.domains ports.inputs in
    let third = widths_of ports.outputs outputs outputs_fit ∙ output_widths ports.domains ports.outputs in
    map-append length (map one_bit bits) (event.inputs ++ outputs)
    ∙ ap (λ t. t ++ map length (event.inputs ++ outputs)) first
    ∙ ap (λ t. map W (map signal names) ++ t)
    (map-append length event.inputs outputs ∙ ap (λ t. t ++ map length outputs) second ∙ ap (λ t. map W ins ++ t) third ∙ sym (map-append W ins outs))
    ∙ sym (map-append W (map signal names) (ins ++ outs))
