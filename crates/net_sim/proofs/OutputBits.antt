-- The bits of the outputs.
use Rattle.std.proofs.Common.{◌≡◌, ℕ, ◌<◌, ◌≤◌, Bool, List, [], ◌∷◌, ◌++◌, length, map, take, drop, get_or, Some, slice_get, refl, sym, ap, subst, ◌∙◌, arith}
use Rattle.std.proofs.lemmas.List.{get_or-map, length-append, length-drop, length-map, length-take}
use Rattle.std.proofs.Math.Seq.{take-length}
use Rattle.chw_base.specs.declared.index.WireId.{WireId}
use Rattle.chw_clock.specs.declared.event.Event.{Event}
use Rattle.chw_clock.specs.declared.event.Port.{Port}
use Rattle.netlist.specs.NetValue.{ReadValues}
use Rattle.netlist.specs.Sound.{Sound}
use Rattle.netlist.specs.declared.net.Flat.{Flat}
use Rattle.net_sim.specs.Stepping.{ShowsValues}
use Rattle.net_sim.specs.Tables.{value_in, values_in}
use Rattle.net_sim.proofs.Kept.{output_wire}
use Rattle.net_sim.proofs.Values.{readings}
use Rattle.net_sim.proofs.Wiring.{wire_width}

widths_of : (table : List (List Bool)) (wires : List WireId) (ports : List Port)
    → map (λ (w : WireId). slice_get (map length table) w.number) wires ≡ map (λ (port : Port). Some port.width) ports
    → map length (values_in table wires) ≡ map (λ (port : Port). port.width) ports
widths_of table [] [] e = refl
widths_of table [] (port ∷ ports) e = absurd (cc)
widths_of table (w ∷ wires) [] e = absurd (cc)
widths_of table (w ∷ wires) (port ∷ ports) e =
    let first : slice_get (map length table) w.number ≡ Some port.width = cc in
    let others : map (λ (w : WireId). slice_get (map length table) w.number) wires ≡ map (λ (port : Port). Some port.width) ports = cc in
    ap (λ n. n ∷ map length (values_in table wires)) (wire_width table w port.width first)
    ∙ ap (λ ns. port.width ∷ ns) (widths_of table wires ports others)

-- the outputs' wires have the widths of the ports
pub output_widths : (flat : Flat) (table : List (List Bool)) → Sound flat → map length table ≡ flat.widths
    → map length (values_in table flat.outputs) ≡ map (λ (port : Port). port.width) flat.ports.outputs
output_widths flat table sound widths =
    widths_of table flat.outputs flat.ports.outputs
    (subst (λ ns. map (λ (w : WireId). slice_get ns w.number) flat.outputs ≡ map (λ (port : Port). Some port.width) flat.ports.outputs) (sym widths)
    sound.outputs)

-- there are as many of them as ports
pub output_count : (flat : Flat) (table outputs : List (List Bool)) → Sound flat → map length table ≡ flat.widths
    → map length outputs ≡ map (λ (port : Port). port.width) flat.ports.outputs → length outputs ≡ length flat.outputs
output_count flat table outputs sound widths is =
    sym (length-map outputs length) ∙ ap length (is ∙ sym (output_widths flat table sound widths))
    ∙ length-map (values_in table flat.outputs) length ∙ length-map flat.outputs _

-- and each has the width of what it is to have
pub output_fit : (flat : Flat) (table outputs : List (List Bool)) → Sound flat → map length table ≡ flat.widths
    → map length outputs ≡ map (λ (port : Port). port.width) flat.ports.outputs
    → map length (values_in table flat.outputs) ≡ take (length (values_in table flat.outputs)) (map length outputs)
output_fit flat table outputs sound widths is =
    let same = output_widths flat table sound widths ∙ sym is in
    let count : length (values_in table flat.outputs) ≡ length (map length outputs) =
    sym (length-map (values_in table flat.outputs) length) ∙ ap length same in
    same ∙ sym (take-length (map length outputs)) ∙ ap (λ n. take n (map length outputs)) (sym count)

-- where each wire has the bits of the table, so have the outputs
pub gives : (flat : Flat) (table : List (List Bool)) (h : List Event) → Sound flat → ShowsValues flat table h
    → ReadValues flat h flat.outputs (values_in table flat.outputs)
gives flat table h sound shows =
    readings flat h table flat.outputs (λ k v at. shows v.number (output_wire flat k v sound at))

-- the bits of an output's wire
pub output_bits : (flat : Flat) (table : List (List Bool)) (wires : List WireId) (k : ℕ) (bits : List Bool) (w : WireId) → wires ≡ flat.outputs
    → k < length wires → w ≡ get_or wires k (record { number = 0 }) → bits ≡ value_in table w.number → bits ≡ value_in (values_in table flat.outputs) k
output_bits flat table wires k bits w same lt is made =
    let none : WireId = record { number = 0 } in
    let mapped : get_or (map (λ (w : WireId). value_in table w.number) flat.outputs) k [] ≡ value_in table (get_or flat.outputs k none).number =
    get_or-map (λ (w : WireId). value_in table w.number) flat.outputs k none [] (subst (λ ws. k < length ws) same lt) in
    made ∙ ap (λ (w : WireId). value_in table w.number) (is ∙ ap (λ ws. get_or ws k none) same) ∙ sym mapped

-- there stay as many outputs
pub outputs_stay : (made old outputs : List (List Bool)) (k : ℕ) → outputs ≡ take k made ++ drop k old → length made ≡ length old → k ≤ length old
    → length outputs ≡ length old
outputs_stay made old outputs k is same le =
    omega (arith, ap length is, length-append (take k made) (drop k old), length-take k made, length-drop k old, same, le)
