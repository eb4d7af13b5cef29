-- The inputs' bits, put into the first words.
use Rattle.std.proofs.Common.{◌≡◌, ℕ, ◌+◌, ◌-◌, ◌<◌, ◌≤◌, Bool, List, [], ◌∷◌, ◌++◌, length, map, set, get_or, take, drop, Some, slice_get, ◌⊎◌, inl, inr, refl, sym, ap, ◌∙◌, arith, append_assoc, length-take}
use Rattle.std.proofs.lemmas.Bool.{cases_lt}
use Rattle.std.proofs.lemmas.List.{drop-map, drop_more, get_or-append_right, get_or-drop, get_or-take, get_or_append_left, get_or_at, length-map}
use Rattle.std.proofs.lemmas.List.{length-take-le, map-append, set_at, take-append-drop, take_more}
use Rattle.std.proofs.lemmas.Option.{slice_get-get_or, slice_get_within}
use Rattle.chw_clock.specs.Histories.{HaveWidths}
use Rattle.chw_clock.specs.declared.event.Event.{Event}
use Rattle.chw_clock.specs.declared.event.Port.{Port}
use Rattle.netlist.specs.Feeds.{target}
use Rattle.netlist.specs.NetValue.{HasCell}
use Rattle.netlist.specs.Operators.{KeepsNothing}
use Rattle.netlist.specs.Orders.{IsOrder}
use Rattle.netlist.specs.Sound.{Sound}
use Rattle.netlist.specs.declared.net.Cell.{Cell}
use Rattle.netlist.specs.declared.net.Flat.{Flat}
use Rattle.net_sim.specs.Settling.{KeepsKeepers, SettledBefore}
use Rattle.net_sim.specs.Stepping.{Settled}
use Rattle.net_sim.specs.Tables.{value_in}
use Rattle.net_sim.proofs.Cells.{drives_no_input}
use Rattle.net_sim.proofs.Wiring.{width_at}

-- the words so far, split at the next
split_here : (inputs old words : List (List Bool)) (k : ℕ) → k < length inputs → length inputs ≤ length old
    → words ≡ take k inputs ++ drop k old → words ≡ take k inputs ++ value_in old k ∷ drop (k + 1) old
split_here inputs old words k lt le is = is ∙ ap (λ rest. take k inputs ++ rest) (drop_more old k [] (omega arith))

pub put_more : (inputs old words : List (List Bool)) (k : ℕ) (bits : List Bool) → k < length inputs → length inputs ≤ length old
    → words ≡ take k inputs ++ drop k old → bits ≡ value_in inputs k
    → set words k bits ≡ take (k + 1) inputs ++ drop (k + 1) old
put_more inputs old words k bits lt le is made =
    let front = take k inputs in
    let back = drop (k + 1) old in
    let count : length front ≡ k = length-take-le k inputs (omega arith) in
    ap (λ b. set words k b) made ∙ ap (λ l. set l k (value_in inputs k)) (split_here inputs old words k lt le is)
    ∙ set_at front (value_in old k) back (value_in inputs k) k count
    ∙ sym (append_assoc front (value_in inputs k ∷ []) back) ∙ ap (λ f. f ++ back) (sym (take_more inputs k [] lt))

-- the next input has the width of the word where it goes
pub next_width : (inputs old words : List (List Bool)) (k : ℕ) (d : List Bool) → k < length inputs → length inputs ≤ length old
    → map length inputs ≡ take (length inputs) (map length old) → words ≡ take k inputs ++ drop k old
    → length (value_in inputs k) ≡ length (get_or words k d)
next_width inputs old words k d lt le widths is =
    let front = take k inputs in
    let count : length front ≡ k = length-take-le k inputs (omega arith) in
    let there : get_or words k d ≡ value_in old k =
    ap (λ l. get_or l k d) (split_here inputs old words k lt le is) ∙ get_or_at front (value_in old k) (drop (k + 1) old) d k count in
    sym (width_at inputs k) ∙ ap (λ l. get_or l k 0) widths ∙ get_or-take (length inputs) (map length old) k 0 lt ∙ width_at old k
    ∙ ap length (sym there)

-- the widths stay
pub incoming_widths : (inputs old : List (List Bool)) → map length inputs ≡ take (length inputs) (map length old)
    → map length (inputs ++ drop (length inputs) old) ≡ map length old
incoming_widths inputs old widths =
    map-append length inputs (drop (length inputs) old)
    ∙ ap (λ l. l ++ map length (drop (length inputs) old)) widths
    ∙ ap (λ l. take (length inputs) (map length old) ++ l) (sym (drop-map length (length inputs) old))
    ∙ take-append-drop (length inputs) (map length old)

-- bits of the widths of ports have those widths
have_widths : (ports : List Port) (inputs : List (List Bool)) → HaveWidths ports inputs → map length inputs ≡ map (λ (port : Port). port.width) ports
have_widths [] [] have = refl
have_widths [] (bits ∷ inputs) have = absurd have
have_widths (port ∷ ports) [] have = absurd have
have_widths (port ∷ ports) (bits ∷ inputs) have = ap (λ n. n ∷ map length inputs) have.0 ∙ ap (λ ns. port.width ∷ ns) (have_widths ports inputs have.1)

pub inputs_count : (flat : Flat) (event : Event) → HaveWidths flat.ports.inputs event.inputs → length event.inputs ≡ length flat.ports.inputs
inputs_count flat event have =
    sym (length-map event.inputs length) ∙ ap length (have_widths flat.ports.inputs event.inputs have)
    ∙ length-map flat.ports.inputs (λ (port : Port). port.width)

pub incoming_few : (flat : Flat) (table : List (List Bool)) (event : Event) → Sound flat → map length table ≡ flat.widths
    → HaveWidths flat.ports.inputs event.inputs → length event.inputs ≤ length table
incoming_few flat table event sound widths have =
    let count = inputs_count flat event have in
    let front = ap length sound.inputs in
    omega (
      arith,
      length-map flat.ports.inputs (λ (port : Port). port.width),
      length-take (length flat.ports.inputs) flat.widths,
      ap length widths,
      length-map table length,
    )

pub incoming_fit : (flat : Flat) (table : List (List Bool)) (event : Event) → Sound flat → map length table ≡ flat.widths
    → HaveWidths flat.ports.inputs event.inputs → map length event.inputs ≡ take (length event.inputs) (map length table)
incoming_fit flat table event sound widths have =
    have_widths flat.ports.inputs event.inputs have ∙ sound.inputs
    ∙ ap (λ n. take n flat.widths) (sym (inputs_count flat event have)) ∙ ap (take (length event.inputs)) (sym widths)

-- with the inputs put and the cells settled the table is settled for the event
pub settled_inputs : (flat : Flat) (places : List ℕ) (event : Event) (old put new : List (List Bool)) → Sound flat → IsOrder flat places
    → map length old ≡ flat.widths → HaveWidths flat.ports.inputs event.inputs → put ≡ event.inputs ++ drop (length event.inputs) old
    → SettledBefore flat places put new (length places) → Settled flat new event
settled_inputs flat places event old put new sound order widths have is before = record {
  inputs = λ w lt.
      let within : w < length event.inputs = omega (arith, inputs_count flat event have) in
      let same : value_in new w ≡ value_in event.inputs w =
      before.others.inputs w lt ∙ ap (λ l. value_in l w) is
      ∙ get_or_append_left event.inputs (drop (length event.inputs) old) [] w within in
      slice_get-get_or event.inputs w [] within ∙ ap Some (sym same);
  cells = λ cell w has keeps t.
      let found = order.all has.0 (slice_get_within flat.cells has.0 cell has.1) in
      before.settled found.0 found.1 cell w (ap (slice_get flat.cells) found.2 ∙ has.1) keeps t;
}

-- registers and RAMs show what they showed
pub keepers_kept : (flat : Flat) (places : List ℕ) (event : Event) (old put new : List (List Bool)) → Sound flat
    → HaveWidths flat.ports.inputs event.inputs → put ≡ event.inputs ++ drop (length event.inputs) old
    → SettledBefore flat places put new (length places) → KeepsKeepers flat old new
keepers_kept flat places event old put new sound have is before = λ cell w has keeper t.
    from cell w has keeper t (cases_lt w (length flat.ports.inputs))
  where
    from : (cell : Cell) (w : ℕ) → HasCell flat cell → (KeepsNothing cell → ⊥) → target cell ≡ Some w
        → (w < length flat.ports.inputs) ⊎ (length flat.ports.inputs ≤ w) → value_in new w ≡ value_in old w
    from cell w has keeper t (inl lt) = absurd (drives_no_input flat w cell sound has t lt)
    from cell w has keeper t (inr le) =
        let n = length event.inputs in
        let above : n ≤ w = omega (arith, inputs_count flat event have) in
        let place : n + (w - n) ≡ w = omega arith in
        before.others.keepers cell w has keeper t ∙ ap (λ l. value_in l w) is
        ∙ get_or-append_right event.inputs (drop n old) n w [] refl above ∙ get_or-drop n old (w - n) [] ∙ ap (value_in old) place
