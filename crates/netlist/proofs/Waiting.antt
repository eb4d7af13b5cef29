-- The references of the graph of cells, and which wires feed which.
use Rattle.std.proofs.Common.{◌≡◌, ℕ, ◌+◌, ◌-◌, ◌<◌, ◌≤◌, List, [], length, get_or, map, reverse, refl, sym, ◌∙◌, ap, arith, Option, Some, None, option_map, slice_get}
use Rattle.std.specs.Prelude.{◌^◌, option_and_then}
use Rattle.std.proofs.lemmas.List.{get_or-reverse, length-map, length-reverse}
use Rattle.std.proofs.lemmas.Option.{get_or_from_slice_get, same_Some, slice_get-get_or, slice_get-map, slice_get_within}
use Rattle.chw_base.specs.declared.index.WireId.{WireId}
use Rattle.graph_order.specs.Orders.{IsOrder as OrdersNodes}
use Rattle.graph_order.specs.References.{Refers, reference_at, reference_count}
use Rattle.netlist.specs.Feeds.{Feeds, awaited, awaited_at, awaited_wire, target_at}
use Rattle.netlist.specs.Orders.{OrdersCells}
use Rattle.netlist.specs.Sound.{DrivesFrom}
use Rattle.netlist.specs.Waits.{driving_place, waits, waits_of}
use Rattle.netlist.specs.declared.net.Cell.{Cell}
use Rattle.netlist.proofs.Driven.{place_found, target_in_order, wire_of_place}
use Rattle.netlist.proofs.Lists.{target_within}

-- an element of a list that is turned round, and of the list
from_last : (xs : List ℕ) (left : ℕ) → 0 < left → left ≤ length (reverse xs)
    → slice_get (reverse xs) (length (reverse xs) - left) ≡ slice_get xs (left - 1)
from_last xs left some fits =
    let n : length (reverse xs) ≡ length xs = length-reverse xs in
    let k : ℕ = length (reverse xs) - left in
    let at : length xs - 1 - k ≡ left - 1 = omega arith in
    slice_get-get_or (reverse xs) k 0 (omega arith) ∙ ap Some (get_or-reverse xs k 0 (omega arith))
    ∙ ap (λ i. Some (get_or xs i 0)) at ∙ sym (slice_get-get_or xs (left - 1) 0 (omega arith))

module _ (inputs : ℕ) (cells : List Cell) where
  abbrev driving : WireId → ℕ
  driving w = driving_place inputs w.number

  -- what the graph has at the place of a cell
  listed : (p : ℕ) (cell : Cell) → slice_get cells p ≡ Some cell → slice_get (waits inputs cells) p ≡ Some (waits_of inputs cell)
  listed p cell at = slice_get-map (waits_of inputs) cells p ∙ ap (option_map (waits_of inputs)) at

  names_here : (p : ℕ) (cell : Cell) → slice_get cells p ≡ Some cell → get_or (waits inputs cells) p [] ≡ waits_of inputs cell
  names_here p cell at = get_or_from_slice_get (waits inputs cells) p (waits_of inputs cell) [] (listed p cell at)

  -- what the graph has there where so many are left, the last that the cell waits for first
  pub reference_here : (p : ℕ) (cell : Cell) (left : ℕ) (wire : WireId) → slice_get cells p ≡ Some cell → 0 < left
      → left ≤ reference_count (waits inputs cells) p → Some wire ≡ slice_get (awaited cell) (left - 1)
      → Some (driving wire) ≡ reference_at (waits inputs cells) p (reference_count (waits inputs cells) p - left)
  reference_here p cell left wire at some fits e =
      let xs : List ℕ = map driving (awaited cell) in
      let k : ℕ = reference_count (waits inputs cells) p - left in
      let here : reference_at (waits inputs cells) p k ≡ slice_get (reverse xs) k =
      ap (λ (o : Option (List ℕ)). option_and_then (λ names. slice_get names k) o) (listed p cell at) in
      let count : reference_count (waits inputs cells) p ≡ length (reverse xs) = ap length (names_here p cell at) in
      ap (option_map driving) e ∙ sym (slice_get-map driving (awaited cell) (left - 1)) ∙ sym (from_last xs left some (omega (arith, count)))
      ∙ ap (λ n. slice_get (reverse xs) (n - left)) (sym count) ∙ sym here

  module _ (d : DrivesFrom inputs cells) where
    -- a cell's wire is fed by that of a cell that it refers to
    pub feeds_by : length cells < 2 ^ 32 → (p q : ℕ) → Refers (waits inputs cells) p q → Feeds cells (inputs + q) (inputs + p)
    feeds_by few p q r = by_cell (slice_get cells p) refl where
      by_wire : (cell : Cell) (at : slice_get cells p ≡ Some cell) (j : ℕ) (wire : Option WireId) → slice_get (awaited cell) j ≡ wire
          → option_map driving wire ≡ Some q → Feeds cells (inputs + q) (inputs + p)
      by_wire cell at j None is e = absurd (cc)
      by_wire cell at j (Some w) is e =
          let node : q < length (waits inputs cells) = r.is_node in
          let n : length (waits inputs cells) ≡ length cells = length-map cells (waits_of inputs) in
          let number : w.number ≡ inputs + q = wire_of_place inputs w.number q (same_Some _ _ e) (omega arith) in
          let here : awaited_wire cell j ≡ Some (inputs + q) = ap (option_map (λ w. w.number)) is ∙ ap Some number in (
            p,
            j,
            target_in_order inputs cells d p (slice_get_within cells p cell at),
            ap (λ o. option_and_then (λ c. awaited_wire c j) o) at ∙ here,
          )

      by_cell : (cell : Option Cell) → slice_get cells p ≡ cell → Feeds cells (inputs + q) (inputs + p)
      by_cell None at =
          let none : slice_get (waits inputs cells) p ≡ None = slice_get-map (waits_of inputs) cells p ∙ ap (option_map (waits_of inputs)) at in
          let some = r.are_names in
          absurd (cc)
      by_cell (Some cell) at =
          let xs : List ℕ = map driving (awaited cell) in
          let e : reverse xs ≡ r.names = same_Some _ _ (sym (listed p cell at) ∙ r.are_names) in
          let size : length r.names ≡ length xs = ap length (sym e) ∙ length-reverse xs in
          let k : ℕ = r.is_named.0 in
          let l : k < length r.names = r.is_named.1 in
          let j : ℕ = length xs - 1 - k in
          let is : get_or xs j q ≡ q = sym (get_or-reverse xs k q (omega arith)) ∙ ap (λ ns. get_or ns k q) e ∙ r.is_named.2 in
          by_wire cell at j (slice_get (awaited cell) j) refl
          (sym (slice_get-map driving (awaited cell) j) ∙ slice_get-get_or xs j q (omega arith) ∙ ap Some is)

    -- a cell refers to those that drive what it waits for
    pub refers_to : (p k w q : ℕ) → awaited_at cells p k ≡ Some w → target_at cells q ≡ Some w → Refers (waits inputs cells) p q
    refers_to p k w q a t = by_cell (slice_get cells p) refl a where
      by_wire : (cell : Cell) (at : slice_get cells p ≡ Some cell) (wire : Option WireId) → slice_get (awaited cell) k ≡ wire
          → option_map (λ (w : WireId). w.number) wire ≡ Some w → Refers (waits inputs cells) p q
      by_wire cell at None is e = absurd (cc)
      by_wire cell at (Some v) is e =
          let xs : List ℕ = map driving (awaited cell) in
          let found : driving v ≡ q = place_found inputs cells d v.number q (t ∙ sym e) in
          let here : slice_get xs k ≡ Some q = slice_get-map driving (awaited cell) k ∙ ap (option_map driving) is ∙ ap Some found in
          let l : k < length xs = slice_get_within xs k q here in
          let size : length (reverse xs) ≡ length xs = length-reverse xs in
          let j : ℕ = length xs - 1 - k in
          let back : length xs - 1 - j ≡ k = omega arith in
          let named : get_or (reverse xs) j q ≡ q =
          get_or-reverse xs j q (omega arith) ∙ ap (λ i. get_or xs i q) back ∙ get_or_from_slice_get xs k q q here in
          record {
            names = reverse xs;
            are_names = listed p cell at;
            is_named = (j, omega arith, named);
            is_node = omega (arith, target_within cells q w t, length-map cells (waits_of inputs));
          }

      by_cell : (cell : Option Cell) → slice_get cells p ≡ cell → option_and_then (λ c. awaited_wire c k) cell ≡ Some w
          → Refers (waits inputs cells) p q
      by_cell None at e = absurd (cc)
      by_cell (Some cell) at e = by_wire cell at (slice_get (awaited cell) k) refl e

    -- an order of the graph is one of the cells
    pub cells_ordered : (places : List ℕ) → OrdersNodes (waits inputs cells) places → OrdersCells cells places
    cells_ordered places o =
        let n : length (waits inputs cells) ≡ length cells = length-map cells (waits_of inputs) in
        record {
          within = λ i l. omega (arith, o.within i l);
          once = o.once;
          all = λ p l. o.all p (omega arith);
          after = λ j k w p l a t. o.after j p l (refers_to (get_or places j 0) k w p a t);
        }
