-- Ranks of the wires of instances, by the order of the flat cells that drive them.
use Rattle.std.specs.Prelude.{slice_index, nat_lt, if◌then◌else◌, option_and_then, option_map, map}
use Rattle.std.proofs.Common.{◌≡◌, ◌<◌, ◌≤◌, ℕ, zero, suc, ◌+◌, ◌-◌, List, [], ◌∷◌, length, Option, Some, slice_get, inl, inr, refl, sym, ap, ◌∙◌, subst, arith}
use Rattle.std.proofs.lemmas.Bool.{cases_lt, le-ltb, lt-ltb}
use Rattle.std.proofs.lemmas.Option.{slice_get_within}
use Rattle.chw_base.specs.declared.index.WireId.{WireId}
use Rattle.net_flat.specs.Flattened.{IsFlatOf, moved, wire_from}
use Rattle.netlist.specs.Feeds.{target, target_at, awaited, awaited_at}
use Rattle.netlist.specs.NetValue.{HasCell}
use Rattle.netlist.specs.Operators.{KeepsNothing}
use Rattle.netlist.specs.Orders.{OrdersCells, IsOrder}
use Rattle.netlist.specs.Sound.{DrivesFrom}
use Rattle.netlist.specs.Wires.{read_by}
use Rattle.netlist.specs.declared.net.Cell.{Cell}
use Rattle.netlist.specs.declared.net.Cell.TheVariants.{Copy, Reg, Ram, Use}
use Rattle.netlist.specs.declared.net.Flat.{Flat}
use Rattle.netlist.specs.declared.net.Module.{Module}
use Rattle.netlist.specs.declared.net.Net.{Net}
use Rattle.use_laws.specs.ValueIn.{HasCellAt, HasUseAt, IsModuleAt}
use Rattle.net_grounds.specs.Facts.{Facts}
use Rattle.net_means.specs.WireOrder.Awaits.{Settles, by_cell, by_input, by_output, by_more, Ranked}
use Rattle.net_means.proofs.WireOrder.FlatCells.{target_moved, read_by_moved, keeps_moved, flat_wire, own_cell, input_cell, output_cell}
use Rattle.net_means.proofs.WireOrder.Paths.{base_at}
use Rattle.net_means.proofs.WireOrder.Places.{counted, counted_at, counted_some}

-- the rank of a flat wire: an input's is zero
abbrev flat_rank : ℕ → List ℕ → ℕ → ℕ
flat_rank inputs places n = if nat_lt n inputs then 0 else counted places (n - inputs)

rank_of_input : (inputs : ℕ) (places : List ℕ) (n : ℕ) → n < inputs → flat_rank inputs places n ≡ 0
rank_of_input inputs places n l = ap (λ b. if b then 0 else counted places (n - inputs)) (lt-ltb n inputs l)

rank_of_driven : (inputs : ℕ) (places : List ℕ) (n : ℕ) → inputs ≤ n → flat_rank inputs places n ≡ counted places (n - inputs)
rank_of_driven inputs places n l = ap (λ b. if b then 0 else counted places (n - inputs)) (le-ltb n inputs l)

-- a cell that keeps nothing waits for what it reads
waits_for_read : (cell : Cell) → KeepsNothing cell → awaited cell ≡ read_by cell
waits_for_read (Reg w domain initial a) keeps = absurd keeps
waits_for_read (Ram w domain words inputs) keeps = absurd keeps
waits_for_read (Use m reads drives) keeps = absurd keeps
waits_for_read _ keeps = refl

module _ (facts : Facts) (inputs : ℕ) (cells : List Cell) (places : List ℕ) (drives : DrivesFrom inputs cells) (ordered : OrdersCells cells places) where
  -- of a cell in the order, what it drives comes behind what it waits for
  behind_read : (place k j v : ℕ) → j < length places → slice_index places j ≡ place → awaited_at cells place k ≡ Some v → flat_rank inputs places v < suc j
  behind_read place k j v l at e = elim (cases_lt v inputs) [
    | inl h ↦ let is = rank_of_input inputs places v h in omega (arith, is)
    | inr h ↦ let is = rank_of_driven inputs places v h in let less = split h (counted places (v - inputs)) refl in omega (arith, is, less)
  ]
    where
      split : inputs ≤ v → (n : ℕ) → counted places (v - inputs) ≡ n → n < suc j
      split h zero f = omega arith
      split h (suc i) f =
          let there = counted_at places (v - inputs) i f in
          let inside : v - inputs < length cells = subst (λ p. p < length cells) there.1 (ordered.within i there.0) in
          let number : inputs + (v - inputs) ≡ v = omega (arith, h) in
          let driver : target_at cells (v - inputs) ≡ Some v = facts.flat.target_in_order inputs cells drives (v - inputs) inside ∙ ap (λ n. Some n) number in
          let waits : awaited_at cells (slice_index places j) k ≡ Some v = ap (λ p. awaited_at cells p k) at ∙ e in
          let before = ordered.after j k v (v - inputs) l waits driver in
          let early = before.1 in
          let inner : before.0 < length places = omega (arith, l, early) in
          let same : i ≡ before.0 = ordered.once i before.0 there.0 inner (there.1 ∙ sym before.2) in
          omega (arith, same, early)

  pub flat_falls : (place k w v : ℕ) → target_at cells place ≡ Some w → place < length cells → awaited_at cells place k ≡ Some v → flat_rank inputs places v < flat_rank inputs places w
  flat_falls place k w v t inside e =
      let number = facts.flat.driven_wire inputs cells drives place w t in
      let there = ordered.all place inside in
      let is : flat_rank inputs places w ≡ counted places (w - inputs) = rank_of_driven inputs places w (omega (arith, number)) in
      let less : w - inputs ≡ place = omega (arith, number) in
      let stands = is ∙ ap (λ p. counted places p) less in
      let some = counted_some places place there.0 there.1 there.2 in
      split (counted places place) refl stands some
    where
      split : (n : ℕ) → counted places place ≡ n → flat_rank inputs places w ≡ counted places place → 0 < counted places place → flat_rank inputs places v < flat_rank inputs places w
      split zero f stands some = absurd (omega (arith, f, some))
      split (suc j) f stands some =
          let at = counted_at places place j f in
          let less = behind_read place k j v at.0 at.1 e in
          omega (arith, less, stands, f)

  -- the cell at a place falls to each wire that it reads
  pub cell_falls : (at : ℕ) (cell : Cell) (k w : ℕ) (v : WireId) → slice_get cells at ≡ Some cell → KeepsNothing cell → target cell ≡ Some w → slice_get (read_by cell) k ≡ Some v → flat_rank inputs places v.number < flat_rank inputs places w
  cell_falls at cell k w v stands keeps t e =
      let there : target_at cells at ≡ Some w = ap (λ (o : Option Cell). option_and_then target o) stands ∙ t in
      let waits : slice_get (awaited cell) k ≡ Some v = ap (λ (ws : List WireId). slice_get ws k) (waits_for_read cell keeps) ∙ e in
      let read : awaited_at cells at k ≡ Some v.number =
      ap (λ (o : Option Cell). option_and_then (λ (cell : Cell). option_map (λ (w : WireId). w.number) (slice_get (awaited cell) k)) o) stands ∙ ap (λ (o : Option WireId). option_map (λ (w : WireId). w.number) o) waits in
      flat_falls at k w v.number there (slice_get_within cells at cell stands) read

-- what stands in a list, among the flat wires of an instance
moved_read : (base k : ℕ) (wires : List WireId) (v : WireId) → slice_get wires k ≡ Some v → slice_get (map (wire_from base) wires) k ≡ Some (wire_from base v)
moved_read base k [] v e = absurd cc
moved_read base zero (w ∷ wires) v e = let same : w ≡ v = cc in ap (λ x. Some (wire_from base x)) same
moved_read base (suc k) (w ∷ wires) v e = moved_read base k wires v e

module _ (facts : Facts) (net : Net) (flat : Flat) (places : List ℕ) (f : IsFlatOf net flat) (ordered : IsOrder flat places) where
  abbrev rank : List ℕ → ℕ → ℕ
  rank path w = flat_rank f.m.inputs places (base_at net path + w)

  flat_cell_falls : (cell : Cell) (k w : ℕ) (v : WireId) → HasCell flat cell → KeepsNothing cell → target cell ≡ Some w → slice_get (read_by cell) k ≡ Some v → flat_rank f.m.inputs places v.number < flat_rank f.m.inputs places w
  flat_cell_falls cell k w v has keeps t e = cell_falls facts f.m.inputs flat.cells places f.in_order ordered has.0 cell k w v has.1 keeps t e

  falls_by_cell : (path : List ℕ) (cell : Cell) (w k : ℕ) (v : WireId) → HasCellAt net path cell → KeepsNothing cell → target cell ≡ Some w → slice_get (read_by cell) k ≡ Some v → rank path v.number < rank path w
  falls_by_cell path cell w k v has keeps t e =
      let base = base_at net path in
      let read : slice_get (read_by (moved base cell)) k ≡ Some (wire_from base v) = ap (λ (ws : List WireId). slice_get ws k) (read_by_moved base cell) ∙ moved_read base k (read_by cell) v e in
      flat_cell_falls (moved base cell) k (base + w) (wire_from base v) (own_cell facts net flat f path cell has keeps) (keeps_moved base cell keeps) (target_moved base cell w t) read

  falls_by_input : (path : List ℕ) (place j : ℕ) (reads drives : List WireId) (r : WireId) → HasUseAt net path place reads drives → slice_get reads j ≡ Some r → rank path r.number < rank (place ∷ path) j
  falls_by_input path place j reads drives r u e =
      flat_cell_falls (Copy (flat_wire (base_at net (place ∷ path) + j)) (wire_from (base_at net path) r)) 0 (base_at net (place ∷ path) + j) (wire_from (base_at net path) r)
      (input_cell facts net flat f path place j reads drives r u e) tt refl refl

  falls_by_output : (path : List ℕ) (place j : ℕ) (reads drives : List WireId) (inner : Module) (w o : WireId) → HasUseAt net path place reads drives → IsModuleAt net (place ∷ path) inner → slice_get drives j ≡ Some w → slice_get inner.outputs j ≡ Some o → rank (place ∷ path) o.number < rank path w.number
  falls_by_output path place j reads drives inner w o u at d e =
      flat_cell_falls (Copy (wire_from (base_at net path) w) (wire_from (base_at net (place ∷ path)) o)) 0 (base_at net path + w.number) (wire_from (base_at net (place ∷ path)) o)
      (output_cell facts net flat f path place j reads drives inner w o u at d e) tt refl refl

  all_fall : (p q : List ℕ) (w v : ℕ) → Settles net p w q v → rank q v < rank p w
  all_fall _ _ _ _ (by_cell {path = path} {cell = cell} {w = w} {v = v} k has keeps t e) = falls_by_cell path cell w k v has keeps t e
  all_fall _ _ _ _ (by_input {path = path} {reads = reads} {drives = drives} {r = r} place j u e) = falls_by_input path place j reads drives r u e
  all_fall _ _ _ _ (by_output {path = path} {reads = reads} {drives = drives} {inner = inner} {w = w} {o = o} place j u at d e) = falls_by_output path place j reads drives inner w o u at d e
  all_fall _ _ _ _ (by_more {p = p} {q = q} {r = r} {w = w} {v = v} {u = u} s t) =
      let first = all_fall p q w v s in
      let second = all_fall q r v u t in
      omega (arith, first, second)

  pub ranked : Ranked net
  ranked = record { rank = rank; falls = all_fall }
