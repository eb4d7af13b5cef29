-- Wires of parts: where wires settle place by place, so do those of each part.
use Rattle.std.specs.Prelude.{drop}
use Rattle.std.proofs.Common.{◌≡◌, ℕ, zero, suc, ◌+◌, ◌-◌, List, [], ◌∷◌, ◌++◌, length, Some, slice_get, refl, sym, ap, ◌∙◌, subst, arith}
use Rattle.chw_base.specs.declared.index.WireId.{WireId}
use Rattle.netlist.specs.declared.net.Cell.TheVariants.{Copy}
use Rattle.netlist.specs.declared.net.Module.{Module}
use Rattle.netlist.specs.declared.net.Net.{Net}
use Rattle.net_built.specs.Wires.{wire, wires_from, wire_count, new_wires, last_wires, copies, copy_cells}
use Rattle.cell_bits.specs.Bearing.{HasCells}
use Rattle.net_means.specs.CircuitBits.Leaves.{part_wires}
use Rattle.net_means.specs.CircuitBits.Uses.{UsedAt}
use Rattle.net_means.specs.WireOrder.Awaits.{AllSettle, Settles, by_cell, by_input, by_output}
use Rattle.net_means.proofs.WireOrder.Reached.{in_front, behind}

-- wires settle by those at the same place
abbrev InTurn : Net → List ℕ → List WireId → List ℕ → List WireId → Type 0
InTurn net p wires q others =
    (i : ℕ) (w v : WireId) → slice_get wires i ≡ Some w → slice_get others i ≡ Some v
    → Settles net p w.number q v.number

module _ (net : Net) (p q : List ℕ) where
  pub parts_settle : (k : ℕ) (widths : List ℕ) (wires others : List WireId) → InTurn net p wires q others → AllSettle net p (part_wires k widths wires) q (part_wires k widths others)
  parts_settle k [] wires others f i j w v e g = absurd cc
  parts_settle zero (zero ∷ widths) wires others f i j w v e g = absurd cc
  parts_settle zero (suc x ∷ widths) [] others f i j w v e g = absurd cc
  parts_settle zero (suc x ∷ widths) (a ∷ wires) [] f i j w v e g = absurd cc
  parts_settle zero (suc x ∷ widths) (a ∷ wires) (b ∷ others) f zero zero w v e g =
      let first : a ≡ w = cc in
      let second : b ≡ v = cc in
      f 0 w v (ap (λ x. Some x) first) (ap (λ x. Some x) second)
  parts_settle zero (suc x ∷ widths) (a ∷ wires) (b ∷ others) f zero (suc j) w v e g = absurd cc
  parts_settle zero (suc x ∷ widths) (a ∷ wires) (b ∷ others) f (suc i) j w v e g = absurd cc
  parts_settle (suc k) (zero ∷ widths) wires others f i j w v e g = parts_settle k widths wires others f i j w v e g
  parts_settle (suc k) (suc x ∷ widths) [] others f i j w v e g = parts_settle k widths [] (drop 1 others) (λ i w v e g. absurd cc) i j w v e g
  parts_settle (suc k) (suc x ∷ widths) (a ∷ wires) [] f i j w v e g = parts_settle k widths wires [] (λ i w v e g. absurd cc) i j w v e g
  parts_settle (suc k) (suc x ∷ widths) (a ∷ wires) (b ∷ others) f i j w v e g = parts_settle k widths wires others (λ i w v e g. f (suc i) w v e g) i j w v e g

-- wires in turn have numbers in turn
pub number_there : (n count i : ℕ) (w : WireId) → slice_get (wires_from n count) i ≡ Some w → w.number ≡ n + i
number_there n zero i w e = absurd cc
number_there n (suc count) zero w e =
    let is : wire n ≡ w = cc in
    let number : n ≡ w.number = ap (λ (w : WireId). w.number) is in
    omega (arith, number)
number_there n (suc count) (suc i) w e = let rest = number_there (n + 1) count i w e in omega (arith, rest)

copy_there : (n i : ℕ) (wires : List WireId) (v : WireId) → slice_get wires i ≡ Some v → slice_get (copy_cells n wires) i ≡ Some (Copy (wire (n + i)) v)
copy_there n i [] v e = absurd cc
copy_there n zero (a ∷ wires) v e =
    let is : a ≡ v = cc in
    let number : n ≡ n + 0 = omega arith in
    λ i. Some (Copy (wire (number i)) (is i))
copy_there n (suc i) (a ∷ wires) v e =
    let number : n + 1 + i ≡ n + suc i = omega arith in
    copy_there (n + 1) i wires v e ∙ ap (λ n. Some (Copy (wire n) v)) number

module _ (net : Net) (path : List ℕ) where
  copies_in_turn : (n count : ℕ) (wires : List WireId) → HasCells net path (copy_cells n wires) → InTurn net path (wires_from n count) path wires
  copies_in_turn n count wires has i w v e g =
      let number = number_there n count i w e in
      subst (λ k. Settles net path k path v.number) (sym number) (by_cell 0 (has i (Copy (wire (n + i)) v) (copy_there n i wires v g)) tt refl refl)

  -- copies settle part by part by what they copy
  pub copies_settle : (k n : ℕ) (widths : List ℕ) (wires : List WireId) → HasCells net path (copy_cells n wires) → AllSettle net path (part_wires k widths (last_wires n (copies n wires widths) widths)) path (part_wires k widths wires)
  copies_settle k n widths wires has =
      let place : n ≡ n + wire_count widths - wire_count widths = omega arith in
      subst (λ m. AllSettle net path (part_wires k widths (wires_from m (wire_count widths))) path (part_wires k widths wires)) place
      (parts_settle net path path k widths (wires_from n (wire_count widths)) wires (copies_in_turn n (wire_count widths) wires has))

-- what a use gives settles by the outputs of the used instance
pub uses_settle : (net : Net) (path : List ℕ) (inner : Module) (n k : ℕ) (widths : List ℕ) (reads : List WireId) (at : UsedAt net path reads (new_wires n widths) inner)
    → AllSettle net path (part_wires k widths (new_wires n widths)) (at.place ∷ path) (part_wires k widths inner.outputs)
uses_settle net path inner n k widths reads at = parts_settle net path (at.place ∷ path) k widths (new_wires n widths) inner.outputs (λ i w v e g. by_output at.place i at.stands at.is e g)

-- and its inputs by the operand that is read
pub inputs_settle : (net : Net) (path : List ℕ) (inner : Module) (front wires back drives : List WireId) (widths : List ℕ) (k : ℕ) (at : UsedAt net path (front ++ (wires ++ back)) drives inner)
    → AllSettle net (at.place ∷ path) (part_wires k widths (new_wires (length front) widths)) path (part_wires k widths wires)
inputs_settle net path inner front wires back drives widths k at =
    parts_settle net (at.place ∷ path) path k widths (new_wires (length front) widths) wires
    (λ i w v e g.
    let number = number_there (length front) (wire_count widths) i w e in
    subst (λ m. Settles net (at.place ∷ path) m path v.number) (sym number) (by_input at.place (length front + i) at.stands (behind front (wires ++ back) i (length front + i) v refl (in_front wires back i v g))))

-- a value has one part
value_part : (w : ℕ) (wires : List WireId) → length wires ≡ wire_count (w ∷ []) → part_wires zero (w ∷ []) wires ≡ wires
value_part zero [] e = refl
value_part zero (a ∷ wires) e = absurd (omega (arith, e))
value_part (suc w) [] e = absurd (omega (arith, e))
value_part (suc w) (a ∷ []) e = refl
value_part (suc w) (a ∷ b ∷ wires) e = absurd (omega (arith, e))

new_part : (n w : ℕ) → part_wires zero (w ∷ []) (new_wires n (w ∷ [])) ≡ new_wires n (w ∷ [])
new_part n zero = refl
new_part n (suc w) = refl

pub value_uses_settle : (net : Net) (path : List ℕ) (inner : Module) (n w : ℕ) (reads : List WireId) (at : UsedAt net path reads (new_wires n (w ∷ [])) inner) → length inner.outputs ≡ wire_count (w ∷ []) → AllSettle net path (new_wires n (w ∷ [])) (at.place ∷ path) inner.outputs
value_uses_settle net path inner n w reads at e =
    subst (λ ws. AllSettle net path ws (at.place ∷ path) inner.outputs) (new_part n w)
    (subst (λ ws. AllSettle net path (part_wires zero (w ∷ []) (new_wires n (w ∷ []))) (at.place ∷ path) ws) (value_part w inner.outputs e) (uses_settle net path inner n zero (w ∷ []) reads at))

pub value_inputs_settle : (net : Net) (path : List ℕ) (inner : Module) (front wires back drives : List WireId) (w : ℕ) (at : UsedAt net path (front ++ (wires ++ back)) drives inner) → length wires ≡ wire_count (w ∷ [])
    → AllSettle net (at.place ∷ path) (new_wires (length front) (w ∷ [])) path wires
value_inputs_settle net path inner front wires back drives w at e =
    subst (λ ws. AllSettle net (at.place ∷ path) ws path wires) (new_part (length front) w)
    (subst (λ ws. AllSettle net (at.place ∷ path) (part_wires zero (w ∷ []) (new_wires (length front) (w ∷ []))) path ws) (value_part w wires e) (inputs_settle net path inner front wires back drives (w ∷ []) zero at))
