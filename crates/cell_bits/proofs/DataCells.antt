-- What the single cells of a piece give, and which wires a piece ends on.
use Rattle.std.proofs.Common.{◌≡◌, ℕ, zero, suc, ◌-◌, ◌<◌, Bool, true, false, cond, List, [], ◌∷◌, ◌++◌, length, refl, ap, subst, arith, if◌then◌else◌, ◌==◌}
use Rattle.std.specs.Prelude.{flat_map}
use Rattle.chw_base.specs.declared.index.WireId.{WireId}
use Rattle.chw_bits.specs.Bits.{cut_of, number_of}
use Rattle.chw_bits.specs.Bitwise.{one_bit}
use Rattle.chw_clock.specs.declared.event.Event.{Event}
use Rattle.netlist.specs.Operators.{operator2}
use Rattle.netlist.specs.declared.net.Cell.{Cell}
use Rattle.netlist.specs.declared.net.Cell.TheVariants.{Const, Join, Cut, Bin, Mux}
use Rattle.netlist.specs.declared.net.Net.{Net}
use Rattle.netlist.specs.declared.net.Op2.{Op2}
use Rattle.net_built.specs.Wires.{wire, wires_from, present, new_wires, Piece, one, after, last_wires}
use Rattle.net_built.specs.Words.{only}
use Rattle.use_laws.specs.ValueIn.{HasCellAt, ValueIn, operated, ReadIn, read_none, read_and}
use Rattle.cell_bits.specs.Bearing.{HasCells, Bears, bears_nothing, bears_bits}

-- a wire is there just where its part has bits
pub one_present : (w : ℕ) → 0 < w → length (present (w ∷ [])) ≡ 1
one_present zero lt = absurd (omega arith)
one_present (suc w) lt = refl

-- the last wire of a piece, where it is the one of this number
pub last_at : (n m w : ℕ) (p : Piece) → (0 < w → after n p ≡ suc m) → last_wires n p (w ∷ []) ≡ new_wires m (w ∷ [])
last_at n m zero p e = refl
last_at n m (suc w) p e =
    let count : after n p ≡ suc m = e (omega arith) in
    let place : after n p - 1 ≡ m = omega arith in
    ap (λ k. wires_from k 1) place

-- a multiplexer takes the one or the other
pub picks : (truth : Bool) (x y : List Bool) → (if number_of (one_bit truth) == 1 then x else y) ≡ cond truth x y
picks true x y = refl
picks false x y = refl

module _ (net : Net) (path : List ℕ) (h : List Event) where
  pub has_left : (xs ys : List Cell) → HasCells net path (xs ++ ys) → HasCells net path xs
  has_left [] ys has i cell e = absurd (cc)
  has_left (x ∷ xs) ys has zero cell e = has zero cell e
  has_left (x ∷ xs) ys has (suc i) cell e = has_left xs ys (λ j c f. has (suc j) c f) i cell e

  pub has_right : (xs ys : List Cell) → HasCells net path (xs ++ ys) → HasCells net path ys
  has_right [] ys has = has
  has_right (x ∷ xs) ys has = has_right xs ys (λ j c f. has (suc j) c f)

  -- the one wire of a part that has bits
  pub value_of : {a : List WireId} {bits : List Bool} → Bears net path h a bits → 0 < length bits → ValueIn net path h (only a).number bits
  value_of bears_nothing lt = absurd (omega arith)
  value_of (bears_bits v) lt = v

  pub bears_at : (at w : ℕ) (bits : List Bool) → length bits ≡ w → (0 < w → ValueIn net path h at bits) → Bears net path h (new_wires at (w ∷ [])) bits
  bears_at at zero [] e v = bears_nothing
  bears_at at zero (b ∷ bits) e v = absurd (omega arith)
  bears_at at (suc w) [] e v = absurd (omega arith)
  bears_at at (suc w) (b ∷ bits) e v = bears_bits {w = wire at} (v (omega arith))

  pub one_bears : (at w : ℕ) (cell : Cell) (bits : List Bool) → length bits ≡ w → HasCells net path (one w cell).cells
      → (0 < w → HasCellAt net path cell → ValueIn net path h at bits) → Bears net path h (new_wires at (w ∷ [])) bits
  one_bears at zero cell bits e has v = bears_at at zero bits e (λ lt. absurd (omega arith))
  one_bears at (suc w) cell bits e has v = bears_at at (suc w) bits e (λ lt. v lt (has 0 cell refl))

  pub const_value : (at : ℕ) (bits : List Bool) → HasCellAt net path (Const (wire at) bits) → ValueIn net path h at bits
  const_value at bits has = operated path (Const (wire at) bits) at h [] has tt refl (read_none path h)

  pub cut_value : (at high low : ℕ) (a : WireId) (bits : List Bool) → HasCellAt net path (Cut (wire at) a high low)
      → ValueIn net path h a.number bits → ValueIn net path h at (cut_of high low bits)
  cut_value at high low a bits has v =
      operated path (Cut (wire at) a high low) at h (bits ∷ []) has tt refl (read_and path h a [] bits [] v (read_none path h))

  pub join_value : (at : ℕ) (parts : List WireId) (values : List (List Bool)) → HasCellAt net path (Join (wire at) parts)
      → ReadIn net path h parts values → ValueIn net path h at (flat_map (λ bits. bits) values)
  join_value at parts values has read = operated path (Join (wire at) parts) at h values has tt refl read

  pub bin_value : (at : ℕ) (op : Op2) (a b : WireId) (x y : List Bool) → HasCellAt net path (Bin (wire at) op a b)
      → ValueIn net path h a.number x → ValueIn net path h b.number y → ValueIn net path h at (operator2 op x y)
  bin_value at op a b x y has v w =
      operated path (Bin (wire at) op a b) at h (x ∷ y ∷ []) has tt refl (read_and path h a (b ∷ []) x (y ∷ []) v (read_and path h b [] y [] w (read_none path h)))

  pub mux_value : (at : ℕ) (c a b : WireId) (truth : Bool) (x y : List Bool) → HasCellAt net path (Mux (wire at) c a b)
      → ValueIn net path h c.number (one_bit truth) → ValueIn net path h a.number x → ValueIn net path h b.number y
      → ValueIn net path h at (cond truth x y)
  mux_value at c a b truth x y has t v w =
      let read : ReadIn net path h (c ∷ a ∷ b ∷ []) (one_bit truth ∷ x ∷ y ∷ []) =
      read_and path h c (a ∷ b ∷ []) (one_bit truth) (x ∷ y ∷ []) t (read_and path h a (b ∷ []) x (y ∷ []) v (read_and path h b [] y [] w (read_none path h))) in
      subst (λ bits. ValueIn net path h at bits) (picks truth x y)
      (operated path (Mux (wire at) c a b) at h (one_bit truth ∷ x ∷ y ∷ []) has tt refl read)
