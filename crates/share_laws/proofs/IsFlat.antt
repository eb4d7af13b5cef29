-- The flat net of a net of one module without uses is this module.
use Rattle.std.proofs.Common.{◌≡◌, ℕ, zero, suc, ◌+◌, List, [], ◌∷◌, ◌++◌, length, map, Some, None, slice_get, refl, sym, ap, subst, ◌∙◌, arith}
use Rattle.std.specs.Prelude.{flat_map}
use Rattle.std.proofs.lemmas.List.{append-nil}
use Rattle.chw_base.specs.declared.index.ModId.{ModId}
use Rattle.chw_base.specs.declared.index.WireId.{WireId}
use Rattle.net_flat.specs.Flattened.{IsFlatCell, IsFlatOf, IsInstance, IsUse, NoUse, instance_widths, moved, widths_in, widths_of_use, wire_from}
use Rattle.net_flat.specs.Flattened as flattened
use Rattle.netlist.specs.NetValue.{HasCell}
use Rattle.netlist.specs.Sound.{FitsCell, Sound}
use Rattle.netlist.specs.declared.net.Cell.{Cell}
use Rattle.netlist.specs.declared.net.Cell.TheVariants.{Const, Copy, Join, Cut, Un, Bin, Mux, Reg, Ram, Use}
use Rattle.netlist.specs.declared.net.Flat.{Flat}
use Rattle.netlist.specs.declared.net.Module.{Module}
use Rattle.netlist.specs.declared.net.RamIn.{RamIn}
use Rattle.netlist.proofs.Lengths.{fits_cell}
use Rattle.share_laws.specs.Shares.{as_net}

abbrev wire_of : ℕ → WireId
wire_of n = record { number = n }

unmoved_wire : (w : WireId) → wire_from 0 w ≡ w
unmoved_wire w = let e : 0 + w.number ≡ w.number = omega arith in ap wire_of e

unmoved_wires : (ws : List WireId) → map (wire_from 0) ws ≡ ws
unmoved_wires [] = refl
unmoved_wires (w ∷ ws) = ap (λ x. x ∷ map (wire_from 0) ws) (unmoved_wire w) ∙ ap (λ xs. w ∷ xs) (unmoved_wires ws)

abbrev inputs_with : WireId → WireId → WireId → WireId → RamIn
inputs_with a b c d = record { read = a; enable = b; place = c; value = d }

unmoved_inputs : (a b c d : WireId) → inputs_with (wire_from 0 a) (wire_from 0 b) (wire_from 0 c) (wire_from 0 d) ≡ inputs_with a b c d
unmoved_inputs a b c d =
    ap (λ (x : WireId). inputs_with x (wire_from 0 b) (wire_from 0 c) (wire_from 0 d)) (unmoved_wire a)
    ∙ ap (λ (x : WireId). inputs_with a x (wire_from 0 c) (wire_from 0 d)) (unmoved_wire b)
    ∙ ap (λ (x : WireId). inputs_with a b x (wire_from 0 d)) (unmoved_wire c)
    ∙ ap (λ (x : WireId). inputs_with a b c x) (unmoved_wire d)

-- a cell from the first wire on is as it was
unmoved : (cell : Cell) → NoUse cell → moved 0 cell ≡ cell
unmoved (Const w bits) none = ap (λ x. Const x bits) (unmoved_wire w)
unmoved (Copy w a) none = ap (λ x. Copy x (wire_from 0 a)) (unmoved_wire w) ∙ ap (λ x. Copy w x) (unmoved_wire a)
unmoved (Join w parts) none = ap (λ x. Join x (map (wire_from 0) parts)) (unmoved_wire w) ∙ ap (λ x. Join w x) (unmoved_wires parts)
unmoved (Cut w a high low) none = ap (λ x. Cut x (wire_from 0 a) high low) (unmoved_wire w) ∙ ap (λ x. Cut w x high low) (unmoved_wire a)
unmoved (Un w op a) none = ap (λ x. Un x op (wire_from 0 a)) (unmoved_wire w) ∙ ap (λ x. Un w op x) (unmoved_wire a)
unmoved (Bin w op a b) none =
    ap (λ x. Bin x op (wire_from 0 a) (wire_from 0 b)) (unmoved_wire w) ∙ ap (λ x. Bin w op x (wire_from 0 b)) (unmoved_wire a)
    ∙ ap (λ x. Bin w op a x) (unmoved_wire b)
unmoved (Mux w c a b) none =
    ap (λ x. Mux x (wire_from 0 c) (wire_from 0 a) (wire_from 0 b)) (unmoved_wire w) ∙ ap (λ x. Mux w x (wire_from 0 a) (wire_from 0 b)) (unmoved_wire c)
    ∙ ap (λ x. Mux w c x (wire_from 0 b)) (unmoved_wire a) ∙ ap (λ x. Mux w c a x) (unmoved_wire b)
unmoved (Reg w domain initial a) none =
    ap (λ x. Reg x domain initial (wire_from 0 a)) (unmoved_wire w) ∙ ap (λ x. Reg w domain initial x) (unmoved_wire a)
unmoved (Ram w domain words inputs) none =
    ap (λ x. Ram x domain words (inputs_with (wire_from 0 inputs.read) (wire_from 0 inputs.enable) (wire_from 0 inputs.place) (wire_from 0 inputs.value))) (unmoved_wire w)
    ∙ ap (λ x. Ram w domain words x) (unmoved_inputs inputs.read inputs.enable inputs.place inputs.value)
unmoved (Use m reads drives) none = absurd none

no_use : (n : ℕ) (widths : List ℕ) (cell : Cell) → FitsCell n widths cell → NoUse cell
no_use n widths (Use m reads drives) f = f
no_use n widths _ f = tt

-- cells without uses have no wires of uses
no_wires : (of : ℕ → List ℕ) (cells : List Cell) → ((k : ℕ) (cell : Cell) → slice_get cells k ≡ Some cell → NoUse cell)
    → flat_map (widths_of_use of) cells ≡ []
no_wires of [] none = refl
no_wires of (cell ∷ cells) none =
    ap (λ ws. ws ++ flat_map (widths_of_use of) cells) (from cell (none zero cell refl)) ∙ no_wires of cells (λ k c e. none (suc k) c e)
  where
    from : (cell : Cell) → NoUse cell → widths_of_use of cell ≡ []
    from (Use m reads drives) n = absurd n
    from _ n = refl

module _ (flat : Flat) (sound : Sound flat) where
  none_at : (k : ℕ) (cell : Cell) → slice_get flat.cells k ≡ Some cell → NoUse cell
  none_at k cell e = no_use (length flat.ports.domains) flat.widths cell (fits_cell flat cell sound (k, e))

  abbrev one_module : Module
  one_module = record { inputs = length flat.ports.inputs; widths = flat.widths; outputs = flat.outputs; cells = flat.cells }

  module_is : (i : ℕ) (m : Module) → slice_get (as_net flat).modules i ≡ Some m → one_module ≡ m
  module_is zero m e = cc
  module_is (suc i) m e = absurd (let none : None ≡ Some m = e in cc)

  -- no cell is a use
  used_nowhere : (m : Module) (before : List Cell) (k : ModId) (reads drives : List WireId) → one_module ≡ m → IsUse m.cells before k reads drives → ⊥
  used_nowhere m before k reads drives is u =
      let cells : flat.cells ≡ before ++ Use k reads drives ∷ u.after = ap (λ (x : Module). x.cells) is ∙ u.stands in
      none_at (length before) (Use k reads drives) (ap (λ cs. slice_get cs (length before)) cells ∙ get_middle before (Use k reads drives) u.after)
    where
      get_middle : (xs : List Cell) (x : Cell) (ys : List Cell) → slice_get (xs ++ x ∷ ys) (length xs) ≡ Some x
      get_middle [] x ys = refl
      get_middle (y ∷ xs) x ys = get_middle xs x ys

  -- there is one instance
  first_instance : (base i : ℕ) → IsInstance (as_net flat) base i → base ≡ 0
  first_instance _ _ (flattened.top i e) = refl
  first_instance _ _ (flattened.used base i m before k reads drives p found u) =
      absurd (used_nowhere m before k reads drives (module_is i m found) u)

  cell_there : (cell : Cell) → HasCell flat cell → IsFlatCell (as_net flat) cell
  cell_there cell has =
      let none = none_at has.0 cell has.1 in
      subst (λ c. IsFlatCell (as_net flat) c) (unmoved cell none)
      (flattened.own 0 0 has.0 one_module cell (flattened.top 0 refl) refl has.1 none)

  cell_back : (cell : Cell) → IsFlatCell (as_net flat) cell → HasCell flat cell
  cell_back _ (flattened.own base i place m c p found at none) =
      let is = module_is i m found in
      let here : slice_get flat.cells place ≡ Some c = ap (λ (x : Module). slice_get x.cells place) is ∙ at in
      let same : moved base c ≡ c = ap (λ n. moved n c) (first_instance base i p) ∙ unmoved c none in
      (place, here ∙ ap Some (sym same))
  cell_back _ (flattened.input base i m before k reads drives p found u j r e) =
      absurd (used_nowhere m before k reads drives (module_is i m found) u)
  cell_back _ (flattened.output base i m before k reads drives p found u used there j w o d g) =
      absurd (used_nowhere m before k reads drives (module_is i m found) u)

  widths_are : flat.widths ≡ widths_in (as_net flat) 0
  unfolding instance_widths
  widths_are = sym (ap (λ ws. flat.widths ++ ws) (no_wires (instance_widths []) flat.cells none_at) ∙ append-nil flat.widths)

  pub is_flat : IsFlatOf (as_net flat) flat
  is_flat = record {
    place = 0;
    m = one_module;
    top = record { last = refl; stands = refl };
    ports = refl;
    widths = widths_are;
    outputs = refl;
    in_order = sound.in_order;
    cells = λ cell. (cell_there cell, cell_back cell);
  }
