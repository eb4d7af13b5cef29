-- Cells that drive the wires in order, from the first that is no input: which wire each drives, and which cell drives a wire.
use Rattle.std.proofs.Common.{◌≡◌, ℕ, ◌+◌, ◌-◌, ◌<◌, ◌≤◌, List, [], ◌∷◌, length, sym, ◌∙◌, ap, inl, inr, arith, Some, zero, suc}
use Rattle.std.specs.Prelude.{◌^◌, if◌then◌else◌}
use Rattle.std.proofs.lemmas.Bool.{cases_lt, le-ltb, lt-ltb}
use Rattle.std.proofs.lemmas.Option.{same_Some}
use Rattle.netlist.specs.Feeds.{target_at}
use Rattle.netlist.specs.Sound.{DrivesFrom, EachOnce, Sound}
use Rattle.netlist.specs.Waits.{driving_place}
use Rattle.netlist.specs.declared.net.Cell.{Cell}
use Rattle.netlist.specs.declared.net.Flat.{Flat}
use Rattle.netlist.proofs.Lists.{target_within}

-- the wire that the cell at a place drives
pub target_in_order : (w : ℕ) (cells : List Cell) → DrivesFrom w cells → (p : ℕ) → p < length cells → target_at cells p ≡ Some (w + p)
target_in_order w [] d p l = absurd (omega (arith, l))
target_in_order w (cell ∷ cells) d zero l = let e : w ≡ w + zero = omega arith in d.0 ∙ ap Some e
target_in_order w (cell ∷ cells) d (suc p) l =
    let e : (w + 1) + p ≡ w + suc p = omega arith in target_in_order (w + 1) cells d.1 p (omega (arith, l)) ∙ ap Some e

place_of_input : (inputs w : ℕ) → w < inputs → driving_place inputs w ≡ 2 ^ 32 - 1
place_of_input inputs w l = ap (λ b. if b then 2 ^ 32 - 1 else w - inputs) (lt-ltb w inputs l)

place_past_inputs : (inputs w : ℕ) → inputs ≤ w → driving_place inputs w ≡ w - inputs
place_past_inputs inputs w l = ap (λ b. if b then 2 ^ 32 - 1 else w - inputs) (le-ltb w inputs l)

-- a wire whose driving place may be a cell's stands after the inputs, as far as the place says
pub wire_of_place : (inputs w p : ℕ) → driving_place inputs w ≡ p → p < 2 ^ 32 - 1 → w ≡ inputs + p
wire_of_place inputs w p e l = elim (cases_lt w inputs) [
  | inl h ↦ let past = place_of_input inputs w h in absurd (omega (arith, past, e))
  | inr h ↦ let past = place_past_inputs inputs w h in omega (arith, past, e)
]

module _ (inputs : ℕ) (cells : List Cell) (d : DrivesFrom inputs cells) where
  pub driven_wire : (p w : ℕ) → target_at cells p ≡ Some w → w ≡ inputs + p
  driven_wire p w e = same_Some _ _ (sym e ∙ target_in_order inputs cells d p (target_within cells p w e))

  pub driven_once : (wires : ℕ) → inputs + length cells ≡ wires → EachOnce inputs wires (target_at cells)
  driven_once wires n = record {
    free = λ p w e. let h = driven_wire p w e in omega (arith, h);
    driven = λ w l m.
        let e : inputs + (w - inputs) ≡ w = omega arith in
        (w - inputs, target_in_order inputs cells d (w - inputs) (omega arith) ∙ ap Some e);
    once = λ p q w e f. let h = driven_wire p w e in let k = driven_wire q w f in omega (arith, h, k);
  }

  -- the place where a wire is driven is that of the cell that drives it
  pub place_found : (w p : ℕ) → target_at cells p ≡ Some w → driving_place inputs w ≡ p
  place_found w p e =
      let is = driven_wire p w e in
      let past = place_past_inputs inputs w (omega (arith, is)) in
      omega (arith, is, past)

module _ (flat : Flat) (sound : Sound flat) where
  -- in a sound net each wire that is no input is driven by exactly one cell
  pub each_driven_once : EachOnce (length flat.ports.inputs) (length flat.widths) (target_at flat.cells)
  each_driven_once = driven_once (length flat.ports.inputs) flat.cells sound.in_order (length flat.widths) sound.all

  -- the cell at each place drives a wire, and a wire that is driven exists
  pub target_here : (p : ℕ) → p < length flat.cells → (w : ℕ) × (target_at flat.cells p ≡ Some w)
  target_here p l = (length flat.ports.inputs + p, target_in_order (length flat.ports.inputs) flat.cells sound.in_order p l)

  pub target_is_wire : (p w : ℕ) → target_at flat.cells p ≡ Some w → w < length flat.widths
  target_is_wire p w t =
      let is = driven_wire (length flat.ports.inputs) flat.cells sound.in_order p w t in
      omega (arith, is, target_within flat.cells p w t, sound.all)
