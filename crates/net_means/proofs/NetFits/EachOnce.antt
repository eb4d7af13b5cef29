-- Modules of which the cells drive the wires in order drive each wire once that is no input.
use Rattle.std.proofs.Common.{◌≡◌, ℕ, zero, suc, ◌+◌, ◌-◌, ◌<◌, ◌≤◌, arith, List, length, Some, sym, ap, ◌∙◌, subst, length-append}
use Rattle.std.specs.Prelude.{flat_map}
use Rattle.chw_base.specs.declared.index.WireId.{WireId}
use Rattle.chw_terms.specs.declared.scene.Made.{Made}
use Rattle.netlist.specs.Sound.{EachOnce}
use Rattle.netlist.specs.Wires.{driven}
use Rattle.netlist.specs.declared.net.Cell.{Cell}
use Rattle.netlist.specs.declared.net.Module.{Module}
use Rattle.net_rules.specs.WellFormed.{wire_driven_at}
use Rattle.net_built.specs.Circuits.{Ground}
use Rattle.net_built.specs.InOrder.{DrivesInOrder}
use Rattle.net_built.specs.Modules.{IsModuleOf}
use Rattle.net_built.specs.Wires.{wires_from}

-- the module has its inputs among its wires, and each other wire is driven once
pub record DrivesEachOnce (m : Module) : Type 0 where
  pub inputs : m.inputs ≤ length m.widths
  pub once : EachOnce m.inputs (length m.widths) (wire_driven_at (flat_map driven m.cells))

wire_there : (n c p : ℕ) → p < c → wire_driven_at (wires_from n c) p ≡ Some (n + p)
wire_there n zero p l = absurd (omega (arith, l))
wire_there n (suc c) zero l = let e : n ≡ n + 0 = omega arith in ap Some e
wire_there n (suc c) (suc p) l = let e : n + 1 + p ≡ n + suc p = omega arith in wire_there (n + 1) c p (omega (arith, l)) ∙ ap Some e

wire_found : (n c p w : ℕ) → wire_driven_at (wires_from n c) p ≡ Some w → w ≡ n + p
wire_found n zero p w h = absurd cc
wire_found n (suc c) zero w h = let e : n ≡ w = cc in omega (arith, e)
wire_found n (suc c) (suc p) w h = let e = wire_found (n + 1) c p w h in omega (arith, e)

in_order_once : (n c total : ℕ) → n + c ≡ total → EachOnce n total (wire_driven_at (wires_from n c))
in_order_once n c total e = record {
  free = λ p w h. let is = wire_found n c p w h in omega (arith, is);
  driven = λ w l m.
      let is : n + (w - n) ≡ w = omega arith in (w - n, wire_there n c (w - n) (omega (arith, l, m, e)) ∙ ap Some is);
  once = λ p q w h k. let a = wire_found n c p w h in let b = wire_found n c q w k in omega (arith, a, b);
}

pub module_drives : (ground : Ground) (it : Made) (built : Module) (m : IsModuleOf ground it built) → DrivesInOrder (length m.inputs) m.cells → DrivesEachOnce built
module_drives ground it built m order =
    let cells : flat_map driven built.cells ≡ wires_from (length m.inputs) (length m.cells.widths) = ap (λ (cells : List Cell). flat_map driven cells) m.are_cells ∙ order in
    let count : length m.inputs + length m.cells.widths ≡ length built.widths =
    sym (length-append m.inputs m.cells.widths) ∙ ap (λ (ws : List ℕ). length ws) (sym m.are_widths) in
    let once = in_order_once (length m.inputs) (length m.cells.widths) (length built.widths) count in
    let inputs = m.are_inputs in
    record {
      inputs = omega (arith, inputs, count);
      once =
          subst (λ (ws : List WireId). EachOnce built.inputs (length built.widths) (wire_driven_at ws)) (sym cells)
          (subst (λ n. EachOnce n (length built.widths) (wire_driven_at (wires_from (length m.inputs) (length m.cells.widths)))) (sym inputs) once);
    }
