-- The flat net of its parts.
use Rattle.std.proofs.Common.{◌≡◌, ◌↔◌, ℕ, ◌+◌, ◌≤◌, List, length, Some, slice_get, sym, ap, subst, ◌∙◌, arith}
use Rattle.chw_base.specs.declared.limits.TheConstants.{FLAT_WIRES}
use Rattle.net_rules.specs.WellFormed.{WellFormed}
use Rattle.netlist.specs.Sound.{DrivesFrom, Sound}
use Rattle.netlist.specs.declared.net.Cell.{Cell}
use Rattle.netlist.specs.declared.net.Flat.{Flat}
use Rattle.netlist.specs.declared.net.Module.{Module}
use Rattle.netlist.specs.declared.net.Net.{Net}
use Rattle.net_flat.specs.Entering.{FitsWhole, IsWhole}
use Rattle.net_flat.specs.Flattened.{IsFlatCell, IsFlatOf, IsTop}
use Rattle.net_flat.specs.declared.parts.Parts.{Parts}
use Rattle.net_flat.proofs.OneFlat.{IsIn}
use Rattle.net_flat.proofs.Sounds.{sound_of}

-- a flat net of these parts, with the outputs of this module, which is the last
pub record HasParts (net : Net) (parts : Parts) (m : Module) (f : Flat) : Type 0 where
  pub ports : f.ports ≡ net.ports
  pub widths : f.widths ≡ parts.widths.items
  pub outputs : f.outputs ≡ m.outputs
  pub cells : f.cells ≡ parts.cells.items
  pub place : ℕ
  pub top : IsTop net place m

flat_counted : (net : Net) (parts : Parts) (m : Module) (f : Flat) → IsWhole net parts → HasParts net parts m f
    → (i : IsFlatOf net f) × (i.m.inputs + length f.cells ≡ length f.widths)
flat_counted net parts m f w h =
    let places : w.place ≡ h.place = omega (arith, w.top.last, h.top.last) in
    let there : slice_get net.modules w.place ≡ Some m = subst (λ (i : ℕ). slice_get net.modules i ≡ Some m) (sym places) h.top.stands in
    let both : Some w.m ≡ Some m = sym w.top.stands ∙ there in
    let same : w.m ≡ m = cc in (
      record {
        place = w.place;
        m = w.m;
        top = w.top;
        ports = h.ports;
        widths = h.widths ∙ w.widths;
        outputs = h.outputs ∙ sym (ap (λ (n : Module). n.outputs) same);
        in_order = subst (λ (cs : List Cell). DrivesFrom w.m.inputs cs) (sym h.cells) w.in_order;
        cells = subst (λ (cs : List Cell). (c : Cell) → IsIn cs c ↔ IsFlatCell net c) (sym h.cells) w.cells;
      },
      omega (arith, w.all, ap length h.widths, ap length h.cells),
    )

pub flat_of_parts : (net : Net) (parts : Parts) (m : Module) (f : Flat) → IsWhole net parts → HasParts net parts m f → IsFlatOf net f
flat_of_parts net parts m f w h = (flat_counted net parts m f w h).0

pub sound_of_parts : (net : Net) (parts : Parts) (m : Module) (f : Flat) → WellFormed net → FitsWhole net → IsWhole net parts → HasParts net parts m f → Sound f
sound_of_parts net parts m f wf fits w h =
    let few : length f.widths ≤ FLAT_WIRES = omega (arith, fits w.place w.top.last, ap length w.widths, ap length h.widths) in
    sound_of net f wf (flat_counted net parts m f w h).0 few (flat_counted net parts m f w h).1
