-- The shared net, put together of its parts.
use Rattle.std.proofs.Common.{◌≡◌, ℕ, List, [], ◌∷◌, ◌++◌, ◌+◌, ◌<◌, ◌≤◌, length, map, take, slice_get, sym, ap, subst, ◌∙◌, arith}
use Rattle.std.specs.Prelude.{slice_index}
use Rattle.chw_base.specs.declared.index.WireId.{WireId}
use Rattle.chw_clock.specs.declared.event.Ports.{Ports}
use Rattle.net_flat.specs.Flattened.{IsFlatOf}
use Rattle.net_rules.specs.PortsHold.{PortsHold}
use Rattle.net_rules.specs.WellFormed.{WellFormed}
use Rattle.netlist.specs.Orders.{HasNoLoop}
use Rattle.netlist.specs.Sound.{Sound}
use Rattle.netlist.specs.declared.net.Cell.{Cell}
use Rattle.netlist.specs.declared.net.Flat.{Flat}
use Rattle.netlist.specs.declared.net.Module.{Module}
use Rattle.netlist.specs.declared.net.Net.{Net}
use Rattle.share_laws.specs.Shares.{AllBecome, IsAmong, IsLive, Shares, as_net}
use Rattle.share_laws.specs.Shares.IsLive.{for_cell, for_output}
use Rattle.wire_classes.specs.Classes.{AreClasses}
use Rattle.wire_classes.specs.declared.classes.Classes.{Classes}
use Rattle.net_share.specs.Making.{AreMade, IsPlan}
use Rattle.net_share.specs.Sharing.{IsModuleBy, IsShared, IsSharedNet}
use Rattle.net_share.proofs.Made.{made_shared}
use Rattle.net_share.proofs.Proper.{proper_within}
use Rattle.net_share.proofs.Rising.{rises_fit}

-- a needed wire exists
live_exists : (flat : Flat) → Sound flat → (w : ℕ) → IsLive flat w → w < length flat.widths
live_exists flat sound _ (for_output k o v e serves) = proper_within flat sound v serves.stands.proper
live_exists flat sound _ (for_cell w cell k r v l unknown has t e serves) = proper_within flat sound v serves.stands.proper

-- the kept wires of a plan, in a list that was read
module _ (flat : Flat) (kept names list : List ℕ) where
  among_kept : list ≡ kept → (w : ℕ) → IsAmong list w → IsAmong kept w
  among_kept e w i = (i.0, ap (λ (ws : List ℕ). slice_get ws i.0) (sym e) ∙ i.1)

  pub kept_wires_exist : (widths : List ℕ) → Sound flat → IsPlan flat kept names → list ≡ kept → widths ≡ flat.widths
      → (w : ℕ) → IsAmong list w → w < length widths
  kept_wires_exist widths sound plan e f w i =
      let within = live_exists flat sound w ((plan.live w).0 (among_kept e w i)).0 in omega (arith, within, ap length f)

  pub kept_after : IsPlan flat kept names → list ≡ kept → (w : ℕ) → IsAmong list w → length flat.ports.inputs ≤ w
  kept_after plan e w i = ((plan.live w).0 (among_kept e w i)).1

  pub kept_fits : Sound flat → IsPlan flat kept names → list ≡ kept → length flat.ports.inputs + length list ≤ length flat.widths
  kept_fits sound plan e =
      let fit = rises_fit (length flat.ports.inputs) (length flat.widths) kept plan.rises (omega (arith, sound.all))
      (λ w i. live_exists flat sound w ((plan.live w).0 i).0) in
      omega (arith, fit, ap length e)

-- the widths and the cells that are made of lists that were read
pub widths_by : (flat : Flat) (kept : List ℕ) (inputs : ℕ) (widths list made : List ℕ) → inputs ≡ length flat.ports.inputs → widths ≡ flat.widths
    → list ≡ kept → made ≡ take inputs widths ++ map (λ w. slice_index widths w) list
    → made ≡ take (length flat.ports.inputs) flat.widths ++ map (λ w. slice_index flat.widths w) kept
widths_by flat kept inputs widths list made e f g is =
    is ∙ ap (λ (n : ℕ). take n widths ++ map (λ w. slice_index widths w) list) e
    ∙ ap (λ (ws : List ℕ). take (length flat.ports.inputs) ws ++ map (λ w. slice_index ws w) list) f
    ∙ ap (λ (ws : List ℕ). take (length flat.ports.inputs) flat.widths ++ map (λ w. slice_index flat.widths w) ws) g

pub made_by : (flat : Flat) (c : Classes) (kept names list told : List ℕ) (inputs : ℕ) (cells seq : List Cell) → list ≡ kept → told ≡ names
    → inputs ≡ length flat.ports.inputs → seq ≡ cells → AreMade flat c told inputs list cells → AreMade flat c names (length flat.ports.inputs) kept seq
made_by flat c kept names list told inputs cells seq e f g h made =
    subst (λ (cs : List Cell). AreMade flat c names (length flat.ports.inputs) kept cs) (sym h)
    (subst (λ (n : ℕ). AreMade flat c names n kept cells) g
    (subst (λ (ns : List ℕ). AreMade flat c ns inputs kept cells) f (subst (λ (ws : List ℕ). AreMade flat c told inputs ws cells) e made)))

abbrev net_of : Ports → List Module → Net
net_of ports modules = record { ports = ports; modules = modules }

abbrev module_of : ℕ → Module → Module
module_of n m = record { inputs = n; widths = m.widths; outputs = m.outputs; cells = m.cells }

-- a net of one module
as_one : (net : Net) (m : Module) → net.modules ≡ m ∷ [] → m.inputs ≡ length net.ports.inputs
    → net ≡ as_net (record { ports = net.ports; widths = m.widths; outputs = m.outputs; cells = m.cells })
as_one net m same inputs =
    ap (net_of net.ports) (same ∙ ap (λ (n : ℕ). module_of n m ∷ []) inputs)

-- a flat net of these parts
abbrev pub flat_of : Ports → List ℕ → List WireId → List Cell → Flat
flat_of ports widths outputs cells = record { ports = ports; widths = widths; outputs = outputs; cells = cells }

pub is_shared : (flat : Flat) (c : Classes) (kept names : List ℕ) (net : Net) (m : Module) → Sound flat → AreClasses flat c → IsPlan flat kept names
    → net.ports ≡ flat.ports → IsModuleBy flat c kept names m → net.modules ≡ m ∷ [] → IsShared flat net
is_shared flat c kept names net m sound are plan same_ports by same = record {
  shared = flat_of net.ports m.widths m.outputs m.cells;
  shares = record {
    ports = same_ports;
    kept = kept;
    rises = plan.rises;
    live = plan.live;
    widths = by.widths;
    outputs = subst (λ ws. AllBecome flat kept flat.outputs ws) (sym by.outputs) plan.outputs;
    cells = made_shared flat sound c are kept names plan (length flat.ports.inputs) kept m.cells (λ w i. ((plan.live w).0 i).0) by.cells;
  };
  same = as_one net m same (by.inputs ∙ ap (λ (p : Ports). length p.inputs) (sym same_ports));
}

-- what the laws say of a shared net
pub whole : (flat : Flat) (net : Net) → Sound flat → HasNoLoop flat → PortsHold flat.ports
    → ((flat shared : Flat) → Sound flat → Shares flat shared → Sound shared)
    → ((flat : Flat) → Sound flat → PortsHold flat.ports → WellFormed (as_net flat))
    → ((flat : Flat) → Sound flat → IsFlatOf (as_net flat) flat)
    → ((flat shared : Flat) → Sound flat → HasNoLoop flat → PortsHold flat.ports → Shares flat shared → HasNoLoop shared)
    → IsShared flat net → IsSharedNet flat net
whole flat net sound no_loop hold keeps well flattens excludes s =
    let after = keeps flat s.shared sound s.shares in
    let ports : PortsHold s.shared.ports = subst PortsHold (sym s.shares.ports) hold in
    record {
      shared = s.shared;
      shares = s.shares;
      same = s.same;
      well_formed = subst WellFormed (sym s.same) (well s.shared after ports);
      flattens = subst (λ (n : Net). IsFlatOf n s.shared) (sym s.same) (flattens s.shared after);
      sound = after;
      no_loop = excludes flat s.shared sound no_loop hold s.shares;
    }
