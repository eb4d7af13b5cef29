-- The bits of a port's leaves, on wires in order.
use Rattle.std.specs.Prelude.{slice_get}
use Rattle.std.proofs.Common.{◌≡◌, ◌<◌, ℕ, zero, suc, ◌+◌, Bool, List, [], ◌∷◌, length, map, Some, refl, subst, arith}
use Rattle.chw_base.specs.declared.index.WireId.{WireId}
use Rattle.type_ports.specs.declared.ports.Leaf.{Leaf}
use Rattle.type_ports.specs.Ports.{Leaves}
use Rattle.chw_types.specs.TypeTree.{TypeTree}
use Rattle.chw_terms.specs.declared.program.Program.{Program}
use Rattle.chw_terms.specs.declared.scene.Sort.TheVariants.{Circuit}
use Rattle.chw_meaning.specs.Gives.{Input, LeafOf}
use Rattle.chw_meaning.specs.Values.{History, Thunk}
use Rattle.carrying.specs.Carrying.{Shows, shows_nothing}
use Rattle.netlist.specs.declared.net.Net.{Net}
use Rattle.use_laws.specs.ValueIn.{ValueIn}
use Rattle.net_built.specs.Data.{HaveWidths, HasParts, port_parts}
use Rattle.net_built.specs.Wires.{wire, wires_from, wire_count}
use Rattle.cell_bits.specs.Bearing.{Bears, bears_nothing, bears_bits}
use Rattle.net_grounds.specs.Facts.{Facts}
use Rattle.net_means.specs.CircuitBits.Leaves.{part_wires, LeafHas}
use Rattle.net_means.proofs.CircuitBits.FieldLeaves.{as_many_leaves}
use Rattle.net_means.proofs.Given.{LeavesShow, no_leaves_show, empty_leaf_shows, wide_leaf_shows, PortShown}

-- what stands below the length of a list is there
pub at_index : {A : Type 0} (xs : List A) (k : ℕ) → k < length xs → (x : A) × (slice_get xs k ≡ Some x)
at_index [] k l = absurd (omega (arith, l))
at_index (x ∷ xs) zero l = (x, refl)
at_index (x ∷ xs) (suc k) l = at_index xs k (omega (arith, l))

-- the leaf shows bits, and these wires have them
pub record LeafShown (p : Program) (net : Net) (h : History) (leaf : LeafOf) (wires : List WireId) : Type 0 where
  pub bits : List Bool
  pub shows : Shows p leaf.payload leaf.thunk h bits
  pub bears : Bears net [] h wires bits

wire_bears : {net : Net} {h : History} (n w : ℕ) (bits : List Bool) → ValueIn net [] h n bits → length bits ≡ suc w → Bears net [] h (wire n ∷ []) bits
wire_bears n w [] v e = absurd (omega (arith, e))
wire_bears n w (bit ∷ bits) v e = bears_bits v

module _ (facts : Facts) {p : Program} {net : Net} {h : History} where
  -- so many wires have been passed
  pub last_counted : {n k : ℕ} {ms : List LeafOf} {ws : List ℕ} → LeavesShow p net h n ms ws k → k ≡ n + wire_count ws
  last_counted no_leaves_show = omega arith
  last_counted (empty_leaf_shows has more) = last_counted more
  last_counted (wide_leaf_shows has s v e more) = let rest = last_counted more in omega (arith, rest)

  pub show_widths : {n k : ℕ} {ms : List LeafOf} {ws : List ℕ} → LeavesShow p net h n ms ws k → HaveWidths p.datas (map (λ (m : LeafOf). m.payload) ms) ws
  show_widths no_leaves_show = tt
  show_widths (empty_leaf_shows has more) = (has, show_widths more)
  show_widths (wide_leaf_shows has s v e more) = (has, show_widths more)

  pub leaf_shown : {n last : ℕ} {ms : List LeafOf} {ws : List ℕ} → LeavesShow p net h n ms ws last → (k : ℕ) (leaf : LeafOf) → slice_get ms k ≡ Some leaf → LeafShown p net h leaf (part_wires k ws (wires_from n (wire_count ws)))
  leaf_shown no_leaves_show k leaf e = absurd cc
  leaf_shown (empty_leaf_shows {m = m} has more) zero leaf e =
      let is : m ≡ leaf = cc in
      record { bits = []; shows = subst (λ (m : LeafOf). Shows p m.payload m.thunk h []) is (shows_nothing has); bears = bears_nothing }
  leaf_shown (empty_leaf_shows has more) (suc k) leaf e = leaf_shown more k leaf e
  leaf_shown (wide_leaf_shows {n = n} {w = w} {m = m} {bits = bits} has s v long more) zero leaf e =
      let is : m ≡ leaf = cc in
      record { bits = bits; shows = subst (λ (m : LeafOf). Shows p m.payload m.thunk h bits) is s; bears = wire_bears n w bits v long }
  leaf_shown (wide_leaf_shows has s v long more) (suc k) leaf e = leaf_shown more k leaf e

  pub parts_shown : {n : ℕ} {t : TypeTree} {th : Thunk} {ls rest : List Leaf} {more : List Input} → Leaves p.datas t ls → (s : PortShown facts p net h n t th rest more) → HasParts p.datas Circuit t s.widths
  parts_shown l s = port_parts l (subst (λ ts. HaveWidths p.datas ts s.widths) (facts.ports.leaves_agree l s.are) (show_widths s.show))

  -- so a port that is given has its bits at each leaf, on wires from some number on
  pub port_leaf : {n : ℕ} {t : TypeTree} {th : Thunk} {ls rest : List Leaf} {more : List Input} → Leaves p.datas t ls → (s : PortShown facts p net h n t th rest more) → (k : ℕ) → k < length s.widths → LeafHas p net [] h t th (wires_from n (wire_count s.widths)) k
  port_leaf l s k below =
      let parts = parts_shown l s in
      let many : length s.leaves ≡ length s.widths = as_many_leaves facts parts s.are in
      let at = at_index s.leaves k (omega (arith, below, many)) in
      let has = leaf_shown s.show k at.0 at.1 in
      record {
        widths = s.widths;
        parts = parts;
        leaf = at.0;
        is = record { leaves = s.leaves; are = s.are; at = at.1 };
        bits = has.bits;
        shows = has.shows;
        bears = has.bears;
      }
