-- The outputs of a port's leaves: each output is that of a leaf with bits.
use Rattle.std.specs.Prelude.{slice_get}
use Rattle.std.proofs.Common.{◌≡◌, ◌<◌, ℕ, zero, suc, List, [], ◌∷◌, length, map, Some, refl, arith}
use Rattle.chw_base.specs.declared.index.WireId.{WireId}
use Rattle.chw_types.specs.declared.declarations.Data.{Data}
use Rattle.type_ports.specs.declared.ports.Leaf.{Leaf}
use Rattle.chw_meaning.specs.Means.{IsPortAt, port_here, port_later, port_past}
use Rattle.net_built.specs.Data.{HaveWidths}
use Rattle.net_built.specs.Wires.{wire_count}
use Rattle.net_means.specs.CircuitBits.Leaves.{part_wires}

-- the output of this number is that of a leaf, and its wire is the leaf's part
pub record OutputAt (datas : List Data) (leaves : List Leaf) (widths : List ℕ) (wires : List WireId) (k : ℕ) : Type 0 where
  pub number : ℕ
  pub leaf : Leaf
  pub is_leaf : slice_get leaves number ≡ Some leaf
  pub within : number < length widths
  pub is_port : IsPortAt datas leaves number k
  pub wire : WireId
  pub is_wire : slice_get wires k ≡ Some wire
  pub part : part_wires number widths wires ≡ wire ∷ []

pub output_at : (datas : List Data) (leaves : List Leaf) (widths : List ℕ) (wires : List WireId) (k : ℕ) → HaveWidths datas (map (λ (l : Leaf). l.payload) leaves) widths → length wires ≡ wire_count widths → k < length wires → OutputAt datas leaves widths wires k
output_at datas [] [] wires k have many below = absurd (omega (arith, many, below))
output_at datas [] (w ∷ widths) wires k have many below = absurd have
output_at datas (l ∷ leaves) [] wires k have many below = absurd have
output_at datas (l ∷ leaves) (zero ∷ widths) wires k have many below =
    let at = output_at datas leaves widths wires k have.1 many below in
    record {
      number = suc at.number;
      leaf = at.leaf;
      is_leaf = at.is_leaf;
      within = let w = at.within in omega (arith, w);
      is_port = port_past have.0 at.is_port;
      wire = at.wire;
      is_wire = at.is_wire;
      part = at.part;
    }
output_at datas (l ∷ leaves) (suc w ∷ widths) [] k have many below = absurd (omega (arith, below))
output_at datas (l ∷ leaves) (suc w ∷ widths) (a ∷ wires) zero have many below =
    record { number = zero; leaf = l; is_leaf = refl; within = omega arith; is_port = port_here have.0; wire = a; is_wire = refl; part = refl }
output_at datas (l ∷ leaves) (suc w ∷ widths) (a ∷ wires) (suc k) have many below =
    let at = output_at datas leaves widths wires k have.1 (omega (arith, many)) (omega (arith, below)) in
    record {
      number = suc at.number;
      leaf = at.leaf;
      is_leaf = at.is_leaf;
      within = let w = at.within in omega (arith, w);
      is_port = port_later have.0 at.is_port;
      wire = at.wire;
      is_wire = at.is_wire;
      part = at.part;
    }
