-- The wires that stand for others, in tables by classes and by wires.
use Rattle.std.specs.Prelude.{◌≡◌, ℕ, ◌≤◌, List, length, Some, slice_get, slice_index}
use Rattle.netlist.specs.declared.net.Flat.{Flat}
use Rattle.share_laws.specs.Shares.{IsProper, Serves}

-- of the wires of this class, from this wire on, it is the least that copies no other
pub record IsLeastFrom (flat : Flat) (of : List ℕ) (from a p : ℕ) : Type 0 where
  pub proper : IsProper flat p
  pub of_class : slice_get of p ≡ Some a
  pub above : from ≤ p
  pub least : (v : ℕ) → from ≤ v → IsProper flat v → slice_get of v ≡ Some a → p ≤ v

-- by class, the table has the least wire from this one on that copies no other, if there is one
abbrev pub LeastsFrom : Flat → List ℕ → ℕ → List ℕ → Type 0
LeastsFrom flat of from table =
    (v a : ℕ) → from ≤ v → IsProper flat v → slice_get of v ≡ Some a
    → IsLeastFrom flat of from a (slice_index table a)

-- by wire, the list has the wire that stands for it
abbrev pub EachServes : Flat → List ℕ → Type 0
EachServes flat servers = (w v : ℕ) → slice_get servers w ≡ Some v → Serves flat v w

-- so of each wire of the net
pub record AreServers (flat : Flat) (servers : List ℕ) : Type 0 where
  pub count : length servers ≡ length flat.widths
  pub serve : EachServes flat servers
