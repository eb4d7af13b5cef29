-- The first labels, and the table of bits.
use Rattle.std.specs.Prelude.{◌≡◌, ℕ, ◌<◌, Bool, List, length}
use Rattle.net_sim.specs.declared.sim.Sim.{Sim}
use Rattle.wire_classes.specs.Closed.{label_of}

-- of so many wires each has its own number as its label
pub record AreOwn (count : ℕ) (labels : List ℕ) : Type 0 where
  pub number : length labels ≡ count
  pub each : (w : ℕ) → w < count → label_of labels w ≡ w

-- the bits of all wires
abbrev pub table_of : Sim → List (List Bool)
table_of sim = sim.words.items
