-- A part of a list that has these bits.
use Rattle.std.specs.Prelude.{◌≡◌, ◌+◌, ◌≤◌, Bool, List, drop, length, take}
use Rattle.net_sim.specs.declared.room.Part.{Part}

-- the part is within the list, and has these bits
pub record HasBits (part : Part) (list bits : List Bool) : Type 0 where
  pub within : part.from + part.count ≤ length list
  pub same : take part.count (drop part.from list) ≡ bits
