-- The net of single bits of a flat net: how many nodes it may have, what its text denotes, and that
-- its names have one bit each.
use Rattle.std.specs.Prelude.{◌≡◌, ℕ, ◌<◌, ◌≤◌, Bool, List, length}
use Rattle.bit_blast.specs.declared.limit.TheConstants.{BIT_NODES}
use Rattle.bit_laws.specs.Bitnet.{BitValue, Bitnet}
use Rattle.bit_laws.specs.Blast.{blast}
use Rattle.blif_text.specs.BlifText.{BlifText}
use Rattle.chw_clock.specs.Histories.{FitsPorts}
use Rattle.chw_clock.specs.declared.event.Event.{Event}
use Rattle.netlist.specs.declared.net.Flat.{Flat}

-- the net of single bits has as many nodes as may be at most
abbrev pub HasFewBits : Flat → Type 0
HasFewBits flat = length (blast flat).nodes ≤ BIT_NODES

-- it has more
abbrev pub HasManyBits : Flat → Type 0
HasManyBits flat = BIT_NODES < length (blast flat).nodes

-- the text denotes the net of single bits, and no other
pub record DenotesBits (text : List ℕ) (b : Bitnet) : Type 0 where
  pub denotes : BlifText text b
  pub only : (other : Bitnet) → BlifText text other → other ≡ b

-- at no history of the ports a name has two bits in the net of single bits
abbrev pub HasOneBitEach : Flat → Type 0
HasOneBitEach flat =
    (h : List Event) (name : List ℕ) (a b : Bool) → FitsPorts flat.ports h
    → BitValue flat.ports (blast flat) h name a → BitValue flat.ports (blast flat) h name b
    → a ≡ b
