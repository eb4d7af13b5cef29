-- Nets of single bits: tables and latches by names, and the bit that a name has at a history.
use Rattle.std.specs.Prelude.{◌≡◌, ℕ, ◌<◌, ◌==◌, Bool, true, if◌then◌else◌}
use Rattle.std.specs.Prelude.{List, [], ◌∷◌, length, Option, Some, None, slice_get}
use Rattle.chw_base.specs.declared.index.DomId.{DomId}
use Rattle.chw_clock.specs.Histories.{before, has_reset, resets}
use Rattle.chw_clock.specs.declared.event.Event.{Event}
use Rattle.chw_clock.specs.declared.event.Ports.{Ports}
use Rattle.verilog_text.specs.Names.{clock_name, domain_name, reset_name}
use Rattle.bit_laws.specs.BitNames.{bit_name}
use Rattle.bit_laws.specs.Gates.{matches}

-- what gives a name its bit: a table of the bits that it reads, or a latch that takes a bit at the
-- edges of a clock
pub data Node : Type 0 where
  table : (reads : List (List ℕ)) (drives : List ℕ) (rows : List (List ℕ)) → Node
  latch : (takes drives clock : List ℕ) (initial : Bool) → Node

-- its inputs and outputs by their names, and its nodes
pub record Bitnet : Type 0 where
  pub inputs : List (List ℕ)
  pub outputs : List (List ℕ)
  pub nodes : List Node

abbrev pub HasNode : Bitnet → Node → Type 0
HasNode b node = (place : ℕ) × (slice_get b.nodes place ≡ Some node)

-- the bit at this place of a word, the least significant place 0
abbrev pub bit_at : List Bool → ℕ → Option Bool
bit_at [] j = None
bit_at (bit ∷ bits) j = if j == length bits then Some bit else bit_at bits j

-- a domain's clock and its reset, by its number
abbrev pub clock_of : Ports → DomId → List ℕ
clock_of ports domain = clock_name (domain_name ports.domains domain)

abbrev pub reset_of : Ports → DomId → List ℕ
reset_of ports domain = reset_name (domain_name ports.domains domain)

-- a latch with the clock of this domain
abbrev pub HasLatch : Ports → Bitnet → DomId → (takes drives : List ℕ) → (initial : Bool) → Type 0
HasLatch ports b domain takes drives initial =
    (domain.number < length ports.domains)
    × HasNode b (latch takes drives (clock_of ports domain) initial)

mutual
  -- the name has this bit at the history of the ports
  pub data BitValue (ports : Ports) (b : Bitnet) : List Event → List ℕ → Bool → Type 0 where
    -- a bit of an input
    of_input : (k j : ℕ) (present : Event) (past : List Event) (bits : List Bool) (bit : Bool)
        → k < length ports.inputs → slice_get present.inputs k ≡ Some bits
        → bit_at bits j ≡ Some bit
        → BitValue ports b (present ∷ past) (bit_name ports k j) bit
    -- the reset of a domain that has one
    of_reset : (domain : DomId) (present : Event) (past : List Event)
        → has_reset ports domain ≡ true
        → BitValue ports b (present ∷ past) (reset_of ports domain) (resets present domain)
    -- what a table gives
    of_table : (reads : List (List ℕ)) (drives : List ℕ) (rows : List (List ℕ)) (h : List Event)
        (bits : List Bool) → HasNode b (table reads drives rows) → BitValues ports b h reads bits
        → BitValue ports b h drives (matches rows bits)
    -- the initial bit of a latch whose clock's domain hasn't ticked before the present event
    initially : (takes drives : List ℕ) (domain : DomId) (initial : Bool) (h : List Event)
        → HasLatch ports b domain takes drives initial → before h domain ≡ None
        → BitValue ports b h drives initial
    -- else the bit that it took at the last tick
    latched : (takes drives : List ℕ) (domain : DomId) (initial bit : Bool) (h past : List Event)
        → HasLatch ports b domain takes drives initial → before h domain ≡ Some past
        → BitValue ports b past takes bit
        → BitValue ports b h drives bit

  -- the names have these bits, one by one
  pub data BitValues (ports : Ports) (b : Bitnet) : List Event → List (List ℕ) → List Bool → Type 0
    where
      no_bits : (h : List Event) → BitValues ports b h [] []
      bits_and : (h : List Event) (name : List ℕ) (names : List (List ℕ)) (bit : Bool)
          (bits : List Bool) → BitValue ports b h name bit → BitValues ports b h names bits
          → BitValues ports b h (name ∷ names) (bit ∷ bits)

-- the same by recursion
abbrev pub HaveBits : Ports → Bitnet → List Event → List (List ℕ) → List Bool → Type 0
HaveBits ports b h [] [] = Unit {0}
HaveBits ports b h (name ∷ names) (bit ∷ bits) =
    BitValue ports b h name bit × HaveBits ports b h names bits
HaveBits ports b h _ _ = ⊥
